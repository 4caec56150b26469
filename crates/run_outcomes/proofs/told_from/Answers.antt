use mathlib.Core.Path.{sym, ◌∙◌, ap}
use native.Mathlib.Omega.{arith}
use lib.ListN.{set}
use Rattle.run_outcomes.proofs.Telling.{told_starts, told_here, told_past, told_none}
use Rattle.run_outcomes.proofs.told_from.Goals as goal

pub loop-i-init : goal.loop-i-init
loop-i-init c = told_starts c.args.position c.args.node c.args.o c.args.from c.args.count c.args.pending

pub returns-then-is_instance : goal.returns-then-is_instance
returns-then-is_instance c =
    let l = c.loop-i in
    ap (λ x. set l.pending l.i x) c.tell.ensures ∙ sym (l.invariant ∙ told_here c.args.position c.args.node c.args.o _ l.i l.pending (omega arith) (sym c.is_instance.ensures ∙ c.if-is_instance.true))

pub loop-i-preserved : goal.loop-i-preserved
loop-i-preserved c =
    let l = c.loop-i in
    l.invariant ∙ told_past c.args.position c.args.node c.args.o _ l.i l.pending (omega arith) (sym c.is_instance.ensures ∙ c.if-is_instance.false)

pub returns : goal.returns
returns c =
    let l = c.loop-i in
    sym (l.invariant ∙ told_none c.args.position c.args.node c.args.o _ l.i l.pending (omega arith))
