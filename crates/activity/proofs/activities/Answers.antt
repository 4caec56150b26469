use mathlib.Core.Path.{sym, subst, ◌∙◌}
use native.Mathlib.Omega.{arith}
use Rattle.activity.specs.Inner.Fits.{Fits}
use Rattle.activity.proofs.Laws.Copied.{fits_copied}
use Rattle.activity.proofs.Verdicts.{verdict_start, verdict_end, verdict_next, verdict_bad, fault_copied}
use borrow.Author.Rules.{rules}
use Rattle.activity.proofs.activities.Goals as goal

pub loop-a-init : goal.loop-a-init
loop-a-init c = verdict_start c.args.plan

pub fault-requires : goal.fault-requires
fault-requires c = (subst Fits (sym c.copied.ensures) (fits_copied c.args.plan c.requires c.loop-a.a (omega arith)), search rules)

pub loop-a-preserved : goal.loop-a-preserved
loop-a-preserved c =
    let l = c.loop-a in
    let p = c.args.plan in
    l.invariant ∙ verdict_next p l.a p.activities (omega arith) (fault_copied p l.a _ _ c.copied.ensures c.fault.ensures ∙ c.in_default.is)

pub returns-in-Err : goal.returns-in-Err
returns-in-Err c =
    let l = c.loop-a in
    let p = c.args.plan in
    rw (c.at.ensures, c.from.ensures) (sym (l.invariant ∙ verdict_bad p l.a p.activities (omega arith) _ (fault_copied p l.a _ _ c.copied.ensures c.fault.ensures ∙ c.in-Err.is)))

pub returns : goal.returns
returns c =
    let p = c.args.plan in
    sym (c.loop-a.invariant ∙ verdict_end p c.loop-a.a p.activities (omega arith))
