use Rattle.automaton.specs.Tests.{at}
use Rattle.automaton.proofs.Laws.Passes.{advance_starts, advance_from, advance_steps}
use Rattle.automaton_counts.proofs.Laws.Emits.{gives_few}
use Rattle.std.proofs.Common.{◌≡◌, ◌+◌, ◌*◌, ap, arith}
use Rattle.automaton_counts.proofs.counting.advance.Goals as goal

pub loop-e-init : goal.loop-e-init
loop-e-init c = advance_starts _ _ _ _ _ _ c.requires.counts_len.0

pub overflow_sub-counts : goal.overflow_sub-counts
overflow_sub-counts c =
    let l = c.loop-e in
    let i : 16 * c.from-from.result + l.e ≡ 16 * c.args.t.now.from + l.e = omega arith in
    omega (arith, c.taken.ensures, c.requires.by_index l.e (omega arith), ap (at l.counts) i, advance_from _ _ _ _ _ _ l.e l.counts c.requires.move_ok.1 (omega arith) l.invariant)

pub loop-e-preserved : goal.loop-e-preserved
loop-e-preserved c =
    let l = c.loop-e in
    rw (c.from-from.ensures, c.from-to.ensures, advance_from _ _ _ _ _ _ l.e l.counts c.requires.move_ok.1 (omega arith) l.invariant)
    (advance_steps _ _ _ _ _ _ l.e l.counts c.taken.result c.given.result (omega arith) c.requires.move_ok.0.to c.taken.ensures c.given.ensures (c.requires.by_index l.e (omega arith))
    (omega (arith, c.given.ensures, gives_few c.args.emits.now.table c.args.t.now.output l.e c.args.emits.now.few)) l.invariant)

pub returns : goal.returns
returns c =
    let e : c.loop-e.e ≡ 16 = omega arith in
    rw e at c.loop-e.invariant
