-- `ways` answers 24 at the first state without a path to a final one, and otherwise what the counts say.
use Rattle.std.proofs.Common.{ap, refl, ◌∙◌, arith, rules, tests}
use Rattle.basis.specs.Tests.{flag}
use Rattle.automaton.specs.Number.{lowest, to_final}
use Rattle.automaton.proofs.Laws.Lowest.{lowest_by_find}
use Rattle.automaton_counts.proofs.Tools.{way_stops, way_goes}
use Rattle.automaton_counts.proofs.ways.Goals as goal

pub returns-in-Some : goal.returns-in-Some
returns-in-Some c =
    let x = c.args in
    let f = rw c.in-Some.is at (lowest_by_find _ _ _ _ (flag c.to_final-done.result) refl c.find.ensures.ran (λ s q z. search (rules, tests)) (λ s q z. (search (rules, tests), search (rules, tests)))) in
    rw c.at.ensures (way_stops x.a x.emits.now.table c.requires x.emits.now.few c.in-Some.s (rw (c.to_final-done.ensures, c.from.ensures) at f.1) (omega (arith, f.0)))

pub returns : goal.returns
returns c =
    let x = c.args in
    let f = rw c.in_default.is at (lowest_by_find _ _ _ _ (flag c.to_final-done.result) refl c.find.ensures.ran (λ s q z. search (rules, tests)) (λ s q z. (search (rules, tests), search (rules, tests)))) in
    way_goes x.a x.emits.now.table c.requires x.emits.now.few c.from.result (rw c.to_final-done.ensures at f ∙ ap (lowest (flag (to_final x.a)) 0) c.from.ensures) (λ l. omega arith) c.pending.result c.pending.ensures
