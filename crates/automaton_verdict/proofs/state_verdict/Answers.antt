-- `state_verdict` answers the first of the numbers 21 to 23 that has a state at fault.
use Rattle.std.proofs.Common.{refl, sym, ◌∙◌, arith, rules, tests}
use Rattle.std.specs.Prelude.{Ok}
use Rattle.automaton.specs.Tests.{at}
use Rattle.automaton.specs.Number.{no_way_out, branches, serves}
use Rattle.automaton.proofs.Laws.Lowest.{lowest_by_find}
use Rattle.automaton_verdict.proofs.Tools.{state_21, state_22, state_23, state_on}
use Rattle.automaton_verdict.proofs.state_verdict.Goals as goal

pub returns-in-Some : goal.returns-in-Some
returns-in-Some c =
    let a = c.args.a.now in
    let o = at c.args.outcomes.now in
    let out = rw c.in-Some.is at (lowest_by_find _ _ _ _ (no_way_out a) refl c.find.ensures.ran (λ s q z. search (rules, tests)) (λ s q z. (search (rules, tests), search (rules, tests)))) in
    rw c.at.ensures (sym (state_21 a o (Ok tt) c.from.result (c.from.ensures ∙ out.1) (omega (arith, out.0))))

pub returns-in-Some-find : goal.returns-in-Some-find
returns-in-Some-find c =
    let a = c.args.a.now in
    let o = at c.args.outcomes.now in
    let out = rw c.in_default.is at (lowest_by_find _ _ _ _ (no_way_out a) refl c.find.ensures.ran (λ s q z. search (rules, tests)) (λ s q z. (search (rules, tests), search (rules, tests)))) in
    let branch = rw c.in-Some-find.is at (lowest_by_find _ _ _ _ (branches a) refl c.find-2.ensures.ran (λ s q z. search (rules, tests)) (λ s q z. (search (rules, tests), search (rules, tests)))) in
    rw c.at-in-Some-find.ensures (sym (state_22 a o (Ok tt) a.states out (λ l. omega arith) c.from-in-Some-find.result (c.from-in-Some-find.ensures ∙ branch.1) (omega (arith, branch.0))))

pub returns-in-Some-find-2 : goal.returns-in-Some-find-2
returns-in-Some-find-2 c =
    let a = c.args.a.now in
    let o = at c.args.outcomes.now in
    let out = rw c.in_default.is at (lowest_by_find _ _ _ _ (no_way_out a) refl c.find.ensures.ran (λ s q z. search (rules, tests)) (λ s q z. (search (rules, tests), search (rules, tests)))) in
    let branch = rw c.in_default-find.is at (lowest_by_find _ _ _ _ (branches a) refl c.find-2.ensures.ran (λ s q z. search (rules, tests)) (λ s q z. (search (rules, tests), search (rules, tests)))) in
    let missing = rw c.in-Some-find-2.is at (lowest_by_find _ _ _ _ (serves a o) refl c.find-3.ensures.ran (λ s q z. search (rules, tests)) (λ s q z. (search (rules, tests), search (rules, tests)))) in
    rw c.at-in-Some-find-2.ensures (sym (state_23 a o (Ok tt) a.states out (λ l. omega arith) a.states branch (λ l. omega arith) c.from-in-Some-find-2.result (c.from-in-Some-find-2.ensures ∙ missing.1) (omega (arith, missing.0))))

pub returns : goal.returns
returns c =
    let a = c.args.a.now in
    let o = at c.args.outcomes.now in
    let out = rw c.in_default.is at (lowest_by_find _ _ _ _ (no_way_out a) refl c.find.ensures.ran (λ s q z. search (rules, tests)) (λ s q z. (search (rules, tests), search (rules, tests)))) in
    let branch = rw c.in_default-find.is at (lowest_by_find _ _ _ _ (branches a) refl c.find-2.ensures.ran (λ s q z. search (rules, tests)) (λ s q z. (search (rules, tests), search (rules, tests)))) in
    let missing = rw c.in_default-find-2.is at (lowest_by_find _ _ _ _ (serves a o) refl c.find-3.ensures.ran (λ s q z. search (rules, tests)) (λ s q z. (search (rules, tests), search (rules, tests)))) in
    sym (state_on a o (Ok tt) a.states out (λ l. omega arith) a.states branch (λ l. omega arith) a.states missing (λ l. omega arith))
