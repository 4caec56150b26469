use Rattle.std.specs.Prelude.{◌≡◌, true, ◌/◌, ◌<◌}
use Rattle.std.proofs.Common.{arith, rules, tests}
use Rattle.basis.specs.Tests.{flag}
use Rattle.plan.specs.Plan.{is_final}
use Rattle.automaton.specs.Tests.{at}
use Rattle.automaton.proofs.Laws.Ranges.{any_from_Range, told}
use Rattle.automaton_counts.proofs.Tools.{left_at, no_left}
use Rattle.automaton_counts.proofs.left.Goals as goal

pub returns : goal.returns
returns c =
    let a = c.args.a.now in
    let R = c.args.x.now.reached in
    let C = c.args.x.now.counts in
    told _
    (any_from_Range _ _ _ _ (λ k. (0 < at C k) × (flag R (k / 16) ≡ true) × (is_final a (k / 16) ≡ true)) (λ k. flag R (k / 16) ≡ true → is_final a (k / 16) ≡ true → at C k ≡ 0) c.any.ensures.ran (λ k q z. search (rules, tests)) (λ k q z. (search (rules, tests), search (rules, tests))))
    (λ z. left_at a R C z.0 (omega (arith, c.from.ensures, c.requires.0, z.2)) z.3.1 z.3.2 z.3.0)
    (λ z. no_left a R C (λ j l r f. z j (omega arith) (omega (arith, c.from.ensures, c.requires.1 (j / 16) r)) r f))
