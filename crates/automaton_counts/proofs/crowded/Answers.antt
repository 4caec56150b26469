use Rattle.std.specs.Prelude.{◌≡◌, true, ◌/◌, ◌≤◌, ◌<◌}
use Rattle.std.proofs.Common.{arith, rules, tests}
use Rattle.basis.specs.Tests.{flag}
use Rattle.automaton.specs.Tests.{at}
use Rattle.automaton.proofs.Laws.Ranges.{any_from_Range, told}
use Rattle.automaton_counts.proofs.Tools.{crowd_at, no_crowd}
use Rattle.automaton_counts.proofs.crowded.Goals as goal

pub returns : goal.returns
returns c =
    let R = c.args.x.now.reached in
    let C = c.args.x.now.counts in
    told _
    (any_from_Range _ _ _ _ (λ k. (8 < at C k) × (flag R (k / 16) ≡ true)) (λ k. flag R (k / 16) ≡ true → at C k ≤ 8) c.any.ensures.ran (λ k q z. search (rules, tests)) (λ k q z. (search (rules, tests), search (rules, tests))))
    (λ z. crowd_at R C z.0 (omega (arith, c.from.ensures, c.requires.0, z.2)) z.3.1 z.3.0)
    (λ z. no_crowd R C (λ j l r. z j (omega arith) (omega (arith, c.from.ensures, c.requires.1 (j / 16) r)) r))
