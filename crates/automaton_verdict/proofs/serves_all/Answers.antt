use Rattle.std.specs.Prelude.{◌≡◌, true, false, ℕ}
use Rattle.std.specs.Option.{is_some}
use Rattle.std.proofs.Common.{rules}
use Rattle.automaton.specs.Next.{chosen_of}
use Rattle.automaton.proofs.Laws.Ranges.{all_from_Range}
use Rattle.automaton_verdict.proofs.Tools.{all_of}
use Rattle.automaton_verdict.proofs.serves_all.Goals as goal

pub returns : goal.returns
returns c =
    let x = c.args in
    let f = λ (q : ℕ). is_some (chosen_of x.a.now x.s x.e q) in
    all_of f x.n c.all.result (all_from_Range _ _ _ _ (λ q. f q ≡ true) (λ q. f q ≡ false) c.all.ensures.ran (λ q g z. (search rules, search rules)) (λ q g z. search rules))
