-- `moves::input_names` is what it is defined to be. Assumes nothing.
use Rattle.std.specs.Prelude.{◌≡◌, Bool, false, ltb, List, ℕ, get_or, Option, Some, None, MatchOption}
use Rattle.std.specs.Borrow.{Bor}
use Rattle.std.specs.Slice.{IsItemAt}
use Rattle.std.proofs.Common.{sym, ◌∙◌, ap, arith, rules, tests}
use borrow.Author.Tests.{lt-ltb, le-ltb}
use Rattle.plan_limits.proofs.moves.input_names.Goals as goal

looked_up : (xs : List ℕ) (i o : ℕ) (r : Option (Bor ℕ)) (b : Bool) (P : Bor ℕ → Type 0) → IsItemAt xs i r → ((x : Bor ℕ) → P x → b ≡ ltb o x.now) → MatchOption r (b ≡ false) P → b ≡ ltb o (get_or xs i 0)
looked_up xs i o None b P it f m = m ∙ sym (le-ltb o 0 (omega arith)) ∙ ap (ltb o) (it.4 (omega arith) 0)
looked_up xs i o (Some x) b P it f m = f x m ∙ ap (ltb o) (it.4 (omega arith) 0)

pub returns-then-e-events : goal.returns-then-e-events
returns-then-e-events c =
    rw (c.in-Outcome.is, lt-ltb _ _ c.if-e-events.true, ← c.from.ensures)
    (looked_up c.args.outcomes c.from.result c.in-Outcome.o c.get.result _ _ c.get.ensures.lookup (λ x p. search (rules, tests)) c.is_some_and.ensures)

pub returns-else-e-events : goal.returns-else-e-events
returns-else-e-events c = rw (c.in-Outcome.is, le-ltb _ _ c.if-e-events.false)
