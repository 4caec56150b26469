-- A node that is no event: what an outcome of it does, and how many outcomes it has.
use mathlib.Core.Path.{◌≡◌, refl}
use mathlib.Core.List.{List, [], ◌∷◌}
use mathlib.Core.Logic.{⊎_elim}
use Prim.Native.Nat.{ℕ, zero, suc, ◌≤◌}
use native.Mathlib.Omega.{arith}
use types.Run.{OneOf}
use denote.Enum.Declared.{tag_of}
use lib.ListN.{length, get_or}
use Rattle.plan.specs.contracts.Kind as kind-type
use Rattle.plan.specs.declared.Kind.{Kind}
use Rattle.run_window.specs.declared.Entry.{Entry}
use Rattle.run_checks.specs.declared.Refusal.{Refusal}
use Rattle.run.specs.Inner.Effects.{outcomes_for, refusing, learns_as}

pub no_learning : (i : ℕ) (x : Entry) (o most : ℕ) (k : Kind) → OneOf (0 ∷ (1 ∷ (2 ∷ []))) (tag_of kind-type.the_type k) → refusing Refusal.OtherKind ≡ learns_as i x o most k
no_learning i x o most (Kind.Action a y) h = refl
no_learning i x o most (Kind.Claim r) h = refl
no_learning i x o most (Kind.Release r) h = refl
no_learning i x o most (Kind.Event e) h = absurd (⊎_elim (λ e. omega arith) (⊎_elim (λ e. omega arith) (λ e. omega arith)) h)

pub no_outcomes : (outcomes : List ℕ) (k : Kind) → OneOf (0 ∷ (1 ∷ (2 ∷ []))) (tag_of kind-type.the_type k) → 0 ≡ outcomes_for outcomes k
no_outcomes outcomes (Kind.Action a y) h = refl
no_outcomes outcomes (Kind.Claim r) h = refl
no_outcomes outcomes (Kind.Release r) h = refl
no_outcomes outcomes (Kind.Event e) h = absurd (⊎_elim (λ e. omega arith) (⊎_elim (λ e. omega arith) (λ e. omega arith)) h)

pub get_d_past : (l : List ℕ) (i : ℕ) → length l ≤ i → get_or l i 0 ≡ 0
get_d_past [] i h = refl
get_d_past (x ∷ l) zero h = absurd (omega arith)
get_d_past (x ∷ l) (suc i) h = get_d_past l i (omega arith)
