-- One more flag in a list of flags.
use Rattle.std.specs.Prelude.{◌≡◌, refl, Bool, true, false, List, [], ◌∷◌, ℕ, zero, suc, ◌≤◌, ◌<◌, length, set, replicate}
use Rattle.std.proofs.Common.{sym, ap, ◌∙◌, subst, arith, get_or-set_other}
use Rattle.std.proofs.Math.Decide.{ℕ_discrete}
use Rattle.basis.specs.Tests.{flag, falses}
use Rattle.basis.proofs.Laws.Bools.{clash}

pub falses_set : (D : List Bool) (i : ℕ) → i < length D → flag D i ≡ false → suc (falses (set D i true)) ≡ falses D
unfolding falses
falses_set [] i l f = absurd (omega arith)
falses_set (true ∷ D) zero l f = clash f
falses_set (false ∷ D) zero l f = refl
falses_set (true ∷ D) (suc i) l f = falses_set D i (omega arith) f
falses_set (false ∷ D) (suc i) l f = ap suc (falses_set D i (omega arith) f)

pub falses_length : (D : List Bool) → falses D ≤ length D
unfolding falses
falses_length [] = omega arith
falses_length (true ∷ D) = omega (arith, falses_length D)
falses_length (false ∷ D) = omega (arith, falses_length D)

-- a flag that stands stays
pub kept : (D : List Bool) (i p : ℕ) → flag D i ≡ false → flag D p ≡ true → flag (set D i true) p ≡ true
kept D i p f h = get_or-set_other D i p true false (λ e. clash (sym h ∙ ap (flag D) e ∙ f)) ∙ h

-- what holds at i, and wherever a flag stood, holds wherever one stands
pub grown : (P : ℕ → Type 0) (D : List Bool) (i : ℕ) → P i → ((s : ℕ) → flag D s ≡ true → P s) → (s : ℕ) → flag (set D i true) s ≡ true → P s
grown P D i here old s h = elim (ℕ_discrete s i) [ yes e ↦ subst P (sym e) here | no ne ↦ old s (sym (get_or-set_other D i s true false ne) ∙ h) ]

pub no_flag : (n k : ℕ) → flag (replicate n false) k ≡ false
no_flag zero k = refl
no_flag (suc n) zero = refl
no_flag (suc n) (suc k) = no_flag n k
