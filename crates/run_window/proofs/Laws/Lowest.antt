-- The free places are the lowest ones: below free place number k stand k others. In a window that is free throughout, the entries
-- stand from place 0 on.
use Rattle.std.specs.Prelude.{◌≡◌, refl, List, [], ◌∷◌, ℕ, zero, suc, ◌≤◌, ◌<◌, length, get_or, take, replicate}
use Rattle.std.proofs.Common.{ap, ◌∙◌, ⊎_elim, arith}
use Rattle.basis.proofs.Laws.Lists.{all_same}
use Rattle.run_window.specs.declared.Entry.{Entry}
use Rattle.run_window.specs.Window.{vacant, placed, vacancies}
use Rattle.run_window.proofs.Laws.Tests.{free_or_held}
use Rattle.run_window.proofs.Laws.Placed.{free_place, place_first, place_next, place-past, vacant_first, vacant_past, vacant_none, no_vacancies}

pub free_below : (w : List Entry) (k : ℕ) → k < vacancies w → vacancies (take (free_place w k) w) ≡ k
free_below [] k h = absurd (no_vacancies k h)
free_below (x ∷ w) zero h =
    ⊎_elim (λ f. rw (place_first x w f) vacant_none)
    (λ f. rw (place-past x w 0 f) (vacant_past x (take (free_place w 0) w) f ∙ free_below w 0 (omega (arith, vacant_past x w f))))
    (free_or_held x.phase)
free_below (x ∷ w) (suc k) h =
    ⊎_elim (λ f. rw (place_next x w k f) (vacant_first x (take (free_place w k) w) f ∙ ap suc (free_below w k (omega (arith, vacant_first x w f)))))
    (λ f. rw (place-past x w (suc k) f) (vacant_past x (take (free_place w (suc k)) w) f ∙ free_below w (suc k) (omega (arith, vacant_past x w f))))
    (free_or_held x.phase)

-- ---- a window that is free throughout

pub all_free : (n : ℕ) → vacancies (replicate n vacant) ≡ n
unfolding vacancies
all_free zero = refl
all_free (suc n) = ap suc (all_free n)

pub placed_at_first : (n : ℕ) (es : List Entry) → length es ≤ n → (k : ℕ) → get_or (placed (replicate n vacant) es) k vacant ≡ get_or es k vacant
unfolding placed
placed_at_first zero [] l k = refl
placed_at_first zero (e ∷ es) l k = absurd (omega arith)
placed_at_first (suc n) [] l k = all_same (suc n) k vacant
placed_at_first (suc n) (e ∷ es) l zero = refl
placed_at_first (suc n) (e ∷ es) l (suc k) = placed_at_first n es (omega arith) k
