-- Where the instances stand after one has left a queue or joined it. Assumes nothing.
use Rattle.std.specs.Prelude.{◌≡◌, refl, List, [], ◌∷◌, ◌⊎◌, ℕ, zero, suc, ◌+◌, ◌≤◌, ◌<◌, get_or, set}
use Rattle.std.proofs.Common.{sym, ◌∙◌, subst, inl, inr, arith, get_or-set_other}
use Rattle.std.proofs.Math.Decide.{ℕ_discrete}
use Rattle.times.specs.declared.Instance.{Instance}
use Rattle.times.specs.Queues.{no_instance, shifted_of}

-- a place that was set holds what was put there; past the end of the list, what stands for nothing
pub here : {A : Type 0} (P : A → Type 0) (l : List A) (k : ℕ) (x d : A) → P x → P d → P (get_or (set l k x) k d)
here P [] k x d p q = q
here P (y ∷ l) zero x d p q = p
here P (y ∷ l) (suc k) x d p q = here P l k x d p q

-- the same for a place that took what the next one holds
next_here : {A : Type 0} (l : List A) (k : ℕ) (d : A) → get_or (set l k (get_or l (suc k) d)) k d ≡ get_or l (suc k) d
next_here [] k d = refl
next_here (y ∷ l) zero d = refl
next_here (y ∷ l) (suc k) d = next_here l k d

-- places outside the queue keep what they hold
pub shifted_outside : (k i : ℕ) (q : List Instance) (j : ℕ) → (j < i) ⊎ (i + k < j) → get_or (shifted_of i k q) j no_instance ≡ get_or q j no_instance
unfolding shifted_of
shifted_outside zero i q j h = get_or-set_other q i j no_instance no_instance (λ e. elim h [ inl l ↦ omega arith | inr l ↦ omega arith ])
shifted_outside (suc k) i q j h =
    shifted_outside k (i + 1) (set q i (get_or q (i + 1) no_instance)) j (elim h [ inl l ↦ inl (omega arith) | inr l ↦ inr (omega arith) ])
    ∙ get_or-set_other q i j (get_or q (i + 1) no_instance) no_instance (λ e. elim h [ inl l ↦ omega arith | inr l ↦ omega arith ])

-- places inside it take what the next one held
pub shifted_inside : (k i : ℕ) (q : List Instance) (j : ℕ) → i ≤ j → j < i + k → get_or (shifted_of i k q) j no_instance ≡ get_or q (j + 1) no_instance
unfolding shifted_of
shifted_inside zero i q j h l = absurd (omega arith)
shifted_inside (suc k) i q j h l = go (ℕ_discrete j i) (λ m. shifted_inside k (i + 1) (set q i (get_or q (i + 1) no_instance)) j m (omega arith))
  where
    one_more : i + 1 ≡ suc i
    one_more = omega arith

    go : Dec (j ≡ i) → (i + 1 ≤ j → get_or (shifted_of (i + 1) k (set q i (get_or q (i + 1) no_instance))) j no_instance ≡ get_or (set q i (get_or q (i + 1) no_instance)) (j + 1) no_instance) → get_or (shifted_of (i + 1) k (set q i (get_or q (i + 1) no_instance))) j no_instance ≡ get_or q (j + 1) no_instance
    go (yes e) rest =
        shifted_outside k (i + 1) (set q i (get_or q (i + 1) no_instance)) j (inl (omega arith))
        ∙ subst (λ (n : ℕ). get_or (set q i (get_or q (i + 1) no_instance)) n no_instance ≡ get_or q (n + 1) no_instance) (sym e)
        (subst (λ (n : ℕ). get_or (set q i (get_or q n no_instance)) i no_instance ≡ get_or q n no_instance) (sym one_more) (next_here q i no_instance))
    go (no n) rest =
        rest (omega arith)
        ∙ get_or-set_other q i (j + 1) (get_or q (i + 1) no_instance) no_instance (λ e. omega arith)
