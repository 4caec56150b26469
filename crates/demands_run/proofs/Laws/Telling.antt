-- An outcome is stored with its instance: the queues change in nothing else.
use Rattle.std.specs.Prelude.{◌≡◌, Bool, true, false, cond, ◌⊎◌, eqb, get_or, set}
use Rattle.std.proofs.Math.Path.{refl, sym, ap, ap₂}
use Rattle.std.proofs.Common.{◌∙◌, subst, arith, get_or-set_same}
use Rattle.std.proofs.Math.Logic.{inl, inr, ⊎_elim}
use mathlib.Core.List.{List, [], ◌∷◌, map}
use Prim.Native.Nat.{ℕ, zero, suc, ◌+◌, ◌≤◌, ◌<◌}
use borrow.Author.Tests.{eqb-true, eq-eqb}
use Rattle.std.proofs.Math.ListN.{length, length-set}
use Rattle.std.proofs.Math.Seq.{get_or-set_other}
use Rattle.basis.specs.Lists.{Among, Distinct}
use Rattle.basis.specs.Parts.{part}
use Rattle.basis.proofs.Laws.Lists.{among_map}
use Rattle.basis.proofs.Laws.Bools.{and_left, and_right, by_test}
use Rattle.basis.proofs.Laws.Parts.{part_same}
use Rattle.times_combined.specs.Combined.{Ident, identity}
use Rattle.times.specs.Queues.{no_instance}
use Rattle.times.specs.declared.Instance.{Instance}
use Rattle.run_outcomes.specs.Told.{tell, is_instance, told_from}
use Rattle.demands_run.proofs.Laws.Stands.{ident_of}

-- ---- parts of a list

set_cases : {A : Type 0} (xs : List A) (i : ℕ) (v : A) (j : ℕ) (d : A) → (get_or (set xs i v) j d ≡ get_or xs j d) ⊎ ((j ≡ i) × (get_or (set xs i v) j d ≡ v))
set_cases [] i v j d = inl refl
set_cases (x ∷ xs) zero v zero d = inr (refl, refl)
set_cases (x ∷ xs) zero v (suc j) d = inl refl
set_cases (x ∷ xs) (suc i) v zero d = inl refl
set_cases (x ∷ xs) (suc i) v (suc j) d = ⊎_elim (λ e. inl e) (λ e. inr (ap suc e.0, e.1)) (set_cases xs i v j d)

module _ (position node o : ℕ) where
  pub instance_tells : (y : Instance) → is_instance position node y ≡ true → (y.position ≡ position) × (y.node ≡ node)
  unfolding is_instance
  instance_tells y h = (eqb-true _ _ (and_left (eqb y.position position) _ h), eqb-true _ _ (and_right (eqb y.position position) _ h))

  pub instance_is : (y : Instance) → y.position ≡ position → y.node ≡ node → is_instance position node y ≡ true
  unfolding is_instance
  instance_is y p n = rw (eq-eqb _ _ p, eq-eqb _ _ n)

  -- the instance of the node, with its outcome
  abbrev pub informed : Instance → Instance
  informed y = cond (is_instance position node y) (tell y o) y

  pub told_length : (k i : ℕ) (xs : List Instance) → length (told_from position node o i k xs) ≡ length xs
  unfolding told_from
  told_length zero i xs = refl
  told_length (suc k) i xs =
      by_test (λ (l : List Instance). length l ≡ length xs) (is_instance position node (get_or xs i no_instance)) _ _ (λ b. length-set xs i (tell (get_or xs i no_instance) o)) (λ b. told_length k (i + 1) xs)

  -- a place keeps what it holds, or is one of the queue and is told
  abbrev Stored : ℕ → ℕ → List Instance → ℕ → List Instance → Type 0
  Stored i k xs j l = (get_or l j no_instance ≡ get_or xs j no_instance) ⊎ ((i ≤ j) × (j < i + k) × (get_or l j no_instance ≡ tell (get_or xs j no_instance) o))

  pub told_cases : (k i : ℕ) (xs : List Instance) (j : ℕ) → Stored i k xs j (told_from position node o i k xs)
  unfolding told_from
  told_cases zero i xs j = inl refl
  told_cases (suc k) i xs j =
      by_test (Stored i (suc k) xs j) (is_instance position node (get_or xs i no_instance)) _ _
      (λ b. ⊎_elim (λ e. inl e) (λ e. inr ((let u = e.0 in omega arith), (let u = e.0 in omega arith), e.1 ∙ ap (λ (n : ℕ). tell (get_or xs n no_instance) o) (sym e.0))) (set_cases xs i (tell (get_or xs i no_instance) o) j no_instance))
      (λ b. ⊎_elim (λ e. inl e) (λ (e : (i + 1 ≤ j) × (j < i + 1 + k) × (get_or (told_from position node o (i + 1) k xs) j no_instance ≡ tell (get_or xs j no_instance) o)). inr ((let u = e.0 in omega arith), (let u = e.1 in omega arith), e.2)) (told_cases k (i + 1) xs j))

  -- places outside the queue keep what they hold
  pub told_outside : (k i : ℕ) (xs : List Instance) (j : ℕ) → (j < i) ⊎ (i + k ≤ j) → get_or (told_from position node o i k xs) j no_instance ≡ get_or xs j no_instance
  told_outside k i xs j out = ⊎_elim (λ e. e) (λ (e : (i ≤ j) × (j < i + k) × (get_or (told_from position node o i k xs) j no_instance ≡ tell (get_or xs j no_instance) o)). absurd (clash e.0 e.1 out)) (told_cases k i xs j)
    where
      clash : i ≤ j → j < i + k → (j < i) ⊎ (i + k ≤ j) → ⊥
      clash a b (inl l) = omega arith
      clash a b (inr l) = omega arith

  -- no other instance of the queue is of the node
  none_informed : (q : List Instance) → ((y : Instance) → Among y q → is_instance position node y ≡ false) → map informed q ≡ q
  none_informed [] h = refl
  none_informed (y ∷ q) h = ap₂ (λ x xs. x ∷ xs) (rw (h y (inl refl))) (none_informed q (λ z m. h z (inr m)))

  alone : (x : Instance) (q : List Instance) → is_instance position node x ≡ true → (Among (ident_of x) (map ident_of q) → ⊥) → (y : Instance) → Among y q → is_instance position node y ≡ false
  alone x q b n y m = go (is_instance position node y) refl
    where
      go : (c : Bool) → is_instance position node y ≡ c → c ≡ false
      go false e = refl
      go true e =
          let u = instance_tells x b in
          let w = instance_tells y e in
          let same : ident_of y ≡ ident_of x = ap₂ (λ (a c : ℕ). identity a c) (w.0 ∙ sym u.0) (w.1 ∙ sym u.1) in
          absurd (n (subst (λ (z : Ident). Among z (map ident_of q)) same (among_map ident_of y q m)))

  pub told_part : (k i : ℕ) (xs : List Instance) → i + k ≤ length xs → Distinct (map ident_of (part no_instance xs i k)) → part no_instance (told_from position node o i k xs) i k ≡ map informed (part no_instance xs i k)
  unfolding told_from
  told_part zero i xs l d = refl
  told_part (suc k) i xs l d =
      by_test (λ (m : List Instance). part no_instance m i (suc k) ≡ map informed (part no_instance xs i (suc k))) (is_instance position node (get_or xs i no_instance)) _ _
      (λ b. ap₂ (λ x ys. x ∷ ys) (get_or-set_same xs i (tell (get_or xs i no_instance) o) no_instance (omega arith) ∙ rw b)
      (part_same no_instance (set xs i (tell (get_or xs i no_instance) o)) xs k (i + 1) (i + 1) (λ n q. get_or-set_other xs i (i + 1 + n) (tell (get_or xs i no_instance) o) no_instance (λ z. omega arith))
      ∙ sym (none_informed (part no_instance xs (i + 1) k) (alone (get_or xs i no_instance) (part no_instance xs (i + 1) k) b d.0))))
      (λ b. ap₂ (λ x ys. x ∷ ys) (told_outside k (i + 1) xs i (inl (omega arith)) ∙ rw b) (told_part k (i + 1) xs (omega arith) d.1))
