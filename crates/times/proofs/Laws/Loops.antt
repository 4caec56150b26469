-- One turn, and the end, of each loop whose definition goes down what is left: k of n from place i on. Assumes nothing.
use Rattle.std.specs.Prelude.{◌≡◌, refl, Bool, true, false, cond, ◌||◌, List, [], ◌∷◌, ℕ, zero, suc, ◌+◌, ◌-◌, ◌≤◌, ◌<◌, max, take, get_or, set, ltb}
use Rattle.std.specs.List.{list_any}
use Rattle.std.proofs.Math.Path.{ap, ap₂}
use Rattle.std.proofs.Common.{sym, ◌∙◌, arith}
use Rattle.basis.specs.Parts.{part}
use Rattle.basis.proofs.Laws.Parts.{fewer, none, part_step, part_end}
use Rattle.basis.specs.Tests.{flag}
use Rattle.time.specs.Time.{horizon}
use Rattle.time.specs.declared.Specified.{Specified}
use Rattle.times.specs.declared.Instance.{Instance}
use Rattle.times.specs.Times.{specified, at, ready_of, largest_of}
use Rattle.times.specs.Queues.{no_instance, shifted_of}
use Rattle.times.specs.Engine.{raised_of, above_of}

-- ---- every predecessor is done

module _ (done : List Bool) (ms : List ℕ) (j n : ℕ) where
  ready_step : j < n → ready_of done (part 0 ms j (n - j)) ≡ cond (flag done (get_or ms j 0)) (ready_of done (part 0 ms (j + 1) (n - (j + 1)))) false
  unfolding ready_of
  ready_step h = ap (ready_of done) (part_step 0 ms j n h)

  pub ready_not : j < n → flag done (get_or ms j 0) ≡ false → ready_of done (part 0 ms j (n - j)) ≡ false
  ready_not h e = ready_step h ∙ ap (λ (b : Bool). cond b (ready_of done (part 0 ms (j + 1) (n - (j + 1)))) false) e

  pub ready_on : j < n → flag done (get_or ms j 0) ≡ true → ready_of done (part 0 ms j (n - j)) ≡ ready_of done (part 0 ms (j + 1) (n - (j + 1)))
  ready_on h e = ready_step h ∙ ap (λ (b : Bool). cond b (ready_of done (part 0 ms (j + 1) (n - (j + 1)))) false) e

  pub ready_end : n ≤ j → ready_of done (part 0 ms j (n - j)) ≡ true
  unfolding ready_of
  ready_end h = ap (ready_of done) (part_end 0 ms j n h)

-- ---- the largest completion among the predecessors

module _ (end : List Specified) (ms : List ℕ) (j n : ℕ) where
  pub largest_on : j < n → largest_of end (part 0 ms j (n - j)) ≡ max (at end (get_or ms j 0)) (largest_of end (part 0 ms (j + 1) (n - (j + 1))))
  unfolding largest_of
  largest_on h = ap (largest_of end) (part_step 0 ms j n h)

  pub largest_end : n ≤ j → largest_of end (part 0 ms j (n - j)) ≡ 0
  unfolding largest_of
  largest_end h = ap (largest_of end) (part_end 0 ms j n h)

-- ---- a time above 10^15

module _ (ts : List Specified) (i n : ℕ) where
  above_step : i < n → above_of ts i (n - i) ≡ cond (ltb horizon (at ts i)) true (above_of ts (i + 1) (n - (i + 1)))
  unfolding above_of
  above_step h = ap (above_of ts i) (fewer i n h)

  pub above_here : i < n → ltb horizon (at ts i) ≡ true → above_of ts i (n - i) ≡ true
  above_here h e = above_step h ∙ ap (λ (b : Bool). cond b true (above_of ts (i + 1) (n - (i + 1)))) e

  pub above_on : i < n → ltb horizon (at ts i) ≡ false → above_of ts i (n - i) ≡ above_of ts (i + 1) (n - (i + 1))
  above_on h e = above_step h ∙ ap (λ (b : Bool). cond b true (above_of ts (i + 1) (n - (i + 1)))) e

  pub above_end : n ≤ i → above_of ts i (n - i) ≡ false
  unfolding above_of
  above_end h = ap (above_of ts i) (none i n h)

above_next : (t : Specified) (ts : List Specified) (k i j : ℕ) → j ≡ suc i → above_of (t ∷ ts) j k ≡ above_of ts i k
unfolding above_of
above_next t ts zero i j e = refl
above_next t ts (suc k) i j e = ap₂ (λ (n : ℕ) (b : Bool). cond (ltb horizon n) true b) (ap (at (t ∷ ts)) e) (above_next t ts k (i + 1) (j + 1) (omega arith))

above_first : (t : Specified) (ts : List Specified) (k : ℕ) → above_of (t ∷ ts) 0 (suc k) ≡ cond (ltb horizon t.0) true (above_of ts 0 k)
unfolding above_of
above_first t ts k = ap (λ (b : Bool). cond (ltb horizon t.0) true b) (above_next t ts k 0 (0 + 1) (omega arith))

-- of no times
above_nowhere : (k i : ℕ) → above_of [] i k ≡ false
unfolding above_of
above_nowhere zero i = refl
above_nowhere (suc k) i = above_nowhere k (i + 1)

-- of the first n times
pub above_any : (n : ℕ) (ts : List Specified) → list_any (λ (t : Specified). ltb horizon t.0) (take n ts) ≡ above_of ts 0 n
unfolding above_of
above_any zero ts = refl
above_any (suc n) [] = sym (above_nowhere n (0 + 1))
above_any (suc n) (t ∷ ts) = go (ltb horizon t.0) (above_any n ts) ∙ sym (above_first t ts n)
  where
    go : (b : Bool) {c d : Bool} → c ≡ d → (b || c) ≡ cond b true d
    go true e = refl
    go false e = e

-- ---- availabilities raised

module _ (c : ℕ) (ts : List Specified) (i n : ℕ) where
  pub raised_on : i < n → raised_of c i (n - i) ts ≡ raised_of c (i + 1) (n - (i + 1)) (set ts i (specified (max (at ts i) c)))
  unfolding raised_of
  raised_on h = ap (λ (k : ℕ). raised_of c i k ts) (fewer i n h)

  pub raised_end : n ≤ i → raised_of c i (n - i) ts ≡ ts
  unfolding raised_of
  raised_end h = ap (λ (k : ℕ). raised_of c i k ts) (none i n h)

-- ---- a queue moves up

module _ (q : List Instance) (i n : ℕ) where
  pub shifted_on : i < n → shifted_of i (n - i) q ≡ shifted_of (i + 1) (n - (i + 1)) (set q i (get_or q (i + 1) no_instance))
  unfolding shifted_of
  shifted_on h = ap (λ (k : ℕ). shifted_of i k q) (fewer i n h)

  pub shifted_end : n ≤ i → shifted_of i (n - i) q ≡ set q i no_instance
  unfolding shifted_of
  shifted_end h = ap (λ (k : ℕ). shifted_of i k q) (none i n h)
