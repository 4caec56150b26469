-- A sum over the events, and how it falls when one of its terms does.
use Rattle.std.specs.Prelude.{◌≡◌, ℕ, zero, suc, ◌+◌, ◌*◌, ◌≤◌, ◌<◌}
use Rattle.std.proofs.Common.{sym, ap, subst, arith, mul-suc}
use Rattle.std.proofs.Math.Decide.{ℕ_discrete}

abbrev pub sum : ℕ → (ℕ → ℕ) → ℕ
sum zero c = 0
sum (suc k) c = sum k c + c k

pub sum_at_most : (k b : ℕ) (c : ℕ → ℕ) → ((e : ℕ) → e < k → c e ≤ b) → sum k c ≤ b * k
sum_at_most zero b c h = omega arith
sum_at_most (suc k) b c h =
    let u = sum_at_most k b c (λ e l. h e (omega arith)) in
    let v = h k (omega arith) in
    let m = mul-suc b k in
    omega arith

pub sum_less : (k : ℕ) (c d : ℕ → ℕ) → ((e : ℕ) → e < k → d e ≤ c e) → sum k d ≤ sum k c
sum_less zero c d h = omega arith
sum_less (suc k) c d h = let u = sum_less k c d (λ e l. h e (omega arith)) in let v = h k (omega arith) in omega arith

pub sum_falls : (k f : ℕ) (c d : ℕ → ℕ) → f < k → ((e : ℕ) → (e ≡ f → ⊥) → d e ≤ c e) → d f + 1 ≤ c f → sum k d + 1 ≤ sum k c
sum_falls zero f c d l h one = absurd (omega arith)
sum_falls (suc k) f c d l h one = go (ℕ_discrete f k) (λ m. sum_falls k f c d m h one)
  where
    go : Dec (f ≡ k) → (f < k → sum k d + 1 ≤ sum k c) → sum k d + d k + 1 ≤ sum k c + c k
    go (yes e) less =
        let u = sum_less k c d (λ x m. h x (λ z. omega arith)) in
        let v : d k + 1 ≤ c k = subst (λ (n : ℕ). d n + 1 ≤ c n) e one in
        omega arith
    go (no n) less = let u = less (omega arith) in let v = h k (λ z. n (sym z)) in omega arith

pub sum_has : (k f : ℕ) (c : ℕ → ℕ) → f < k → c f ≤ sum k c
sum_has zero f c l = absurd (omega arith)
sum_has (suc k) f c l = go (ℕ_discrete f k) (λ m. sum_has k f c m)
  where
    go : Dec (f ≡ k) → (f < k → c f ≤ sum k c) → c f ≤ sum k c + c k
    go (yes e) less = let u = ap c e in omega arith
    go (no n) less = let u = less (omega arith) in omega arith
