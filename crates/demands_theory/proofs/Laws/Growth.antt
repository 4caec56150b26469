-- Growing words: nothing changes what is there, and one growth after another is one; the beginnings of a word.
use Rattle.std.specs.Prelude.{◌≡◌, refl, List, [], ◌∷◌, ◌⊎◌, ℕ, ◌≤◌}
use Rattle.std.proofs.Common.{sym, ap, ◌∙◌, subst, inl, inr, arith}
use Rattle.demands_theory.specs.Nodes.{length_of}
use Rattle.demands_theory.proofs.Laws.Machine.{World}
use Rattle.demands_theory.proofs.Laws.Way.{Extends}
pub use Rattle.demands_theory.specs.TheWord.{Tail, here, later}

pub extends_self : (W : World) (w : W.Word) → Extends W w w
extends_self W w = record { nodes = λ x n. n; starts = λ x n. refl; completions = λ x n. refl; befores = λ m x n b. b; activities = λ q a e. e }

pub extends_on : (W : World) (w v u : W.Word) → Extends W w v → Extends W v u → Extends W w u
extends_on W w v u a b = record {
  nodes = λ x n. b.nodes x (a.nodes x n);
  starts = λ x n. b.starts x (a.nodes x n) ∙ a.starts x n;
  completions = λ x n. b.completions x (a.nodes x n) ∙ a.completions x n;
  befores = λ m x n h. a.befores m x n (b.befores m x (a.nodes x n) h);
  activities = λ q c e. b.activities q c (a.activities q c e);
}

-- ---- beginnings

pub tail_empty : (us : List ℕ) → Tail [] us
tail_empty [] = here
tail_empty (t ∷ us) = later (tail_empty us)

-- a beginning is the whole, or goes one transition on
pub tail_next : (is us : List ℕ) → Tail is us → (is ≡ us) ⊎ ((t : ℕ) × Tail (t ∷ is) us)
tail_next is us here = inl refl
tail_next is us (later {us = vs} {t} b) =
    elim (tail_next is vs b) [
      | inl e ↦ inr (t, subst (λ (l : List ℕ). Tail l (t ∷ vs)) (ap (λ (l : List ℕ). t ∷ l) (sym e)) here)
      | inr n ↦ inr (n.0, later n.1)
    ]

-- of two beginnings of a word one goes on from the other
pub tails : (us vs is : List ℕ) → Tail us is → Tail vs is → Tail us vs ⊎ ((t : ℕ) × Tail (t ∷ vs) us)
tails us vs is here b = go (tail_next vs us b)
  where
    go : (vs ≡ us) ⊎ ((t : ℕ) × Tail (t ∷ vs) us) → Tail us vs ⊎ ((t : ℕ) × Tail (t ∷ vs) us)
    go (inl e) = inl (subst (Tail us) (sym e) here)
    go (inr n) = inr n
tails us vs is (later a) here = inl (later a)
tails us vs is (later {us = ws} a) (later b) = tails us vs ws a b

-- a beginning of a beginning is one
pub tail_on : (is us vs : List ℕ) → Tail is us → Tail us vs → Tail is vs
tail_on is us vs a here = a
tail_on is us vs a (later b) = later (tail_on is us _ a b)

pub tail_length : (is us : List ℕ) → Tail is us → length_of is ≤ length_of us
tail_length is us here = omega arith
tail_length is us (later {us = vs} b) = let u = tail_length is vs b in omega arith

same_head : (x y : ℕ) (xs ys : List ℕ) → length_of xs ≡ length_of ys → Tail (x ∷ xs) (y ∷ ys) → x ≡ y
same_head x y xs ys l here = refl
same_head x y xs ys l (later b) = absurd (let u = tail_length (x ∷ xs) ys b in omega arith)

-- what follows a beginning is one
pub one_next : (x y : ℕ) (xs zs : List ℕ) → Tail (x ∷ xs) zs → Tail (y ∷ xs) zs → x ≡ y
one_next x y xs zs a b = go (tails (x ∷ xs) (y ∷ xs) zs a b)
  where
    go : Tail (x ∷ xs) (y ∷ xs) ⊎ ((t : ℕ) × Tail (t ∷ y ∷ xs) (x ∷ xs)) → x ≡ y
    go (inl h) = same_head x y xs xs refl h
    go (inr (t, h)) = absurd (let u = tail_length (t ∷ y ∷ xs) (x ∷ xs) h in omega arith)
