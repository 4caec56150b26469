-- The lowest state that fails a test: what it is, a scan for it, one state on, and that `find` finds it.
use Rattle.std.specs.Prelude.{◌≡◌, refl, Bool, true, false, cond, List, Option, None, Some, MatchOption}
use Rattle.std.specs.List.{FoldsTo}
use Rattle.std.specs.Fn.{CalledAt}
use Rattle.std.specs.Iterator.{YieldsThen}
use Rattle.std.specs.declared.ops.Range.{Range}
use Rattle.std.proofs.iter.Yields.{nat_range_steps}
use Rattle.std.proofs.lemmas.Iterator.{first_from_Range}
use denote.Param.Members.{Mut}
use denote.Ref.{Bor}
use Rattle.std.proofs.Math.Path.{ap}
use Rattle.std.proofs.Common.{sym, ◌∙◌}
use Prim.Native.Nat.{ℕ, zero, suc, ◌+◌, ◌-◌, ◌≤◌, ◌<◌}
use native.Mathlib.Omega.{arith}
use Rattle.std.proofs.Math.Decide.{ℕ_discrete, dec_lt}
use Rattle.basis.specs.Inner.Tells.{Tells}
use Rattle.basis.proofs.Laws.Bools.{clash}
use Rattle.basis.proofs.Laws.Tells.{told_true, told_false}
use Rattle.plan.specs.declared.Automaton.{Automaton}
use Rattle.automaton.specs.Rules.{EveryState, LowestAtFault}
use Rattle.automaton.specs.Number.{lowest}

pub record LowestIs (test : ℕ → Bool) (s n r : ℕ) : Type 0 where
  pub low : s ≤ r
  pub high : r ≤ s + n
  pub below : (q : ℕ) → s ≤ q → q < r → test q ≡ true
  pub here : r < s + n → test r ≡ false

pub lowest_is : (test : ℕ → Bool) (s n : ℕ) → LowestIs test s n (lowest test s n)
unfolding lowest
lowest_is test s zero = record { low = omega arith; high = omega arith; below = λ q l m. absurd (omega arith); here = λ l. absurd (omega arith) }
lowest_is test s (suc n) = go (test s) refl (lowest_is test (s + 1) n)
  where
    go : (b : Bool) → test s ≡ b → LowestIs test (s + 1) n (lowest test (s + 1) n) → LowestIs test s (suc n) (cond b (lowest test (s + 1) n) s)
    go true e x = record {
      low = omega (arith, x.low);
      high = omega (arith, x.high);
      below = λ q l m. elim (ℕ_discrete q s) [ yes z ↦ ap test z ∙ e | no z ↦ x.below q (omega (arith, z)) m ];
      here = λ l. x.here (omega arith);
    }
    go false e x = record { low = omega arith; high = omega arith; below = λ q l m. absurd (omega arith); here = λ l. e }

module _ (a : Automaton) (P : ℕ → Type 0) (test : ℕ → Bool) (t : (q : ℕ) → q < a.states → Tells (test q) (P q)) where
  abbrev low : ℕ
  low = lowest test 0 a.states

  pub fault_found : low < a.states → LowestAtFault a P low
  fault_found l =
      let x = lowest_is test 0 a.states in
      record { low = l; fault = told_false (t low l) (x.here (omega arith)); below = λ q m. told_true (t q (omega arith)) (x.below q (omega arith) m) }

  pub none_found : (low < a.states → ⊥) → EveryState a P
  none_found h q l = let x = lowest_is test 0 a.states in told_true (t q l) (x.below q (omega arith) (omega (arith, h)))

  pub fault_there : (s : ℕ) → LowestAtFault a P s → low ≡ s
  fault_there s f = elim (dec_lt low s) [
    | yes l ↦ absurd (told_false (t low (omega (arith, f.low))) (x.here (omega (arith, f.low))) (f.below low l))
    | no l ↦ elim (dec_lt s low) [ yes m ↦ absurd (f.fault (told_true (t s f.low) (x.below s (omega arith) m))) | no m ↦ omega arith ]
  ]
    where
      x : LowestIs test 0 a.states low
      x = lowest_is test 0 a.states

  pub none_there : EveryState a P → low < a.states → ⊥
  none_there h l = let x = lowest_is test 0 a.states in told_false (t low l) (x.here (omega arith)) (h low l)

-- ---- a scan of n states, at state s

module _ (test : ℕ → Bool) (s n : ℕ) where
  pub scan_starts : lowest test 0 n ≡ lowest test 0 (n - 0)
  scan_starts = let z : n ≡ n - 0 = omega arith in ap (lowest test 0) z

  on : s < n → lowest test s (n - s) ≡ cond (test s) (lowest test (s + 1) (n - (s + 1))) s
  unfolding lowest
  on l = let z : n - s ≡ suc (n - (s + 1)) = omega arith in ap (lowest test s) z

  pub scan_passes : s < n → test s ≡ true → lowest test s (n - s) ≡ lowest test (s + 1) (n - (s + 1))
  scan_passes l t = on l ∙ ap (λ (b : Bool). cond b (lowest test (s + 1) (n - (s + 1))) s) t

  pub scan_stops : s < n → test s ≡ false → lowest test s (n - s) ≡ s
  scan_stops l t = on l ∙ ap (λ (b : Bool). cond b (lowest test (s + 1) (n - (s + 1))) s) t

  pub scan_ends : (s < n → ⊥) → lowest test s (n - s) ≡ s
  unfolding lowest
  scan_ends h = let z : n - s ≡ 0 = omega (arith, h) in ap (lowest test s) z

-- ---- `find` over the numbers below n, for one that fails the test

module _ (test : ℕ → Bool) (n : ℕ) where
  abbrev Passed : ℕ → Type 0
  Passed i = (k : ℕ) → k < i → test k ≡ true

  found : (i : ℕ) → i < n → test i ≡ false → Passed i → i ≡ lowest test 0 n
  found i l here below =
      let x = lowest_is test 0 n in elim (dec_lt i (lowest test 0 n)) [
        | yes m ↦ absurd (clash (sym (x.below i (omega arith) m) ∙ here))
        | no m ↦ elim (dec_lt (lowest test 0 n) i) [ yes k ↦ absurd (clash (sym (below (lowest test 0 n) k) ∙ x.here (omega arith))) | no k ↦ omega arith ]
      ]

  none : Passed n → n ≡ lowest test 0 n
  none h =
      let x = lowest_is test 0 n in
      elim (dec_lt (lowest test 0 n) n) [ yes l ↦ absurd (clash (sym (h (lowest test 0 n) l) ∙ x.here (omega arith))) | no l ↦ omega (arith, x.high) ]

pub lowest_by_find : {F : Type 0} {g : Mut F (Bor ℕ × Unit {0}) Bool} (s u : Range ℕ) (f : F) (r : Option ℕ) (test : ℕ → Bool) → s.start ≡ 0
    → (xs : List ℕ) × (j : F) × YieldsThen nat_range_steps s xs r u × FoldsTo (λ p x q. CalledAt g p x false q) f xs j × MatchOption r (Unit {0}) (λ x. (h : F) × CalledAt g j x true h)
    → ((x : ℕ) (q : F) → CalledAt g f x true q → test x ≡ false) → ((x : ℕ) (q : F) → CalledAt g f x false q → (q ≡ f) × (test x ≡ true))
    → MatchOption r (s.end ≡ lowest test 0 s.end) (λ i. (i < s.end) × (i ≡ lowest test 0 s.end))
lowest_by_find s u f r test z d p q = by r (first_from_Range s u f r (λ k. test k ≡ false) (λ k. test k ≡ true) d p q)
  where
    by : (o : Option ℕ) → MatchOption o ((k : ℕ) → s.start ≤ k → k < s.end → test k ≡ true) (λ i. (s.start ≤ i) × (i < s.end) × (test i ≡ false) × ((k : ℕ) → s.start ≤ k → k < i → test k ≡ true))
        → MatchOption o (s.end ≡ lowest test 0 s.end) (λ i. (i < s.end) × (i ≡ lowest test 0 s.end))
    by None h = none test s.end (λ k l. h k (omega arith) l)
    by (Some i) h = (h.1, found test s.end i h.1 h.2 (λ k l. h.3 k (omega arith) l))
