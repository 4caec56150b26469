-- What `any` and `all` over a range of numbers answer, said of the numbers in it.
use Rattle.std.specs.Prelude.{◌≡◌, refl, Bool, true, false, MatchBool, MatchOption, List, Option, ℕ, ◌+◌, ◌-◌, ◌≤◌, ◌<◌, length}
use Rattle.std.specs.List.{FoldsTo, AllWithin, HoldsAt, range_with_len}
use Rattle.std.specs.Fn.{Called}
use Rattle.std.specs.Iterator.{YieldsThen}
use Rattle.std.proofs.Common.{subst, arith}
use Rattle.std.specs.declared.ops.Range.{Range}
use Rattle.std.proofs.iter.Yields.{nat_range_steps}
use Rattle.std.proofs.lemmas.Iterator.{YieldsList-from_range, cases_from_any, cases_from_all}
use Rattle.std.proofs.lemmas.List.FromFn.{length-range_with_len, get_or-range_with_len}
use denote.Param.Members.{Mut}
use Rattle.basis.specs.Inner.Tells.{Tells, holds, fails}

module _ (a b : ℕ) where
  abbrev items : List ℕ
  items = range_with_len a (b - a)

  one : (P : ℕ → Type 0) → (k : ℕ) × (k < length items) × HoldsAt P items k → (k : ℕ) × (a ≤ k) × (k < b) × P k
  one P (k, l, h) =
      let m : k < b - a = omega (arith, length-range_with_len a (b - a)) in
      (a + k, omega arith, omega arith, subst P (get_or-range_with_len a (b - a) k 0 m) (h 0))

  each : (P : ℕ → Type 0) → AllWithin P items 0 (length items) → (k : ℕ) → a ≤ k → k < b → P k
  each P h k l m =
      let e : a + (k - a) ≡ k = omega arith in
      subst P e (subst P (get_or-range_with_len a (b - a) (k - a) 0 (omega arith)) (h (k - a) 0 (omega arith) (omega (arith, length-range_with_len a (b - a)))))

module _ {F : Type 0} {g : Mut F (ℕ × Unit {0}) Bool} (s u : Range ℕ) (f : F) (r : Bool) (Yes No : ℕ → Type 0) where
  pub any_from_Range : (xs : List ℕ) × (o : Option ℕ) × (j : F) × YieldsThen nat_range_steps s xs o u × FoldsTo (λ p x q. Called g p (x, tt) false q) f xs j × MatchOption o (r ≡ false) (λ x. (r ≡ true) × ((h : F) × Called g j (x, tt) true h))
      → ((x : ℕ) (q : F) → Called g f (x, tt) true q → Yes x) → ((x : ℕ) (q : F) → Called g f (x, tt) false q → (q ≡ f) × No x)
      → MatchBool r ((k : ℕ) × (s.start ≤ k) × (k < s.end) × Yes k) ((k : ℕ) → s.start ≤ k → k < s.end → No k)
  any_from_Range d p q = by r (cases_from_any u f r Yes No d (YieldsList-from_range s.start s.end _ refl refl) p q)
    where
      by : (b : Bool) → MatchBool b ((k : ℕ) × (k < length (items s.start s.end)) × HoldsAt Yes (items s.start s.end) k) (AllWithin No (items s.start s.end) 0 (length (items s.start s.end)))
          → MatchBool b ((k : ℕ) × (s.start ≤ k) × (k < s.end) × Yes k) ((k : ℕ) → s.start ≤ k → k < s.end → No k)
      by true h = one s.start s.end Yes h
      by false h = each s.start s.end No h

  pub all_from_Range : (xs : List ℕ) × (o : Option ℕ) × (j : F) × YieldsThen nat_range_steps s xs o u × FoldsTo (λ p x q. Called g p (x, tt) true q) f xs j × MatchOption o (r ≡ true) (λ x. (r ≡ false) × ((h : F) × Called g j (x, tt) false h))
      → ((x : ℕ) (q : F) → Called g f (x, tt) true q → (q ≡ f) × Yes x) → ((x : ℕ) (q : F) → Called g f (x, tt) false q → No x)
      → MatchBool r ((k : ℕ) → s.start ≤ k → k < s.end → Yes k) ((k : ℕ) × (s.start ≤ k) × (k < s.end) × No k)
  all_from_Range d p q = by r (cases_from_all u f r Yes No d (YieldsList-from_range s.start s.end _ refl refl) p q)
    where
      by : (b : Bool) → MatchBool b (AllWithin Yes (items s.start s.end) 0 (length (items s.start s.end))) ((k : ℕ) × (k < length (items s.start s.end)) × HoldsAt No (items s.start s.end) k)
          → MatchBool b ((k : ℕ) → s.start ≤ k → k < s.end → Yes k) ((k : ℕ) × (s.start ≤ k) × (k < s.end) × No k)
      by true h = each s.start s.end Yes h
      by false h = one s.start s.end No h

pub told : {A B P : Type 0} (b : Bool) → MatchBool b A B → (A → P) → (B → P → ⊥) → Tells b P
told true m p q = holds (p m)
told false m p q = fails (q m)
