-- What the proofs of numbers 24 to 26 share: answers, scans of all counts, flags at equal places.
use mathlib.Core.Path.{◌≡◌, sym, ap, ◌∙◌, subst}
use mathlib.Core.Bool.{Bool, true, false, cond}
use mathlib.Core.List.{List}
use Prim.Native.Nat.{ℕ, zero, suc, ◌+◌, ◌-◌, ◌*◌, ◌/◌, ◌%◌, ◌≤◌, ◌<◌}
use native.Mathlib.Omega.{arith}
use native.Mathlib.Decide.{ℕ_discrete}
use borrow.Author.Tests.{lt-ltb, le-ltb}
use Rattle.std.specs.Fn.{Called}
use Rattle.std.specs.Array.{IsFromFnResultFrom, IsFromFnResult}
use denote.Param.Members.{Mut}
use lib.ListN.{get_or}
use Rattle.basis.specs.Tests.{flag}
use Rattle.basis.proofs.Laws.Bools.{clash}
use Rattle.plan.specs.declared.Automaton.{Automaton}
use Rattle.plan.specs.declared.Fault.{Fault}
use Rattle.plan.specs.Verdict.{Verdict, faulty}
use Rattle.plan.specs.Plan.{move, is_final}
use Rattle.automaton.specs.Tests.{at}
use Rattle.automaton.specs.Rules.{ToFinal}
use Rattle.automaton.specs.Number.{lowest, to_final, path_verdict, way_verdict}
use Rattle.automaton.proofs.Laws.Lowest.{none_found}
use Rattle.automaton.proofs.Laws.Decides.{tells_24}
use Rattle.automaton.specs.Inner.Counts.{InRange, MoveOk, Left, Crowd}
use Rattle.automaton.proofs.Laws.OnPaths.{same_on_paths, path_verdict_lem}
use Rattle.automaton_counts.specs.Inner.Emits.{gives, Few, Judged}
use Rattle.automaton_counts.proofs.Laws.Emits.{gives_small, gives_bounded}

-- the flag at a place whose number is known
pub moved : (D : List Bool) {x y : ℕ} {v : Bool} → x ≡ y → flag D x ≡ v → flag D y ≡ v
moved D {x} {y} {v} e h = subst (λ (z : ℕ). flag D z ≡ v) e h

-- a flag that stands and one that does not are two
pub flags_apart : (D : List Bool) {x y : ℕ} → flag D x ≡ true → flag D y ≡ false → x ≡ y → ⊥
flags_apart D h f e = clash (sym h ∙ ap (flag D) e ∙ f)

pub move_ok : (a : Automaton) → InRange a → (i : ℕ) → i < a.count → MoveOk 64 (move a i)
move_ok a ok i l =
    let k = ok.moves i l in
    record { from = omega (arith, k.from, ok.states); to = omega (arith, k.to, ok.states); input = k.input; output = k.output }

-- ---- 24, then 25 and 26

module _ (a : Automaton) (em : List ℕ) (ok : InRange a) (few : Few em) where
  abbrev low : ℕ
  low = lowest (flag (to_final a)) 0 a.states

  pub way_stops : (s : ℕ) → s ≡ low → s < a.states → faulty Fault.NoWayToFinal s ≡ way_verdict a (gives em)
  unfolding way_verdict
  way_stops s e l =
      ap (faulty Fault.NoWayToFinal) e ∙
      sym (ap (λ (b : Bool). cond b (faulty Fault.NoWayToFinal low) (path_verdict a (gives em))) (lt-ltb low a.states (subst (λ (q : ℕ). q < a.states) e l)))

  pub way_goes : (s : ℕ) → s ≡ low → (s < a.states → ⊥) → (v : Verdict) → Judged a em v → v ≡ way_verdict a (gives em)
  unfolding way_verdict
  way_goes s e n v j =
      let ways = none_found a (ToFinal a) (flag (to_final a)) (tells_24 a ok) (λ l. n (omega arith)) in
      same_on_paths (j ways) (path_verdict_lem a (gives em) ok (gives_small a em few) (gives_bounded a em) ways) ∙
      sym (ap (λ (b : Bool). cond b (faulty Fault.NoWayToFinal low) (path_verdict a (gives em))) (le-ltb low a.states (omega (arith, n))))

-- ---- scans of all counts

pub crowd_at : (R : List Bool) (C : List ℕ) (k : ℕ) → k < 1024 → flag R (k / 16) ≡ true → 8 < at C k → Crowd R C
crowd_at R C k l r h =
    let e : 16 * (k / 16) + k % 16 ≡ k = omega arith in
    record { state = k / 16; low = omega arith; event = k % 16; named = omega arith; reached = r; many = omega (arith, ap (at C) e) }

pub no_crowd : (R : List Bool) (C : List ℕ) → ((j : ℕ) → j < 1024 → flag R (j / 16) ≡ true → at C j ≤ 8) → Crowd R C → ⊥
no_crowd R C h c =
    let e : c.state ≡ (16 * c.state + c.event) / 16 = omega (arith, c.named) in
    omega (arith, c.many, h (16 * c.state + c.event) (omega (arith, c.low, c.named)) (subst (λ (s : ℕ). flag R s ≡ true) e c.reached))

pub left_at : (a : Automaton) (R : List Bool) (C : List ℕ) (k : ℕ) → k < 1024 → flag R (k / 16) ≡ true → is_final a (k / 16) ≡ true → 0 < at C k → Left a R C
left_at a R C k l r f h =
    let e : 16 * (k / 16) + k % 16 ≡ k = omega arith in
    record { state = k / 16; low = omega arith; event = k % 16; named = omega arith; reached = r; final = f; some = omega (arith, ap (at C) e) }

pub no_left : (a : Automaton) (R : List Bool) (C : List ℕ) → ((j : ℕ) → j < 1024 → flag R (j / 16) ≡ true → is_final a (j / 16) ≡ true → at C j ≡ 0) → Left a R C → ⊥
no_left a R C h c =
    let e : c.state ≡ (16 * c.state + c.event) / 16 = omega (arith, c.named) in
    omega (arith, c.some, h (16 * c.state + c.event) (omega (arith, c.low, c.named)) (subst (λ (s : ℕ). flag R s ≡ true) e c.reached) (subst (λ (s : ℕ). is_final a s ≡ true) e c.final))

-- ---- what `from_fn` made

each_same : {F B : Type 0} (g : Mut F (ℕ × Unit {0}) B) (f : F) (h : ℕ → B) → ((i : ℕ) (y : B) (q : F) → Called g f (i, tt) y q → (q ≡ f) × (y ≡ h i))
    → (ys : List B) (i n : ℕ) → IsFromFnResultFrom g f ys i n → (k : ℕ) → k < n → (d : B) → get_or ys (i + k) d ≡ h (i + k)
each_same g f h r ys i zero w k l d = absurd (omega arith)
each_same {F} {B} g f h r ys i (suc n) (q, y, at, called, rest) k l d = elim (ℕ_discrete k 0) [
  | yes z ↦ let e : i ≡ i + k = omega arith in rw (← e) (at.1 d ∙ (r i y q called).1)
  | no z ↦
      let e : i + 1 + (k - 1) ≡ i + k = omega (arith, z) in
      rw e at (each_same g f h r ys (i + 1) n (subst (λ (p : F). IsFromFnResultFrom g p ys (i + 1) n) (r i y q called).0 rest) (k - 1) (omega (arith, z)) d)
]

pub from_fn_gives : {F B : Type 0} {g : Mut F (ℕ × Unit {0}) B} {f : F} {ys : List B} {n : ℕ} → IsFromFnResult g f ys n → (h : ℕ → B) → ((i : ℕ) (y : B) (q : F) → Called g f (i, tt) y q → (q ≡ f) × (y ≡ h i))
    → (k : ℕ) → k < n → (d : B) → get_or ys k d ≡ h k
from_fn_gives {F} {B} {g} {f} {ys} {n} m h r k l d =
    let e : 0 + k ≡ k = omega arith in
    rw e at (each_same g f h r ys 0 n m.each k l d)
