-- The tests of one state tell what the rules say: numbers 21, 22 and 23, and the transition that an outcome takes.
use Rattle.std.specs.Option.{is_some}
use Rattle.std.specs.Prelude.{◌≡◌, true, false, not, cond, ◌&&◌, eqb, Option, None, Some}
use Rattle.std.proofs.Math.Path.{refl}
use Rattle.std.proofs.Common.{sym, ap, ◌∙◌, subst, arith, eqb-true}
use Rattle.std.proofs.Math.Bool.{Bool}
use Prim.Native.Nat.{ℕ, zero, suc, ◌+◌, ◌≤◌, ◌<◌}
use Rattle.std.proofs.Math.Decide.{ℕ_discrete, dec_lt}
use Rattle.std.proofs.lemmas.Bool.{eqb-false}
use Rattle.basis.specs.Parts.{part}
use Rattle.basis.proofs.Laws.Tells.{tells_not, told_true, told_false, tells, tells_eqb, tells_and}
use Rattle.basis.specs.Inner.Tells.{Tells, holds, fails}
use Rattle.basis.proofs.Laws.Bools.{clash, and_left, and_right}
use Rattle.plan.specs.declared.Input.{Input}
use Rattle.plan.specs.declared.Automaton.{Automaton}
use Rattle.plan.specs.Plan.{past_move, move, is_final}
use Rattle.automaton.specs.declared.Next.{Next}
use Rattle.automaton.specs.Tests.{all}
use Rattle.automaton.specs.Rules.{Leaves, Processes, NoWayOut, Branch, Branches, Serves}
use Rattle.automaton.specs.Next.{first_of, carries, chosen_from, chosen_of}
use Rattle.automaton.specs.Number.{is_ended, no_way_out, apart, apart_from, branches_in, branches, serves_next, serves}
use Rattle.automaton.proofs.Laws.Cases.{unlike, same_event, same_outcome}
use Rattle.automaton.proofs.Laws.Tests.{all_tells}
use Rattle.automaton.proofs.Laws.Ways.{FirstIs, ended, goes, waits, first-is}

-- ---- the transition that an outcome takes

pub data ChosenIs (a : Automaton) (s e o : ℕ) : Option ℕ → Type 0 where
  nothing : (Processes a s e o → ⊥) → ChosenIs a s e o None
  moves : {i : ℕ} → Leaves a s i → (move a i).input ≡ Input.Outcome e o → ChosenIs a s e o (Some i)

pub tells_carries : (n : Input) (e o : ℕ) → Tells (carries n e o) (n ≡ Input.Outcome e o)
tells_carries Input.Nothing e o = fails unlike
tells_carries (Input.Outcome f q) e o =
    tells (eqb f e && eqb q o)
    (λ h. let x = eqb-true f e (and_left (eqb f e) (eqb q o) h) in let y = eqb-true q o (and_right (eqb f e) (eqb q o) h) in cc)
    (λ h k. told_false (tells_and (tells_eqb f e) (tells_eqb q o)) h (same_event k, same_outcome k))

module _ (a : Automaton) (s e o : ℕ) where
  chosen_from_lem : (k i : ℕ) → i + k ≡ a.count → ((j : ℕ) → j < i → Leaves a s j → (move a j).input ≡ Input.Outcome e o → ⊥)
      → ChosenIs a s e o (chosen_from (part past_move a.moves i k) s e o i)
  unfolding chosen_from
  chosen_from_lem zero i h old = nothing (λ x. old x.index (omega (arith, x.leaves.low)) x.leaves x.input)
  chosen_from_lem (suc k) i h old = go (eqb (move a i).from s && carries (move a i).input e o) refl (λ ne. chosen_from_lem k (i + 1) (omega arith) (further ne))
    where
      rest : Option ℕ
      rest = chosen_from (part past_move a.moves (i + 1) k) s e o (i + 1)

      test : Tells (eqb (move a i).from s && carries (move a i).input e o) (((move a i).from ≡ s) × ((move a i).input ≡ Input.Outcome e o))
      test = tells_and (tells_eqb (move a i).from s) (tells_carries (move a i).input e o)

      further : (((move a i).from ≡ s) × ((move a i).input ≡ Input.Outcome e o) → ⊥) → (j : ℕ) → j < i + 1 → Leaves a s j → (move a j).input ≡ Input.Outcome e o → ⊥
      further ne j l x y = elim (ℕ_discrete j i) [
        | yes z ↦ ne (ap (λ (n : ℕ). (move a n).from) (sym z) ∙ x.from, ap (λ (n : ℕ). (move a n).input) (sym z) ∙ y)
        | no z ↦ old j (omega (arith, z)) x y
      ]

      go : (b : Bool) → (eqb (move a i).from s && carries (move a i).input e o) ≡ b
          → ((((move a i).from ≡ s) × ((move a i).input ≡ Input.Outcome e o) → ⊥) → ChosenIs a s e o rest) → ChosenIs a s e o (cond b (Some i) rest)
      go true y rec = let x = told_true test y in moves {i = i} (record { low = omega (arith, h); from = x.0 }) x.1
      go false y rec = rec (told_false test y)

  pub chosen_is : ChosenIs a s e o (chosen_of a s e o)
  chosen_is = chosen_from_lem a.count 0 (omega arith) (λ j l. absurd (omega arith))

  tells_move : Tells (is_some (chosen_of a s e o)) (Processes a s e o)
  tells_move = go (chosen_of a s e o) chosen_is
    where
      go : (c : Option ℕ) → ChosenIs a s e o c → Tells (is_some c) (Processes a s e o)
      go None (nothing h) = fails h
      go (Some i) (moves l h) = holds (record { index = i; leaves = l; input = h })

-- ---- 21

pub tells_21 : (a : Automaton) (s : ℕ) → Tells (no_way_out a s) (NoWayOut a s)
unfolding no_way_out
tells_21 a s = go (is_final a s) refl (first_of a s) (first-is a s)
  where
    go : (b : Bool) → is_final a s ≡ b → (n : Next) → FirstIs a s n → Tells (cond b (is_ended n) true) (NoWayOut a s)
    go true f Next.Ended (ended h) = holds (λ z. h)
    go true f (Next.Goes i) (goes l h) = fails (λ z. z f i l)
    go true f (Next.Waits e) (waits o x) = fails (λ z. z f x.index x.leaves)
    go false f n h = holds (λ z. clash (sym z ∙ f))

-- ---- 22

pub tells_apart : (m n : Input) → Tells (apart m n) (Branch m n)
tells_apart Input.Nothing n = fails (λ b. unlike b.first)
tells_apart (Input.Outcome e o) Input.Nothing = fails (λ b. unlike b.second)
tells_apart (Input.Outcome e o) (Input.Outcome f q) =
    tells (eqb e f && not (eqb o q))
    (λ h. let x = told_true test h in record { event = e; one = o; other = q; first = refl; second = ap (λ (g : ℕ). Input.Outcome g q) (sym x.0); differ = x.1 })
    (λ h b. told_false test h (same_event b.first ∙ sym (same_event b.second), λ z. b.differ (sym (same_outcome b.first) ∙ z ∙ same_outcome b.second)))
  where
    test : Tells (eqb e f && not (eqb o q)) ((e ≡ f) × (o ≡ q → ⊥))
    test = tells_and (tells_eqb e f) (tells_not (tells_eqb o q))

swapped : {m n : Input} → Branch m n → Branch n m
swapped b = record { event = b.event; one = b.other; other = b.one; first = b.second; second = b.first; differ = λ z. b.differ (sym z) }

module _ (a : Automaton) (s : ℕ) where
  -- what holds at i, if i leaves s, and at all later transitions of s, holds from i on
  from_here : (P : ℕ → Type 0) (i : ℕ) → (Leaves a s i → P i) → ((v : ℕ) → i + 1 ≤ v → Leaves a s v → P v) → (v : ℕ) → i ≤ v → Leaves a s v → P v
  from_here P i here later v l h = elim (ℕ_discrete v i) [ yes e ↦ subst P (sym e) (here (subst (Leaves a s) e h)) | no ne ↦ later v (omega (arith, ne)) h ]

  abbrev ApartFrom : Input → ℕ → Type 0
  ApartFrom m i = (v : ℕ) → i ≤ v → Leaves a s v → Branch m (move a v).input

  apart_from_lem : (m : Input) (k i : ℕ) → i + k ≡ a.count → Tells (apart_from m (part past_move a.moves i k) s) (ApartFrom m i)
  unfolding apart_from
  apart_from_lem m zero i h = holds (λ v l x. absurd (omega (arith, x.low)))
  apart_from_lem m (suc k) i h = go (eqb (move a i).from s) refl (apart_from_lem m k (i + 1) (omega arith))
    where
      rest : Bool
      rest = apart_from m (part past_move a.moves (i + 1) k) s

      go : (b : Bool) → eqb (move a i).from s ≡ b → Tells rest (ApartFrom m (i + 1)) → Tells (cond b (apart m (move a i).input && rest) rest) (ApartFrom m i)
      go true e t =
          let test = tells_and (tells_apart m (move a i).input) t in
          tells (apart m (move a i).input && rest)
          (λ x. let y = told_true test x in from_here (λ v. Branch m (move a v).input) i (λ l. y.0) y.1)
          (λ x y. told_false test x (y i (omega arith) (record { low = omega arith; from = eqb-true (move a i).from s e }), λ v l. y v (omega arith)))
      go false e t =
          tells rest
          (λ x. from_here (λ v. Branch m (move a v).input) i (λ l. absurd (eqb-false (move a i).from s e l.from)) (told_true t x))
          (λ x y. told_false t x (λ v l. y v (omega arith)))

  abbrev BranchesFrom : ℕ → Type 0
  BranchesFrom i = (u : ℕ) → i ≤ u → Leaves a s u → ApartFrom (move a u).input (u + 1)

  branches_from : (k i : ℕ) → i + k ≡ a.count → Tells (branches_in (part past_move a.moves i k) s) (BranchesFrom i)
  unfolding branches_in
  branches_from zero i h = holds (λ u l x. absurd (omega (arith, x.low)))
  branches_from (suc k) i h = go (eqb (move a i).from s) refl (branches_from k (i + 1) (omega arith))
    where
      rest : Bool
      rest = branches_in (part past_move a.moves (i + 1) k) s

      mine : Bool
      mine = apart_from (move a i).input (part past_move a.moves (i + 1) k) s

      go : (b : Bool) → eqb (move a i).from s ≡ b → Tells rest (BranchesFrom (i + 1)) → Tells (cond b (mine && rest) rest) (BranchesFrom i)
      go true e t =
          let test = tells_and (apart_from_lem (move a i).input k (i + 1) (omega arith)) t in
          tells (mine && rest)
          (λ x. let y = told_true test x in from_here (λ u. ApartFrom (move a u).input (u + 1)) i (λ l. y.0) y.1)
          (λ x y. told_false test x (y i (omega arith) (record { low = omega arith; from = eqb-true (move a i).from s e }), λ v l. y v (omega arith)))
      go false e t =
          tells rest
          (λ x. from_here (λ u. ApartFrom (move a u).input (u + 1)) i (λ l. absurd (eqb-false (move a i).from s e l.from)) (told_true t x))
          (λ x y. told_false t x (λ v l. y v (omega arith)))

  pub tells_22 : Tells (branches a s) (Branches a s)
  tells_22 = tells (branches a s) (λ x. any (told_true test x)) (λ x y. told_false test x (λ u l h v m g. y u v h g (λ z. omega arith)))
    where
      test : Tells (branches a s) (BranchesFrom 0)
      test = branches_from a.count 0 (omega arith)

      any : BranchesFrom 0 → Branches a s
      any h i j x y ne = elim (dec_lt i j) [ yes l ↦ h i (omega arith) x j (omega arith) y | no l ↦ swapped (h j (omega arith) y i (omega (arith, ne)) x) ]

-- ---- 23

-- all transitions of a state process one event
pub one_event : (a : Automaton) (s : ℕ) → Branches a s → {e o f q : ℕ} → Processes a s e o → Processes a s f q → e ≡ f
one_event a s branches x y = elim (ℕ_discrete x.index y.index) [
  | yes z ↦ same_event (sym x.input ∙ ap (λ (n : ℕ). (move a n).input) z ∙ y.input)
  | no z ↦
      let b = branches x.index y.index x.leaves y.leaves z in
      same_event (sym x.input ∙ b.first) ∙ sym (same_event (sym y.input ∙ b.second))
]

pub tells_23 : (a : Automaton) (outcomes : ℕ → ℕ) (s : ℕ) → Branches a s → Tells (serves a outcomes s) (Serves a outcomes s)
unfolding serves
tells_23 a outcomes s branches = go (first_of a s) (first-is a s)
  where
    -- a state that has a transition without an event processes none
    free : (i : ℕ) → Leaves a s i → (move a i).input ≡ Input.Nothing → (e o : ℕ) → Processes a s e o → ⊥
    free i l h e o x = elim (ℕ_discrete i x.index) [
      | yes z ↦ unlike (sym h ∙ ap (λ (n : ℕ). (move a n).input) z ∙ x.input)
      | no z ↦ unlike (sym h ∙ (branches i x.index l x.leaves z).first)
    ]

    go : (n : Next) → FirstIs a s n → Tells (serves_next a outcomes s n) (Serves a outcomes s)
    go Next.Ended (ended h) = holds (λ e o x. absurd (h x.index x.leaves))
    go (Next.Goes i) (goes l h) = holds (λ e o x. absurd (free i l h e o x))
    go (Next.Waits e) (waits o x) =
        let test = all_tells (outcomes e) (λ q. is_some (chosen_of a s e q)) (λ q. Processes a s e q) (λ q l. tells_move a s e q) in
        tells (all (outcomes e) (λ q. is_some (chosen_of a s e q)))
        (λ h f u y q l. let z = one_event a s branches x y in subst (λ (g : ℕ). Processes a s g q) z (told_true test h q (subst (λ (g : ℕ). q < outcomes g) (sym z) l)))
        (λ h y. told_false test h (λ q l. y e o x q l))
