-- The passes that specs/Number.antt computes end with all states that have a path to a final one, and with one count of each event at each reached state.
use Rattle.std.specs.Prelude.{◌≡◌, Bool, true, false, not, cond, ◌&&◌, List, eqb, length, set, replicate}
use Rattle.std.proofs.Math.Path.{refl, subst}
use Rattle.std.proofs.Common.{sym, ap, ◌∙◌, eqb-true}
use Prim.Native.Nat.{ℕ, zero, suc, ◌+◌, ◌*◌, ◌≤◌, ◌<◌}
use native.Mathlib.Omega.{arith}
use Rattle.std.proofs.lemmas.Bool.{eqb-false}
use Rattle.std.proofs.lemmas.List.{set-get_or}
use Rattle.basis.specs.Parts.{part}
use Rattle.basis.proofs.Laws.Flags.{falses_length}
use Rattle.basis.proofs.Laws.Lists.{all_same}
use Rattle.basis.specs.Tests.{flag, falses}
use Rattle.basis.specs.Inner.Tells.{Tells, holds}
use Rattle.basis.proofs.Laws.Tells.{told_true, told_false, tells_ltb}
use Rattle.basis.proofs.Laws.Bools.{clash}
use Rattle.plan.specs.declared.Input.{Input}
use Rattle.plan.specs.declared.Output.{Output}
use Rattle.plan.specs.declared.Automaton.{Automaton}
use Rattle.plan.specs.Plan.{past_move, move, moves_of, is_final}
use Rattle.automaton.specs.declared.Explored.{Explored}
use Rattle.automaton.specs.Tests.{at}
use Rattle.automaton.specs.Number.{again, finals_of, pass_back, to_final, is_ready, advanced, is_new, pass_on, outset, explored}
use Rattle.automaton.specs.Inner.Counts.{InRange, Ready, Known}
use Rattle.automaton.proofs.Laws.Counts.{ready_takes}
use Rattle.automaton.specs.Inner.Passes.{Backing, Advanced, Going}
use Rattle.automaton.proofs.Laws.Passes.{BackTo, back_starts, back_stay, back_round, back_store, back_ends, advance_starts, advance_steps, going_starts, going_stays, going_round, going_stores, going_ends}

-- ---- rounds

-- P x y: y is x after a pass. A pass that leaves as much to change has done all.
rounds_done : {X : Type 0} (pass : X → X) (left : X → ℕ) (P : X → X → Type 0) (Q : X → Type 0)
    → ((x y : X) → P x y → left y ≤ left x)
    → ((x y : X) → P x y → P y (pass y))
    → ((x y : X) → P x y → left y ≡ left x → Q y)
    → (n : ℕ) (x y : X) → left x ≤ n → P x y → Q (again pass left n x y)
unfolding again
rounds_done pass left P Q down on done zero x y l p = done x y p (omega (arith, down x y p))
rounds_done {X} pass left P Q down on done (suc n) x y l p =
    go (eqb (left y) (left x)) refl (λ m. rounds_done pass left P Q down on done n y (pass y) m (on x y p))
  where
    go : (b : Bool) → eqb (left y) (left x) ≡ b → (left y ≤ n → Q (again pass left n y (pass y))) → Q (cond b y (again pass left n y (pass y)))
    go true e rec = done x y p (eqb-true (left y) (left x) e)
    go false e rec = rec (omega (arith, down x y p, eqb-false (left y) (left x) e))

-- ---- back from the final states

finals_length : (a : Automaton) (s n : ℕ) → length (finals_of a s n) ≡ n
unfolding finals_of
finals_length a s zero = refl
finals_length a s (suc n) = ap suc (finals_length a (s + 1) n)

finals_at_lem : (a : Automaton) (s n k : ℕ) → k < n → flag (finals_of a s n) k ≡ is_final a (s + k)
unfolding finals_of
finals_at_lem a s zero k l = absurd (omega arith)
finals_at_lem a s (suc n) zero l = let z : s ≡ s + 0 = omega arith in ap (is_final a) z
finals_at_lem a s (suc n) (suc k) l = let z : s + 1 + k ≡ s + suc k = omega arith in finals_at_lem a (s + 1) n k (omega arith) ∙ ap (is_final a) z

module _ (a : Automaton) (ok : InRange a) where
  abbrev Backed : List Bool → ℕ → List Bool → Type 0
  Backed D i E = (ch : Bool) × Backing a D i E ch

  back_step : (D : List Bool) (i : ℕ) (E : List Bool) → i < a.count → Backed D i E → Backed D (i + 1) (cond (flag E (move a i).to) (set E (move a i).from true) E)
  back_step D i E l (ch, b) = go (flag E (move a i).to) refl (flag E (move a i).from) refl
    where
      go : (x : Bool) → flag E (move a i).to ≡ x → (y : Bool) → flag E (move a i).from ≡ y → Backed D (i + 1) (cond x (set E (move a i).from true) E)
      go false t y f = (ch, back_stay a ok D i E ch b (λ h. absurd (clash (sym h ∙ t))))
      go true t true f =
          let same : E ≡ set E (move a i).from true = sym (set-get_or E (move a i).from false) ∙ ap (set E (move a i).from) f in
          (ch, subst (λ (F : List Bool). Backing a D (i + 1) F ch) same (back_stay a ok D i E ch b (λ h. f)))
      go true t false f = (true, back_store a ok D i E ch b l f t)

  back_pass : (D : List Bool) (k i : ℕ) (E : List Bool) → i + k ≡ a.count → Backed D i E → Backed D a.count (pass_back (part past_move a.moves i k) E)
  unfolding pass_back
  back_pass D zero i E h b = let z : i ≡ a.count = omega arith in subst (λ (n : ℕ). Backed D n E) z b
  back_pass D (suc k) i E h b = back_pass D k (i + 1) _ (omega arith) (back_step D i E (omega arith) b)

  pub back_done : BackTo a (to_final a)
  back_done =
      rounds_done (pass_back (moves_of a)) falses (λ D E. Backed D a.count E) (BackTo a)
      (λ D E b. b.1.no_more)
      (λ D E b. back_pass E a.count 0 E (omega arith) (false, back_round a ok D a.count E b.0 b.1))
      finish 64 F (pass_back (moves_of a) F) (omega (arith, falses_length F, finals_length a 0 64))
      (back_pass F a.count 0 F (omega arith) (false, back_starts a F (finals_length a 0 64) (λ s l. let z : 0 + s ≡ s = omega arith in finals_at_lem a 0 64 s l ∙ ap (is_final a) z)))
    where
      F : List Bool
      F = finals_of a 0 64

      finish : (D E : List Bool) → Backed D a.count E → falses E ≡ falses D → BackTo a E
      finish D E (true, b) h = absurd (omega (arith, b.fewer refl))
      finish D E (false, b) h = back_ends a ok D E b

-- ---- on from the initial state

pub tells_ready : (C : List ℕ) (s : ℕ) (n : Input) → Tells (is_ready C s n) (Ready C s n)
tells_ready C s Input.Nothing = holds tt
tells_ready C s (Input.Outcome e o) = tells_ltb 0 (at C (16 * s + e))

-- no transition emits more than 64 of an event
abbrev pub Small : Automaton → (Output → ℕ → ℕ) → Type 0
Small a gives = (i e : ℕ) → i < a.count → gives (move a i).output e ≤ 64

module _ (a : Automaton) (gives : Output → ℕ → ℕ) (ok : InRange a) (small : Small a gives) where
  advances : (i : ℕ) (C : List ℕ) → i < a.count → length C ≡ 1024 → Ready C (move a i).from (move a i).input → (k : ℕ) → k ≤ 16
      → Advanced gives C (move a i).from (move a i).to (move a i).input (move a i).output k (advanced gives C (move a i) k)
  unfolding advanced
  advances i C l c r zero h = advance_starts gives C _ _ _ _ c
  advances i C l c r (suc k) h =
      let z : k + 1 ≡ suc k = omega arith in
      subst (λ (n : ℕ). Advanced gives C (move a i).from (move a i).to (move a i).input (move a i).output n (advanced gives C (move a i) (suc k))) z
      (advance_steps gives C (move a i).from (move a i).to (move a i).input (move a i).output k (advanced gives C (move a i) k) _ _ (omega arith)
      (omega (arith, (ok.moves i l).to, ok.states)) refl refl (ready_takes C (move a i).from (move a i).input k r) (small i k l) (advances i C l c r k (omega arith)))

  abbrev Went : List Bool → ℕ → Explored → Type 0
  Went D i x = (ch : Bool) × Going a gives D i x.reached x.counts ch

  abbrev reach : ℕ → Explored → Explored
  reach i x = record { reached = set x.reached (move a i).to true; counts = advanced gives x.counts (move a i) 16 }

  going_step : (D : List Bool) (i : ℕ) (x : Explored) → i < a.count → Went D i x → Went D (i + 1) (cond (is_new (move a i) x) (reach i x) x)
  going_step D i x l (ch, g) = go (flag x.reached (move a i).from) refl (flag x.reached (move a i).to) refl (is_ready x.counts (move a i).from (move a i).input) refl
    where
      stay : (flag x.reached (move a i).from ≡ true → Ready x.counts (move a i).from (move a i).input → flag x.reached (move a i).to ≡ true) → Went D (i + 1) x
      stay h = (ch, going_stays a gives ok D i x.reached x.counts ch g h)

      go : (u : Bool) → flag x.reached (move a i).from ≡ u → (v : Bool) → flag x.reached (move a i).to ≡ v → (w : Bool) → is_ready x.counts (move a i).from (move a i).input ≡ w
          → Went D (i + 1) (cond (u && (not v && w)) (reach i x) x)
      go false f v t w r = stay (λ h k. absurd (clash (sym h ∙ f)))
      go true f true t w r = stay (λ h k. t)
      go true f false t false r = stay (λ h k. absurd (told_false (tells_ready x.counts (move a i).from (move a i).input) r k))
      go true f false t true r = (
        true,
        going_stores a gives ok D i x.reached x.counts ch g (advanced gives x.counts (move a i) 16) l f t
            (advances i x.counts l g.cells (told_true (tells_ready x.counts (move a i).from (move a i).input) r) 16 (omega arith)),
      )

  going_pass : (D : List Bool) (k i : ℕ) (x : Explored) → i + k ≡ a.count → Went D i x → Went D a.count (pass_on gives (part past_move a.moves i k) x)
  unfolding pass_on
  going_pass D zero i x h g = let z : i ≡ a.count = omega arith in subst (λ (n : ℕ). Went D n x) z g
  going_pass D (suc k) i x h g = going_pass D k (i + 1) _ (omega arith) (going_step D i x (omega arith) g)

  pub explored_known : Known a gives (explored a gives).reached (explored a gives).counts
  explored_known =
      rounds_done (pass_on gives (moves_of a)) (λ x. falses x.reached) (λ x y. Went x.reached a.count y) (λ x. Known a gives x.reached x.counts)
      (λ x y g. g.1.no_more)
      (λ x y g. going_pass y.reached a.count 0 y (omega arith) (false, going_round a gives ok x.reached a.count y.reached y.counts g.0 g.1))
      finish 64 x (pass_on gives (moves_of a) x) (omega (arith, falses_length x.reached, starts.long))
      (going_pass x.reached a.count 0 x (omega arith) (false, starts))
    where
      x : Explored
      x = outset a

      starts : Going a gives x.reached 0 x.reached x.counts false
      starts = going_starts a gives ok (replicate 1024 0) refl (λ k. all_same 1024 k 0)

      finish : (x y : Explored) → Went x.reached a.count y → falses y.reached ≡ falses x.reached → Known a gives y.reached y.counts
      finish x y (true, g) h = absurd (omega (arith, g.fewer refl))
      finish x y (false, g) h = going_ends a gives ok x.reached y.reached y.counts g
