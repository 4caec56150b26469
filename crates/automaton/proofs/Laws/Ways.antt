-- The ways out of a state are the transitions that leave it, each once, in file order; what their first says, and what the state does
-- next. Assumes nothing.
use Rattle.std.specs.Prelude.{◌≡◌, Bool, true, false, eqb}
use Rattle.std.proofs.Math.Path.{refl}
use Rattle.std.proofs.Common.{sym, ap, ◌∙◌, arith, eqb-true}
use mathlib.Core.List.{List, [], ◌∷◌}
use Prim.Native.Nat.{ℕ, zero, suc, ◌+◌, ◌≤◌, ◌<◌}
use Rattle.std.proofs.Math.Decide.{ℕ_discrete, dec_lt}
use Rattle.std.proofs.lemmas.Bool.{eqb-false}
use Rattle.basis.specs.Parts.{part}
use Rattle.plan.specs.declared.Input.{Input}
use Rattle.plan.specs.declared.Automaton.{Automaton}
use Rattle.plan.specs.Plan.{past_move, move}
use Rattle.automaton.specs.declared.Next.{Next}
use Rattle.automaton.specs.Rules.{Leaves, Processes}
use Rattle.automaton.specs.Next.{added, ways_from, ways_out, on_input, first_by, first_of, next_by, next_of}

-- those from number i on
pub data Ways (a : Automaton) (s : ℕ) : ℕ → List ℕ → Type 0 where
  none : {i : ℕ} → ((j : ℕ) → i ≤ j → Leaves a s j → ⊥) → Ways a s i []
  more : {i t : ℕ} {ts : List ℕ} → Leaves a s t → i ≤ t → ((j : ℕ) → i ≤ j → j < t → Leaves a s j → ⊥) → Ways a s (t + 1) ts → Ways a s i (t ∷ ts)

-- nothing leaves it; or one of its transitions needs no event; or one awaits e
pub data FirstIs (a : Automaton) (s : ℕ) : Next → Type 0 where
  ended : ((i : ℕ) → Leaves a s i → ⊥) → FirstIs a s Next.Ended
  goes : {i : ℕ} → Leaves a s i → (move a i).input ≡ Input.Nothing → FirstIs a s (Next.Goes i)
  waits : {e : ℕ} (o : ℕ) → Processes a s e o → FirstIs a s (Next.Waits e)

-- another transition than t leaves it
pub record Another (a : Automaton) (s t : ℕ) : Type 0 where
  pub index : ℕ
  pub leaves : Leaves a s index
  pub other : index ≡ t → ⊥

pub data NextIs (a : Automaton) (s : ℕ) : Next → Type 0 where
  ended : ((i : ℕ) → Leaves a s i → ⊥) → NextIs a s Next.Ended
  alone : {i : ℕ} → Leaves a s i → ((j : ℕ) → Leaves a s j → j ≡ i) → NextIs a s (Next.Goes i)
  -- made-up plans alone: several leave it, and the first processes nothing
  silent : {i : ℕ} → Leaves a s i → (move a i).input ≡ Input.Nothing → Another a s i → NextIs a s (Next.Goes i)
  waits : {e : ℕ} (o : ℕ) (x : Processes a s e o) → Another a s x.index → NextIs a s (Next.Waits e)

module _ (a : Automaton) (s : ℕ) where
  -- a transition that does not leave s is no way out
  skips : (i : ℕ) → ((move a i).from ≡ s → ⊥) → (j : ℕ) → i ≤ j → Leaves a s j → i + 1 ≤ j
  skips i ne j l x = elim (ℕ_discrete j i) [ yes e ↦ absurd (ne (ap (λ (k : ℕ). (move a k).from) (sym e) ∙ x.from)) | no d ↦ omega (arith, d) ]

  passed : (i : ℕ) (ts : List ℕ) → ((move a i).from ≡ s → ⊥) → Ways a s (i + 1) ts → Ways a s i ts
  passed i [] ne (none h) = none (λ j l x. h j (skips i ne j l x) x)
  passed i (t ∷ ts) ne (more l m h w) = more {i = i} l (omega arith) (λ j k u x. h j (skips i ne j k x) u x) w

  ways_from_lem : (k i : ℕ) → i + k ≡ a.count → Ways a s i (ways_from (part past_move a.moves i k) s i)
  unfolding ways_from
  ways_from_lem zero i h = none {i = i} (λ j l x. let u = x.low in omega arith)
  ways_from_lem (suc k) i h = go (eqb (move a i).from s) refl (ways_from_lem k (i + 1) (omega arith))
    where
      rest : List ℕ
      rest = ways_from (part past_move a.moves (i + 1) k) s (i + 1)

      go : (b : Bool) → eqb (move a i).from s ≡ b → Ways a s (i + 1) rest → Ways a s i (added b i rest)
      go true e w = more {i = i} {t = i} (record { low = omega arith; from = eqb-true (move a i).from s e }) (omega arith) (λ j l m x. omega arith) w
      go false e w = passed i rest (eqb-false (move a i).from s e) w

  pub ways_out_lem : Ways a s 0 (ways_out a s)
  ways_out_lem = ways_from_lem a.count 0 (omega arith)

  -- ---- what the first says

  first_by_lem : (ts : List ℕ) → Ways a s 0 ts → FirstIs a s (first_by a ts)
  first_by_lem [] (none h) = ended (λ j l. h j (omega arith) l)
  first_by_lem (t ∷ ts) (more l m h w) = on (move a t).input refl
    where
      on : (n : Input) → (move a t).input ≡ n → FirstIs a s (on_input n t)
      on Input.Nothing e = goes l e
      on (Input.Outcome e o) q = waits o (record { index = t; leaves = l; input = q })

  pub first-is : FirstIs a s (first_of a s)
  first-is = first_by_lem (ways_out a s) ways_out_lem

  -- ---- what the state does next

  next_by_lem : (ts : List ℕ) → Ways a s 0 ts → NextIs a s (next_by a ts)
  next_by_lem [] (none h) = ended (λ j l. h j (omega arith) l)
  next_by_lem (t ∷ []) (more l m h (none n)) = alone l lone
    where
      lone : (j : ℕ) → Leaves a s j → j ≡ t
      lone j x = elim (ℕ_discrete j t) [ yes e ↦ e | no ne ↦ elim (dec_lt j t) [ yes u ↦ absurd (h j (omega arith) u x) | no u ↦ absurd (n j (omega (arith, ne, u)) x) ] ]
  next_by_lem (t ∷ u ∷ ts) (more l m h (more k n g w)) = on (move a t).input refl
    where
      second : Another a s t
      second = record { index = u; leaves = k; other = λ z. omega arith }

      on : (n : Input) → (move a t).input ≡ n → NextIs a s (on_input n t)
      on Input.Nothing e = silent l e second
      on (Input.Outcome e o) q = waits o (record { index = t; leaves = l; input = q }) second

  pub next_is : NextIs a s (next_of a s)
  next_is = next_by_lem (ways_out a s) ways_out_lem
