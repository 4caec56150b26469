-- What is read of each part of what is written is that part: so the description is taken apart, part by part, wherever it
-- speaks of what is written.
use Rattle.std.specs.Prelude.{◌≡◌, Bool, List, [], ◌∷◌, ◌++◌, ℕ, zero, suc, ◌+◌, ◌<◌, get_or, eqb}
use Rattle.std.proofs.Math.Path.{refl, sym}
use Rattle.std.proofs.Common.{◌∙◌, ap, subst, zero-add}
use Rattle.std.proofs.Math.Bool.{true, false}
use Rattle.basis.specs.Parts.{part}
use Rattle.basis.proofs.Laws.PartsHold.{get_d_part}
use Rattle.wire.specs.Number.{present}
use Rattle.wire.proofs.Laws.Fields.{present_none}
use Rattle.wire.specs.Map.{bit}
use Rattle.wire.proofs.Laws.Maps.{bit_map}
use Rattle.format.specs.Format.{◌when◌, Format, done, number, part_of, optional, each, result}
use Rattle.format.proofs.Laws.Format.{result_then, result_step, result_part, read_each}
use Rattle.plan.specs.declared.Kind.{Kind}
use Rattle.plan.specs.declared.Node.{Node}
use Rattle.plan.specs.declared.Input.{Input}
use Rattle.plan.specs.declared.Output.{Output}
use Rattle.plan.specs.declared.Transition.{Transition}
use Rattle.plan.specs.declared.Plan.{Plan}
use Rattle.plan.specs.Plan.{outcomes_of}
use Rattle.plan_file.specs.PlanFile.{outside, kind_place, kind_bits, node_map, rising, duration, arrow_count, kind, input_bit, output_bit, move_map, processing, emitting, transition, resource_count, peripheral_count, its_resource, event_count, its_outcomes, activity_count, section_map}
use Rattle.plan_file.proofs.Laws.Stages.{inputs, move_last}

-- a number that is absent where it is 0
module _ {S : Type 0} (n w below : ℕ) (get : S → ℕ) (s : S) where
  abbrev pub may : Bool → Format S ℕ
  may stands = optional stands 0 (number w get (λ x. n when outside 1 below x))

  pub may_read : (stands : Bool) → stands ≡ present (get s) → result (may stands) s ≡ get s
  unfolding result
  may_read true e = refl
  may_read false e = sym (present_none (get s) (sym e))

pub rising_read : (size i low k : ℕ) (n : Node) → result (rising size i low k) n ≡ part 0 n.preds i k
unfolding result
rising_read size i low zero n = refl
rising_read size i low (suc k) n =
    result_then (rising size (i + 1) (get_or n.preds i 0 + 1) k) (λ more. done (get_or n.preds i 0 ∷ more)) n
    ∙ ap (λ (l : List ℕ). get_or n.preds i 0 ∷ l) (rising_read size (i + 1) (get_or n.preds i 0 + 1) k n)

-- a node
pub node_bit : (n : Node) (i : ℕ) → bit i (node_map n) ≡ get_or (kind_bits n.kind ++ (present n.duration ∷ present n.count ∷ [])) i false
unfolding node_map
node_bit n i = bit_map (kind_bits n.kind ++ (present n.duration ∷ present n.count ∷ [])) i

pub duration_read : (n : Node) → result (duration (node_map n)) n ≡ n.duration
duration_read n = may_read 8 4 60_000_001 (λ n. n.duration) n (bit 4 (node_map n)) (node_bit n 4)

pub count_read : (n : Node) → result (arrow_count (node_map n)) n ≡ n.count
count_read n = may_read 3 1 9 (λ n. n.count) n (bit 5 (node_map n)) (node_bit n 5)

module _ (peripherals resources events : ℕ) where
  -- the fields of a kind
  abbrev pub told : Kind → Format Kind Kind
  told k = kind peripherals resources events (eqb (kind_place k) 0) (eqb (kind_place k) 1) (eqb (kind_place k) 2)

  told_read : (k : Kind) → result (told k) k ≡ k
  unfolding result
  told_read (Kind.Action a x) = refl
  told_read (Kind.Claim r) = refl
  told_read (Kind.Release r) = refl
  told_read (Kind.Event e) = refl

  -- of a node, by its map
  abbrev pub kind_part : ℕ → Format Node Kind
  kind_part m = part_of (λ n. n.kind) (kind peripherals resources events (bit 0 m) (bit 1 m) (bit 2 m))

  pub is_told_lem : (n : Node) → kind_part (node_map n) ≡ part_of (λ n. n.kind) (told n.kind)
  is_told_lem n = same (bit 0 (node_map n)) _ (bit 1 (node_map n)) _ (bit 2 (node_map n)) _ (node_bit n 0) (node_bit n 1) (node_bit n 2)
    where
      same : (a b c d e f : Bool) → a ≡ b → c ≡ d → e ≡ f → part_of (λ (n : Node). n.kind) (kind peripherals resources events a c e) ≡ part_of (λ (n : Node). n.kind) (kind peripherals resources events b d f)
      same a b c d e f g h i = rw (g, h, i)

  pub kind_read : (n : Node) → result (kind_part (node_map n)) n ≡ n.kind
  kind_read n = ap (λ (t : Format Node Kind). result t n) (is_told_lem n) ∙ result_part (λ (n : Node). n.kind) (told n.kind) n ∙ told_read n.kind

-- a transition
pub move_bit : (t : Transition) (i : ℕ) → bit i (move_map t) ≡ get_or (input_bit t.input ∷ output_bit t.output ∷ []) i false
unfolding move_map
move_bit t i = bit_map (input_bit t.input ∷ output_bit t.output ∷ []) i

module _ (events : ℕ) (outcomes : List ℕ) (activities : ℕ) where
  abbrev pub in_part : Bool → Format Transition Input
  in_part stands = optional stands Input.Nothing (processing events outcomes activities)

  abbrev pub out_part : Bool → Format Transition Output
  out_part stands = optional stands Output.Empty (emitting events outcomes activities)

  in_told : (from to : ℕ) (i : Input) (o : Output) → result (in_part (input_bit i)) (record { from = from; to = to; input = i; output = o }) ≡ i
  unfolding result
  in_told from to Input.Nothing o = refl
  in_told from to (Input.Outcome e x) o = refl

  out_told : (from to : ℕ) (i : Input) (o : Output) → result (out_part (output_bit o)) (record { from = from; to = to; input = i; output = o }) ≡ o
  unfolding result
  out_told from to i Output.Empty = refl
  out_told from to i (Output.Activity a) = refl

  module _ (t : Transition) where
    pub in_read : result (in_part (bit 0 (move_map t))) t ≡ t.input
    in_read = subst (λ (u : Bool). result (in_part u) t ≡ t.input) (sym (move_bit t 0)) (in_told t.from t.to t.input t.output)

    pub out_read : result (out_part (bit 1 (move_map t))) t ≡ t.output
    out_read = subst (λ (u : Bool). result (out_part u) t ≡ t.output) (sym (move_bit t 1)) (out_told t.from t.to t.input t.output)

    pub move_read : (states : ℕ) → result (transition events outcomes activities states) t ≡ t
    unfolding result
    move_read states =
        result_step (in_part (bit 0 (move_map t))) (inputs events outcomes activities (move_map t) t.from t.to) t t.input in_read
        ∙ result_step (out_part (bit 1 (move_map t))) (move_last events outcomes activities t.from t.to t.input) t t.output out_read

-- a plan: its counts, its lists
module _ (p : Plan) where
  abbrev m : ℕ
  m = section_map p

  pub at_bit : (i : ℕ) → bit i m ≡ get_or (present p.resources ∷ present p.peripherals ∷ present p.events ∷ present p.activities ∷ true ∷ []) i false
  unfolding section_map
  at_bit i = bit_map (present p.resources ∷ present p.peripherals ∷ present p.events ∷ present p.activities ∷ true ∷ []) i

  pub r0 : result (resource_count m) p ≡ p.resources
  r0 = may_read 3 1 17 (λ p. p.resources) p (bit 0 m) (at_bit 0)

  pub r1 : result (peripheral_count m) p ≡ p.peripherals
  r1 = may_read 3 1 65 (λ p. p.peripherals) p (bit 1 m) (at_bit 1)

  pub r2 : result (event_count m) p ≡ p.events
  r2 = may_read 3 1 17 (λ p. p.events) p (bit 2 m) (at_bit 2)

  pub r3 : result (activity_count m) p ≡ p.activities
  r3 = may_read 3 1 33 (λ p. p.activities) p (bit 3 m) (at_bit 3)

  abbrev pub bs : List ℕ
  bs = part 0 p.belongs 0 p.peripherals

  abbrev pub os : List ℕ
  os = part 0 p.outcomes 0 p.events

  pub outcome_at_lem : (e : ℕ) → e < p.events → get_or os e 0 ≡ outcomes_of p e
  outcome_at_lem e l = get_d_part 0 p.outcomes 0 p.events e l ∙ ap (λ (k : ℕ). outcomes_of p k) (zero-add e)

  pub rb : result (each (its_resource p.resources) 0 p.peripherals) p ≡ bs
  unfolding result
  rb = read_each (its_resource p.resources) p 0 p.belongs (λ j. refl) 0 p.peripherals

  pub ro : result (each its_outcomes 0 p.events) p ≡ os
  unfolding result
  ro = read_each its_outcomes p 0 p.outcomes (λ j. refl) 0 p.events
