-- What the description asks of a plan: FileRules.
use Rattle.std.proofs.Math.Path.{refl}
use Rattle.std.proofs.Common.{sym, subst}
use Rattle.std.specs.Prelude.{Bool, List, [], ◌∷◌, ◌++◌, ◌↔◌, ℕ, ◌^◌, ◌≤◌, ◌<◌, get_or}
use Rattle.std.proofs.Math.Bool.{true, not}
use Rattle.std.proofs.Math.Nat.{pow-le-pow_right}
use native.Mathlib.Omega.{arith}
use borrow.Author.Tests.{le-leb, lt-ltb}
use Rattle.wire.specs.Number.{present}
use Rattle.wire.specs.Map.{bit}
use Rattle.wire.proofs.Laws.Maps.{map_below}
use Rattle.format.specs.Format.{◌when◌, done, number, ◌>>=◌, part_of, each, Holds, result}
use Rattle.format.proofs.Laws.Format.{then_iff, given_iff, last_iff, part_iff, each_iff}
use Rattle.plan.specs.declared.Input.{Input}
use Rattle.plan.specs.declared.Output.{Output}
use Rattle.plan.specs.declared.Transition.{Transition}
use Rattle.plan.specs.declared.Automaton.{Automaton}
use Rattle.plan.specs.declared.Plan.{Plan}
use Rattle.plan.specs.Plan.{size_of, resource_of, outcomes_of, move}
use Rattle.plan.specs.Limits.{node_at, InputNames, OutputNames, MoveInLimits, NodeInLimits, NodeWritten, FileRules}
use Rattle.plan_file.proofs.Laws.Bits.{no_high_bit, below_power}
use Rattle.plan_file.specs.PlanFile.{fault_order, outside, count, name, node, node_of, node_count, activity, event, outcome, emitted, input_bit, output_bit, move_map, transition, move_of, move_count, final_bits, automaton, resource_count, peripheral_count, its_resource, event_count, its_outcomes, activity_count, section_map, plan_file}
use Rattle.plan_file.proofs.Laws.Basis.{two, three, four}
use Rattle.plan_file.proofs.Laws.Stages.{move_last, inputs, both, end, turns, finally, begun, last, lastly, acting, outcoming, eventing, belonging, having, resourced, mapped}
use Rattle.plan_file.proofs.Laws.Reads.{move_bit, in_part, out_part, in_read, at_bit, r0, r1, r2, r3, bs, os, outcome_at_lem, rb, ro}
use Rattle.plan_file.proofs.Laws.HoldsNode.{bounded, may_iff, named, node_iff}

powers : (i j : ℕ) → i ≤ j → 2 ^ i ≤ 2 ^ j
powers i j h = pow-le-pow_right (omega arith) h

module _ (p : Plan) where
  abbrev X : ℕ
  X = p.peripherals

  abbrev R : ℕ
  R = p.resources

  abbrev E : ℕ
  E = p.events

  abbrev A : ℕ
  A = p.activities

  abbrev O : List ℕ
  O = os p

  abbrev a : Automaton
  a = p.automaton

  -- the automaton
  module _ (pe : E < 17) (po : (e : ℕ) → e < E → (1 ≤ outcomes_of p e) × (outcomes_of p e < 9)) (pa : A < 33) where
    input_iff : (from to : ℕ) (i : Input) (o : Output) → Holds fault_order (in_part E O A (input_bit i)) (record { from = from; to = to; input = i; output = o }) ↔ InputNames p i
    unfolding Holds result
    input_iff from to Input.Nothing o = ((λ h. tt), (λ u. tt))
    input_iff from to (Input.Outcome e x) o =
        let t : Transition = record { from = from; to = to; input = Input.Outcome e x; output = o } in
        then_iff fault_order (name E (λ t. event t.input)) (λ e. name (get_or O e 0) (λ t. outcome t.input) >>= λ o. done (Input.Outcome e o)) t e refl (named E (λ (t : Transition). event t.input) t (omega arith))
        (λ l.
        last_iff fault_order (name (get_or O e 0) (λ t. outcome t.input)) (λ o. done (Input.Outcome e o)) t (λ o. tt)
        (subst (λ (k : ℕ). Holds fault_order (name (get_or O e 0) (λ (t : Transition). outcome t.input)) t ↔ (x < k)) (outcome_at_lem p e l)
        (named (get_or O e 0) (λ (t : Transition). outcome t.input) t (omega (arith, outcome_at_lem p e l, (po e l).1)))))

    output_iff : (from to : ℕ) (i : Input) (o : Output) → Holds fault_order (out_part E O A (output_bit o)) (record { from = from; to = to; input = i; output = o }) ↔ OutputNames p o
    unfolding Holds
    output_iff from to i Output.Empty = ((λ h. tt), (λ u. tt))
    output_iff from to i (Output.Activity n) = named A (λ (t : Transition). emitted t.output) (record { from = from; to = to; input = i; output = Output.Activity n }) (omega arith)

    module _ (small : a.states < 65) (t : Transition) where
      abbrev mt : ℕ
      mt = move_map t

      mt_below : mt < 4
      unfolding move_map
      mt_below = map_below (input_bit t.input ∷ output_bit t.output ∷ [])

      asked : Holds fault_order (transition E O A a.states) t ↔ ((t.from < a.states) × ((t.to < a.states) × (InputNames p t.input × OutputNames p t.output)))
      unfolding Holds result
      asked =
          given_iff fault_order (number 1 move_map (λ m. 2 when outside 0 4 m)) (λ m. name a.states (λ t. t.from) >>= λ from. name a.states (λ t. t.to) >>= λ to. both E O A m from to) t mt refl
          ((bounded 2 1 4 move_map t two (omega arith) 0).1 (omega arith, mt_below))
          (then_iff fault_order (name a.states (λ t. t.from)) (λ from. name a.states (λ t. t.to) >>= λ to. both E O A mt from to) t t.from refl (named a.states (λ (t : Transition). t.from) t (omega arith))
          (λ f.
          then_iff fault_order (name a.states (λ t. t.to)) (both E O A mt t.from) t t.to refl (named a.states (λ (t : Transition). t.to) t (omega arith))
          (λ g.
          then_iff fault_order (in_part E O A (bit 0 mt)) (inputs E O A mt t.from t.to) t t.input (in_read E O A t)
          (subst (λ (u : Bool). Holds fault_order (in_part E O A u) t ↔ InputNames p t.input) (sym (move_bit t 0)) (input_iff t.from t.to t.input t.output))
          (λ i.
          last_iff fault_order (out_part E O A (bit 1 mt)) (move_last E O A t.from t.to t.input) t (λ o. tt)
          (subst (λ (u : Bool). Holds fault_order (out_part E O A u) t ↔ OutputNames p t.output) (sym (move_bit t 1)) (output_iff t.from t.to t.input t.output))))))

      move_iff : Holds fault_order (transition E O A a.states) t ↔ MoveInLimits p t
      move_iff = (
        (λ h. let q = asked.0 h in record { from = q.0; to = q.1.0; input = q.1.1.0; output = q.1.1.1 }),
        (λ l. asked.1 (l.from, (l.to, (l.input, l.output)))),
      )

    abbrev Moves : Type 0
    Moves = (i : ℕ) → i < a.count → MoveInLimits p (move a i)

    automaton_iff : Holds fault_order (automaton E O A) a
        ↔ (((1 ≤ a.states) × (a.states < 65)) × ((a.initial < a.states) × (((0 ≤ a.finals) × (a.finals < 2 ^ a.states)) × (((0 ≤ a.count) × (a.count < 257)) × Moves))))
    unfolding Holds result
    automaton_iff =
        then_iff fault_order (count 64 (λ a. a.states)) (λ states. name states (λ a. a.initial) >>= begun E O A states) a a.states refl (bounded 3 1 65 (λ (a : Automaton). a.states) a three (omega arith) 1)
        (λ s.
        then_iff fault_order (name a.states (λ a. a.initial)) (begun E O A a.states) a a.initial refl (named a.states (λ (a : Automaton). a.initial) a (omega (arith, s.1)))
        (λ i.
        then_iff fault_order (final_bits E O A a.states) (finally E O A a.states a.initial) a a.finals refl
        (bounded 4 8 (2 ^ a.states) (λ (a : Automaton). a.finals) a four (powers a.states 64 (omega (arith, s.1))) 0)
        (λ f.
        then_iff fault_order (move_count E O A) (turns E O A a.states a.initial a.finals) a a.count refl (bounded 3 2 257 (λ (a : Automaton). a.count) a three (omega arith) 0)
        (λ c.
        last_iff fault_order (each (move_of E O A a.states) 0 a.count) (end E O A a.states a.initial a.finals a.count) a (λ ms. tt)
        (each_iff fault_order (move_of E O A a.states) a (λ i. MoveInLimits p (move a i)) a.count
        (λ j l. part_iff fault_order (λ (a : Automaton). move a j) (transition E O A a.states) a (move_iff s.1 (move a j))))))))

  -- the activities
  abbrev Nodes : ℕ → Type 0
  Nodes b = (n : ℕ) → n < size_of p b → NodeInLimits p (size_of p b) (node_at p b n) × NodeWritten (node_at p b n)

  activity_iff : X < 65 → R < 17 → E < 17 → (b : ℕ) → Holds fault_order (activity X R E b) p ↔ (((1 ≤ size_of p b) × (size_of p b < 65)) × Nodes b)
  unfolding Holds result
  activity_iff px pr pe b =
      then_iff fault_order (node_count X R E b) (λ size. each (node_of X R E b size) 0 size) p (size_of p b) refl (bounded 3 1 65 (λ (p : Plan). size_of p b) p three (omega arith) 1)
      (λ s.
      each_iff fault_order (node_of X R E b (size_of p b)) p (λ n. NodeInLimits p (size_of p b) (node_at p b n) × NodeWritten (node_at p b n)) (size_of p b)
      (λ j l. part_iff fault_order (λ (p : Plan). node_at p b j) (node X R E (size_of p b)) p (node_iff p px pr pe (size_of p b) s.1 (node_at p b j))))

  -- the sections
  abbrev m : ℕ
  m = section_map p

  m_below : m < 32
  unfolding section_map
  m_below = map_below (present R ∷ present X ∷ present E ∷ present A ∷ true ∷ [])

  map_holds : Holds fault_order (number 1 section_map (λ m. 2 when outside 0 32 m ++ 7 when not (bit 4 m))) p
  unfolding Holds
  map_holds = (omega (arith, m_below), rw (le-leb 0 m (omega arith), lt-ltb m 32 m_below, at_bit p 4), tt)

  abbrev Asked : Type 0
  Asked =
      (R < 17)
      × ((X < 65)
      × (((x : ℕ) → x < X → resource_of p x < R)
      × ((E < 17)
      × (((e : ℕ) → e < E → (1 ≤ outcomes_of p e) × (outcomes_of p e < 9))
      × ((A < 33)
      × (((b : ℕ) → b < A → ((1 ≤ size_of p b) × (size_of p b < 65)) × Nodes b)
      × (((1 ≤ a.states) × (a.states < 65)) × ((a.initial < a.states) × (((0 ≤ a.finals) × (a.finals < 2 ^ a.states)) × (((0 ≤ a.count) × (a.count < 257)) × ((i : ℕ) → i < a.count → MoveInLimits p (move a i))))))))))))

  sections_iff : Holds fault_order plan_file p ↔ Asked
  unfolding Holds result plan_file
  sections_iff =
      given_iff fault_order (number 1 section_map (λ m. 2 when outside 0 32 m ++ 7 when not (bit 4 m))) mapped p m refl map_holds
      (then_iff fault_order (resource_count m) (resourced m) p R (r0 p) (may_iff 3 1 17 (λ (p : Plan). p.resources) p three (omega arith) (bit 0 m) (at_bit p 0) (omega arith))
      (λ pr.
      then_iff fault_order (peripheral_count m) (having m R) p X (r1 p) (may_iff 3 1 65 (λ (p : Plan). p.peripherals) p three (omega arith) (bit 1 m) (at_bit p 1) (omega arith))
      (λ px.
      then_iff fault_order (each (its_resource R) 0 X) (belonging m R X) p (bs p) (rb p) (each_iff fault_order (its_resource R) p (λ x. resource_of p x < R) X (λ x l. named R (λ (p : Plan). resource_of p x) p (omega arith)))
      (λ b.
      then_iff fault_order (event_count m) (eventing m R X (bs p)) p E (r2 p) (may_iff 3 1 17 (λ (p : Plan). p.events) p three (omega arith) (bit 2 m) (at_bit p 2) (omega arith))
      (λ pe.
      then_iff fault_order (each its_outcomes 0 E) (outcoming m R X (bs p) E) p O (ro p)
      (each_iff fault_order its_outcomes p (λ e. (1 ≤ outcomes_of p e) × (outcomes_of p e < 9)) E (λ e l. bounded 3 1 9 (λ (p : Plan). outcomes_of p e) p three (omega arith) 1))
      (λ po.
      then_iff fault_order (activity_count m) (acting R X (bs p) E O) p A (r3 p) (may_iff 3 1 33 (λ (p : Plan). p.activities) p three (omega arith) (bit 3 m) (at_bit p 3) (omega arith))
      (λ pa.
      then_iff fault_order (each (activity X R E) 0 A) (lastly R X (bs p) E O A) p (result (each (activity X R E) 0 A) p) refl
      (each_iff fault_order (activity X R E) p (λ b. ((1 ≤ size_of p b) × (size_of p b < 65)) × Nodes b) A (λ b l. activity_iff px pr pe b))
      (λ n.
      last_iff fault_order (part_of (λ p. p.automaton) (automaton E O A)) (last R X (bs p) E O A (result (each (activity X R E) 0 A) p)) p (λ t. tt)
      (part_iff fault_order (λ (p : Plan). p.automaton) (automaton E O A) p (automaton_iff pe po pa))))))))))

  pub plan_iff : Holds fault_order plan_file p ↔ FileRules p
  plan_iff = (
    (λ h.
        let q = sections_iff.0 h in
        let o = q.1.1.1.1.0 in
        let s = q.1.1.1.1.1.1.0 in
        let t = q.1.1.1.1.1.1.1 in
        record {
          limits =
              record {
                resources = omega (arith, q.0);
                peripherals = omega (arith, q.1.0);
                belongs = q.1.1.0;
                events = omega (arith, q.1.1.1.0);
                outcomes = λ e l. ((o e l).0, omega (arith, (o e l).1));
                activities = omega (arith, q.1.1.1.1.1.0);
                sizes = λ b l. ((s b l).0.0, omega (arith, (s b l).0.1));
                nodes = λ b n l k. ((s b l).1 n k).0;
                states = (t.0.0, omega (arith, t.0.1));
                initial = t.1.0;
                finals = λ s e. no_high_bit a.finals a.states s t.1.1.0.1 e;
                transitions = omega (arith, t.1.1.1.0.1);
                moves = t.1.1.1.1;
              };
          nodes = λ b n l k. ((s b l).1 n k).1;
        }),
    (λ f.
        let l = f.limits in
        sections_iff.1 (
          omega (arith, l.resources),
          (
            omega (arith, l.peripherals),
            (
              l.belongs,
              (
                omega (arith, l.events),
                (
                  (λ e i. ((l.outcomes e i).0, omega (arith, (l.outcomes e i).1))),
                  (
                    omega (arith, l.activities),
                    (
                      (λ b i. (((l.sizes b i).0, omega (arith, (l.sizes b i).1)), (λ n k. (l.nodes b n i k, f.nodes b n i k)))),
                      ((l.states.0, omega (arith, l.states.1)), (l.initial, ((omega arith, below_power a.states a.finals l.finals), ((omega arith, omega (arith, l.transitions)), l.moves)))),
                    ),
                  ),
                ),
              ),
            ),
          ),
        )),
  )
