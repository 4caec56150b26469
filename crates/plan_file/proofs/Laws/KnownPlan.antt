-- What is read holds every number in the file: the automaton and the plan. So reading and writing undo each other.
use Rattle.std.specs.Prelude.{◌≡◌, refl, Bool, true, false, not, List, [], ◌∷◌, ◌++◌, map, ◌↔◌, ℕ, suc, ◌+◌, ◌*◌, ◌^◌, ◌≤◌, ◌<◌, length, get_or, replicate}
use Rattle.std.proofs.Common.{sym, ◌∙◌, arith, le-leb, le-ltb, lt-ltb}
use Rattle.std.proofs.Math.Path.{ap}
use Rattle.std.proofs.Math.Decide.{dec_lt}
use Rattle.std.proofs.lemmas.List.Edits.{sets}
use Rattle.std.proofs.Math.Seq.{length-sets}
use Rattle.wire.specs.Number.{present}
use Rattle.wire.specs.Map.{bit, map_of}
use Rattle.wire.proofs.Laws.Maps.{map_bits}
use Rattle.format.specs.Format.{◌when◌, ◌>>=◌, part_of, optional, each, good, fault, first, read}
use Rattle.format.specs.Writing.{Bytes}
use Rattle.format.proofs.Laws.Format.{every_all}
use Rattle.format.proofs.Laws.Knowing.{Knows, Part, the_number, the_part, the_optional, the_each, Facts, Each, weaken, accepted_exactly}
use Rattle.format.proofs.Laws.Writing.{Held}
use Rattle.plan.specs.declared.Node.{Node}
use Rattle.plan.specs.declared.Input.{Input}
use Rattle.plan.specs.declared.Output.{Output}
use Rattle.plan.specs.declared.Transition.{Transition}
use Rattle.plan.specs.declared.Automaton.{Automaton}
use Rattle.plan.specs.declared.Plan.{Plan}
use Rattle.plan.specs.Plan.{past_node, past_move, size_of, resource_of, outcomes_of, move}
use Rattle.plan.specs.Limits.{node_at}
use Rattle.plan.specs.Nodes.{zero_node}
use Rattle.plan_file.proofs.Laws.Stages.{move_last, inputs, both, end, turns, finally, begun, last, lastly, acting, outcoming, eventing, belonging, having, resourced, mapped}
use Rattle.plan_file.specs.PlanFile.{input_bit, output_bit, move_map, section_map, fault_order, outside, count, name, node, activity, event, outcome, emitted, transition, automaton, laid, plan_file, plan_of, processing, emitting, whole, padded}
use Rattle.plan_file.proofs.Laws.Known.{self, nothing, inside, two, three, filled_before, filled_at, facts_at, optional_is, name_is, count_is, node_knows}

module _ (events : ℕ) (outcomes : List ℕ) (activities : ℕ) where
  pairs_is : Part fault_order {S = Transition} {B = Transition} self (λ i. input_bit i ≡ true) (λ i s. s.input ≡ i) (processing events outcomes activities)
  unfolding Knows
  pairs_is =
      record {
        go_on = λ K follow h. λ e i g o j l.
            weaken fault_order self (λ s. K s × (s.input ≡ Input.Outcome e o)) (λ s. (K s × (event s.input ≡ e)) × (outcome s.input ≡ o))
            (λ s k. ((k.0, ap event k.1), ap outcome k.1)) (follow (Input.Outcome e o)) (h (Input.Outcome e o) refl);
      }

  named_is : Part fault_order {S = Transition} {B = Transition} self (λ o. output_bit o ≡ true) (λ o s. s.output ≡ o) (emitting events outcomes activities)
  unfolding Knows
  named_is =
      record {
        go_on = λ K follow h. λ a i g.
            weaken fault_order self (λ s. K s × (s.output ≡ Output.Activity a)) (λ s. K s × (emitted s.output ≡ a)) (λ s k. (k.0, ap emitted k.1)) (follow (Output.Activity a)) (h (Output.Activity a) refl);
      }

  input_is : (t : Bool) → Part fault_order {S = Transition} {B = Transition} self (λ i. input_bit i ≡ t) (λ i s. s.input ≡ i) (optional t Input.Nothing (processing events outcomes activities))
  input_is true = pairs_is
  input_is false = the_optional fault_order self (λ i. input_bit i ≡ false) (λ i s. s.input ≡ i) false Input.Nothing (processing events outcomes activities) (λ e. absurd (let z : ◌≡◌ {A = ℕ} 0 1 = cc in omega arith)) (λ e. refl)

  output_is : (t : Bool) → Part fault_order {S = Transition} {B = Transition} self (λ o. output_bit o ≡ t) (λ o s. s.output ≡ o) (optional t Output.Empty (emitting events outcomes activities))
  output_is true = named_is
  output_is false = the_optional fault_order self (λ o. output_bit o ≡ false) (λ o s. s.output ≡ o) false Output.Empty (emitting events outcomes activities) (λ e. absurd (let z : ◌≡◌ {A = ℕ} 0 1 = cc in omega arith)) (λ e. refl)

  map_is : (m : ℕ) (s t : Bool) → m < 4 → s ≡ bit 0 m → t ≡ bit 1 m → map_of (s ∷ t ∷ []) ≡ m
  map_is m s t h e f = ap map_of (joined s (bit 0 m) t (bit 1 m) e f) ∙ sym (map_bits 2 m h)
    where
      joined : (s t u v : Bool) → s ≡ t → u ≡ v → s ∷ u ∷ [] ≡ t ∷ v ∷ []
      joined s t u v e f = rw (e, f)

  pub transition_knows : (states : ℕ) → Knows fault_order self nothing (transition events outcomes activities states)
  unfolding Knows move_map
  transition_knows states =
      (the_number fault_order self (λ m. m < 4) 1 move_map (λ m. 2 when outside 0 4 m) (λ m i g. (inside 2 0 4 m two g).1)
      ).go_on nothing (λ m. name states (λ t. t.from) >>= λ from. name states (λ t. t.to) >>= λ to. both events outcomes activities m from to)
      (λ m good-m.
      (name_is self states (λ (t : Transition). t.from)
      ).go_on _ (λ from. name states (λ t. t.to) >>= λ to. both events outcomes activities m from to)
      (λ from h.
      (name_is self states (λ (t : Transition). t.to)
      ).go_on _ (both events outcomes activities m from)
      (λ to h.
      (input_is (bit 0 m)
      ).go_on _ (inputs events outcomes activities m from to)
      (λ i bit-i.
      (output_is (bit 1 m)
      ).go_on _ (move_last events outcomes activities from to i)
      (λ o bit-o. (((((tt, map_is m (input_bit i) (output_bit o) good-m bit-i bit-o), refl), refl), refl), refl))))))

  pub automaton_knows : Knows fault_order self nothing (automaton events outcomes activities)
  unfolding Knows
  automaton_knows =
      (count_is self 64 (λ (a : Automaton). a.states)
      ).go_on nothing (λ states. name states (λ a. a.initial) >>= begun events outcomes activities states)
      (λ states h.
      (name_is self states (λ (a : Automaton). a.initial)
      ).go_on _ (begun events outcomes activities states)
      (λ initial h.
      (the_number fault_order self nothing 8 (λ (a : Automaton). a.finals) (λ x. 4 when outside 0 (2 ^ states) x) (λ x i g. tt)
      ).go_on _ (finally events outcomes activities states initial)
      (λ finals h.
      (the_number fault_order self (λ x. x < 257) 2 (λ (a : Automaton). a.count) (λ x. 3 when outside 0 257 x) (λ x i g. (inside 3 0 257 x three g).1)
      ).go_on _ (turns events outcomes activities states initial finals)
      (λ c few.
      (the_each fault_order self nothing (λ i t s. move s i ≡ t) (λ i. part_of (λ (a : Automaton). move a i) (transition events outcomes activities states))
      (λ i. the_part fault_order self nothing self (λ (a : Automaton). move a i) (transition events outcomes activities states) (transition_knows states) (every_all fault_order nothing (λ t. tt) (transition events outcomes activities states)))
      0 c
      ).go_on _ (end events outcomes activities states initial finals c)
      (λ moves q. (
        ((((tt, refl), refl), refl), refl),
        facts_at past_move self (λ j (s : Automaton). move s j) (record { states = states; initial = initial; finals = finals; count = c; moves = padded 256 past_move moves }) moves 0
            (λ j l. filled_at past_move moves (replicate 256 past_move) 0 j l (omega (arith, q.0))),
      ))))))

-- activities laid out by 64
laid_before : (bodies : List (List Node)) (i : ℕ) (l : List Node) (k : ℕ) → k < 64 * i → get_or (laid i bodies l) k past_node ≡ get_or l k past_node
laid_before [] i l k h = refl
laid_before (ns ∷ rest) i l k h = laid_before rest (i + 1) (sets l (64 * i) ns) k (omega arith) ∙ filled_before past_node ns l (64 * i) k h

abbrev Sized : List Node → Type 0
Sized ns = (1 ≤ length ns) × (length ns < 65)

abbrev Body : ℕ → List Node → Plan → Type 0
Body a ns s = (size_of s a ≡ length ns) × Facts fault_order {S = Plan} {B = Plan} self (λ n x p. node_at p a n ≡ x) 0 ns s

bodies_facts : (s : Plan) (bodies : List (List Node)) (i : ℕ) (l : List Node) → s.nodes ≡ laid i bodies l → Each fault_order {S = Plan} {B = Plan} self Sized bodies → 64 * (i + length bodies) ≤ length l
    → Facts fault_order {S = Plan} {B = Plan} self (λ a x p. size_of p a ≡ x) i (map length bodies) s → Facts fault_order {S = Plan} {B = Plan} self Body i bodies s
bodies_facts s [] i l e sized h f = tt
bodies_facts s (ns ∷ rest) i l e sized h f = (
  (
    f.0,
    facts_at past_node self (λ n (p : Plan). node_at p i n) s ns 0
        (λ k small.
        let z : 64 * i + (0 + k) ≡ 64 * i + k = omega arith in
        rw (e, z)
        (laid_before rest (i + 1) (sets l (64 * i) ns) (64 * i + k) (omega (arith, sized.0.1)) ∙ filled_at past_node ns l (64 * i) k small (omega (arith, sized.0.1)))),
  ),
  bodies_facts s rest (i + 1) (sets l (64 * i) ns) e sized.1 (omega (arith, length-sets l (64 * i) ns)) f.1,
)

module _ (peripherals resources events : ℕ) where
  activity_is : (a : ℕ) → Part fault_order {S = Plan} {B = Plan} self Sized (Body a) (activity peripherals resources events a)
  activity_is a =
      record {
        go_on = λ K follow h.
            (count_is self 64 (λ (p : Plan). size_of p a)
            ).go_on K (λ size. each (λ n. part_of (λ (p : Plan). node_at p a n) (node peripherals resources events size)) 0 size >>= follow)
            (λ size ok.
            (the_each fault_order self nothing (λ n x (s : Plan). node_at s a n ≡ x) (λ n. part_of (λ (p : Plan). node_at p a n) (node peripherals resources events size))
            (λ n.
            the_part fault_order self nothing self (λ (p : Plan). node_at p a n) (node peripherals resources events size) (node_knows peripherals resources events size)
            (every_all fault_order nothing (λ x. tt) (node peripherals resources events size)))
            0 size
            ).go_on (λ s. K s × (size_of s a ≡ size)) follow
            (λ ns q.
            weaken fault_order self (λ s. K s × Body a ns s) (λ s. (K s × (size_of s a ≡ size)) × Facts fault_order {S = Plan} {B = Plan} self (λ n x p. node_at p a n ≡ x) 0 ns s)
            (λ s k. ((k.0, k.1.0 ∙ q.0), k.1.1)) (follow ns) (h ns (omega (arith, ok.0, q.0), omega (arith, ok.1, q.0)))));
      }

-- a good map of sections
good_sections : (m : ℕ) → first fault_order (2 when outside 0 32 m ++ 7 when not (bit 4 m)) ≡ good → (m < 32) × (bit 4 m ≡ true)
good_sections m g =
    elim (dec_lt m 32) [
      | no u ↦
          let d : fault 2 ≡ good = sym (rw (le-leb 0 m (omega arith), le-ltb m 32 (omega arith))) ∙ g in
          absurd (let z : ◌≡◌ {A = ℕ} 0 1 = cc in omega arith)
      | yes u ↦ by_bit u (bit 4 m) refl
    ]
  where
    by_bit : m < 32 → (t : Bool) → bit 4 m ≡ t → (m < 32) × (bit 4 m ≡ true)
    by_bit u true e = (u, e)
    by_bit u false e =
        let d : fault 7 ≡ good = sym (rw (le-leb 0 m (omega arith), lt-ltb m 32 u, e)) ∙ g in
        absurd (let z : ◌≡◌ {A = ℕ} 0 1 = cc in omega arith)

sections_are : (m : ℕ) (s t u v : Bool) → m < 32 → bit 4 m ≡ true → s ≡ bit 0 m → t ≡ bit 1 m → u ≡ bit 2 m → v ≡ bit 3 m → map_of (s ∷ t ∷ u ∷ v ∷ true ∷ []) ≡ m
sections_are m s t u v h w e f g i = ap map_of (joined s (bit 0 m) t (bit 1 m) u (bit 2 m) v (bit 3 m) true (bit 4 m) e f g i (sym w)) ∙ sym (map_bits 5 m h)
  where
    joined : (a b c d e f g h i j : Bool) → a ≡ b → c ≡ d → e ≡ f → g ≡ h → i ≡ j → a ∷ c ∷ e ∷ g ∷ i ∷ [] ≡ b ∷ d ∷ f ∷ h ∷ j ∷ []
    joined a b c d e f g h i j p q r s t = rw (p, q, r, s, t)

length-map : (bodies : List (List Node)) → length (map length bodies) ≡ length bodies
length-map [] = refl
length-map (ns ∷ rest) = ap suc (length-map rest)

pub plan_knows : Knows fault_order self nothing plan_file
unfolding Knows plan_file section_map
plan_knows =
    (the_number fault_order self (λ m. (m < 32) × (bit 4 m ≡ true)) 1 section_map (λ m. 2 when outside 0 32 m ++ 7 when not (bit 4 m)) (λ m i g. good_sections m g)
    ).go_on nothing mapped
    (λ m good-m.
    (optional_is self 3 1 17 (λ (p : Plan). p.resources) (bit 0 m) three (omega arith)
    ).go_on _ (resourced m)
    (λ resources good-r.
    (optional_is self 3 1 65 (λ (p : Plan). p.peripherals) (bit 1 m) three (omega arith)
    ).go_on _ (having m resources)
    (λ peripherals good-x.
    (the_each fault_order self (λ x. x < resources) (λ i x (s : Plan). resource_of s i ≡ x) (λ x. name resources (λ (p : Plan). resource_of p x)) (λ x. name_is self resources (λ (p : Plan). resource_of p x)) 0 peripherals
    ).go_on _ (belonging m resources peripherals)
    (λ belongs all-x.
    (optional_is self 3 1 17 (λ (p : Plan). p.events) (bit 2 m) three (omega arith)
    ).go_on _ (eventing m resources peripherals belongs)
    (λ events good-e.
    (the_each fault_order self (λ x. (1 ≤ x) × (x < 9)) (λ i x (s : Plan). outcomes_of s i ≡ x) (λ e. count 8 (λ (p : Plan). outcomes_of p e)) (λ e. count_is self 8 (λ (p : Plan). outcomes_of p e)) 0 events
    ).go_on _ (outcoming m resources peripherals belongs events)
    (λ outcomes all-e.
    (optional_is self 3 1 33 (λ (p : Plan). p.activities) (bit 3 m) three (omega arith)
    ).go_on _ (acting resources peripherals belongs events outcomes)
    (λ activities good-a.
    (the_each fault_order self Sized Body (activity peripherals resources events) (activity_is peripherals resources events) 0 activities
    ).go_on _ (lastly resources peripherals belongs events outcomes activities)
    (λ bodies all-a.
    (the_part fault_order self nothing self (λ (p : Plan). p.automaton) (automaton events outcomes activities) (automaton_knows events outcomes activities) (every_all fault_order nothing (λ t. tt) (automaton events outcomes activities))
    ).go_on _ (last resources peripherals belongs events outcomes activities bodies)
    (λ t u.
    let p = whole resources peripherals belongs events outcomes activities bodies t in (
      (
        (
          (
            (
              (
                (
                  (
                    (
                      tt,
                      sections_are m (present resources) (present peripherals) (present events) (present activities) good-m.0 good-m.1 good-r.0 good-x.0 good-e.0 good-a.0,
                    ),
                    refl,
                  ),
                  refl,
                ),
                facts_at 0 self (λ i (s : Plan). resource_of s i) p belongs 0 (λ j l. filled_at 0 belongs (replicate 64 0) 0 j l (omega (arith, all-x.0, good-x.1))),
              ),
              refl,
            ),
            facts_at 0 self (λ i (s : Plan). outcomes_of s i) p outcomes 0 (λ j l. filled_at 0 outcomes (replicate 16 0) 0 j l (omega (arith, all-e.0, good-e.1))),
          ),
          refl,
        ),
        bodies_facts p bodies 0 (replicate 2048 zero_node) refl all-a.1 (omega (arith, all-a.0, good-a.1))
            (facts_at 0 self (λ i (s : Plan). size_of s i) p (map length bodies) 0
            (λ j l. filled_at 0 (map length bodies) (replicate 32 0) 0 j l (omega (arith, length-map bodies, all-a.0, good-a.1)))),
      ),
      refl,
    ))))))))))

-- reading accepts exactly the writing of what it reads
pub plan_accepted : (b : List ℕ) → Bytes b → (p : Plan) → (plan_of b ≡ read p (length b)) ↔ Held 1 fault_order b self plan_file p
unfolding plan_of
plan_accepted b bytes p = accepted_exactly 1 fault_order b bytes self 6 plan_file plan_knows p
