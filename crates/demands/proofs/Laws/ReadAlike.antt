-- What is read of the file of a plan is the plan but for its spare room: every field has the same number (format/Alike).
use Rattle.std.specs.Prelude.{◌≡◌, ℕ, ◌<◌}
use Rattle.std.proofs.Math.Path.{refl, sym}
use Rattle.std.proofs.Common.{◌∙◌, ap}
use Rattle.basis.specs.Parts.{part}
use Rattle.plan.specs.Plan.{size_of, move}
use Rattle.plan.specs.Limits.{node_at}
use Rattle.plan.specs.declared.Node.{Node}
use Rattle.plan.specs.declared.Automaton.{Automaton}
use Rattle.plan.specs.declared.Plan.{Plan}
use Rattle.format.specs.Format.{part_of, each, Holds, result}
use Rattle.format.proofs.Laws.Alike.{Same, same_read, same_result, then_same, part_same, all_same, read_same}
use Rattle.plan_file.specs.PlanFile.{fault_order, node_map, section_map, rising, duration, arrow_count, node, node_of, activity, move_of, transition, automaton, resource_count, peripheral_count, its_resource, event_count, its_outcomes, activity_count, plan_file}
use Rattle.plan_file.proofs.Laws.Stages.{node_last, counted, timed, kinded, end, last, lastly, acting, outcoming, eventing, belonging, having, resourced}
use Rattle.plan_file.proofs.Laws.Known.{self, nothing}
use Rattle.plan_file.proofs.Laws.KnownPlan.{plan_knows}
use Rattle.plan_file.proofs.Laws.Reads.{rising_read, kind_part, kind_read, duration_read, count_read, move_read, bs, os, r0, r1, r2, r3, rb, ro}
use Rattle.demands.specs.Alike.{SameNode, SamePlan}

same_node : (X R E size : ℕ) (n u : Node) → Same (node X R E size) n u → SameNode n u
unfolding Same
same_node X R E size n u h =
    let m = node_map n in
    let s1 = then_same (kind_part X R E m) (kinded size m) n u n.kind (kind_read X R E n) h.1 in
    let s2 = then_same (duration m) (timed size m n.kind) n u n.duration (duration_read n) s1.1 in
    let s3 = then_same (arrow_count m) (counted size n.kind n.duration) n u n.count (count_read n) s2.1 in
    let ps = rising size 0 0 n.count in
    let s4 = (then_same ps (node_last n.kind n.duration n.count) n u (result ps n) refl s3.1).0 in
    record {
      kind = read_same (kind_part X R E) (λ n. n.kind) node_map n u h.0 (kind_read X R E) s1.0;
      duration = read_same duration (λ n. n.duration) node_map n u h.0 duration_read s2.0;
      arrows =
          sym (rising_read size 0 0 n.count n) ∙ sym (same_result ps n u s4) ∙ rising_read size 0 0 n.count u
          ∙ ap (λ (k : ℕ). part 0 u.preds 0 k) (read_same arrow_count (λ n. n.count) node_map n u h.0 count_read s3.0);
    }

module _ (p u : Plan) where
  abbrev X : ℕ
  X = p.peripherals

  abbrev R : ℕ
  R = p.resources

  abbrev E : ℕ
  E = p.events

  abbrev A : ℕ
  A = p.activities

  same_automaton : Same (automaton E (os p) A) p.automaton u.automaton → (i : ℕ) → i < p.automaton.count → move p.automaton i ≡ move u.automaton i
  unfolding Same
  same_automaton h i l =
      let a = p.automaton in
      let b = u.automaton in
      let all = each (move_of E (os p) A a.states) 0 a.count in
      let s = (then_same all (end E (os p) A a.states a.initial a.finals a.count) a b (result all a) refl h.1.1.1.1).0 in
      let t = transition E (os p) A a.states in
      let x = part_same (λ (a : Automaton). move a i) t a b (all_same (move_of E (os p) A a.states) a b a.count s i l) in
      sym (move_read E (os p) A (move a i) a.states) ∙ sym (same_result t (move a i) (move b i) x) ∙ move_read E (os p) A (move b i) a.states

  same_plan : Same plan_file p u → SamePlan p u
  unfolding Same plan_file
  same_plan h =
      let m = section_map p in
      let s0 = then_same (resource_count m) (resourced m) p u R (r0 p) h.1 in
      let s1 = then_same (peripheral_count m) (having m R) p u X (r1 p) s0.1 in
      let sb = then_same (each (its_resource R) 0 X) (belonging m R X) p u (bs p) (rb p) s1.1 in
      let s2 = then_same (event_count m) (eventing m R X (bs p)) p u E (r2 p) sb.1 in
      let so = then_same (each its_outcomes 0 E) (outcoming m R X (bs p) E) p u (os p) (ro p) s2.1 in
      let s3 = then_same (activity_count m) (acting R X (bs p) E (os p)) p u A (r3 p) so.1 in
      let bodies = each (activity X R E) 0 A in
      let sa = then_same bodies (lastly R X (bs p) E (os p) A) p u (result bodies p) refl s3.1 in
      let turns = part_of (λ (p : Plan). p.automaton) (automaton E (os p) A) in
      let st = part_same (λ (p : Plan). p.automaton) (automaton E (os p) A) p u (then_same turns (last R X (bs p) E (os p) A (result bodies p)) p u (result turns p) refl sa.1).0 in
      record {
        resources = read_same resource_count (λ p. p.resources) section_map p u h.0 r0 s0.0;
        peripherals = read_same peripheral_count (λ p. p.peripherals) section_map p u h.0 r1 s1.0;
        belongs = λ x l. sym (all_same (its_resource R) p u X sb.0 x l).0;
        events = read_same event_count (λ p. p.events) section_map p u h.0 r2 s2.0;
        outcomes = λ e l. sym (all_same its_outcomes p u E so.0 e l).0;
        activities = read_same activity_count (λ p. p.activities) section_map p u h.0 r3 s3.0;
        sizes = λ a l. sym (all_same (activity X R E) p u A sa.0 a l).0;
        nodes = λ a n l k.
            same_node X R E (size_of p a) (node_at p a n) (node_at u a n)
            (part_same (λ (p : Plan). node_at p a n) (node X R E (size_of p a)) p u
            (all_same (node_of X R E a (size_of p a)) p u (size_of p a) (all_same (activity X R E) p u A sa.0 a l).1 n k));
        states = sym st.0;
        initial = sym st.1.0;
        finals = sym st.1.1.0;
        transitions = sym st.1.1.1.0;
        moves = same_automaton st;
      }

pub read_alike : (p : Plan) → Holds fault_order plan_file p → SamePlan p (result plan_file p)
read_alike p h = same_plan p (result plan_file p) (same_read fault_order self nothing plan_file plan_knows p h).1
