-- What the description writes of each part is the bytes that the code puts, and how long they can be.
use Rattle.std.specs.Prelude.{◌≡◌, Bool, true, false, ℕ, zero, suc, ◌+◌, ◌*◌, ◌%◌, ◌≤◌, length, get_or}
use Rattle.std.proofs.Math.Path.{refl, ap}
use Rattle.std.proofs.Common.{sym, ◌∙◌, ap₂, zero-add, add-zero, arith, length-append}
use mathlib.Core.List.{List, [], ◌∷◌, ◌++◌, append-nil, append_assoc}
use Rattle.basis.specs.Parts.{part}
use Rattle.wire.specs.Number.{bytes_of, present, optional_bytes, number_bytes}
use Rattle.wire.proofs.Laws.Fields.{length_optional, length-numbers}
use Rattle.wire.specs.Map.{bit}
use Rattle.format.specs.Format.{Format, done, part_of, each, print, result}
use Rattle.format.specs.Inner.Flat.{flat}
use Rattle.format.proofs.Laws.Format.{print_part, print_step, print_last, print_each, print_part_of}
use Rattle.plan.specs.declared.Kind.{Kind}
use Rattle.plan.specs.declared.Node.{Node}
use Rattle.plan.specs.declared.Input.{Input}
use Rattle.plan.specs.declared.Output.{Output}
use Rattle.plan.specs.declared.Transition.{Transition}
use Rattle.plan.specs.declared.Automaton.{Automaton}
use Rattle.plan.specs.declared.Plan.{Plan}
use Rattle.plan.specs.Plan.{past_node, past_move, move, moves_of}
use Rattle.plan.specs.Limits.{node_at}
use Rattle.plan_file.specs.PlanFile.{node_map, rising, duration, arrow_count, node, node_of, activity, input_bit, output_bit, move_map, transition, move_of, automaton, resource_count, peripheral_count, its_resource, event_count, its_outcomes, activity_count, section_map, plan_file}
use Rattle.plan_file.proofs.Laws.Stages.{node_last, counted, timed, kinded, move_last, inputs, end, last, lastly, acting, outcoming, eventing, belonging, having, resourced, mapped}
use Rattle.plan_file.proofs.Laws.Reads.{may, node_bit, duration_read, count_read, told, kind_part, is_told_lem, kind_read, move_bit, in_part, out_part, in_read, at_bit, r0, r1, r2, r3, bs, os, rb, ro}
use Rattle.plan_write.specs.Inner.Bytes.{kind_bytes, node_bytes, input_bytes, output_bytes, move_bytes, automaton_bytes, section_bytes, activity_bytes}

-- a number that is absent where it is 0; numbers of one byte each
may_print : {S : Type 0} (n w below : ℕ) (get : S → ℕ) (s : S) (stands : Bool) → stands ≡ present (get s) → print (may n w below get s stands) s ≡ optional_bytes w (get s)
unfolding print optional_bytes
may_print n w below get s true e = rw (sym e) (append-nil (bytes_of w (get s)))
may_print n w below get s false e = rw (sym e)

numbers_print : {S : Type 0} (item : ℕ → Format S ℕ) (s : S) (l : List ℕ) → ((j : ℕ) → print (item j) s ≡ bytes_of 1 (get_or l j 0)) → (i k : ℕ) → print (each item i k) s ≡ number_bytes l i k
unfolding print
numbers_print item s l h i zero = refl
numbers_print item s l h i (suc k) = print_each item s i k ∙ ap₂ (λ (x y : List ℕ). x ++ y) (h i) (numbers_print item s l h (i + 1) k)

-- a node
rising_print : (size i low k : ℕ) (n : Node) → print (rising size i low k) n ≡ number_bytes n.preds i k
unfolding print
rising_print size i low zero n = refl
rising_print size i low (suc k) n =
    let x = get_or n.preds i 0 in
    let t = rising size (i + 1) (x + 1) k in
    ap (λ (l : List ℕ). x % 256 ∷ l) (print_last t (λ more. done (x ∷ more)) n refl ∙ rising_print size (i + 1) (x + 1) k n)

module _ (peripherals resources events : ℕ) where
  kind_print : (k : Kind) → print (told peripherals resources events k) k ≡ kind_bytes k
  unfolding print kind_bytes
  kind_print (Kind.Action a x) = refl
  kind_print (Kind.Claim r) = refl
  kind_print (Kind.Release r) = refl
  kind_print (Kind.Event e) = refl

  pub node_print : (size : ℕ) (n : Node)
      → print (node peripherals resources events size) n ≡ bytes_of 1 (node_map n) ++ (kind_bytes n.kind ++ (optional_bytes 4 n.duration ++ (optional_bytes 1 n.count ++ number_bytes n.preds 0 n.count)))
  unfolding print
  node_print size n =
      let m = node_map n in
      let d = optional_bytes 4 n.duration in
      let c = optional_bytes 1 n.count in
      let xs = number_bytes n.preds 0 n.count in
      ap (λ (l : List ℕ). m % 256 ∷ l)
      (print_step (kind_part peripherals resources events m) (kinded size m) n n.kind (kind_bytes n.kind) (d ++ (c ++ xs)) (kind_read peripherals resources events n)
      (ap (λ (t : Format Node Kind). print t n) (is_told_lem peripherals resources events n) ∙ print_part (λ (n : Node). n.kind) (told peripherals resources events n.kind) n ∙ kind_print n.kind)
      (print_step (duration m) (timed size m n.kind) n n.duration d (c ++ xs) (duration_read n) (may_print 8 4 60_000_001 (λ n. n.duration) n (bit 4 m) (node_bit n 4))
      (print_step (arrow_count m) (counted size n.kind n.duration) n n.count c xs (count_read n) (may_print 3 1 9 (λ n. n.count) n (bit 5 m) (node_bit n 5))
      (print_last (rising size 0 0 n.count) (node_last n.kind n.duration n.count) n refl ∙ rising_print size 0 0 n.count n))))

pub nodes_print : (p : Plan) (peripherals resources events a size k : ℕ) → print (each (node_of peripherals resources events a size) 0 k) p ≡ flat node_bytes (part past_node p.nodes (64 * a) k)
nodes_print p peripherals resources events a size k =
    print_part_of (node_of peripherals resources events a size) p node_bytes past_node p.nodes (64 * a)
    (λ j. print_part (λ (p : Plan). node_at p a j) (node peripherals resources events size) p ∙ node_print peripherals resources events size (node_at p a j) ∙ sym (node_print 0 0 0 0 (node_at p a j))) 0 k
    ∙ ap (λ (i : ℕ). flat node_bytes (part past_node p.nodes i k)) (add-zero (64 * a))

-- a transition, the automaton
module _ (events : ℕ) (outcomes : List ℕ) (activities : ℕ) where
  in_print : (from to : ℕ) (i : Input) (o : Output) → print (in_part events outcomes activities (input_bit i)) (record { from = from; to = to; input = i; output = o }) ≡ input_bytes i
  unfolding print input_bytes
  in_print from to Input.Nothing o = refl
  in_print from to (Input.Outcome e x) o = refl

  out_print : (from to : ℕ) (i : Input) (o : Output) → print (out_part events outcomes activities (output_bit o)) (record { from = from; to = to; input = i; output = o }) ≡ output_bytes o
  unfolding print output_bytes
  out_print from to i Output.Empty = refl
  out_print from to i (Output.Activity a) = refl

  pub move_print : (states : ℕ) (t : Transition)
      → print (transition events outcomes activities states) t ≡ bytes_of 1 (move_map t) ++ (bytes_of 1 t.from ++ (bytes_of 1 t.to ++ (input_bytes t.input ++ output_bytes t.output)))
  unfolding print
  move_print states t =
      let m = move_map t in
      ap (λ (l : List ℕ). m % 256 ∷ t.from % 256 ∷ t.to % 256 ∷ l)
      (print_step (in_part events outcomes activities (bit 0 m)) (inputs events outcomes activities m t.from t.to) t t.input (input_bytes t.input) (output_bytes t.output) (in_read events outcomes activities t)
      (ap (λ (u : Bool). print (in_part events outcomes activities u) t) (move_bit t 0) ∙ in_print t.from t.to t.input t.output)
      (print_last (out_part events outcomes activities (bit 1 m)) (move_last events outcomes activities t.from t.to t.input) t refl
      ∙ ap (λ (u : Bool). print (out_part events outcomes activities u) t) (move_bit t 1) ∙ out_print t.from t.to t.input t.output))

pub automaton_print : (events : ℕ) (outcomes : List ℕ) (activities : ℕ) (a : Automaton)
    → print (automaton events outcomes activities) a ≡ bytes_of 1 a.states ++ (bytes_of 1 a.initial ++ (bytes_of 8 a.finals ++ (bytes_of 2 a.count ++ flat move_bytes (moves_of a))))
unfolding print
automaton_print events outcomes activities a =
    let t = transition events outcomes activities a.states in
    ap (λ (l : List ℕ). bytes_of 1 a.states ++ (bytes_of 1 a.initial ++ (bytes_of 8 a.finals ++ (bytes_of 2 a.count ++ l))))
    (print_last (each (move_of events outcomes activities a.states) 0 a.count) (end events outcomes activities a.states a.initial a.finals a.count) a refl
    ∙ print_part_of (move_of events outcomes activities a.states) a move_bytes past_move a.moves 0
    (λ j. print_part (λ (a : Automaton). move a j) t a ∙ move_print events outcomes activities a.states (move a j) ∙ sym (move_print 0 [] 0 0 (move a j)) ∙ ap (λ (i : ℕ). move_bytes (move a i)) (sym (zero-add j))) 0 a.count)

-- the plan
pub plan_print : (p : Plan) → print plan_file p ≡ section_bytes p ++ (activity_bytes p 0 p.activities ++ automaton_bytes p.automaton)
unfolding print plan_file
plan_print p =
    let R = p.resources in
    let X = p.peripherals in
    let E = p.events in
    let A = p.activities in
    let m = section_map p in
    let t = automaton_bytes p.automaton in
    let n = activity_bytes p 0 A in
    let a = optional_bytes 1 A in
    let o = number_bytes p.outcomes 0 E in
    let e = optional_bytes 1 E in
    let b = number_bytes p.belongs 0 X in
    let x = optional_bytes 1 X in
    let acts = each (activity X R E) 0 A in
    let whole : print (mapped m) p ≡ optional_bytes 1 R ++ (x ++ (b ++ (e ++ (o ++ (a ++ (n ++ t)))))) =
    print_step (resource_count m) (resourced m) p R (optional_bytes 1 R) (x ++ (b ++ (e ++ (o ++ (a ++ (n ++ t)))))) (r0 p) (may_print 3 1 17 (λ p. p.resources) p (bit 0 m) (at_bit p 0))
    (print_step (peripheral_count m) (having m R) p X x (b ++ (e ++ (o ++ (a ++ (n ++ t))))) (r1 p) (may_print 3 1 65 (λ p. p.peripherals) p (bit 1 m) (at_bit p 1))
    (print_step (each (its_resource R) 0 X) (belonging m R X) p (bs p) b (e ++ (o ++ (a ++ (n ++ t)))) (rb p) (numbers_print (its_resource R) p p.belongs (λ j. refl) 0 X)
    (print_step (event_count m) (eventing m R X (bs p)) p E e (o ++ (a ++ (n ++ t))) (r2 p) (may_print 3 1 17 (λ p. p.events) p (bit 2 m) (at_bit p 2))
    (print_step (each its_outcomes 0 E) (outcoming m R X (bs p) E) p (os p) o (a ++ (n ++ t)) (ro p) (numbers_print its_outcomes p p.outcomes (λ j. refl) 0 E)
    (print_step (activity_count m) (acting R X (bs p) E (os p)) p A a (n ++ t) (r3 p) (may_print 3 1 33 (λ p. p.activities) p (bit 3 m) (at_bit p 3))
    (print_step acts (lastly R X (bs p) E (os p) A) p (result acts p) n t refl refl
    (print_last (part_of (λ (p : Plan). p.automaton) (automaton E (os p) A)) (last R X (bs p) E (os p) A (result acts p)) p refl
    ∙ print_part (λ (p : Plan). p.automaton) (automaton E (os p) A) p ∙ automaton_print E (os p) A p.automaton ∙ sym (automaton_print 0 [] 0 p.automaton)))))))) in
    ap (λ (l : List ℕ). m % 256 ∷ l) (whole ∙ simp append_assoc)

-- ---- lengths

pub kind_length : (k : Kind) → length (kind_bytes k) ≤ 2
unfolding kind_bytes
kind_length (Kind.Action a x) = omega arith
kind_length (Kind.Claim r) = omega arith
kind_length (Kind.Release r) = omega arith
kind_length (Kind.Event e) = omega arith

-- a map, a kind, a duration, a count and at most 8 predecessors
pub node_length : (n : Node) → n.count ≤ 8 → length (node_bytes n) ≤ 16
node_length n h =
    rw (node_print 0 0 0 0 n)
    (simp length-append (omega (arith, kind_length n.kind, length_optional 4 n.duration, length_optional 1 n.count, length-numbers n.preds 0 n.count)))

pub input_length : (i : Input) → length (input_bytes i) ≤ 2
unfolding input_bytes
input_length Input.Nothing = omega arith
input_length (Input.Outcome e o) = omega arith

output_length : (o : Output) → length (output_bytes o) ≤ 1
unfolding output_bytes
output_length Output.Empty = omega arith
output_length (Output.Activity a) = omega arith

pub move_length : (t : Transition) → length (move_bytes t) ≤ 6
move_length t = rw (move_print 0 [] 0 0 t) (simp length-append (omega (arith, input_length t.input, output_length t.output)))
