-- The activity that a transition emits, copied out of a plan in its limits, has the emitted nodes and fits. Assumes nothing.
use Rattle.std.specs.Prelude.{◌≡◌, refl, List, ℕ, ◌+◌, ◌*◌, ◌<◌, get_or}
use Rattle.std.proofs.Common.{sym, ap, ◌∙◌, subst, arith}
use Rattle.basis.proofs.Laws.PartsHold.{get_d_part}
use Rattle.plan.specs.Plan.{past_node, size_of, nodes_of, emitted_by, move}
use Rattle.plan.specs.Limits.{KindNames, NodeInLimits, InputNames, OutputNames, InLimits, node_at}
use Rattle.plan.specs.declared.Kind.{Kind}
use Rattle.plan.specs.declared.Node.{Node}
use Rattle.plan.specs.declared.Input.{Input}
use Rattle.plan.specs.declared.Output.{Output}
use Rattle.plan.specs.declared.Plan.{Plan}
use Rattle.activity.specs.Inner.Copied.{copied}
use Rattle.activity.proofs.Laws.Copied.{nodes_copied}
use Rattle.times.specs.Limits.{KindFits, NodeFits, ActivityFits, InputFits, StepFits}
use Rattle.times.specs.declared.Progress.{Progress}
use Rattle.run_path.specs.Pathed.{ProgressIn}
use Rattle.run_path.specs.Inner.Path.{emitted_of}

pub emitted_nodes : (p : Plan) (o : Output) → nodes_of (emitted_of p o) ≡ emitted_by p o
unfolding emitted_of
emitted_nodes p Output.Empty = refl
emitted_nodes p (Output.Activity a) = nodes_copied p a

copied_count : (p : Plan) (a : ℕ) → (copied p a).count ≡ size_of p a
unfolding copied
copied_count p a = refl

-- a node of the copy is the plan's
copied_node : (p : Plan) (a n : ℕ) → n < size_of p a → get_or (copied p a).nodes n past_node ≡ node_at p a n
copied_node p a n h =
    let z : 0 + n ≡ n = omega arith in
    let k : n < (copied p a).count = omega (arith, copied_count p a) in
    ap (λ (i : ℕ). get_or (copied p a).nodes i past_node) (sym z)
    ∙ sym (get_d_part past_node (copied p a).nodes 0 (copied p a).count n k)
    ∙ ap (λ (l : List Node). get_or l n past_node) (nodes_copied p a)
    ∙ get_d_part past_node p.nodes (64 * a) (size_of p a) n h

kind_fits : (p : Plan) (k : Kind) → KindNames p k → KindFits p.resources p.events k
kind_fits p (Kind.Action a x) h = tt
kind_fits p (Kind.Claim r) h = h
kind_fits p (Kind.Release r) h = h
kind_fits p (Kind.Event e) h = h

node_fits : (p : Plan) (size : ℕ) (x : Node) → NodeInLimits p size x → NodeFits p.resources p.events size x
node_fits p size x h = record { names = kind_fits p x.kind h.names; duration = h.duration; few = h.few; arrows = h.arrows }

copied_fits : (p : Plan) → InLimits p → (a : ℕ) → a < p.activities → ActivityFits p.resources p.events (copied p a)
copied_fits p h a l = record {
  count = let u = (h.sizes a l).1 in let v = copied_count p a in omega arith;
  nodes = λ n k.
      let m : n < size_of p a = omega (arith, copied_count p a) in
      subst (λ (x : Node). NodeFits p.resources p.events (copied p a).count x) (sym (copied_node p a n m))
      (subst (λ (s : ℕ). NodeFits p.resources p.events s (node_at p a n)) (sym (copied_count p a)) (node_fits p (size_of p a) (node_at p a n) (h.nodes a n l m)));
}

pub emitted_fits : (p : Plan) → InLimits p → (o : Output) → OutputNames p o → ActivityFits p.resources p.events (emitted_of p o)
unfolding emitted_of
emitted_fits p h Output.Empty l = record { count = omega arith; nodes = λ n k. absurd (omega arith) }
emitted_fits p h (Output.Activity a) l = copied_fits p h a l

pub input_fits : (p : Plan) (i : Input) → InputNames p i → InputFits p.events i
input_fits p Input.Nothing h = tt
input_fits p (Input.Outcome e o) h = h.0

-- a transition of the plan can be taken
unfoldable pub step_fits : (p : Plan) → InLimits p → (t : ℕ) → t < p.automaton.count → (g : Progress) → ProgressIn p g → StepFits p.resources (emitted_of p (move p.automaton t).output) (move p.automaton t).input g
step_fits p h t l g k = record {
  events = p.events;
  states = p.automaton.states;
  outcomes = p.outcomes;
  few_resources = h.resources;
  few_events = h.events;
  activity = emitted_fits p h (move p.automaton t).output (h.moves t l).output;
  input = input_fits p (move p.automaton t).input (h.moves t l).input;
  progress = k;
}
