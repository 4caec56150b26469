-- Plans that are the same but for their spare room get the same verdict, and the file of a plan is that of no other.
use Rattle.std.specs.Prelude.{◌≡◌, refl, ℕ, ◌*◌, ◌<◌, length, get_or}
use Rattle.std.proofs.Common.{sym, ◌∙◌, ap, subst, arith}
use Rattle.basis.proofs.Laws.PartsHold.{length_part, get_d_part}
use Rattle.plan.specs.Plan.{past_node, past_move, size_of, resource_of, outcomes_of, activity_of, move}
use Rattle.plan.specs.Limits.{node_at, KindNames, InputNames, OutputNames, InLimits}
use Rattle.plan.specs.declared.Fault.{Fault}
use Rattle.plan.specs.declared.Kind.{Kind}
use Rattle.plan.specs.declared.Node.{Node}
use Rattle.plan.specs.declared.Output.{Output}
use Rattle.plan.specs.declared.Transition.{Transition}
use Rattle.plan.specs.declared.Plan.{Plan}
use Rattle.plan.specs.Verdict.{Verdict}
use Rattle.activity.specs.Rules.{node, Is}
use Rattle.activity.specs.Activities.{MeetsAt, FirstAt}
use Rattle.automaton.specs.Rules.{Processes, emits, MeetsAutomaton, Judges}
use Rattle.demands.specs.Alike.{SameNode, SamePlan}
use Rattle.demands.proofs.Laws.LikeActivity.{Like, turned, is, meets, first, events}
use Rattle.demands.proofs.Laws.LikeAutomaton.{with, meets_automaton, judges}

pub turned_node : {m n : Node} → SameNode m n → SameNode n m
turned_node s = record { kind = sym s.kind; duration = sym s.duration; arrows = sym s.arrows }

pub turned_plan : {p q : Plan} → SamePlan p q → SamePlan q p
turned_plan {p} {q} s = record {
  resources = sym s.resources;
  peripherals = sym s.peripherals;
  belongs = λ x h. sym (s.belongs x (omega (arith, s.peripherals)));
  events = sym s.events;
  outcomes = λ e h. sym (s.outcomes e (omega (arith, s.events)));
  activities = sym s.activities;
  sizes = λ a h. sym (s.sizes a (omega (arith, s.activities)));
  nodes = λ a n h l. let k : a < p.activities = omega (arith, s.activities) in turned_node (s.nodes a n k (omega (arith, s.sizes a k)));
  states = sym s.states;
  initial = sym s.initial;
  finals = sym s.finals;
  transitions = sym s.transitions;
  moves = λ i h. sym (s.moves i (omega (arith, s.transitions)));
}

pub both : {p q r : Plan} → SamePlan p q → SamePlan q r → SamePlan p r
both {p} {q} s t = record {
  resources = s.resources ∙ t.resources;
  peripherals = s.peripherals ∙ t.peripherals;
  belongs = λ x h. s.belongs x h ∙ t.belongs x (omega (arith, s.peripherals));
  events = s.events ∙ t.events;
  outcomes = λ e h. s.outcomes e h ∙ t.outcomes e (omega (arith, s.events));
  activities = s.activities ∙ t.activities;
  sizes = λ a h. s.sizes a h ∙ t.sizes a (omega (arith, s.activities));
  nodes = λ a n h l.
      let x = s.nodes a n h l in
      let y = t.nodes a n (omega (arith, s.activities)) (omega (arith, s.sizes a h)) in
      record { kind = x.kind ∙ y.kind; duration = x.duration ∙ y.duration; arrows = x.arrows ∙ y.arrows };
  states = s.states ∙ t.states;
  initial = s.initial ∙ t.initial;
  finals = s.finals ∙ t.finals;
  transitions = s.transitions ∙ t.transitions;
  moves = λ i h. s.moves i h ∙ t.moves i (omega (arith, s.transitions));
}

module _ (p q : Plan) (s : SamePlan p q) (limits : InLimits p) where
  -- ---- activities

  node_of_lem : (r : Plan) (a n : ℕ) → n < size_of r a → node (activity_of r a) n ≡ node_at r a n
  node_of_lem r a n h = get_d_part past_node r.nodes (64 * a) (size_of r a) n h

  long : (r : Plan) (a : ℕ) → length (activity_of r a) ≡ size_of r a
  long r a = length_part past_node r.nodes (64 * a) (size_of r a)

  alike : (a n : ℕ) → a < p.activities → n < length (activity_of p a) → SameNode (node (activity_of p a) n) (node (activity_of q a) n)
  alike a n h l =
      let k : n < size_of p a = omega (arith, long p a) in
      rw (node_of_lem p a n k, node_of_lem q a n (omega (arith, s.sizes a h))) (s.nodes a n h k)

  like : (a : ℕ) → a < p.activities → Like (activity_of p a) (activity_of q a)
  like a h = record {
    long = long p a ∙ s.sizes a h ∙ sym (long q a);
    kinds = λ n l. (alike a n h l).kind;
    arrows = λ n l. (alike a n h l).arrows;
  }

  belongs : (a : ℕ) → a < p.activities → (n x y : ℕ) → Is (activity_of q a) n (Kind.Action x y) → resource_of p y ≡ resource_of q y
  belongs a h n x y i =
      let j : Is (activity_of p a) n (Kind.Action x y) = is (turned (like a h)) i in
      let k : n < size_of p a = omega (arith, j.within, long p a) in
      let e : (node_at p a n).kind ≡ Kind.Action x y = ap (λ (z : Node). z.kind) (sym (node_of_lem p a n k)) ∙ j.kind in
      s.belongs y (subst (KindNames p) e (limits.nodes a n h k).names)

  pub each_meets : ((a : ℕ) → a < p.activities → MeetsAt p a) → (a : ℕ) → a < q.activities → MeetsAt q a
  each_meets m a l =
      let h : a < p.activities = omega (arith, s.activities) in
      meets (resource_of p) (resource_of q) (activity_of p a) (activity_of q a) (like a h) (belongs a h) (m a h)

  pub first_at : (f : Fault) (i : ℕ) → FirstAt p f i → FirstAt q f i
  first_at f i x = record {
    within = omega (arith, x.within, s.activities);
    fault = first (resource_of p) (resource_of q) (activity_of p i) (activity_of q i) (like i x.within) (belongs i x.within) f x.fault;
    before = λ j l.
        let h : j < p.activities = omega (arith, x.within) in
        meets (resource_of p) (resource_of q) (activity_of p j) (activity_of q j) (like j h) (belongs j h) (x.before j l);
  }

  -- ---- the automaton

  agree : (t e o : ℕ) → Processes p.automaton t e o → outcomes_of p e ≡ outcomes_of q e
  agree t e o x = s.outcomes e (subst (InputNames p) x.input (limits.moves x.index x.leaves.low).input).0

  output_same : (o : Output) (e : ℕ) → OutputNames p o → emits p o e ≡ emits q o e
  output_same Output.Empty e h = refl
  output_same (Output.Activity a) e h = let l = like a h in events e (activity_of p a) (activity_of q a) l.long l.kinds

  gives : (i e : ℕ) → i < p.automaton.count → emits p (move p.automaton i).output e ≡ emits q (get_or q.automaton.moves i past_move).output e
  gives i e h =
      output_same (move p.automaton i).output e (limits.moves i h).output
      ∙ ap (λ (t : Transition). emits q t.output e) (s.moves i h)

  automaton : q.automaton ≡ with p.automaton q.automaton.moves
  automaton = λ i. record {
    states = sym s.states i;
    initial = sym s.initial i;
    finals = sym s.finals i;
    count = sym s.transitions i;
    moves = q.automaton.moves;
  }

  pub automaton_meets : MeetsAutomaton p → MeetsAutomaton q
  automaton_meets = meets_automaton p q q.automaton.moves automaton s.moves agree gives

  pub automaton_judges : (v : Verdict) → Judges p v → Judges q v
  automaton_judges = judges p q q.automaton.moves automaton s.moves agree gives
