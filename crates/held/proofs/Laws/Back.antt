-- `run_back`: the numbers of any run are read as that run. `rest_back`: so are all but its plan's, beside any numbers of its plan.
use Rattle.std.specs.Prelude.{List, [], ◌∷◌, map, ◌≡◌, refl, Option, Some, None}
use Rattle.std.proofs.Common.{◌∙◌, ap}
use Rattle.plan.specs.declared.Kind.{Kind}
use Rattle.plan.specs.declared.Node.{Node}
use Rattle.plan.specs.declared.Input.{Input}
use Rattle.plan.specs.declared.Output.{Output}
use Rattle.plan.specs.declared.Transition.{Transition}
use Rattle.plan.specs.declared.Plan.{Plan}
use Rattle.times.specs.declared.Told.{Told}
use Rattle.times.specs.declared.Instance.{Instance}
use Rattle.times.specs.declared.Progress.{Progress}
use Rattle.run_window.specs.declared.Phase.{Phase}
use Rattle.run_window.specs.declared.Entry.{Entry}
use Rattle.run_checks.specs.declared.Stop.{Stop}
use Rattle.run.specs.declared.Run.{Run}
use Rattle.held.specs.declared.HeldPlan.{HeldPlan}
use Rattle.held.specs.Held.{kind_of, node_of, kind_number, number_in, peripheral_in, held_node, input_of, output_of, move_of, input_number, input_event, input_outcome, output_number, output_activity, held_move, plan_of, held_plan, phase_of, entry_of, phase_number, held_entry, told_by, instance_of, progress_of, told_number, told_outcome, held_instance, held_progress, halt_of, held_halt, run_of, rest_of, held_of}

-- ---- one number and its fields

kind_back : (k : Kind) → kind_of (kind_number k) (number_in k) (peripheral_in k) ≡ k
kind_back (Kind.Action a p) = refl
kind_back (Kind.Claim r) = refl
kind_back (Kind.Release r) = refl
kind_back (Kind.Event e) = refl

input_back : (i : Input) → input_of (input_number i) (input_event i) (input_outcome i) ≡ i
input_back Input.Nothing = refl
input_back (Input.Outcome e o) = refl

output_back : (o : Output) → output_of (output_number o) (output_activity o) ≡ o
output_back Output.Empty = refl
output_back (Output.Activity a) = refl

phase_back : (p : Phase) → phase_of (phase_number p) ≡ p
phase_back Phase.Free = refl
phase_back Phase.Loaded = refl
phase_back Phase.Started = refl

told_back : (t : Told) → told_by (told_number t) (told_outcome t) ≡ t
told_back Told.Nothing = refl
told_back (Told.Outcome o) = refl

pub halt_back : (h : Option Stop) → halt_of (held_halt h) ≡ h
halt_back None = refl
halt_back (Some (Stop.Late p n)) = refl
halt_back (Some (Stop.Overdue p n)) = refl
halt_back (Some Stop.Full) = refl
halt_back (Some Stop.Beyond) = refl

-- ---- one element, and a list of them

node_back : (n : Node) → node_of (held_node n) ≡ n
node_back n = ap (λ (k : Kind). record { duration = n.duration; kind = k; count = n.count; preds = n.preds }) (kind_back n.kind)

move_back : (m : Transition) → move_of (held_move m) ≡ m
move_back m =
    ap (λ (i : Input). record { from = m.from; to = m.to; input = i; output = output_of (output_number m.output) (output_activity m.output) }) (input_back m.input)
    ∙ ap (λ (o : Output). record { from = m.from; to = m.to; input = m.input; output = o }) (output_back m.output)

entry_back : (e : Entry) → entry_of (held_entry e) ≡ e
entry_back e =
    ap (λ (p : Phase). record { start = e.start; end = e.end; position = e.position; activity = e.activity; node = e.node; phase = p }) (phase_back e.phase)

instance_back : (x : Instance) → instance_of (held_instance x) ≡ x
instance_back x = ap (λ (t : Told). record { end = x.end; position = x.position; node = x.node; told = t }) (told_back x.told)

all_back : {A B : Type 0} (f : A → B) (g : B → A) → ((x : A) → g (f x) ≡ x) → (l : List A) → map g (map f l) ≡ l
all_back f g back [] = refl
all_back {A} f g back (x ∷ l) = ap (λ (y : A). y ∷ map g (map f l)) (back x) ∙ ap (λ (m : List A). x ∷ m) (all_back f g back l)

-- ---- a run

pub plan_back : (p : Plan) → plan_of (held_plan p) ≡ p
plan_back p =
    ap (λ (l : List Node). plan_with l (map move_of (map held_move p.automaton.moves))) (all_back held_node node_of node_back p.nodes)
    ∙ ap (λ (l : List Transition). plan_with p.nodes l) (all_back held_move move_of move_back p.automaton.moves)
  where
    plan_with : List Node → List Transition → Plan
    plan_with ns ms =
        record {
          resources = p.resources;
          peripherals = p.peripherals;
          belongs = p.belongs;
          events = p.events;
          outcomes = p.outcomes;
          activities = p.activities;
          sizes = p.sizes;
          nodes = ns;
          automaton = record { states = p.automaton.states; initial = p.automaton.initial; finals = p.automaton.finals; count = p.automaton.count; moves = ms };
        }

progress_back : (g : Progress) → progress_of (held_progress g) ≡ g
progress_back g =
    ap (λ (l : List Instance). record { available = g.available; latest = g.latest; lengths = g.lengths; pending = l; position = g.position; state = g.state })
    (all_back held_instance instance_of instance_back g.pending)

-- all but the plan's numbers, beside those of its plan
pub rest_back : (r : Run) (p : HeldPlan) → plan_of p ≡ r.plan → run_of (record { rest = rest_of r; plan = p }) ≡ r
unfolding run_of
rest_back r p same = rw (same, progress_back r.progress, all_back held_entry entry_of entry_back r.window, halt_back r.halt)

pub run_back : (r : Run) → run_of (held_of r) ≡ r
unfolding held_of
run_back r = rest_back r (held_plan r.plan) (plan_back r.plan)
