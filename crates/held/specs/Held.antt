-- A run as numbers, and what run any such numbers are. Each case of an enum has a number; a number that no case has is read as
-- case 0, which is named first: action, nothing processed, the empty activity, nothing told, free, going. What a case does not
-- use, and spare bytes, are written as 0 and not read.
use Rattle.std.specs.Prelude.{cond, map, ℕ, eqb, replicate, Option, Some, None}
use Rattle.plan.specs.declared.Kind.{Kind}
use Rattle.plan.specs.declared.Node.{Node}
use Rattle.plan.specs.declared.Input.{Input}
use Rattle.plan.specs.declared.Output.{Output}
use Rattle.plan.specs.declared.Transition.{Transition}
use Rattle.plan.specs.declared.Plan.{Plan}
use Rattle.times.specs.declared.Told.{Told}
use Rattle.times.specs.declared.Instance.{Instance}
use Rattle.times.specs.declared.Progress.{Progress}
use Rattle.run_window.specs.declared.Phase.{Phase}
use Rattle.run_window.specs.declared.Entry.{Entry}
use Rattle.run_checks.specs.declared.Stop.{Stop}
use Rattle.run.specs.declared.Run.{Run}
use Rattle.held.specs.declared.HeldNode.{HeldNode}
use Rattle.held.specs.declared.HeldMove.{HeldMove}
use Rattle.held.specs.declared.HeldPlan.{HeldPlan}
use Rattle.held.specs.declared.HeldEntry.{HeldEntry}
use Rattle.held.specs.declared.HeldInstance.{HeldInstance}
use Rattle.held.specs.declared.HeldProgress.{HeldProgress}
use Rattle.held.specs.declared.HeldHalt.{HeldHalt}
use Rattle.held.specs.declared.HeldRest.{HeldRest}
use Rattle.held.specs.declared.Held.{Held}

-- ---- a node: 0 action, 1 claim, 2 release, 3 event

abbrev pub kind_of : ℕ → ℕ → ℕ → Kind
kind_of kind number peripheral =
    cond (eqb kind 1) (Kind.Claim number)
    (cond (eqb kind 2) (Kind.Release number)
    (cond (eqb kind 3) (Kind.Event number) (Kind.Action number peripheral)))

abbrev pub node_of : HeldNode → Node
node_of h = record { duration = h.duration; kind = kind_of h.kind h.number h.peripheral; count = h.count; preds = h.preds }

abbrev pub kind_number : Kind → ℕ
kind_number (Kind.Action a p) = 0
kind_number (Kind.Claim r) = 1
kind_number (Kind.Release r) = 2
kind_number (Kind.Event e) = 3

-- the action, resource or event
abbrev pub number_in : Kind → ℕ
number_in (Kind.Action a p) = a
number_in (Kind.Claim r) = r
number_in (Kind.Release r) = r
number_in (Kind.Event e) = e

abbrev pub peripheral_in : Kind → ℕ
peripheral_in (Kind.Action a p) = p
peripheral_in (Kind.Claim r) = 0
peripheral_in (Kind.Release r) = 0
peripheral_in (Kind.Event e) = 0

abbrev pub held_node : Node → HeldNode
held_node n =
    record { duration = n.duration; kind = kind_number n.kind; number = number_in n.kind; peripheral = peripheral_in n.kind; count = n.count; preds = n.preds }

-- ---- a transition: 0 processes nothing, 1 an outcome of an event; 0 emits the empty activity, 1 an activity of the plan

abbrev pub input_of : ℕ → ℕ → ℕ → Input
input_of input event outcome = cond (eqb input 1) (Input.Outcome event outcome) Input.Nothing

abbrev pub output_of : ℕ → ℕ → Output
output_of output activity = cond (eqb output 1) (Output.Activity activity) Output.Empty

abbrev pub move_of : HeldMove → Transition
move_of h = record { from = h.from; to = h.to; input = input_of h.input h.event h.outcome; output = output_of h.output h.activity }

abbrev pub input_number : Input → ℕ
input_number Input.Nothing = 0
input_number (Input.Outcome e o) = 1

abbrev pub input_event : Input → ℕ
input_event Input.Nothing = 0
input_event (Input.Outcome e o) = e

abbrev pub input_outcome : Input → ℕ
input_outcome Input.Nothing = 0
input_outcome (Input.Outcome e o) = o

abbrev pub output_number : Output → ℕ
output_number Output.Empty = 0
output_number (Output.Activity a) = 1

abbrev pub output_activity : Output → ℕ
output_activity Output.Empty = 0
output_activity (Output.Activity a) = a

abbrev pub held_move : Transition → HeldMove
held_move m =
    record {
      from = m.from;
      to = m.to;
      input = input_number m.input;
      event = input_event m.input;
      outcome = input_outcome m.input;
      output = output_number m.output;
      activity = output_activity m.output;
      spare = 0;
    }

-- ---- a plan

abbrev pub plan_of : HeldPlan → Plan
plan_of h =
    record {
      resources = h.resources;
      peripherals = h.peripherals;
      belongs = h.belongs;
      events = h.events;
      outcomes = h.outcomes;
      activities = h.activities;
      sizes = h.sizes;
      nodes = map node_of h.nodes;
      automaton = record { states = h.states; initial = h.initial; finals = h.finals; count = h.count; moves = map move_of h.moves };
    }

abbrev pub held_plan : Plan → HeldPlan
held_plan p =
    record {
      finals = p.automaton.finals;
      nodes = map held_node p.nodes;
      count = p.automaton.count;
      moves = map held_move p.automaton.moves;
      belongs = p.belongs;
      sizes = p.sizes;
      outcomes = p.outcomes;
      resources = p.resources;
      peripherals = p.peripherals;
      events = p.events;
      activities = p.activities;
      states = p.automaton.states;
      initial = p.automaton.initial;
    }

-- ---- a place of the window: 0 free, 1 loaded, 2 started

abbrev pub phase_of : ℕ → Phase
phase_of phase = cond (eqb phase 1) Phase.Loaded (cond (eqb phase 2) Phase.Started Phase.Free)

abbrev pub entry_of : HeldEntry → Entry
entry_of h =
    record { start = h.start; end = h.end; position = h.position; activity = h.activity; node = h.node; phase = phase_of h.phase }

abbrev pub phase_number : Phase → ℕ
phase_number Phase.Free = 0
phase_number Phase.Loaded = 1
phase_number Phase.Started = 2

abbrev pub held_entry : Entry → HeldEntry
held_entry e =
    record { start = e.start; end = e.end; position = e.position; activity = e.activity; node = e.node; phase = phase_number e.phase; spare = 0 }

-- ---- where the behaviour stands; of a pending instance, 0 nothing was told, 1 an outcome

abbrev pub told_by : ℕ → ℕ → Told
told_by told outcome = cond (eqb told 1) (Told.Outcome outcome) Told.Nothing

abbrev pub instance_of : HeldInstance → Instance
instance_of h = record { end = h.end; position = h.position; node = h.node; told = told_by h.told h.outcome }

abbrev pub progress_of : HeldProgress → Progress
progress_of h =
    record { available = h.available; latest = h.latest; lengths = h.lengths; pending = map instance_of h.pending; position = h.position; state = h.state }

abbrev pub told_number : Told → ℕ
told_number Told.Nothing = 0
told_number (Told.Outcome o) = 1

abbrev pub told_outcome : Told → ℕ
told_outcome Told.Nothing = 0
told_outcome (Told.Outcome o) = o

abbrev pub held_instance : Instance → HeldInstance
held_instance x =
    record { end = x.end; position = x.position; node = x.node; told = told_number x.told; outcome = told_outcome x.told; spare = 0 }

abbrev pub held_progress : Progress → HeldProgress
held_progress g =
    record { available = g.available; latest = g.latest; pending = map held_instance g.pending; position = g.position; lengths = g.lengths; state = g.state; spare = replicate 3 0 }

-- ---- 0 the run goes on; 1 it is late, 2 overdue, 3 full, 4 beyond

abbrev pub halt_of : HeldHalt → Option Stop
halt_of h =
    cond (eqb h.halt 1) (Some (Stop.Late h.position h.node))
    (cond (eqb h.halt 2) (Some (Stop.Overdue h.position h.node))
    (cond (eqb h.halt 3) (Some Stop.Full)
    (cond (eqb h.halt 4) (Some Stop.Beyond) None)))

abbrev pub stop_as : ℕ → ℕ → ℕ → HeldHalt
stop_as halt position node = record { position = position; node = node; halt = halt; spare = replicate 2 0 }

abbrev pub held_halt : Option Stop → HeldHalt
held_halt None = stop_as 0 0 0
held_halt (Some (Stop.Late p n)) = stop_as 1 p n
held_halt (Some (Stop.Overdue p n)) = stop_as 2 p n
held_halt (Some Stop.Full) = stop_as 3 0 0
held_halt (Some Stop.Beyond) = stop_as 4 0 0

-- ---- a run

unfoldable pub run_of : Held → Run
run_of h =
    record {
      plan = plan_of h.plan;
      psi = h.rest.psi;
      slack = h.rest.slack;
      progress = progress_of h.rest.progress;
      window = map entry_of h.rest.window;
      last = h.rest.last;
      halt = halt_of h.rest.halt;
    }

-- all of a run but its plan
abbrev pub rest_of : Run → HeldRest
rest_of r =
    record {
      psi = r.psi;
      slack = r.slack;
      last = r.last;
      window = map held_entry r.window;
      progress = held_progress r.progress;
      halt = held_halt r.halt;
    }

unfoldable pub held_of : Run → Held
held_of r = record { rest = rest_of r; plan = held_plan r.plan }
