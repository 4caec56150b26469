-- What a call does to a run, and the answer that it then gets.
use Rattle.std.specs.Prelude.{◌≡◌, cond, ◌&&◌, List, ℕ, ◌<◌, ltb, eqb, get_or, set, Option, Some, None, Result, Ok, Err}
use Rattle.time.specs.declared.Clock.{Clock}
use Rattle.plan.specs.Plan.{past_node, outcomes_of, final_bit}
use Rattle.plan.specs.declared.Kind.{Kind}
use Rattle.plan.specs.declared.Plan.{Plan}
use Rattle.times.specs.declared.Progress.{Progress}
use Rattle.run_window.specs.declared.Entry.{Entry}
use Rattle.run_window.specs.declared.Found.{Found}
use Rattle.run_window.specs.declared.Sought.{Sought}
use Rattle.run_window.specs.Window.{vacant, started_of, node_place, on_found, is_empty}
use Rattle.run_checks.specs.declared.Stop.{Stop}
use Rattle.run_checks.specs.declared.Refusal.{Refusal}
use Rattle.run_checks.specs.declared.Objection.{Objection}
use Rattle.run_checks.specs.declared.Moment.{Moment}
use Rattle.run_checks.specs.Order.{reported_by}
use Rattle.run_loading.specs.declared.Loading.{Loading}
use Rattle.run.specs.declared.Run.{Run}
use Rattle.run.specs.declared.Reply.{Reply}
use Rattle.run.specs.declared.Answer.{Answer}
use Rattle.run.specs.declared.Call.{Call}
use Rattle.run.specs.declared.Checked.{Checked}
use Rattle.run.specs.declared.Effect.{Effect}
use Rattle.run.specs.Calls.{answer, heard, stops, is_done, learnt}
use Rattle.run.specs.Inner.Calls.{told_run, reply_after, halt_after}
use Rattle.run.specs.Inner.Loads.{Loads}
use Rattle.run.specs.Inner.Checks.{check_of}

-- ---- what the checks are given and what they found

-- an ask looks for the first due node, a report for the node that it names
abbrev pub sought_by : Clock → Call → Sought
sought_by psi (Call.Ask t) = Sought.Due psi t
sought_by psi (Call.Completion t p n) = Sought.Node p n
sought_by psi (Call.Outcome t p n o) = Sought.Node p n

abbrev pub found_by : Result (Option Found) Objection → Option Found
found_by (Ok found) = found
found_by (Err o) = None

-- where its node stands among the nodes of the plan
abbrev pub place_of : Option Found → ℕ
place_of None = 0
place_of (Some x) = node_place x.entry

-- how many outcomes the event of a node has
abbrev pub outcomes_for : List ℕ → Kind → ℕ
outcomes_for outcomes (Kind.Action a x) = 0
outcomes_for outcomes (Kind.Claim r) = 0
outcomes_for outcomes (Kind.Release r) = 0
outcomes_for outcomes (Kind.Event e) = get_or outcomes e 0

-- what the checks say, the kind of the node that they found, and how many outcomes it has
abbrev pub kind_found : Run → Result (Option Found) Objection → Kind
kind_found run check = (get_or run.plan.nodes (place_of (found_by check)) past_node).kind

abbrev pub checked_of : Run → Clock → Sought → Checked
checked_of run t sought = record {
  check = check_of run t sought;
  kind = kind_found run (check_of run t sought);
  most = outcomes_for run.plan.outcomes (kind_found run (check_of run t sought));
}

-- ---- the effect

abbrev pub refusing : Refusal → Effect
refusing f = Effect.Stays (Reply.Refused f)

-- the reported action leaves the window; 54 completion of an event
abbrev pub completes_by : ℕ → Kind → Effect
completes_by i (Kind.Action a x) = Effect.Stores i vacant Reply.Taken
completes_by i (Kind.Claim r) = refusing Refusal.OtherKind
completes_by i (Kind.Release r) = refusing Refusal.OtherKind
completes_by i (Kind.Event e) = refusing Refusal.OtherKind

-- an outcome that the event has; a marker's "report closes the node and is not queued"
abbrev pub hears_as : ℕ → Entry → ℕ → ℕ → ℕ → Effect
hears_as i x e o most = cond (eqb most 1) (Effect.Stores i vacant Reply.Taken) (Effect.Learns i x e o)

-- 54 outcome of an action; 55 outcome the event lacks
abbrev pub learns_as : ℕ → Entry → ℕ → ℕ → Kind → Effect
learns_as i x o most (Kind.Action a y) = refusing Refusal.OtherKind
learns_as i x o most (Kind.Claim r) = refusing Refusal.OtherKind
learns_as i x o most (Kind.Release r) = refusing Refusal.OtherKind
learns_as i x o most (Kind.Event e) = cond (ltb o most) (hears_as i x e o most) (refusing Refusal.OutcomeLacking)

-- the due node is started, or nothing is due
abbrev pub starts_by : Option Found → Effect
starts_by found = on_found found (λ i e. Effect.Stores i (started_of e) (Reply.Start e.position e.activity e.node)) Effect.Rests

-- of a call that passes its checks, by what it found, the kind of its node and how many outcomes that has
abbrev pub effect_on : Call → Option Found → Kind → ℕ → Effect
effect_on (Call.Ask t) found kind most = starts_by found
effect_on (Call.Completion t p n) found kind most = reported_by found (λ i e. completes_by i kind) refusing
effect_on (Call.Outcome t p n o) found kind most = reported_by found (λ i e. learns_as i e o most kind) refusing

abbrev pub effect_for : Objection → Effect
effect_for (Objection.Refuses f) = refusing f
effect_for (Objection.Keeps s) = Effect.Stays (Reply.Stopped s)
effect_for (Objection.Stops s) = Effect.Stops s

abbrev pub effect_by : Call → Result (Option Found) Objection → Kind → ℕ → Effect
effect_by c (Ok found) kind most = effect_on c found kind most
effect_by c (Err o) kind most = effect_for o

abbrev pub effect_of : Call → Checked → Effect
effect_of c checked = effect_by c checked.check checked.kind checked.most

-- ---- the answer

-- "It says done if the path ended in a final state and the window is empty, otherwise wait when nothing is due."
abbrev pub rests_as : ℕ → ℕ → List Entry → Reply
rests_as finals s w = cond (final_bit finals s && is_empty w) Reply.Done Reply.Wait

abbrev pub acted : Run → Clock → Effect → Answer
acted run t (Effect.Stays reply) = answer reply run
acted run t (Effect.Stops s) = stops run t s
acted run t Effect.Rests = answer (cond (is_done run) Reply.Done Reply.Wait) (heard run t None run.progress run.window)
acted run t (Effect.Stores i e reply) = answer reply (heard run t None run.progress (set run.window i e))
acted run t (Effect.Learns i x e o) = learnt (told_run run t i x e o)

-- an outcome, from what was loaded after it
abbrev pub loaded_as : Run → Clock → Loading → Answer
loaded_as run t l = answer (reply_after l.failure) (heard run t (halt_after l.failure) l.progress l.window)

-- a reply that leaves the run: a refusal, or the stop that the run keeps
abbrev pub Leaves : Option Stop → Reply → Type 0
Leaves halt (Reply.Start p a n) = ⊥
Leaves halt Reply.Wait = ⊥
Leaves halt Reply.Done = ⊥
Leaves halt Reply.Taken = ⊥
Leaves halt (Reply.Refused f) = Unit {0}
Leaves halt (Reply.Stopped s) = halt ≡ Some s

-- a reply that is no refusal
abbrev pub Accepts : Reply → Type 0
Accepts (Reply.Start p a n) = Unit {0}
Accepts Reply.Wait = Unit {0}
Accepts Reply.Done = Unit {0}
Accepts Reply.Taken = Unit {0}
Accepts (Reply.Refused f) = ⊥
Accepts (Reply.Stopped s) = Unit {0}

-- what is known of an effect: a run that it changes keeps no stop, and the state, the place, the event and the outcome are the plan's
abbrev pub Named : Run → Effect → Type 0
Named run (Effect.Stays reply) = Leaves run.halt reply
Named run (Effect.Stops s) = run.halt ≡ None
Named run Effect.Rests = (run.progress.state < 64) × (run.halt ≡ None)
Named run (Effect.Stores i e reply) = (i < 512) × Accepts reply × (run.halt ≡ None)
Named run (Effect.Learns i x e o) = (i < 512) × (e < run.plan.events) × (o < outcomes_of run.plan e) × Loads run × (run.halt ≡ None)

-- the run with these parts; of the moment, its times
abbrev pub run_at : Plan → Progress → List Entry → Moment → Option Stop → Run
run_at plan progress window m halt = record { plan = plan; psi = m.psi; slack = m.slack; progress = progress; window = window; last = m.last; halt = halt }
