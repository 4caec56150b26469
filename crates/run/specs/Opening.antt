-- "An opening gives a plan, Ψ, a slack of 1 to 1,000,000, and one availability, in specified time, for each resource. The
-- plan comes as bytes and is judged first; the run keeps it."
use Rattle.std.specs.Prelude.{cond, ◌||◌, List, ℕ, ltb, eqb, length, replicate, Option, Some, None, Ok, Err}
use Rattle.time.specs.Time.{horizon}
use Rattle.time.specs.declared.Clock.{Clock}
use Rattle.plan.specs.declared.Plan.{Plan}
use Rattle.plan.specs.Verdict.{Verdict}
use Rattle.plan.specs.Reading.{zero_plan}
use Rattle.judge.specs.Judge.{judge_of}
use Rattle.automaton.specs.Next.{next_of}
use Rattle.times.specs.declared.Progress.{Progress}
use Rattle.run.specs.declared.Run.{Run}
use Rattle.run.specs.declared.Unopened.{Unopened}
use Rattle.run.specs.declared.Opening.{Opening}
use Rattle.run.specs.declared.Opened.{Opened}
use Rattle.run_loading.specs.declared.Failure.{Failure}
use Rattle.run_window.specs.Window.{vacant}
use Rattle.run_window.specs.declared.Entry.{Entry}
use Rattle.times.specs.Times.{specified}
use Rattle.run.specs.Limits.{slack_in_limits}
use Rattle.run_opening.specs.Given.{at_first, availabilities, any_above}
use Rattle.run_opening.specs.Short.{short_from, on_short}
use Rattle.run.specs.Loading.{Loading, load}

-- ---- the run at its opening

-- "0 at opening" is the last reading
abbrev pub uncalled : Plan → Clock → ℕ → Progress → List Entry → Run
uncalled p psi slack g w =
    record { plan = p; psi = psi; slack = slack; progress = g; window = w; last = record { 0 = 0 }; halt = None }

abbrev pub fresh : Plan → Clock → ℕ → Progress → Run
fresh p psi slack g = uncalled p psi slack g (replicate 512 vacant)

-- "A refused opening hands back a run of zeros"
abbrev pub zero_run : Run
zero_run = fresh zero_plan (record { 0 = 0 }) 0 (at_first (replicate 16 (specified 0)) 0)

abbrev pub unopened : Unopened → Opened
unopened u = record { opening = Opening.Refused u; run = zero_run }

-- ---- the opening

abbrev pub after_first : Option Failure → Run → Opened
after_first None run = record { opening = Opening.Opened; run = run }
after_first (Some Failure.Full) run = unopened Unopened.Full
after_first (Some Failure.Beyond) run = unopened Unopened.Beyond

abbrev pub first_loaded : Loading → Opened
first_loaded l = after_first l.failure l.run

-- the first path, from the initial state
abbrev pub begin : Run → Opened
begin run = first_loaded (load run (next_of run.plan.automaton run.plan.automaton.initial))

-- "Opening checks run 30 to 33, then 44, 43 as refusals."
unfoldable pub open_plan : Plan → Clock → ℕ → List ℕ → Opened
open_plan p psi slack ts =
    cond (eqb (length ts) p.resources)
    (cond (ltb horizon psi.0 || any_above ts) (unopened Unopened.Time)
    (cond (slack_in_limits slack)
    (on_short (short_from p slack 0 p.activities) (λ a. unopened (Unopened.Short a))
    (begin (fresh p psi slack (at_first (availabilities ts) p.automaton.initial))))
    (unopened Unopened.Slack)))
    (unopened Unopened.Availabilities)

abbrev pub open_judged : Verdict → Plan → Clock → ℕ → List ℕ → Opened
open_judged (Ok u) p psi slack ts = open_plan p psi slack ts
open_judged (Err e) p psi slack ts = unopened (Unopened.Plan e.fault e.place)

unfoldable pub open_of : List ℕ → Clock → ℕ → List ℕ → Opened
open_of bytes psi slack ts = open_judged (judge_of bytes).verdict (judge_of bytes).plan psi slack ts
