-- What the inner functions of an opening and of an outcome answer.
use Rattle.std.specs.Prelude.{List, ℕ, Option, Some, None}
use Rattle.time.specs.declared.Clock.{Clock}
use Rattle.plan.specs.declared.Plan.{Plan}
use Rattle.run_window.specs.declared.Entry.{Entry}
use Rattle.run_checks.specs.declared.Stop.{Stop}
use Rattle.run.specs.declared.Run.{Run}
use Rattle.run.specs.declared.Reply.{Reply}
use Rattle.run.specs.declared.Unopened.{Unopened}
use Rattle.run.specs.declared.Opened.{Opened}
use Rattle.run_loading.specs.declared.Failure.{Failure}
use Rattle.run_outcomes.specs.Told.{told_of}
use Rattle.run_opening.specs.Given.{at_first, availabilities}
use Rattle.run_opening.specs.Short.{short_from, on_short}
use Rattle.run.specs.Opening.{unopened, begin, fresh}
use Rattle.run.specs.Calls.{cleared}

-- "Opening checks run 30 to 33, then 44, 43 as refusals": from 33 on
unfoldable pub first_path : Plan → Clock → ℕ → List ℕ → Opened
first_path p psi slack ts =
    on_short (short_from p slack 0 p.activities) (λ a. unopened (Unopened.Short a))
    (begin (fresh p psi slack (at_first (availabilities ts) p.automaton.initial)))

-- the run once the outcome o of event e is known
abbrev pub told_run : Run → Clock → ℕ → Entry → ℕ → ℕ → Run
told_run run t i x e o = cleared run t i (told_of run.progress e x o)

-- "An accepted report is taken; if loading after it fails the answer is stopped"
abbrev pub reply_after : Option Failure → Reply
reply_after None = Reply.Taken
reply_after (Some Failure.Full) = Reply.Stopped Stop.Full
reply_after (Some Failure.Beyond) = Reply.Stopped Stop.Beyond

-- whether the run keeps a stop after it
abbrev pub halt_after : Option Failure → Option Stop
halt_after None = None
halt_after (Some Failure.Full) = Some Stop.Full
halt_after (Some Failure.Beyond) = Some Stop.Beyond
