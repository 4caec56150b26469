-- One turn from its parts: what it does, of how many resources, with the nodes that are emitted.
use Rattle.std.specs.Prelude.{Bool, true, false, cond, List, [], ℕ}
use Rattle.plan.specs.declared.Node.{Node}
use Rattle.plan.specs.declared.Transition.{Transition}
use Rattle.times.specs.Engine.{advance_of}
use Rattle.times.specs.declared.Progress.{Progress}
use Rattle.run_path.specs.Path.{entries_from, activity_number}
use Rattle.timetable_lines.specs.Lines.{rows, ended_of, waiting_of, refused}
use Rattle.timetable_steps.specs.declared.Step.{Step}
use Rattle.timetable_turns.specs.declared.Drafted.{Drafted}
use Rattle.timetable_turns.specs.Inner.Turn.{OneTurn, closes}

-- the transition m, which emits these nodes; "44, place = the position, whose rows are left out"
unfoldable pub taking : ℕ → List Node → Progress → Transition → Bool → OneTurn
taking resources nodes g m heard =
    cond (advance_of resources nodes m.input m.to g).beyond (closes g (refused 44 g.position))
    (record {
      text = rows (entries_from g.position (activity_number m.output) (advance_of resources nodes m.input m.to g).schedule 0 nodes);
      closed = false;
      heard = heard;
      progress = (advance_of resources nodes m.input m.to g).progress;
    })

-- the text that closes the table, `read` outcome bytes read before
abbrev pub closing : ℕ → Progress → ℕ → Step → List ℕ
closing resources g read Step.Ends = ended_of resources g
closing resources g read (Step.Waits e) = waiting_of resources g e
closing resources g read Step.Lacks = refused 55 read
closing resources g read (Step.Takes m heard) = []

unfoldable pub stepped : ℕ → List Node → Progress → ℕ → Step → OneTurn
stepped resources nodes g read (Step.Takes m heard) = taking resources nodes g m heard
stepped resources nodes g read Step.Ends = closes g (closing resources g read Step.Ends)
stepped resources nodes g read (Step.Waits e) = closes g (closing resources g read (Step.Waits e))
stepped resources nodes g read Step.Lacks = closes g (closing resources g read Step.Lacks)

-- what the code hands back where the text closes the table
abbrev pub closed_at : ℕ → Progress → Drafted
closed_at next g = record { next = next; closed = true; heard = false; progress = g }
