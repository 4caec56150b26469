-- The timetable one turn at a time: each turn puts the rows of one position, or the text that closes the table, so that the
-- text can be handed on before the next outcome byte is read.
use Rattle.std.specs.Prelude.{Bool, true, false, cond, List, [], ◌∷◌, ◌++◌, ℕ, zero, suc, ◌+◌, ltb, replicate, Option, Some, None, Ok, Err, is_err}
use Rattle.plan.specs.Plan.{outcomes_of}
use Rattle.plan.specs.Fault.{number_of}
use Rattle.plan.specs.Limits.{InLimits}
use Rattle.plan.specs.declared.Plan.{Plan}
use Rattle.plan.specs.Verdict.{Verdict}
use Rattle.automaton.specs.Next.{next_of, chosen_of}
use Rattle.automaton.specs.declared.Next.{Next}
use Rattle.times.specs.Times.{specified}
use Rattle.times.specs.declared.Progress.{Progress}
use Rattle.run_path.specs.Path.{taken_by, entries_by}
use Rattle.run_path.specs.Pathed.{ProgressIn}
use Rattle.run_outcomes.specs.Way.{on_chosen}
use Rattle.run_opening.specs.Given.{at_first}
use Rattle.timetable_lines.specs.Lines.{header, rows, ended, waiting, refused}

-- ---- one turn

-- what a turn puts, and what it leaves
pub record OneTurn : Type 0 where
  pub text : List ℕ
  -- the text closes the table
  pub closed : Bool
  -- the next outcome byte was taken
  pub heard : Bool
  -- where the behaviour stands then
  pub progress : Progress

abbrev pub closes : Progress → List ℕ → OneTurn
closes g text = record { text = text; closed = true; heard = false; progress = g }

-- transition t; "44, place = the position, whose rows are left out"
unfoldable pub takes : Plan → Progress → Bool → ℕ → OneTurn
takes p g heard t =
    cond (taken_by p t g).beyond (closes g (refused 44 g.position))
    (record { text = rows (entries_by p t g); closed = false; heard = heard; progress = (taken_by p t g).progress })

-- the transition of an outcome of event e, if the state has one
unfoldable pub chooses : Plan → Progress → ℕ → Option ℕ → OneTurn
chooses p g e c = on_chosen c (takes p g true) (closes g (waiting p g e))

-- "If outcomes run out, free is printed and the last line is waits"; "55 for an outcome the event lacks, place = its index"
unfoldable pub hears : Plan → Progress → ℕ → ℕ → Option ℕ → OneTurn
hears p g e read None = closes g (waiting p g e)
hears p g e read (Some o) =
    cond (ltb o (outcomes_of p e)) (chooses p g e (chosen_of p.automaton g.state e o)) (closes g (refused 55 read))

unfoldable pub turn_by : Plan → Progress → ℕ → Option ℕ → Next → OneTurn
turn_by p g read heard Next.Ended = closes g (ended p g)
turn_by p g read heard (Next.Goes t) = takes p g false t
turn_by p g read heard (Next.Waits e) = hears p g e read heard

-- the turn of where the behaviour stands, `read` outcome bytes read before
unfoldable pub turn_of : Plan → Progress → ℕ → Option ℕ → OneTurn
turn_of p g read heard = turn_by p g read heard (next_of p.automaton g.state)

-- whether a turn asks for an outcome byte
abbrev pub is_waiting : Next → Bool
is_waiting Next.Ended = false
is_waiting (Next.Goes t) = false
is_waiting (Next.Waits e) = true

abbrev pub waits_of : Plan → Progress → Bool
waits_of p g = is_waiting (next_of p.automaton g.state)

-- ---- all turns

-- the next outcome byte, if there is one
abbrev pub head_of : List ℕ → Option ℕ
head_of [] = None
head_of (o ∷ os) = Some o

-- how many outcome bytes are read after a turn
abbrev pub read_after : OneTurn → ℕ → ℕ
read_after x read = cond x.heard (read + 1) read

abbrev pub rest_of : List ℕ → List ℕ
rest_of [] = []
rest_of (o ∷ os) = os

-- and those that are left; "Spare outcomes are not read."
abbrev pub left_after : OneTurn → List ℕ → List ℕ
left_after x os = cond x.heard (rest_of os) os

-- at most n turns: each is handed the next outcome byte, and the text of the next follows unless it closes the table
unfoldable pub turns_from : Plan → ℕ → ℕ → List ℕ → Progress → List ℕ
turns_from p zero read os g = []
turns_from p (suc n) read os g =
    (turn_of p g read (head_of os)).text
    ++ cond (turn_of p g read (head_of os)).closed []
    (turns_from p n (read_after (turn_of p g read (head_of os)) read) (left_after (turn_of p g read (head_of os)) os) (turn_of p g read (head_of os)).progress)

-- one turn for each position, and the one that is past the last
abbrev pub most_turns : ℕ
most_turns = 1_000_000_002

-- ---- before the first turn

abbrev pub is_refused : Verdict → Bool
is_refused v = is_err v

-- "A refused plan prints only refused, number, place"; an accepted one, the header
abbrev pub first_text : Verdict → List ℕ
first_text (Ok u) = header
first_text (Err e) = refused (number_of e.fault) e.place

-- "availabilities are 0"
abbrev pub first_progress : Plan → Progress
first_progress p = at_first (replicate 16 (specified 0)) p.automaton.initial

-- a table that is not closed: the plan, and where the behaviour stands, within the limits
pub record Open (p : Plan) (g : Progress) : Type 0 where
  pub plan : InLimits p
  pub progress : ProgressIn p g
