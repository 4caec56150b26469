-- "The program timetable reads the plan's length (two bytes), the plan and outcome bytes; availabilities are 0."
use Rattle.std.specs.Prelude.{cond, List, [], ◌∷◌, ◌++◌, ℕ, zero, suc, ◌+◌, ◌*◌, ltb, leb, length, take, drop, replicate, Ok, Err}
use Rattle.plan.specs.Plan.{outcomes_of}
use Rattle.plan.specs.Fault.{number_of}
use Rattle.plan.specs.declared.Fault.{Fault}
use Rattle.plan.specs.Verdict.{Verdict}
use Rattle.plan.specs.declared.Plan.{Plan}
use Rattle.judge.specs.Judge.{judge_of}
use Rattle.automaton.specs.Next.{next_of, chosen_of}
use Rattle.automaton.specs.declared.Next.{Next}
use Rattle.times.specs.declared.Progress.{Progress}
use Rattle.run_path.specs.Path.{taken_by, entries_by}
use Rattle.run_outcomes.specs.Way.{on_chosen}
use Rattle.times.specs.Times.{specified}
use Rattle.run_opening.specs.Given.{at_first}
use Rattle.timetable_lines.specs.Lines.{header, rows, ended, waiting, refused}

-- ---- the table

-- what a state does with the outcomes that are left, of which `read` were read before
pub data Move : Type 0 where
  -- transition t, with the outcomes left after it
  Takes : ℕ → ℕ → List ℕ → Move
  -- the text that closes the table
  Closes : List ℕ → Move

abbrev pub hear : Plan → Progress → ℕ → ℕ → List ℕ → Move
hear p g e read [] = Closes (waiting p g e)
hear p g e read (o ∷ os) =
    cond (ltb o (outcomes_of p e))
    (on_chosen (chosen_of p.automaton g.state e o) (λ t. Takes t (read + 1) os) (Closes (waiting p g e)))
    (Closes (refused 55 read))

abbrev pub move_by : Plan → Progress → ℕ → List ℕ → Next → Move
move_by p g read os Next.Ended = Closes (ended p g)
move_by p g read os (Next.Goes t) = Takes t read os
move_by p g read os (Next.Waits e) = hear p g e read os

abbrev pub on_move : {A : Type 0} → Move → (ℕ → ℕ → List ℕ → A) → (List ℕ → A) → A
on_move (Takes t read os) f z = f t read os
on_move (Closes text) f z = z text

-- k positions more; past the last position, and where a time passes 10^15, "44, place = the position, whose rows are left out"
unfoldable pub table_from : Plan → ℕ → ℕ → List ℕ → Progress → List ℕ
table_from p zero read os g =
    on_move (move_by p g read os (next_of p.automaton g.state)) (λ t r rest. refused 44 g.position) (λ text. text)
table_from p (suc k) read os g =
    on_move (move_by p g read os (next_of p.automaton g.state))
    (λ t r rest. cond (taken_by p t g).beyond (refused 44 g.position) (rows (entries_by p t g) ++ table_from p k r rest (taken_by p t g).progress))
    (λ text. text)

-- positions 0 to 1,000,000,000
abbrev pub positions : ℕ
positions = 1_000_000_001

-- availabilities are 0
abbrev pub table_of : Plan → List ℕ → List ℕ
table_of p outcomes = header ++ table_from p positions 0 outcomes (at_first (replicate 16 (specified 0)) p.automaton.initial)

-- ---- the whole input

-- "A refused plan prints only refused, number, place"
abbrev pub judged_text : Verdict → Plan → List ℕ → List ℕ
judged_text (Ok u) p outcomes = table_of p outcomes
judged_text (Err e) p outcomes = refused (number_of e.fault) e.place

abbrev pub text_of_plan : List ℕ → List ℕ → List ℕ
text_of_plan bytes outcomes = judged_text (judge_of bytes).verdict (judge_of bytes).plan outcomes

-- "input that ends inside the length or the plan gives 1, place = the plan bytes present"
abbrev pub after_length : ℕ → List ℕ → List ℕ
after_length n rest = cond (leb n (length rest)) (text_of_plan (take n rest) (drop n rest)) (refused (number_of Fault.Ends) (length rest))

unfoldable pub timetable_of : List ℕ → List ℕ
timetable_of [] = refused (number_of Fault.Ends) 0
timetable_of (a ∷ []) = refused (number_of Fault.Ends) 0
timetable_of (a ∷ b ∷ rest) = after_length (a + 256 * b) rest
