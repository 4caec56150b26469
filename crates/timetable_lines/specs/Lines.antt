-- The lines that the program timetable prints. Every line ends in a newline.
use Rattle.std.specs.Prelude.{List, [], ◌∷◌, ◌++◌, map, ℕ}
use Rattle.basis.specs.Parts.{part}
use Rattle.time.specs.declared.Specified.{Specified}
use Rattle.plan.specs.declared.Plan.{Plan}
use Rattle.times.specs.Times.{specified}
use Rattle.times.specs.declared.Progress.{Progress}
use Rattle.run_window.specs.declared.Entry.{Entry}
use Rattle.timetable_text.specs.Text.{decimal, line, word_position, word_activity, word_node, word_start, word_end, word_free, word_waits, word_refused}

-- "position activity node start end"
abbrev pub header : List ℕ
header = line (word_position ∷ word_activity ∷ word_node ∷ word_start ∷ word_end ∷ [])

-- "Action and event nodes by position and node"
abbrev pub row : Entry → List ℕ
row e =
    line (decimal e.position ∷ decimal e.activity ∷ decimal e.node ∷ decimal e.start.0 ∷ decimal e.end.0 ∷ [])

unfoldable pub rows : List Entry → List ℕ
rows [] = []
rows (e ∷ es) = row e ++ rows es

-- "availability by resource", of so many resources
unfoldable pub free_of : ℕ → Progress → List ℕ
free_of resources g = line (word_free ∷ map (λ (t : Specified). decimal t.0) (part (specified 0) g.available 0 resources))

-- "the final state"
abbrev pub ended_of : ℕ → Progress → List ℕ
ended_of resources g = free_of resources g ++ line (word_end ∷ decimal g.state ∷ [])

-- "If outcomes run out, free is printed and the last line is waits, state, event, in place of end."
abbrev pub waiting_of : ℕ → Progress → ℕ → List ℕ
waiting_of resources g e = free_of resources g ++ line (word_waits ∷ decimal g.state ∷ decimal e ∷ [])

-- the same of a plan
abbrev pub free : Plan → Progress → List ℕ
free p g = free_of p.resources g

abbrev pub ended : Plan → Progress → List ℕ
ended p g = ended_of p.resources g

abbrev pub waiting : Plan → Progress → ℕ → List ℕ
waiting p g e = waiting_of p.resources g e

-- "refused, number, place"
abbrev pub refused : ℕ → ℕ → List ℕ
refused number place = line (word_refused ∷ decimal number ∷ decimal place ∷ [])
