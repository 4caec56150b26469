-- What holds between two turns of the program, and what several turns print.
use Rattle.std.specs.Prelude.{◌≡◌, false, cond, Option, List, [], ◌++◌, ℕ, ◌+◌, ◌-◌, ◌*◌, ◌≤◌, ◌<◌, length, take}
use Rattle.std.specs.Io.KnownBytes.{Appends, Consumes}
use Rattle.plan.specs.declared.Plan.{Plan}
use Rattle.timetable_turns.specs.Inner.Turn.{turn_of, turns_from, read_after, most_turns, Open}
use Rattle.timetable_turns.specs.Timetable.{text_of_plan}
use Rattle.timetable_streams.specs.declared.Output.{Output}
use Rattle.timetable_streams.specs.Inner.Gathering.{Gathers}
use Rattle.timetable_output.specs.declared.Between.{Between}

-- ---- a turn

-- the text fits, its length can be counted, and while turns are left the table is open, has room for a turn and lost nothing
pub record Stands (p : Plan) (b : Between) : Type 0 where
  pub fits : b.output.gathered ≤ 65_536
  pub room : 0 < b.left → b.output.gathered ≤ 61_440
  pub within : 0 < b.left → Open p b.progress
  pub went : 0 < b.left → b.output.lost ≡ false
  pub turns : b.taken + b.left ≤ most_turns
  pub few : b.output.handed + b.output.gathered + 4_000 * b.left ≤ 5_000_000_000_000

-- a writer that held `start` before the text holds what was handed on of it then
abbrev pub Went : Option (List ℕ) → Option (List ℕ) → List ℕ → Output → Type 0
Went start written text o = Appends start written (take o.handed text)

-- one turn of the table, handed an outcome byte or none; after output that failed there is no other
pub record Goes (p : Plan) (b : Between) (heard : Option ℕ) (before after : List ℕ) (written writes : Option (List ℕ)) (r : Between) : Type 0 where
  pub stands : Stands p r
  pub gathers : (text : List ℕ) → Gathers text before b.output → Gathers (text ++ (turn_of p b.progress b.taken heard).text) after r.output
  pub progress : r.progress ≡ (turn_of p b.progress b.taken heard).progress
  pub taken : r.taken ≡ read_after (turn_of p b.progress b.taken heard) b.taken
  pub left : r.left ≡ cond (turn_of p b.progress b.taken heard).closed 0 (cond r.output.lost 0 (b.left - 1))
  pub went : r.output.lost ≡ false → (text : List ℕ) → Gathers text before b.output
      → (start : Option (List ℕ)) → Went start written text b.output
      → Went start writes (text ++ (turn_of p b.progress b.taken heard).text) r.output

-- ---- several turns

-- from b to r the texts of some turns joined the text so far, and the outcome bytes `heard` were taken of the input; where no output
-- failed, the turns that r leaves complete those that b left
pub record Prints (p : Plan) (b : Between) (before after : List ℕ) (input rest written writes : Option (List ℕ)) (r : Between) : Type 0 where
  pub text : List ℕ
  pub heard : List ℕ
  pub took : Consumes input rest heard
  pub gathers : (l : List ℕ) → Gathers l before b.output → Gathers (l ++ text) after r.output
  pub onward : r.output.lost ≡ false → (os : List ℕ) → (r.left ≡ 0 → os ≡ [])
      → turns_from p b.left b.taken (heard ++ os) b.progress ≡ text ++ turns_from p r.left r.taken os r.progress
  pub went : r.output.lost ≡ false → (l : List ℕ) → Gathers l before b.output
      → (start : Option (List ℕ)) → Went start written l b.output → Went start writes (l ++ text) r.output

-- the text so far and the turns that b left, for the outcome bytes `os`, are all handed on
pub record Whole (p : Plan) (b : Between) (text os : List ℕ) (written writes : Option (List ℕ)) (r : Output) : Type 0 where
  pub handed : r.handed ≡ length (text ++ turns_from p b.left b.taken os b.progress)
  pub went : (start : Option (List ℕ)) → Went start written text b.output
      → Appends start writes (text ++ turns_from p b.left b.taken os b.progress)

-- all turns: where no output failed, every byte of the text so far and of the turns that were left was handed on, for the outcome
-- bytes that were taken of the input
pub record Ends (p : Plan) (b : Between) (before : List ℕ) (input rest written writes : Option (List ℕ)) (r : Output) : Type 0 where
  pub all : (l : List ℕ) → Gathers l before b.output → r.lost ≡ false
      → (os : List ℕ) × Consumes input rest os × Whole p b l os written writes r

-- the whole table of a plan, for some outcome bytes
pub record Printed (bytes : List ℕ) (r : Output) : Type 0 where
  pub all : r.lost ≡ false → (os : List ℕ) × (r.handed ≡ length (text_of_plan bytes os))

-- where no output failed, what a writer holds grew by the text for the bytes that were taken of the input, and by nothing else
pub record Delivers (text_of : List ℕ → List ℕ) (input rest written writes : Option (List ℕ)) (r : Output) : Type 0 where
  pub all : r.lost ≡ false → (os : List ℕ) × Consumes input rest os × Appends written writes (text_of os) × (r.handed ≡ length (text_of os))
