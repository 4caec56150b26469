-- The timetable of a whole input, turn after turn into one buffer.
use Rattle.std.specs.Prelude.{ℕ, ◌+◌, ◌*◌, ◌≤◌, ◌<◌, List, drop}
use Rattle.plan.specs.declared.Plan.{Plan}
use Rattle.timetable_turns.specs.declared.Place.{Place}
use Rattle.timetable_turns.specs.Inner.Turn.{turns_from, most_turns, Open}

-- the text of the turns that are left; the outcome bytes stand in the input from `start` on
abbrev pub left_text : Plan → ℕ → List ℕ → Place → List ℕ
left_text p start input w = turns_from p w.left w.read (drop (start + w.read) input) w.progress

-- the length of the text can be counted, and while turns are left the table is open
pub record Standing (p : Plan) (w : Place) : Type 0 where
  pub within : 0 < w.left → Open p w.progress
  pub turns : w.read + w.left ≤ most_turns
  pub few : w.at + 4_000 * w.left ≤ 5_000_000_000_000
