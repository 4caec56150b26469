-- `jidlekuvo_timetable` meets its contract. Assumes nothing.
use mathlib.Core.Path.{ap, ◌∙◌}
use Rattle.exports.specs.Lengths.{length_code}
use Rattle.exports.proofs.timetables.jidlekuvo_timetable.Goals as goal

pub returns : goal.returns
returns c = let w = c.timetable.ensures in (c.length_code.ensures ∙ ap length_code w.put, w.left)
