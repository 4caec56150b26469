-- `first_line` meets its contract: by the verdict. Assumes nothing.
use mathlib.Core.Path.{sym, ap}
use Rattle.timetable_turns.specs.Inner.Turn.{first_text}
use Rattle.timetable_text.proofs.Laws.Lent.{lends_as}
use Rattle.timetable_turns.proofs.Begins.{lends_refused}
use Rattle.timetable_turns.proofs.first_line.Goals as goal

pub returns-in-Ok : goal.returns-in-Ok
returns-in-Ok c = lends_as _ _ _ _ _ _ (ap first_text (sym c.in-Ok.is)) c.header_line.ensures

pub returns-in-Err : goal.returns-in-Err
returns-in-Err c = lends_refused _ _ _ _ _ _ _ c.number_of-number.ensures c.in-Err.is c.refused_line.ensures
