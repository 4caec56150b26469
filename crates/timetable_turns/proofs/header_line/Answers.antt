-- `header_line` meets its contract. Assumes nothing.
use native.Mathlib.Omega.{arith}
use Rattle.timetable_lines.proofs.Laws.Lines.{header_length}
use Rattle.timetable_text.proofs.Laws.Lent.{lends_front, front_there}
use Rattle.timetable_turns.proofs.header_line.Goals as goal

pub lend-requires : goal.lend-requires
lend-requires c = let u = header_length in front_there _ _ _ _ (omega arith) c.put_header-next.ensures

pub returns : goal.returns
returns c = let u = header_length in lends_front _ _ _ _ (omega arith) c.put_header-next.ensures _ _ _ _ c.lend.ensures
