-- `refused_line` meets its contract. Assumes nothing.
use native.Mathlib.Omega.{arith}
use Rattle.timetable_lines.proofs.Laws.Lines.{refused_length}
use Rattle.timetable_text.proofs.Laws.Lent.{lends_front, front_there}
use Rattle.timetable_turns.proofs.refused_line.Goals as goal

pub lend-requires : goal.lend-requires
lend-requires c = let u = refused_length c.args.number c.args.place in front_there _ _ _ _ (omega arith) c.put_refused-next.ensures

pub returns : goal.returns
returns c = let u = refused_length c.args.number c.args.place in lends_front _ _ _ _ (omega arith) c.put_refused-next.ensures _ _ _ _ c.lend.ensures
