-- The word, then the times and the newline.
use Rattle.timetable_lines.proofs.Laws.Lines.{free_is}
use Rattle.wire.proofs.Laws.Puts.{puts_join}
use Rattle.timetable_lines.proofs.put_free.Goals as goal

pub returns : goal.returns
returns c = rw (free_is c.args.resources c.args.progress) (puts_join c.put_bytes-next.ensures c.put_times.ensures)
