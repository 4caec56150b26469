-- The whole line at once.
use Rattle.timetable_text.specs.Text.{line}
use Rattle.timetable_lines.proofs.put_header.Goals as goal

pub returns : goal.returns
unfolding line
returns c = c.put_bytes.ensures
