-- What is free, then the word, the state and the newline.
use Rattle.timetable_lines.specs.Lines.{free_of}
use Rattle.timetable_lines.proofs.Laws.Lines.{free_length}
use Rattle.timetable_text.proofs.Laws.Digits.{decimal_length}
use Rattle.timetable_text.specs.Text.{line}
use Rattle.wire.proofs.Laws.Puts.{puts_join}
use native.Mathlib.Omega.{arith}
use Rattle.timetable_lines.proofs.put_ended.Goals as goal

pub put_bytes-b-requires : goal.put_bytes-b-requires
put_bytes-b-requires c = omega (arith, free_length c.args.resources c.args.progress c.requires.1)

pub put_after_space-c-requires : goal.put_after_space-c-requires
put_after_space-c-requires c = omega (arith, free_length c.args.resources c.args.progress c.requires.1)

pub put_newline-requires : goal.put_newline-requires
put_newline-requires c = omega (arith, free_length c.args.resources c.args.progress c.requires.1, decimal_length c.from.result)

pub returns : goal.returns
unfolding line free_of
returns c = rw (← c.from.ensures) (puts_join c.put_free-a.ensures (puts_join c.put_bytes-b.ensures (puts_join c.put_after_space-c.ensures c.put_newline.ensures)))
