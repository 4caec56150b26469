-- The word, the number, the place and the newline.
use Rattle.timetable_text.proofs.Laws.Digits.{decimal_length}
use Rattle.timetable_text.specs.Text.{line}
use Rattle.wire.proofs.Laws.Puts.{puts_join}
use native.Mathlib.Omega.{arith}
use Rattle.timetable_lines.proofs.put_refused.Goals as goal

pub put_after_space-c-requires : goal.put_after_space-c-requires
put_after_space-c-requires c = omega (arith, decimal_length c.from.result)

pub put_newline-requires : goal.put_newline-requires
put_newline-requires c = omega (arith, decimal_length c.from.result, decimal_length c.args.place)

pub returns : goal.returns
unfolding line
returns c = rw (← c.from.ensures) (puts_join c.put_bytes-a.ensures (puts_join c.put_after_space-b.ensures (puts_join c.put_after_space-c.ensures c.put_newline.ensures)))
