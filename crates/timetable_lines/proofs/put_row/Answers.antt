-- Five numbers and the newline.
use Rattle.timetable_text.proofs.Laws.Digits.{decimal_length}
use Rattle.timetable_text.specs.Text.{line}
use Rattle.wire.proofs.Laws.Puts.{puts_join}
use native.Mathlib.Omega.{arith}
use Rattle.timetable_lines.proofs.put_row.Goals as goal

pub put_after_space-b-requires : goal.put_after_space-b-requires
put_after_space-b-requires c = omega (arith, decimal_length c.from.result)

pub put_after_space-c-requires : goal.put_after_space-c-requires
put_after_space-c-requires c = omega (arith, decimal_length c.from.result, decimal_length c.from-2.result)

pub put_after_space-d-requires : goal.put_after_space-d-requires
put_after_space-d-requires c = omega (arith, decimal_length c.from.result, decimal_length c.from-2.result, decimal_length c.from-3.result)

pub put_after_space-f-requires : goal.put_after_space-f-requires
put_after_space-f-requires c = omega (arith, decimal_length c.from.result, decimal_length c.from-2.result, decimal_length c.from-3.result, decimal_length c.args.e.start.0)

pub put_newline-requires : goal.put_newline-requires
put_newline-requires c = omega (arith, decimal_length c.from.result, decimal_length c.from-2.result, decimal_length c.from-3.result, decimal_length c.args.e.start.0, decimal_length c.args.e.end.0)

pub returns : goal.returns
unfolding line
returns c = rw (← c.from.ensures, ← c.from-2.ensures, ← c.from-3.ensures) (puts_join c.put_decimal-a.ensures (puts_join c.put_after_space-b.ensures (puts_join c.put_after_space-c.ensures (puts_join c.put_after_space-d.ensures (puts_join c.put_after_space-f.ensures c.put_newline.ensures)))))
