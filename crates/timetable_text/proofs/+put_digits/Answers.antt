use native.Mathlib.Omega.{arith}
use Prim.Native.Nat.{◌-◌, ◌/◌}
use Rattle.timetable_text.proofs.Laws.Digits.{digits_length}
use Rattle.timetable_text.proofs.Turns.{put_none, put_small, put_more}
use Rattle.timetable_text.proofs.+put_digits.Goals as goal

pub returns-then-k-eq0 : goal.returns-then-k-eq0
returns-then-k-eq0 t c = put_none c.args.out.now c.args.at c.args.k c.args.n c.if-k-eq0.true

pub returns-then-n-lt10 : goal.returns-then-n-lt10
returns-then-n-lt10 t c = put_small c.args.k c.args.n _ (omega arith) c.if-n-lt10.true c.digit.ensures c.put_byte.ensures

pub put_byte-requires-2 : goal.put_byte-requires-2
put_byte-requires-2 t c = omega (arith, c.put_digits-next.ensures.past, digits_length (c.args.k - 1) (c.args.n / 10))

pub returns : goal.returns
returns t c = put_more c.args.k c.args.n _ (omega arith) (omega arith) c.digit-2.ensures c.put_digits-next.ensures c.put_byte-2.ensures
