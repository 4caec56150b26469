use Rattle.timetable_lines.proofs.Laws.Lines.{spaced_turn, spaced_end, remains_all, remains_less}
use Rattle.timetable_text.proofs.Laws.Digits.{decimal_length}
use Rattle.times.specs.Times.{specified}
use lib.ListN.{get_or}
use mathlib.Core.Path.{refl, ◌∙◌}
use native.Mathlib.Nat.{sub-zero}
use native.Mathlib.Omega.{arith}
use Rattle.timetable_lines.proofs.put_times.Goals as goal

pub loop-i-init : goal.loop-i-init
loop-i-init c = (omega arith, refl, remains_all _ _ _ _ (rw sub-zero))

pub put_after_space-off-requires : goal.put_after_space-off-requires
put_after_space-off-requires c = omega arith

pub loop-i-preserved : goal.loop-i-preserved
loop-i-preserved c = (
  omega (arith, c.put_after_space-off.ensures.past, decimal_length (get_or c.args.times c.loop-i.i (specified 0)).0),
  c.put_after_space-off.auto.out ∙ c.loop-i.invariant.1,
  remains_less _ _ _ _ _ _ _ _ _ _ (spaced_turn c.args.times c.args.count c.loop-i.i (omega arith)) c.loop-i.invariant.2 c.put_after_space-off.ensures,
)

pub put_newline-requires : goal.put_newline-requires
put_newline-requires c = omega arith

pub returns : goal.returns
returns c = c.loop-i.invariant.2 _ _ (rw (spaced_end c.args.times c.args.count c.loop-i.i (omega arith)) c.put_newline.ensures)
