-- Counted first: a buffer that is too short stays as it was.
use native.Mathlib.Omega.{arith}
use Rattle.drive_input.proofs.Laws.Whole.{whole_parts}
use Rattle.drive.proofs.Fitting.{all_parts, too_short, all_written}
use Rattle.drive.proofs.if_they_fit.Goals as goal

pub count_from-parts-requires : goal.count_from-parts-requires
count_from-parts-requires c = whole_parts c.args.input.now c.args.head c.requires

pub returns-then-out-parts : goal.returns-then-out-parts
returns-then-out-parts c = let a = c.args in too_short a.input.now a.out.now a.head c.requires _ c.count_from-parts.ensures c.if-out-parts.true

pub opened_and_called-requires : goal.opened_and_called-requires
opened_and_called-requires c = let a = c.args in (c.requires, all_parts a.input.now a.out.now a.head c.requires _ c.count_from-parts.ensures, omega (arith, c.if-out-parts.false))

pub returns : goal.returns
returns c = let a = c.args in all_written a.input.now a.out.now a.head c.requires _ c.count_from-parts.ensures c.if-out-parts.false _ _ c.opened_and_called.ensures
