-- `check_reading` refuses a reading below the last one; 42 comes after it, and then 41.
use mathlib.Core.Path.{sym, ap}
use borrow.Author.Tests.{lt-ltb, le-ltb}
use Rattle.run_window.specs.declared.Seen.{Seen}
use Rattle.run_checks.specs.Order.{timely_by}
use Rattle.run_checks.proofs.check_reading.Goals as goal

pub returns-then-m : goal.returns-then-m
unfolding timely_by
returns-then-m c = rw (lt-ltb _ _ c.if-m.true)

pub returns : goal.returns
unfolding timely_by
returns c = let q = c.look-seen.ensures in rw (le-ltb _ _ c.if-m.false, ap (λ (s : Seen). s.overdue) (sym q), ap (λ (s : Seen). s.late) (sym q), ap (λ (s : Seen). s.sought) (sym q)) c.check_seen.ensures
