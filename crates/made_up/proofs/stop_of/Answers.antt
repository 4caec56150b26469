-- Each tag gives its stop.
use Prim.Native.Nat.{◌%◌}
use native.Mathlib.Omega.{arith}
use borrow.Author.Tests.{ne_eqb}
use Rattle.made_up.specs.Made.{stop_of}
use Rattle.made_up.proofs.stop_of.Goals as goal

pub returns-in-0 : goal.returns-in-0
unfolding stop_of
returns-in-0 c = rw c.in-0.is

pub returns-in-1 : goal.returns-in-1
unfolding stop_of
returns-in-1 c = rw c.in-1.is

pub returns-in-2 : goal.returns-in-2
unfolding stop_of
returns-in-2 c = rw c.in-2.is

pub returns-in_default : goal.returns-in_default
unfolding stop_of
returns-in_default c = rw (ne_eqb (c.args.tag % 4) 0 (λ e. omega arith), ne_eqb (c.args.tag % 4) 1 (λ e. omega arith), ne_eqb (c.args.tag % 4) 2 (λ e. omega arith))
