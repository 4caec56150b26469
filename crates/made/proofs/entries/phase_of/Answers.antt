-- Each tag gives its phase.
use Prim.Native.Nat.{◌%◌}
use native.Mathlib.Omega.{arith}
use borrow.Author.Tests.{ne_eqb}
use Rattle.made.specs.Values.{phase_of}
use Rattle.made.proofs.entries.phase_of.Goals as goal

pub returns-in-0 : goal.returns-in-0
unfolding phase_of
returns-in-0 c = rw c.in-0.is

pub returns-in-1 : goal.returns-in-1
unfolding phase_of
returns-in-1 c = rw c.in-1.is

pub returns-in_default : goal.returns-in_default
unfolding phase_of
returns-in_default c = rw (ne_eqb (c.args.tag % 3) 0 (λ e. omega arith), ne_eqb (c.args.tag % 3) 1 (λ e. omega arith))
