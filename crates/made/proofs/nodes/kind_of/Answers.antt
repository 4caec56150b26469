-- Each tag gives its kind.
use Prim.Native.Nat.{◌%◌}
use native.Mathlib.Omega.{arith}
use borrow.Author.Tests.{ne_eqb}
use Rattle.made.specs.Values.{kind_of}
use Rattle.made.proofs.nodes.kind_of.Goals as goal

pub returns-in-0 : goal.returns-in-0
unfolding kind_of
returns-in-0 c = rw c.in-0.is

pub returns-in-1 : goal.returns-in-1
unfolding kind_of
returns-in-1 c = rw c.in-1.is

pub returns-in-2 : goal.returns-in-2
unfolding kind_of
returns-in-2 c = rw c.in-2.is

pub returns-in_default : goal.returns-in_default
unfolding kind_of
returns-in_default c = rw (ne_eqb (c.args.tag % 4) 0 (λ e. omega arith), ne_eqb (c.args.tag % 4) 1 (λ e. omega arith), ne_eqb (c.args.tag % 4) 2 (λ e. omega arith))
