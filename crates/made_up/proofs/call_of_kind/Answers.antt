-- Each kind gives its call.
use native.Mathlib.Omega.{arith}
use borrow.Author.Tests.{ne_eqb}
use Rattle.made_up.specs.Made.{call_of_kind}
use Rattle.made_up.proofs.call_of_kind.Goals as goal

pub returns-in-1 : goal.returns-in-1
unfolding call_of_kind
returns-in-1 c = rw c.in-1.is

pub returns-in-2 : goal.returns-in-2
unfolding call_of_kind
returns-in-2 c = rw c.in-2.is

pub returns-in_default : goal.returns-in_default
unfolding call_of_kind
returns-in_default c = rw (ne_eqb c.args.kind 1 (λ e. omega arith), ne_eqb c.args.kind 2 (λ e. omega arith))
