-- No bit past the last state stands iff the bits, as a number, are below 2 ^ states.
use native.Mathlib.Omega.{arith}
use borrow.Author.Tests.{lt-ltb}
use mathlib.Core.Path.{sym}
use Rattle.plan_fields.proofs.There.{shift_none, power_most}
use borrow.Author.Rules.{rules}
use Rattle.plan_fields.proofs.in_states.Goals as goal

pub returns-then-states-lt64 : goal.returns-then-states-lt64
returns-then-states-lt64 c = shift_none c.args.finals c.args.states

pub returns : goal.returns
returns c = sym (lt-ltb _ _ (power_most c.args.finals c.args.states (search rules) (omega arith)))
