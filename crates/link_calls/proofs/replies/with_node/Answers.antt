-- 41 and 42, and no other number.
use borrow.Author.Tests.{ne_eqb}
use Rattle.link_calls.proofs.replies.with_node.Goals as goal

pub returns-in-41 : goal.returns-in-41
returns-in-41 c = rw c.in-41.is

pub returns-in-42 : goal.returns-in-42
returns-in-42 c = rw c.in-42.is

pub returns-in_default : goal.returns-in_default
returns-in_default c = let r = c.in_default.in_default-own.rest in rw (ne_eqb _ 41 r.0.1, ne_eqb _ 42 r.1)
