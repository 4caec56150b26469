-- Each number that an answer without a node has, and no other.
use borrow.Author.Tests.{ne_eqb}
use Rattle.link_calls.proofs.replies.with_number.Goals as goal

pub returns-in-50 : goal.returns-in-50
returns-in-50 c = rw c.in-50.is

pub returns-in-51 : goal.returns-in-51
returns-in-51 c = rw c.in-51.is

pub returns-in-52 : goal.returns-in-52
returns-in-52 c = rw c.in-52.is

pub returns-in-53 : goal.returns-in-53
returns-in-53 c = rw c.in-53.is

pub returns-in-54 : goal.returns-in-54
returns-in-54 c = rw c.in-54.is

pub returns-in-55 : goal.returns-in-55
returns-in-55 c = rw c.in-55.is

pub returns-in-61 : goal.returns-in-61
returns-in-61 c = rw c.in-61.is

pub returns-in-62 : goal.returns-in-62
returns-in-62 c = rw c.in-62.is

pub returns-in-43 : goal.returns-in-43
returns-in-43 c = rw c.in-43.is

pub returns-in-44 : goal.returns-in-44
returns-in-44 c = rw c.in-44.is

pub returns-in_default : goal.returns-in_default
returns-in_default c = let r = c.in_default.in_default-own.rest in rw (ne_eqb _ 50 r.0.0.0.0.0.0.0.0.0.1, ne_eqb _ 51 r.0.0.0.0.0.0.0.0.1, ne_eqb _ 52 r.0.0.0.0.0.0.0.1, ne_eqb _ 53 r.0.0.0.0.0.0.1, ne_eqb _ 54 r.0.0.0.0.0.1, ne_eqb _ 55 r.0.0.0.0.1, ne_eqb _ 61 r.0.0.0.1, ne_eqb _ 62 r.0.0.1, ne_eqb _ 43 r.0.1, ne_eqb _ 44 r.1)
