-- `failure_of` tells 44, then 43, or neither.
use borrow.Author.Tests.{lt-ltb, le-ltb}
use Rattle.run_loading.specs.Inner.Loading.{failure_by}
use Rattle.run_loading.proofs.failure_of.Goals as goal

pub returns-then-beyond : goal.returns-then-beyond
unfolding failure_by
returns-then-beyond c = rw c.if-beyond.true

pub returns-then-free-count : goal.returns-then-free-count
unfolding failure_by
returns-then-free-count c = rw (c.if-beyond.false, lt-ltb _ _ c.if-free-count.true)

pub returns : goal.returns
unfolding failure_by
returns c = rw (c.if-beyond.false, le-ltb _ _ c.if-free-count.false)
