-- A number that is absent where it is 0.
use borrow.Author.Tests.{eq-eqb, ne_eqb}
use Rattle.wire.specs.Number.{optional_bytes}
use Rattle.wire.proofs.Laws.Puts.{puts_none}
use Rattle.wire.proofs.puts.put_optional.Goals as goal

pub returns-then-x-eq0 : goal.returns-then-x-eq0
unfolding optional_bytes
returns-then-x-eq0 c = rw (eq-eqb _ _ c.if-x-eq0.true) (puts_none _ _)

pub returns : goal.returns
unfolding optional_bytes
returns c = rw (ne_eqb _ _ c.if-x-eq0.false) c.put_number.ensures
