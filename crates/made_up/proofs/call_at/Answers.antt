-- A call is made of its fields.
use Rattle.made_up.specs.Made.{call_at}
use Rattle.made_up.proofs.call_at.Goals as goal

pub returns : goal.returns
unfolding call_at
returns c = rw (← c.byte-3.ensures, ← c.byte-2.ensures, ← c.four.ensures.0, ← c.byte.ensures, ← c.eight.ensures) c.call_of_kind.ensures
