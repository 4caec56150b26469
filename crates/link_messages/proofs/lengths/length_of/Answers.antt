-- The widths of the fields that stand, and the map.
use native.Mathlib.Omega.{arith}
use Rattle.link_messages.specs.Message.{length_of}
use Rattle.link_messages.proofs.lengths.length_of.Goals as goal

pub returns : goal.returns
unfolding length_of
returns c = omega (arith, c.width_of-number.ensures.0, c.width_of-activity.ensures.0, c.width_of-outcome.ensures.0, c.width_of-node.ensures.0, c.width_of-position.ensures.0, c.width_of-reading.ensures.0)
