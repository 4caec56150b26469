-- No byte, or as many as the map has.
use native.Mathlib.Omega.{arith}
use lib.ListN.{length}
use borrow.Author.Tests.{le-leb, lt-leb}
use Rattle.link_messages.proofs.lengths.has_length.Goals as goal

pub returns-then-n-eq0 : goal.returns-then-n-eq0
returns-then-n-eq0 c = rw (lt-leb 1 (length c.args.bytes.now) (omega arith))

pub returns : goal.returns
returns c = rw (le-leb 1 (length c.args.bytes.now) (omega arith), ← c.length_of.ensures)
