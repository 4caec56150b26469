use mathlib.Core.Path.{ap}
use Rattle.jidlekuvo.specs.Host.{opened_as}
use Rattle.jidlekuvo.proofs.jidlekuvo_open.Goals as goal

pub returns : goal.returns
unfolding opened_as
returns c = rw (c.from-run.ensures, c.told_opening-reply.ensures) (ap opened_as c.open-opened.ensures)
