use Rattle.std.proofs.Common.{arith}
use Rattle.std.proofs.lemmas.Bool.Decides.{nat_tests}
use Rattle.run_window.specs.Window.{precedes}
use Rattle.run_window.proofs.search.served.Goals as goal

pub returns : goal.returns
unfolding precedes
returns c = rw c.lt.ensures (grind (arith, nat_tests))
