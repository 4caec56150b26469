-- `look` goes by ranks only where a start ties.
use mathlib.Core.Path.{subst}
use Rattle.run_window.specs.Inner.Search.{Scanned}
use Rattle.run_window.proofs.search.look.Goals as goal

pub returns-in-Untied : goal.returns-in-Untied
returns-in-Untied c =
    let a = c.args in
    subst (Scanned a.psi a.slack a.t a.sought a.window) c.in-Untied.is c.scan-scanned.ensures a.nodes
