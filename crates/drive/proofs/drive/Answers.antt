-- An input that ends inside the opening has no records.
use mathlib.Core.Path.{sym, ◌∙◌}
use Rattle.drive.proofs.Fitting.{no_opening}
use Rattle.drive.proofs.drive.Goals as goal

pub if_they_fit-requires : goal.if_they_fit-requires
if_they_fit-requires c = sym c.head_of-head.ensures ∙ c.in-Some.is

pub returns-in-None : goal.returns-in-None
returns-in-None c = let a = c.args in no_opening a.input.now a.out.now (sym c.head_of-head.ensures ∙ c.in-None.is)

pub returns-in-Some : goal.returns-in-Some
returns-in-Some c = c.if_they_fit.ensures
