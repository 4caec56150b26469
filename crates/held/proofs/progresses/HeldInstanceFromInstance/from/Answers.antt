use mathlib.Core.Path.{sym, ap}
use Rattle.times.specs.declared.Told.{Told}
use Rattle.times.specs.declared.Instance.{Instance}
use Rattle.held.specs.declared.HeldInstance.{HeldInstance}
use Rattle.held.specs.Held.{told_number, told_outcome}
use Rattle.held.proofs.progresses.HeldInstanceFromInstance.from.Goals as goal

abbrev with_told : Instance → Told → HeldInstance
with_told x t = record { end = x.end; position = x.position; node = x.node; told = told_number t; outcome = told_outcome t; spare = 0 }

pub returns-in-Nothing : goal.returns-in-Nothing
returns-in-Nothing c = sym (ap (with_told c.args.x) c.in-Nothing.is)

pub returns-in-Outcome : goal.returns-in-Outcome
returns-in-Outcome c = sym (ap (with_told c.args.x) c.in-Outcome.is)
