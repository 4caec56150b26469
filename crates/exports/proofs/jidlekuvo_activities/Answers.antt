use mathlib.Core.Path.{sym, ◌∙◌}
use native.Mathlib.Omega.{arith}
use Rattle.judge.proofs.Laws.Judge.{read_limits}
use Rattle.exports.specs.Codes.{activities_code}
use Rattle.exports.proofs.jidlekuvo_activities.Goals as goal

pub activities_of-requires : goal.activities_of-requires
activities_of-requires c = read_limits c.args.bytes.now (λ k. omega (arith, c.type_inv.bytes k)) _ (sym c.read.ensures ∙ c.in-Ok.is)

pub returns-in-Err : goal.returns-in-Err
unfolding activities_code
returns-in-Err c = rw (← c.read.ensures, c.in-Err.is) c.code.ensures

pub returns-in-Ok : goal.returns-in-Ok
unfolding activities_code
returns-in-Ok c = rw (← c.read.ensures, c.in-Ok.is) c.activities_of.ensures
