-- The count of the predecessors, and the predecessors.
use native.Mathlib.Omega.{arith}
use mathlib.Core.Path.{ap}
use Rattle.wire.specs.Number.{optional_bytes}
use Rattle.wire.proofs.Laws.Fields.{length_optional}
use Rattle.wire.proofs.Laws.Puts.{puts_join}
use Rattle.plan_write.proofs.Laws.Left.{puts_as}
use borrow.Author.Rules.{rules}
use Rattle.plan_write.proofs.bytes.put_preds.Goals as goal

pub put_list-requires : goal.put_list-requires
put_list-requires c = (omega (arith, length_optional 1 c.from.result), search rules)

pub returns : goal.returns
returns c = puts_join (puts_as (ap (optional_bytes 1) c.from.ensures) c.put_optional-next.ensures) c.put_list.ensures
