-- A node: its map, its kind, its duration, its predecessors.
use native.Mathlib.Omega.{arith}
use mathlib.Core.Path.{ap}
use Rattle.wire.specs.Number.{bytes_of, optional_bytes}
use Rattle.wire.proofs.Laws.Fields.{length_optional}
use Rattle.wire.proofs.Laws.Puts.{puts_join, puts_byte}
use Rattle.plan_write.proofs.Laws.Printed.{node_print, kind_length}
use Rattle.plan_write.proofs.Laws.Left.{puts_as}
use borrow.Author.Rules.{rules}
use Rattle.plan_write.proofs.bytes.put_node.Goals as goal

pub put_optional-c-requires : goal.put_optional-c-requires
put_optional-c-requires c = (omega (arith, kind_length c.args.n.kind), search rules)

pub put_preds-requires : goal.put_preds-requires
put_preds-requires c = (omega (arith, kind_length c.args.n.kind, length_optional 4 c.from.result), search rules)

pub returns : goal.returns
returns c =
    let n = c.args.n in
    rw (node_print 0 0 0 0 n) (puts_join (puts_as (ap (bytes_of 1) c.node_map-map.ensures) (puts_byte (omega arith) c.put_byte-a.ensures)) (puts_join c.put_kind-b.ensures (puts_join (puts_as (ap (optional_bytes 4) c.from.ensures) c.put_optional-c.ensures) c.put_preds.ensures)))
