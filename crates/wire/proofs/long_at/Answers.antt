-- A field of four bytes: the number that they make, if they are there.
use Rattle.std.specs.Int.{from_le_bytes, w32}
use Rattle.std.proofs.Common.{arith}
use Rattle.std.proofs.lemmas.Grind.{common_steps}
use Rattle.wire.proofs.Laws.Options.{field_map}
use Rattle.wire.proofs.long_at.Goals as goal

pub returns : goal.returns
returns c =
    let a = c.args in
    field_map (from_le_bytes w32) 4 a.bytes.now a.at c.part_at.result c.map.result (grind (arith, common_steps)) c.part_at.ensures c.map.ensures.cases
