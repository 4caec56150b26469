-- A field of eight bytes: the number that they make, if they are there.
use Rattle.std.specs.Int.{from_le_bytes, w64}
use Rattle.wire.proofs.Laws.Options.{field_map}
use Rattle.wire.proofs.Laws.Bytes.{made_eight}
use Rattle.wire.proofs.wide_at.Goals as goal

pub returns : goal.returns
returns c =
    let a = c.args in
    field_map (from_le_bytes w64) 8 a.bytes.now a.at c.part_at.result c.map.result (made_eight a.bytes.now a.at) c.part_at.ensures c.map.ensures.cases
