-- The map of sections, and the sections before the activities.
use native.Mathlib.Omega.{arith}
use mathlib.Core.Path.{ap}
use Rattle.wire.specs.Number.{bytes_of, optional_bytes}
use Rattle.wire.proofs.Laws.Fields.{length_optional}
use Rattle.wire.proofs.Laws.Puts.{puts_join, puts_byte}
use Rattle.plan_file.specs.PlanFile.{section_map}
use Rattle.plan_write.proofs.Laws.Left.{puts_as}
use borrow.Author.Rules.{rules}
use Rattle.plan_write.proofs.bytes.put_sections.Goals as goal

pub put_named-c-requires : goal.put_named-c-requires
put_named-c-requires c = (omega (arith, length_optional 1 c.from.result), c.requires.peripherals, c.requires.events)

pub put_optional-requires : goal.put_optional-requires
put_optional-requires c = (omega (arith, length_optional 1 c.from.result, c.put_named-c.ensures.0), search rules)

pub returns : goal.returns
unfolding section_map
returns c =
    let b = puts_as (ap (optional_bytes 1) c.from.ensures) c.put_optional-b.ensures in
    let d = puts_as (ap (optional_bytes 1) c.from-2.ensures) c.put_optional.ensures in (
      omega (arith, length_optional 1 c.from.result, length_optional 1 c.from-2.result, c.put_named-c.ensures.0),
      puts_join (puts_as (ap (bytes_of 1) c.section_map-map.ensures) (puts_byte (omega arith) c.put_byte-a.ensures)) (puts_join b (puts_join c.put_named-c.ensures.1 d)),
    )
