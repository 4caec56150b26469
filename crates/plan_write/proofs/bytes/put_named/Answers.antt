-- The peripherals and the events.
use native.Mathlib.Omega.{arith}
use mathlib.Core.Path.{ap}
use Rattle.wire.specs.Number.{optional_bytes}
use Rattle.wire.proofs.Laws.Fields.{length_optional, length-numbers}
use Rattle.wire.proofs.Laws.Puts.{puts_join}
use lib.ListN.{length-append}
use Rattle.plan_write.proofs.Laws.Left.{puts_as}
use borrow.Author.Rules.{rules}
use Rattle.plan_write.proofs.bytes.put_named.Goals as goal

pub put_list-b-requires : goal.put_list-b-requires
put_list-b-requires c = (omega (arith, length_optional 1 c.from.result), search rules)

pub put_optional-c-requires : goal.put_optional-c-requires
put_optional-c-requires c = (omega (arith, length_optional 1 c.from.result, length-numbers c.args.belongs 0 c.args.peripherals), search rules)

pub put_list-requires : goal.put_list-requires
put_list-requires c = (omega (arith, length_optional 1 c.from.result, length-numbers c.args.belongs 0 c.args.peripherals, length_optional 1 c.from-2.result), search rules)

pub returns : goal.returns
returns c =
    let a = puts_as (ap (optional_bytes 1) c.from.ensures) c.put_optional-a.ensures in
    let e = puts_as (ap (optional_bytes 1) c.from-2.ensures) c.put_optional-c.ensures in
    let p = puts_join (puts_join a c.put_list-b.ensures) (puts_join e c.put_list.ensures) in
    (omega (arith, p.past, simp length-append at p.past, length_optional 1 c.args.peripherals, length-numbers c.args.belongs 0 c.args.peripherals, length_optional 1 c.args.events, length-numbers c.args.outcomes 0 c.args.events), p)
