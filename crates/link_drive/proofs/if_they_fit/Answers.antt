-- Measured first: a buffer that is too short stays as it was.
use native.Mathlib.Omega.{arith}
use Rattle.wire.proofs.Laws.Puts.{puts_length}
use Rattle.drive_input.proofs.Laws.Whole.{whole_fits, whole_parts}
use Rattle.drive_records.proofs.Laws.Records.{record_length}
use Rattle.link_drive.proofs.Fitting.{too_short, room, all_written}
use mathlib.Core.Path.{ap}
use mathlib.Core.Bool.{not}
use Rattle.link_drive.proofs.if_they_fit.Goals as goal

pub open-opened-requires : goal.open-opened-requires
open-opened-requires c = whole_fits c.args.input.now c.args.head c.requires

pub count_from-messages-requires : goal.count_from-messages-requires
count_from-messages-requires c = whole_parts c.args.input.now c.args.head c.requires

pub fit-requires : goal.fit-requires
fit-requires c = whole_parts c.args.input.now c.args.head c.requires

pub returns-then-not-fit : goal.returns-then-not-fit
returns-then-not-fit c =
    let a = c.args in
    too_short a.input.now a.head c.requires _ c.count_from-messages.ensures _ c.open-opened.ensures a.out.now _ c.fit.ensures (ap not c.if-not-fit.true)

pub put_at-end-requires : goal.put_at-end-requires
put_at-end-requires c =
    let a = c.args in
    let r = room a.input.now a.head c.requires _ c.count_from-messages.ensures _ c.open-opened.ensures a.out.now _ c.fit.ensures (ap not c.if-not-fit.false) in
    omega (arith, r)

pub answers_from-requires : goal.answers_from-requires
answers_from-requires c =
    let a = c.args in
    let p = c.put_at-end.ensures in
    let r = room a.input.now a.head c.requires _ c.count_from-messages.ensures _ c.open-opened.ensures a.out.now _ c.fit.ensures (ap not c.if-not-fit.false) in
    (whole_parts a.input.now a.head c.requires, omega (arith, r, p.past, puts_length p, record_length c.opening_record-record.result))

pub returns : goal.returns
returns c =
    let a = c.args in
    all_written a.input.now a.head c.requires _ c.count_from-messages.ensures _ c.open-opened.ensures a.out.now _ c.fit.ensures (ap not c.if-not-fit.false) _ c.opening_record-record.ensures c.put_at-end.ensures c.answers_from.ensures
