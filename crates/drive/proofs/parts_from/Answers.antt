use mathlib.Core.Path.{◌≡◌, refl, sym, ◌∙◌}
use native.Mathlib.Omega.{arith}
use Prim.Native.Nat.{suc, ◌+◌, ◌-◌}
use Rattle.wire.proofs.Laws.Puts.{puts_length}
use Rattle.drive_records.proofs.Laws.Records.{record_length}
use Rattle.drive.proofs.Turns.{part_ahead, turn_ends, turn_calls, turn_asks, turn_over}
use Rattle.drive.proofs.parts_from.Goals as goal
use Rattle.drive.proofs.parts_from.Goals.{in-Call, in-Place}

pub loop-init : goal.loop-init
loop-init c =
    let z : c.args.parts - 0 ≡ c.args.parts = omega arith in
    rw z (c.requires.0, c.requires.1, refl, (λ after next p. p))

pub returns-in_default : goal.returns-in_default
returns-in_default c =
    let l = c.loop in
    let a = c.args in
    l.invariant.3 _ _ (turn_ends a.input.now l.at l.run (a.parts - l.counter) (a.parts - (l.counter + 1)) (omega arith) (sym c.part_at.ensures ∙ c.in_default.is) _ _)

pub loop-preserved : goal.loop-preserved
loop-preserved c =
    let l = c.loop in
    let a = c.args in
    let e = sym c.part_at.ensures ∙ c.in-Some.is in
    let more : a.parts - l.counter ≡ suc (a.parts - (l.counter + 1)) = omega (arith, c.loop-test.true) in
    elim c.match-part.branch [
      | in-Call w ↦
          let p = w.put_at-end.ensures in
          rw (w.out-is, w.run-is, w.end-is) (
            (part_ahead a.input.now l.at _ _ e).1,
            omega (arith, more, l.invariant.1, record_length w.reply_record.result, p.past, puts_length p),
            puts_length p ∙ l.invariant.2,
            (λ after next q. l.invariant.3 after next (turn_calls a.input.now l.at l.run _ _ more _ _ e _ p _ w.in-Call.is _ w.call-answer.ensures w.reply_record.ensures q)),
          )
      | in-Place w ↦
          let p = w.put_at-end-in-Place.ensures in
          rw (w.out-is, w.run-is, w.end-is) (
            (part_ahead a.input.now l.at _ _ e).1,
            omega (arith, more, l.invariant.1, record_length w.place_record.result, p.past, puts_length p),
            puts_length p ∙ l.invariant.2,
            (λ after next q. l.invariant.3 after next (turn_asks a.input.now l.at l.run _ _ more _ _ e _ p _ _ w.in-Place.is _ w.place_of-place.ensures w.place_record.ensures q)),
          )
    ]

pub returns : goal.returns
returns c =
    let l = c.loop in
    let a = c.args in
    l.invariant.3 _ _ (turn_over a.input.now l.at l.run (a.parts - l.counter) (omega arith) _ _)
