-- `put_turn` meets its contract. Assumes nothing.
use native.Mathlib.Omega.{arith}
use lib.Seq.{length-take-le}
use Rattle.timetable_turns.proofs.Placing.{next_few, stands_on, fewer_left, remains_on}
use Rattle.timetable_turns.proofs.whole.put_turn.Goals as goal

pub turn_by-drafted-requires : goal.turn_by-drafted-requires
turn_by-drafted-requires c = let s = c.requires.standing in record { within = s.0.within s.1; room = omega arith }

pub copy-at-requires : goal.copy-at-requires
copy-at-requires c =
    let u = next_few c.args.plan c.args.start c.args.input.now c.args.w c.requires.standing.0 c.requires.standing.1 _ _ _ c.turn_by-drafted.result c.turn_by-drafted.ensures in
    let v = c.requires.standing.0.few in
    (omega arith, omega (arith, c.turn_by-drafted.auto.out))

pub returns : goal.returns
returns c =
    let a = c.args in
    let k = c.copy-at in
    let r = c.counted-read.ensures in
    let l = c.left_after-left.ensures in
    let f = next_few a.plan a.start a.input.now a.w c.requires.standing.0 c.requires.standing.1 _ _ _ c.turn_by-drafted.result c.turn_by-drafted.ensures in
    let z = length-take-le c.turn_by-drafted.result.next c.turn_by-drafted.new.out (omega (arith, c.turn_by-drafted.auto.out)) in (
      stands_on a.plan a.start a.input.now a.w c.requires.standing.0 c.requires.standing.1 _ _ _ c.turn_by-drafted.result c.turn_by-drafted.ensures _ _ _ r l (omega (arith, k.ensures.past)),
      fewer_left a.plan a.start a.input.now a.w c.requires.standing.0 c.requires.standing.1 _ _ _ c.turn_by-drafted.result c.turn_by-drafted.ensures k.result _ _ r l,
      remains_on a.plan a.start a.input.now a.w c.requires.standing.0 c.requires.standing.1 _ _ _ c.turn_by-drafted.result c.turn_by-drafted.ensures _ _ _ r l c.heard_at-heard.ensures (omega arith) _ _ k.ensures,
    )
