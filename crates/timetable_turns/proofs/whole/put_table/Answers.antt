-- `put_table` meets its contract: the first line, and the turns after it. Assumes nothing.
use mathlib.Core.Path.{◌≡◌, ap}
use Prim.Native.Nat.{ℕ, ◌+◌, ◌-◌}
use native.Mathlib.Omega.{arith}
use lib.ListN.{take, drop, length-take}
use Rattle.timetable_turns.specs.Timetable.{text_of_plan}
use Rattle.timetable_turns.proofs.Placing.{puts_as, size_few, stands_first, puts_table}
use Rattle.timetable_turns.proofs.whole.put_table.Goals as goal

pub copy-at-requires : goal.copy-at-requires
copy-at-requires c =
    let f = size_few _ c.args.input.now c.args.n _ _ c.begin-begun.result c.begin-begun.ensures _ c.past-size.ensures (omega arith) in
    (omega arith, omega (arith, c.begin-begun.auto.out))

pub put_turns-requires : goal.put_turns-requires
put_turns-requires c =
    let f = size_few _ c.args.input.now c.args.n _ _ c.begin-begun.result c.begin-begun.ensures _ c.past-size.ensures (omega arith) in
    let k = c.copy-at in
    let u = length-take c.past-size.result c.begin-begun.new.out in
    record { start_bound = omega (arith, c.requires.0); standing = stands_first _ c.args.input.now c.args.n _ _ c.begin-begun.result c.begin-begun.ensures _ c.past-size.ensures (omega arith) _ c.turns_of-left.ensures _ (omega (arith, k.ensures.past)) }

pub returns : goal.returns
returns c =
    let a = c.args in
    let e : 2 + a.n - 2 ≡ a.n = omega arith in
    puts_as _ 0 _ _ _ _ (ap (λ (k : ℕ). text_of_plan (take k (drop 2 a.input.now)) (drop (2 + a.n) a.input.now)) e)
    (puts_table _ c.args.input.now c.args.n _ _ c.begin-begun.result c.begin-begun.ensures _ c.past-size.ensures (omega arith) _ c.turns_of-left.ensures _ _ _ _ _ c.copy-at.ensures c.put_turns.ensures)
