use mathlib.Core.Path.{◌≡◌, sym, ◌∙◌, ap}
use native.Mathlib.Omega.{arith}
use Prim.Native.Nat.{◌+◌, ◌-◌}
use lib.ListN.{length}
use Rattle.link_drive.proofs.Turns.{found, none_left, one_more, over}
use Rattle.link_drive.proofs.count_from.Goals as goal

pub loop-count-init : goal.loop-count-init
loop-count-init c =
    let z : length c.args.input.now - 0 ≡ length c.args.input.now = omega arith in
    rw z (c.requires, omega arith)

pub returns-in_default : goal.returns-in_default
returns-in_default c =
    let l = c.loop-count in
    let b = c.args.input.now in
    omega (arith, l.invariant.1, ap length (none_left b l.at (sym c.next_of.ensures ∙ c.in_default.is) (length b - l.count)))

pub loop-count-preserved : goal.loop-count-preserved
loop-count-preserved c =
    let l = c.loop-count in
    let b = c.args.input.now in
    let e = sym c.next_of.ensures ∙ c.in-Some.is in
    ((found b l.at _ e).fits, omega (arith, l.invariant.1, ap length (one_more b l.at _ e (length b - l.count) (length b - (l.count + 1)) (omega arith))))

pub returns : goal.returns
returns c =
    let l = c.loop-count in
    let b = c.args.input.now in
    omega (arith, l.invariant.1, ap length (over b l.at (length b - l.count) (omega arith)))
