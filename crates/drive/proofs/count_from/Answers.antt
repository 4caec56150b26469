use mathlib.Core.Path.{◌≡◌, sym, ◌∙◌}
use native.Mathlib.Omega.{arith}
use Prim.Native.Nat.{◌+◌, ◌-◌}
use lib.ListN.{length}
use Rattle.drive.proofs.Turns.{part_ahead, count_ends, count_goes, count_over}
use Rattle.drive.proofs.count_from.Goals as goal

pub loop-count-init : goal.loop-count-init
loop-count-init c =
    let z : length c.args.input.now - 0 ≡ length c.args.input.now = omega arith in
    rw z (c.requires, omega arith)

pub returns-in_default : goal.returns-in_default
returns-in_default c =
    let l = c.loop-count in
    let a = c.args in
    let n = length a.input.now in
    omega (arith, l.invariant.1, count_ends a.input.now l.at (n - l.count) (n - (l.count + 1)) (omega arith) (sym c.part_at.ensures ∙ c.in_default.is))

pub loop-count-preserved : goal.loop-count-preserved
loop-count-preserved c =
    let l = c.loop-count in
    let a = c.args in
    let n = length a.input.now in
    let e = sym c.part_at.ensures ∙ c.in-Some.is in
    ((part_ahead a.input.now l.at _ _ e).1, omega (arith, l.invariant.1, count_goes a.input.now l.at (n - l.count) (n - (l.count + 1)) (omega arith) _ _ e))

pub returns : goal.returns
returns c =
    let l = c.loop-count in
    let a = c.args in
    omega (arith, l.invariant.1, count_over a.input.now l.at (length a.input.now - l.count) (omega arith))
