-- `check_call` hands the checks the parts of the run, and looks up the node that they found.
use mathlib.Core.Path.{◌≡◌, sym, ◌∙◌}
use Prim.Native.Nat.{◌<◌}
use native.Mathlib.Omega.{arith}
use lib.ListN.{length}
use Rattle.basis.proofs.Laws.Lists.{unmapped}
use Rattle.run.specs.Inner.Checks.{check_of}
use Rattle.run.proofs.Laws.Checking.{timed}
use Rattle.run.proofs.Laws.Acting.{place_below}
use Rattle.run.proofs.checks.check_call.Goals as goal

pub run_in_limits-limits-requires : goal.run_in_limits-limits-requires
run_in_limits-limits-requires c = c.in_limits-good.ensures

pub check_call-check-requires : goal.check_call-check-requires
check_call-check-requires c = λ b. let g = sym c.run_in_limits-limits.ensures ∙ b in (timed c.args.run g c.args.t, c.requires g)

pub offset_bounds-plan-k : goal.offset_bounds-plan-k
unfolding check_of
offset_bounds-plan-k c =
    let long : length c.args.run.window ≡ 512 = search unmapped in
    let said : c.check_call-check.result ≡ check_of c.args.run c.args.t c.args.sought = rw (sym c.run_in_limits-limits.ensures) c.check_call-check.ensures in
    let below : c.place_of-k.result < 2048 = omega (arith, c.place_of-k.ensures, place_below c.args.run (long) c.args.t c.args.sought _ (said)) in
    let l = below in omega arith

pub bounds-plan-k : goal.bounds-plan-k
unfolding check_of
bounds-plan-k c =
    let long : length c.args.run.window ≡ 512 = search unmapped in
    let said : c.check_call-check.result ≡ check_of c.args.run c.args.t c.args.sought = rw (sym c.run_in_limits-limits.ensures) c.check_call-check.ensures in
    let below : c.place_of-k.result < 2048 = omega (arith, c.place_of-k.ensures, place_below c.args.run (long) c.args.t c.args.sought _ (said)) in
    let l = below in omega arith

pub returns : goal.returns
unfolding check_of
returns c =
    let said : c.check_call-check.result ≡ check_of c.args.run c.args.t c.args.sought = rw (sym c.run_in_limits-limits.ensures) c.check_call-check.ensures in
    rw (c.outcomes_for-most.ensures, c.place_of-k.ensures, said)
