use mathlib.Core.Path.{◌≡◌, ap, ◌∙◌}
use native.Mathlib.Omega.{arith}
use lib.ListN.{length, get_or, set}
use Rattle.times.specs.Times.{specified}
use Rattle.run_opening.proofs.Filled.{filled, filled_more, filled_all}
use Rattle.run_opening.proofs.given.Goals as goal

pub loop-i-preserved : goal.loop-i-preserved
loop-i-preserved c =
    let l = c.loop-i in
    let ts = c.args.ts.now in
    ap (λ x. set x l.i (specified (get_or ts l.i 0))) l.invariant ∙ filled_more ts l.i (omega arith) (omega arith)

pub returns : goal.returns
returns c =
    let l = c.loop-i in
    let ts = c.args.ts.now in
    let e : l.i ≡ length ts = omega arith in
    l.invariant ∙ (ap (filled ts) e ∙ filled_all ts)
