use Rattle.std.specs.Prelude.{◌≡◌, length, refl}
use Rattle.std.proofs.Common.{◌∙◌, arith, rules}
use Rattle.held.specs.declared.HeldInstance.{HeldInstance}
use Rattle.times.specs.declared.Instance.{Instance}
use Rattle.held.specs.Held.{instance_of}
use Rattle.held.proofs.Filled.{fill_turn, fill_end}
use Rattle.held.proofs.progresses.pending_of.Goals as goal

pub loop-i-init : goal.loop-i-init
loop-i-init c = (refl, refl)

pub loop-i-preserved : goal.loop-i-preserved
loop-i-preserved c =
    let long : length c.args.held ≡ 128 = search rules in
    (refl, rw c.from.ensures (fill_turn HeldInstance Instance instance_of c.args.held _ _ _ _ (omega (arith, long)) (long) c.loop-i.invariant.1))

pub returns : goal.returns
returns c =
    let long : length c.args.held ≡ 128 = search rules in
    simp (c.loop-i.invariant.1 ∙ fill_end HeldInstance Instance instance_of c.args.held _ c.loop-i.i (omega (arith, long)) (long))
