use Rattle.std.specs.Prelude.{◌≡◌, length, refl}
use Rattle.std.proofs.Common.{◌∙◌, arith, rules}
use Rattle.times.specs.declared.Instance.{Instance}
use Rattle.held.specs.declared.HeldInstance.{HeldInstance}
use Rattle.held.specs.Held.{held_instance}
use Rattle.held.proofs.Filled.{fill_turn, fill_end}
use Rattle.held.proofs.progresses.hold_pending.Goals as goal

pub loop-i-init : goal.loop-i-init
loop-i-init c = (refl, refl)

pub loop-i-preserved : goal.loop-i-preserved
loop-i-preserved c =
    let long : length c.args.pending ≡ 128 = search rules in
    (refl, rw c.from.ensures (fill_turn Instance HeldInstance held_instance c.args.pending _ _ _ _ (omega (arith, long)) (long) c.loop-i.invariant.1))

pub returns : goal.returns
returns c =
    let long : length c.args.pending ≡ 128 = search rules in
    simp (c.loop-i.invariant.1 ∙ fill_end Instance HeldInstance held_instance c.args.pending _ c.loop-i.i (omega (arith, long)) (long))
