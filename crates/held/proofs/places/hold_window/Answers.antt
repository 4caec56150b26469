use Rattle.std.specs.Prelude.{◌≡◌, length, refl}
use Rattle.std.proofs.Common.{◌∙◌, arith, rules}
use Rattle.run_window.specs.declared.Entry.{Entry}
use Rattle.held.specs.declared.HeldEntry.{HeldEntry}
use Rattle.held.specs.Held.{held_entry}
use Rattle.held.proofs.Filled.{fill_turn, fill_end}
use Rattle.held.proofs.places.hold_window.Goals as goal

pub loop-i-init : goal.loop-i-init
loop-i-init c = (refl, refl)

pub loop-i-preserved : goal.loop-i-preserved
loop-i-preserved c =
    let long : length c.args.window ≡ 512 = search rules in
    (refl, rw c.from.ensures (fill_turn Entry HeldEntry held_entry c.args.window _ _ _ _ (omega (arith, long)) (long) c.loop-i.invariant.1))

pub returns : goal.returns
returns c =
    let long : length c.args.window ≡ 512 = search rules in
    simp (c.loop-i.invariant.1 ∙ fill_end Entry HeldEntry held_entry c.args.window _ c.loop-i.i (omega (arith, long)) (long))
