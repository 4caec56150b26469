use Rattle.std.specs.Prelude.{refl}
use Rattle.std.proofs.Common.{sym, ◌∙◌, arith}
use mathlib.Core.List.{map-map}
use Rattle.basis.proofs.Laws.Lists.{unmapped}
use Rattle.held.specs.declared.HeldEntry.{HeldEntry}
use Rattle.held.specs.Held.{entry_of, held_entry}
use Rattle.held.proofs.Filled.{fill_own, fill_end}
use Rattle.held.proofs.places.fresh.Invariants.{again}
use Rattle.held.proofs.places.fresh.Goals as goal

pub loop-i-init : goal.loop-i-init
loop-i-init c = (search unmapped, refl)

pub loop-i-preserved : goal.loop-i-preserved
loop-i-preserved c =
    let l = c.loop-i in
    let w = c.args.rest.window in
    (l.invariant.0, rw (c.from-in-loop-i.ensures, c.from.ensures) (fill_own HeldEntry again w l.window _ l.i (omega (arith, l.invariant.0)) l.invariant.1))

pub returns : goal.returns
returns c =
    let l = c.loop-i in
    let w = c.args.rest.window in
    l.invariant.1 ∙ fill_end HeldEntry HeldEntry again w w l.i (omega (arith, l.invariant.0)) refl ∙ sym (map-map held_entry entry_of w)
