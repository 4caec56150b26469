-- `scan` looks for nothing outside the limits.
use mathlib.Core.Path.{refl, sym, subst}
use mathlib.Core.Bool.{Bool}
use mathlib.Core.List.{map}
use Rattle.held.specs.Held.{entry_of}
use Rattle.held_checks.specs.Inner.Checks.{ScannedIn}
use Rattle.held_checks.proofs.scan.Goals as goal

pub returns-then-not-limits : goal.returns-then-not-limits
returns-then-not-limits c =
    let a = c.args in
    subst (λ (b : Bool). ScannedIn b a.m a.sought (map entry_of a.rest.window) _) (sym c.if-not-limits.true) refl

pub scan-requires : goal.scan-requires
scan-requires c =
    let p = c.requires c.if-not-limits.false in
    (p.0.0, p.0.1, p.1, p.0.2)

pub returns : goal.returns
returns c =
    let a = c.args in
    subst (λ (b : Bool). ScannedIn b a.m a.sought (map entry_of a.rest.window) c.scan.result) (sym c.if-not-limits.false) c.scan.ensures
