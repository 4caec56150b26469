-- `step` carries out what the call does, which is no outcome that loads.
use mathlib.Core.Path.{◌≡◌, sym, ◌∙◌, subst}
use lib.ListN.{length, length-map}
use Rattle.run.specs.Calls.{reading_of}
use Rattle.run.specs.Inner.Effects.{sought_by, checked_of, effect_of}
use Rattle.held.specs.Held.{entry_of, run_of}
use Rattle.jidlekuvo.proofs.Deciding.{place_below, effect_is}
use Rattle.jidlekuvo.proofs.Carrying.{Settles, plain_settles, carries, carried_out}
use Rattle.jidlekuvo.proofs.step.Goals as goal

pub effect_on-effect-requires : goal.effect_on-effect-requires
effect_on-effect-requires c =
    let a = c.args in
    place_below a.h a.c c.check_on-check.result c.check_on-check.ensures

pub carried-requires : goal.carried-requires
unfolding run_of
carried-requires c =
    let is-effect : let a = c.args in c.effect_on-effect.result ≡ effect_of a.c (checked_of (run_of a.h) (reading_of a.c) (sought_by (run_of a.h).psi a.c)) = let a = c.args in effect_is a.h a.c c.check_on-check.result c.check_on-check.ensures c.effect_on-effect.result c.effect_on-effect.ensures in
    let settles : Settles c.effect_on-effect.result = let a = c.args in
    subst Settles (sym (is-effect)) (plain_settles a.c c.requires (checked_of (run_of a.h) (reading_of a.c) (sought_by (run_of a.h).psi a.c))) in
    let windowed : length c.args.h.rest.window ≡ 512 = c.well_formed.0.1.1.0.1.1.1.1.1.0.1.0.1 in
    let long : length (run_of c.args.h).window ≡ 512 = length-map c.args.h.rest.window entry_of ∙ windowed in
    let a = c.args in
    carries a.h a.c c.effect_on-effect.result (is-effect) (long) (settles)

pub returns : goal.returns
unfolding run_of
returns c =
    let is-effect : let a = c.args in c.effect_on-effect.result ≡ effect_of a.c (checked_of (run_of a.h) (reading_of a.c) (sought_by (run_of a.h).psi a.c)) = let a = c.args in effect_is a.h a.c c.check_on-check.result c.check_on-check.ensures c.effect_on-effect.result c.effect_on-effect.ensures in
    let settles : Settles c.effect_on-effect.result = let a = c.args in
    subst Settles (sym (is-effect)) (plain_settles a.c c.requires (checked_of (run_of a.h) (reading_of a.c) (sought_by (run_of a.h).psi a.c))) in
    let windowed : length c.args.h.rest.window ≡ 512 = c.well_formed.0.1.1.0.1.1.1.1.1.0.1.0.1 in
    let long : length (run_of c.args.h).window ≡ 512 = length-map c.args.h.rest.window entry_of ∙ windowed in
    let a = c.args in
    c.carried.ensures ∙ carried_out a.h a.c c.effect_on-effect.result (is-effect) (long) (settles)

pub check_on-check-requires : goal.check_on-check-requires
check_on-check-requires c = c.all_but_nodes-limits.ensures
