-- `outcome_effect` goes from the limits to what the checks say, and from there to what the outcome does.
use Rattle.jidlekuvo.proofs.Deciding.{place_below, effect_is}
use Rattle.jidlekuvo.proofs.outcome_effect.Goals as goal

pub effect_on-requires : goal.effect_on-requires
effect_on-requires c =
    let a = c.args in
    place_below a.h a.c c.check_on-check.result c.check_on-check.ensures

pub returns : goal.returns
returns c =
    let a = c.args in
    effect_is a.h a.c c.check_on-check.result c.check_on-check.ensures c.effect_on.result c.effect_on.ensures

pub check_on-check-requires : goal.check_on-check-requires
check_on-check-requires c = c.all_but_nodes-limits.ensures
