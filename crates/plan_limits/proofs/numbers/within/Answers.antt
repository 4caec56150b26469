-- `numbers::within` is what it is defined to be. Assumes nothing.
use Rattle.std.specs.Prelude.{take}
use Rattle.std.proofs.Common.{sym, ◌∙◌, arith, rules, tests}
use Rattle.std.proofs.lemmas.Iterator.{YieldsList-from_slice}
use Rattle.std.proofs.lemmas.Iterator.Search.{all_from_yields_List}
use Rattle.plan_limits.specs.Limits.{is_within, within}
use Rattle.plan_limits.proofs.Laws.Every.{every_taken}
use Rattle.plan_limits.proofs.numbers.within.Goals as goal

pub returns : goal.returns
unfolding within
returns c =
    let a = c.args in
    all_from_yields_List (is_within a.low a.below) _ _ _ c.all.ensures.ran (YieldsList-from_slice (take a.count a.numbers.now) cc) (λ x b q k. search (rules, tests))
    ∙ sym (every_taken (is_within a.low a.below) 0 a.numbers.now a.count (omega arith))
