-- `moves::moves_in_limits` is what it is defined to be. Assumes nothing.
use Rattle.std.specs.Prelude.{take}
use Rattle.std.proofs.Common.{sym, ◌∙◌, arith, rules, tests}
use Rattle.std.proofs.lemmas.Iterator.{YieldsList-from_slice}
use Rattle.std.proofs.lemmas.Iterator.Search.{all_from_yields_List}
use Rattle.plan.specs.Plan.{past_move}
use Rattle.plan_limits.specs.Limits.{move_in_limits, moves_in_limits}
use Rattle.plan_limits.proofs.Laws.Every.{every_taken}
use Rattle.plan_limits.proofs.moves.moves_in_limits.Goals as goal

pub returns : goal.returns
unfolding moves_in_limits
returns c =
    let a = c.args in
    all_from_yields_List (move_in_limits a.states a.activities a.events a.outcomes) _ _ _ c.all.ensures.ran (YieldsList-from_slice (take a.count a.moves) cc) (λ x b q k. search (rules, tests))
    ∙ sym (every_taken (move_in_limits a.states a.activities a.events a.outcomes) past_move a.moves a.count (omega arith))
