-- `plans::moves_in_limits` is what it is defined to be, of the transitions that the numbers stand for. Assumes nothing.
use Rattle.std.specs.Prelude.{◌≡◌, length, map, take}
use Rattle.std.proofs.Common.{sym, ◌∙◌, ap, arith, rules, tests}
use Rattle.std.proofs.lemmas.Iterator.{YieldsList-from_slice}
use Rattle.std.proofs.lemmas.Iterator.Search.{all_from_yields_List}
use Rattle.std.proofs.lemmas.List.{take-map, length-map}
use Rattle.std.proofs.lemmas.List.Folds.{list_all-map}
use Rattle.std.specs.List.{list_all}
use Rattle.plan.specs.Plan.{past_move}
use Rattle.plan_limits.proofs.Laws.Every.{every_taken}
use Rattle.plan_limits.specs.Limits.{move_in_limits, moves_in_limits}
use Rattle.held.specs.declared.HeldMove.{HeldMove}
use Rattle.held.specs.Held.{move_of}
use Rattle.held_checks.proofs.plans.moves_in_limits.Goals as goal

pub returns : goal.returns
unfolding moves_in_limits
returns c =
    let a = c.args in
    let good = move_in_limits a.states a.activities a.events a.outcomes in
    let long : length (map move_of a.held) ≡ 256 = length-map a.held move_of ∙ search rules in
    all_from_yields_List (λ (h : HeldMove). good (move_of h)) _ _ _ c.all.ensures.ran (YieldsList-from_slice (take a.count a.held) cc) (λ x b q k. search (rules, tests))
    ∙ sym (list_all-map good move_of (take a.count a.held))
    ∙ ap (list_all good) (sym (take-map move_of a.count a.held))
    ∙ sym (every_taken good past_move (map move_of a.held) a.count (omega (arith, long)))
