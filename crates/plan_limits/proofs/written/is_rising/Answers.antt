-- `written::is_rising` is what it is defined to be. Assumes nothing.
use Rattle.std.specs.Prelude.{◌≡◌, ◌+◌, ◌-◌, length, get_or, ltb}
use Rattle.std.proofs.Common.{sym, arith, rules, tests, le-ltb}
use Rattle.std.proofs.Math.ListN.{get_or-eq_default}
use Rattle.std.proofs.lemmas.Fn.{always_returns_same}
use Rattle.plan_limits.specs.Limits.{is_rising}
use Rattle.plan_limits.proofs.Laws.Every.{every_not, every_adjacent}
use Rattle.plan_limits.proofs.written.is_rising.Goals as goal

pub returns-then-count-gt8 : goal.returns-then-count-gt8
unfolding is_rising
returns-then-count-gt8 c =
    let a = c.args in
    let n : length a.preds ≡ 8 = search rules in
    let z : get_or a.preds 8 0 ≡ 0 = get_or-eq_default a.preds 0 (omega arith) in
    sym (every_not (λ i. ltb (get_or a.preds i 0) (get_or a.preds (i + 1) 0)) (a.count - 1) 7 (omega arith) (le-ltb (get_or a.preds 7 0) (get_or a.preds 8 0) (omega arith)))

pub returns : goal.returns
unfolding is_rising
returns c =
    let n : length c.args.preds ≡ 8 = search rules in
    rw (← c.from.ensures) (every_adjacent c.args.preds c.from.result _ (omega arith) (c.is_sorted_by.ensures.cases ltb (always_returns_same _ _ _ (λ a r f k. search (rules, tests)))))
