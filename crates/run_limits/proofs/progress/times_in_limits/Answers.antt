-- `progress::times_in_limits` is what it is defined to be. Assumes nothing.
use Rattle.std.specs.Prelude.{take, leb}
use Rattle.std.proofs.Common.{sym, ◌∙◌, arith, rules, tests}
use Rattle.std.proofs.lemmas.Iterator.{YieldsList-from_slice}
use Rattle.std.proofs.lemmas.Iterator.Search.{all_from_yields_List}
use Rattle.plan_limits.proofs.Laws.Every.{every_taken}
use Rattle.time.specs.Time.{horizon}
use Rattle.time.specs.declared.Specified.{Specified}
use Rattle.times.specs.Times.{specified}
use Rattle.run_limits.specs.Progress.{times_in_limits}
use Rattle.run_limits.proofs.progress.times_in_limits.Goals as goal

pub returns : goal.returns
unfolding times_in_limits
returns c =
    let a = c.args in
    all_from_yields_List (λ t. leb t.0 horizon) _ _ _ c.all.ensures.ran (YieldsList-from_slice (take a.count a.times) cc) (λ x b q k. search (rules, tests))
    ∙ sym (every_taken (λ (t : Specified). leb t.0 horizon) (specified 0) a.times a.count (omega arith))
