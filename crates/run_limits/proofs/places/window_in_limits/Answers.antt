-- `places::window_in_limits` is what it is defined to be. Assumes nothing.
use Rattle.std.proofs.Common.{◌∙◌, rules, tests}
use Rattle.std.proofs.lemmas.Iterator.{YieldsList-from_slice}
use Rattle.std.proofs.lemmas.Iterator.Search.{all_from_yields_List}
use Rattle.run_limits.specs.Window.{entry_in_limits}
use Rattle.run_limits.proofs.Laws.Places.{window_is_all}
use Rattle.run_limits.proofs.places.window_in_limits.Goals as goal

pub returns : goal.returns
returns c =
    let a = c.args in
    all_from_yields_List (entry_in_limits a.activities a.sizes) _ _ _ c.all.ensures.ran (YieldsList-from_slice a.window cc) (λ x b q k. search (rules, tests))
    ∙ window_is_all a.activities a.sizes a.window
