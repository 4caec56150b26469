-- `window_in_limits` is what it is defined to be, of the window that its numbers stand for.
use Rattle.std.specs.Prelude.{map}
use Rattle.std.proofs.Common.{sym, ◌∙◌, rules, tests}
use Rattle.std.proofs.lemmas.Iterator.{YieldsList-from_slice}
use Rattle.std.proofs.lemmas.Iterator.Search.{all_from_yields_List}
use Rattle.std.proofs.lemmas.List.Folds.{list_all-map}
use Rattle.run_limits.specs.Window.{entry_in_limits}
use Rattle.run_limits.proofs.Laws.Places.{window_is_all}
use Rattle.held.specs.declared.HeldEntry.{HeldEntry}
use Rattle.held.specs.Held.{entry_of}
use Rattle.held_checks.proofs.places.window_in_limits.Goals as goal

pub returns : goal.returns
returns c =
    let a = c.args in
    all_from_yields_List (λ (h : HeldEntry). entry_in_limits a.activities a.sizes (entry_of h)) _ _ _ c.all.ensures.ran (YieldsList-from_slice a.rest.window cc) (λ x b q k. search (rules, tests))
    ∙ sym (list_all-map (entry_in_limits a.activities a.sizes) entry_of a.rest.window)
    ∙ window_is_all a.activities a.sizes (map entry_of a.rest.window)
