-- `is_empty` tells whether every place is free, of the window that its numbers stand for.
use Rattle.std.specs.Prelude.{◌≡◌, refl, ◌&&◌, Bool, List, [], ◌∷◌, map}
use Rattle.std.specs.List.{list_all}
use Rattle.std.proofs.Common.{◌∙◌, ap, rules, tests}
use Rattle.std.proofs.lemmas.Iterator.{YieldsList-from_slice}
use Rattle.std.proofs.lemmas.Iterator.Search.{all_from_yields_List}
use Rattle.run_window.specs.Window.{is_free, is_empty}
use Rattle.held.specs.declared.HeldEntry.{HeldEntry}
use Rattle.held.specs.Held.{entry_of}
use Rattle.held_checks.proofs.places.is_empty.Goals as goal

is_all : (held : List HeldEntry) → list_all (λ h. is_free (entry_of h).phase) held ≡ is_empty (map entry_of held)
unfolding is_empty
is_all [] = refl
is_all (h ∷ held) = ap (λ (b : Bool). is_free (entry_of h).phase && b) (is_all held)

pub returns : goal.returns
returns c =
    let w = c.args.rest.window in
    all_from_yields_List (λ (h : HeldEntry). is_free (entry_of h).phase) _ _ _ c.all.ensures.ran (YieldsList-from_slice w cc) (λ x b q k. search (rules, tests))
    ∙ is_all w
