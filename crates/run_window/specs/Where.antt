-- Where a node stands in the window.
use Rattle.std.specs.Prelude.{cond, List, [], ◌∷◌, ℕ, suc}
use Rattle.run_window.specs.declared.Entry.{Entry}
use Rattle.run_window.specs.Window.{is_node}

-- the lowest place that holds the node, or the number of places where none does
unfoldable pub place_of : ℕ → ℕ → List Entry → ℕ
place_of position node [] = 0
place_of position node (e ∷ es) = cond (is_node position node e) 0 (suc (place_of position node es))
