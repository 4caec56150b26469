-- What a place of the window holds.
use Rattle.std.specs.Prelude.{◌≡◌, true, List, ℕ, get_or}
use Rattle.run_window.specs.declared.Entry.{Entry}
use Rattle.run_window.specs.Window.{vacant, is_held}

-- place i of the window holds the node of entry e
pub record Holds (w : List Entry) (i : ℕ) (e : Entry) : Type 0 where
  pub entry : get_or w i vacant ≡ e
  pub held : is_held e.phase ≡ true

-- "A node's identity is its position and its node number."
abbrev pub SameNode : Entry → Entry → Type 0
SameNode e f = (e.position ≡ f.position) × (e.node ≡ f.node)

-- no node stands at two places
abbrev pub Once : List Entry → Type 0
Once w = (i j : ℕ) (e f : Entry) → Holds w i e → Holds w j f → SameNode e f → i ≡ j
