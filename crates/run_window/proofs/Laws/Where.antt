-- What the place of a node tells.
use Rattle.std.specs.Prelude.{◌≡◌, Bool}
use Rattle.std.proofs.Math.Path.{refl}
use Rattle.std.proofs.Common.{sym, ◌∙◌, ap}
use Rattle.std.proofs.Math.Bool.{true, false, cond}
use mathlib.Core.List.{List, [], ◌∷◌}
use Prim.Native.Nat.{ℕ, zero, suc, ◌≤◌, ◌<◌}
use native.Mathlib.Omega.{arith}
use Rattle.std.proofs.Math.Decide.{dec_le}
use Rattle.std.proofs.Math.ListN.{length}
use Rattle.run_window.specs.declared.Entry.{Entry}
use Rattle.run_window.specs.Window.{is_node}
use Rattle.run_window.specs.Places.{Holds}
use Rattle.run_window.specs.Where.{place_of}
use Rattle.run_window.proofs.Laws.Tests.{node_tells}
use Rattle.run_window.proofs.Laws.Places.{Once, holds_within, holds_suc, holds_pred}

module _ (position node : ℕ) where
  -- place i holds the node with this identity
  pub record HoldsNode (w : List Entry) (i : ℕ) : Type 0 where
    pub entry : Entry
    pub there : Holds w i entry
    pub position_is : entry.position ≡ position
    pub node_is : entry.node ≡ node

  later : (x : Entry) (w : List Entry) (i : ℕ) → HoldsNode w i → HoldsNode (x ∷ w) (suc i)
  later x w i h = record {
    entry = h.entry;
    there = holds_suc x w i h.entry h.there;
    position_is = h.position_is;
    node_is = h.node_is;
  }

  earlier : (x : Entry) (w : List Entry) (i : ℕ) → HoldsNode (x ∷ w) (suc i) → HoldsNode w i
  earlier x w i h = record {
    entry = h.entry;
    there = holds_pred x w i h.entry h.there;
    position_is = h.position_is;
    node_is = h.node_is;
  }

  front : (x : Entry) (w : List Entry) → is_node position node x ≡ true → HoldsNode (x ∷ w) 0
  front x w q =
      let t = (node_tells position node x).0 q in
      record { entry = x; there = record { entry = refl; held = t.0 }; position_is = t.1; node_is = t.2 }

  front_is : (x : Entry) (w : List Entry) → HoldsNode (x ∷ w) 0 → is_node position node x ≡ true
  front_is x w h =
      ap (is_node position node) h.there.entry
      ∙ (node_tells position node h.entry).1 (h.there.held, h.position_is, h.node_is)

  -- a place below the length holds the node
  pub where_holds : (w : List Entry) → place_of position node w < length w → HoldsNode w (place_of position node w)
  unfolding place_of
  where_holds [] l = absurd (omega arith)
  where_holds (x ∷ w) l = go (is_node position node x) refl l (where_holds w)
    where
      go : (b : Bool) → is_node position node x ≡ b → cond b 0 (suc (place_of position node w)) < suc (length w)
          → (place_of position node w < length w → HoldsNode w (place_of position node w))
          → HoldsNode (x ∷ w) (cond b 0 (suc (place_of position node w)))
      go true q m rest = front x w q
      go false q m rest = later x w (place_of position node w) (rest (omega arith))

  -- it is the lowest that does
  pub where_lowest : (w : List Entry) (i : ℕ) → HoldsNode w i → place_of position node w ≤ i
  unfolding place_of
  where_lowest [] i h = let l = holds_within [] i h.entry h.there in absurd (omega arith)
  where_lowest (x ∷ w) zero h = rw (front_is x w h) (omega arith)
  where_lowest (x ∷ w) (suc i) h = go (is_node position node x) (where_lowest w i (earlier x w i h))
    where
      go : (b : Bool) → place_of position node w ≤ i → cond b 0 (suc (place_of position node w)) ≤ suc i
      go true q = omega arith
      go false q = omega arith

  pub where_within : (w : List Entry) → place_of position node w ≤ length w
  unfolding place_of
  where_within [] = omega arith
  where_within (x ∷ w) = go (is_node position node x) (where_within w)
    where
      go : (b : Bool) → place_of position node w ≤ length w → cond b 0 (suc (place_of position node w)) ≤ suc (length w)
      go true q = omega arith
      go false q = omega arith

  -- where no place holds the node, it is the number of places
  pub where_absent : (w : List Entry) → ((i : ℕ) → HoldsNode w i → ⊥) → place_of position node w ≡ length w
  where_absent w none =
      elim (dec_le (length w) (place_of position node w)) [
        | yes l ↦ omega (arith, where_within w)
        | no l ↦ absurd (none (place_of position node w) (where_holds w (omega arith)))
      ]

  -- where no node stands at two places, it is the only place that holds the node
  pub where_only : (w : List Entry) (i : ℕ) → Once w → HoldsNode w i → place_of position node w ≡ i
  where_only w i once h =
      let l = holds_within w i h.entry h.there in
      let f = where_holds w (omega (arith, where_lowest w i h)) in
      once (place_of position node w) i f.entry h.entry f.there h.there
      (f.position_is ∙ sym h.position_is, f.node_is ∙ sym h.node_is)
