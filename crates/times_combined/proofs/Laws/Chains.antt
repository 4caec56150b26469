-- "Before" in a sequence of two activities.
use Rattle.std.specs.Prelude.{◌≡◌, ℕ, suc, ◌≤◌, List}
use Rattle.std.proofs.Common.{arith}
use Rattle.basis.specs.Lists.{Chain, one, more}
use Rattle.plan.specs.declared.Kind.{Kind}
use Rattle.plan.specs.declared.Kind.TheVariants.{Event}
use Rattle.plan.specs.declared.Node.{Node}
use Rattle.activity.specs.Rules.{Arrow}
use Rattle.times_combined.specs.Combined.{Ident, named, claimed, freed, NotClaim, NotRelease, Graph, Is, Before, Arrows, completed, Processing, Links, sequenced}
use Rattle.times_combined.proofs.Laws.Shape.{place, Shape, source_place, left_arrow}
use Rattle.activity.specs.Rules as Rules

module _ (A B : Graph) (p : Processing) (q : ℕ) (sa : Shape A q) (sb : Shape B (suc q)) (after : (x : Ident) (k : Kind) (d : ℕ) → B.Holds x k d → place x ≡ suc q) where
  -- to a node of the left
  pub to_left : (m n : Ident) → place n ≤ q → Before (sequenced A p B) m n → Before A m n
  to_left m n l (one h) = one (left_arrow A B p q sa sb after m n l h)
  to_left m n l (more {k} c h) = let g = left_arrow A B p q sa sb after k n l h in more (to_left m k (source_place sa k n g) c) g

  pub left_kept : (m n : Ident) → (k : Kind) × Is A n k × NotRelease k → Before A m n → Before (sequenced A p B) m n
  left_kept m n s (one h) = one (Links.left h s.1 s.2)
  left_kept m n s (more {k} c h) = more (left_kept m k (sa.source k n h) c) (Links.left h s.1 s.2)

  -- from a node of the right
  pub from_arrow : (m n : Ident) → place m ≡ suc q → Links A B p m n → B.Arrow m n
  from_arrow m n l (Links.left h i nr) = absurd (let u = source_place sa m n h in omega arith)
  from_arrow m n l (Links.right h i nc) = h
  from_arrow m n l (Links.resource r h i) = absurd (let u = source_place sa m h.by h.then in omega arith)
  from_arrow m n l (Links.event e i j) = absurd (let u = sa.places m (Event e) i.0 i.1 in omega arith)
  from_arrow m n l (Links.processed e k r f i j) = absurd (let u = sa.places m (Event e) i.event.0 i.event.1 in omega arith)

  reaches : (m n : Ident) → Before B m n → (k : Kind) × Is B n k × NotClaim k
  reaches m n (one h) = sb.target m n h
  reaches m n (more {k} c h) = sb.target k n h

  pub from_right : (m n : Ident) → place m ≡ suc q → Before (sequenced A p B) m n → Before B m n
  from_right m n l (one h) = one (from_arrow m n l h)
  from_right m n l (more {k} c h) =
      let b = from_right m k l c in
      let s = reaches m k b in
      more b (from_arrow k n (after k s.0 s.1.0 s.1.1) h)

  pub right_kept : (m n : Ident) → (k : Kind) × Is B m k × NotClaim k → Before B m n → Before (sequenced A p B) m n
  right_kept m n s (one h) = one (Links.right h s.1 s.2)
  right_kept m n s (more {k} c h) = let r = reaches m k c in more (right_kept m k s c) (Links.right h r.1 r.2)

-- ---- "before" in a completed activity is "before" in the activity

module _ (R q : ℕ) (a : List Node) where
  abbrev pub Ends : Ident → Ident → Type 0
  Ends (named p m) (named r n) = Arrow a m n
  Ends (named p m) (claimed r n) = ⊥
  Ends (named p m) (freed r n) = ⊥
  Ends (claimed p m) y = Unit {0}
  Ends (freed p m) y = Unit {0}

  pub ends : (x y : Ident) → Arrows R q a x y → Ends x y
  ends x y (Arrows.own h) = h
  ends x y (Arrows.added l u) = tt

  abbrev Comes : ℕ → Ident → Type 0
  Comes m (named p n) = Rules.Before a m n
  Comes m (claimed p n) = ⊥
  Comes m (freed p n) = ⊥

  first : (p m : ℕ) (y : Ident) → Ends (named p m) y → Comes m y
  first p m (named r n) h = one h
  first p m (claimed r n) h = h
  first p m (freed r n) h = h

  next : (m : ℕ) (k y : Ident) → Comes m k → Ends k y → Comes m y
  next m (named p i) (named r n) c h = more c h
  next m (named p i) (claimed r n) c h = h
  next m (named p i) (freed r n) c h = h
  next m (claimed p i) y c h = absurd c
  next m (freed p i) y c h = absurd c

  comes : (p m : ℕ) (y : Ident) → Chain (Arrows R q a) (named p m) y → Comes m y
  comes p m y (one h) = first p m y (ends (named p m) y h)
  comes p m y (more {k} c h) = next m k y (comes p m k c) (ends k y h)

  pub in_activity : (p m r n : ℕ) → Before (completed R q a) (named p m) (named r n) → Rules.Before a m n
  in_activity p m r n c = comes p m (named r n) c

  pub in_completed : (m n : ℕ) → Rules.Before a m n → Before (completed R q a) (named q m) (named q n)
  in_completed m n (one h) = one (Arrows.own h)
  in_completed m n (more {k} c h) = more (in_completed m k c) (Arrows.own h)
