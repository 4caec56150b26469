-- "Specified times", the arrows: Def. 7 and 8 as document 01 amends them. An activity over identities, the sequencing
-- operator, and the combined activity of a word.
use Rattle.std.specs.Prelude.{◌≡◌, List, [], ℕ, suc, ◌+◌, ◌-◌, ◌<◌, length}
use Rattle.basis.specs.Lists.{Chain, Exactly}
use Rattle.plan.specs.declared.Kind.{Kind}
use Rattle.plan.specs.declared.Node.{Node}
use Rattle.plan.specs.declared.Input.{Input}
use Rattle.activity.specs.Rules.{node, Arrow, Unnamed}
use Rattle.times_combined.specs.Word.{Word, τ, ◌▷◌, size, times}

-- ---- identities

-- The nodes of a combined activity. Place 0 is the opening, place p + 1 the position p. (Def. 7's superscripts: "to
-- create unique names for the nodes of the composed activities".)
pub data Ident : Type 0 where
  -- a node of the activity at a place, by its number
  named : ℕ → ℕ → Ident
  -- the claim and the release that are added at a place for an unnamed resource
  claimed freed : ℕ → ℕ → Ident

-- "A node's identity is its position (0 for the first transition of the run, also for empty activities) and its node
-- number."
abbrev pub identity : ℕ → ℕ → Ident
identity position number = named (suc position) number

-- ---- activities over identities (Def. 1)

-- The quadruple of Def. 1: the nodes, each with its kind (M) and its duration (T), and the arrows.
pub record Graph : Type 1 where
  pub Holds : Ident → Kind → ℕ → Type 0
  pub Arrow : Ident → Ident → Type 0

-- x is a node of kind k
abbrev pub Is : Graph → Ident → Kind → Type 0
Is G x k = (d : ℕ) × G.Holds x k d

-- "Before" means by one or more arrows.
abbrev pub Before : Graph → Ident → Ident → Type 0
Before G = Chain G.Arrow

abbrev pub NotClaim : Kind → Type 0
NotClaim (Kind.Action a p) = Unit {0}
NotClaim (Kind.Claim r) = ⊥
NotClaim (Kind.Release r) = Unit {0}
NotClaim (Kind.Event e) = Unit {0}

abbrev pub NotRelease : Kind → Type 0
NotRelease (Kind.Action a p) = Unit {0}
NotRelease (Kind.Claim r) = Unit {0}
NotRelease (Kind.Release r) = ⊥
NotRelease (Kind.Event e) = Unit {0}

-- ---- the completed activity

-- An activity of a plan with R resources, at place q; "an unnamed [resource] counts as claimed and at once released":
-- "a claim and release node for a resource without any other nodes in between" (before Def. 7).
pub data Nodes (R q : ℕ) (a : List Node) : Ident → Kind → ℕ → Type 0 where
  own : {n : ℕ} {k : Kind} {d : ℕ} → n < length a → (node a n).kind ≡ k → (node a n).duration ≡ d → Nodes R q a (named q n) k d
  claim : {r : ℕ} → r < R → Unnamed a r → Nodes R q a (claimed q r) (Kind.Claim r) 0
  release : {r : ℕ} → r < R → Unnamed a r → Nodes R q a (freed q r) (Kind.Release r) 0

pub data Arrows (R q : ℕ) (a : List Node) : Ident → Ident → Type 0 where
  own : {m n : ℕ} → Arrow a m n → Arrows R q a (named q m) (named q n)
  added : {r : ℕ} → r < R → Unnamed a r → Arrows R q a (claimed q r) (freed q r)

abbrev pub completed : ℕ → ℕ → List Node → Graph
completed R q a = record { Holds = Nodes R q a; Arrow = Arrows R q a }

-- ---- the sequencing operator (Def. 7)

-- what is processed between two activities: nothing (A . B), or instance k of event e (A ;(e,k) B)
pub data Processing : Type 0 where
  nothing : Processing
  instance : ℕ → ℕ → Processing

-- y is a node of event e before x
abbrev pub Earlier : Graph → ℕ → Ident → Ident → Type 0
Earlier G e x y = Is G y (Kind.Event e) × Before G y x

-- "Instances are counted from 1 over the whole run .. in order of emission": instance k of e is the node of e that has
-- k - 1 nodes of e before it.
pub record Instance (G : Graph) (e k : ℕ) (x : Ident) : Type 0 where
  pub event : Is G x (Kind.Event e)
  pub number : Exactly (Earlier G e x) (k - 1)

-- the nodes: those of the left that are no releases, and those of the right that are no claims
pub data Joined (A B : Graph) : Ident → Kind → ℕ → Type 0 where
  left : {x : Ident} {k : Kind} {d : ℕ} → A.Holds x k d → NotRelease k → Joined A B x k d
  right : {x : Ident} {k : Kind} {d : ℕ} → B.Holds x k d → NotClaim k → Joined A B x k d

-- m is a predecessor of a release of r
pub record Releases (A : Graph) (r : ℕ) (m : Ident) : Type 0 where
  pub by : Ident
  pub release : Is A by (Kind.Release r)
  pub then : A.Arrow m by

-- n is a successor of a claim of r
pub record Claims (B : Graph) (r : ℕ) (n : Ident) : Type 0 where
  pub by : Ident
  pub claim : Is B by (Kind.Claim r)
  pub then : B.Arrow by n

-- the arrows
pub data Links (A B : Graph) (p : Processing) : Ident → Ident → Type 0 where
  -- those of the left, but for those to a release; those of the right, but for those from a claim
  left : {m n : Ident} {k : Kind} → A.Arrow m n → Is A n k → NotRelease k → Links A B p m n
  right : {m n : Ident} {k : Kind} → B.Arrow m n → Is B m k → NotClaim k → Links A B p m n
  -- "Sequencing joins every predecessor of a release to every successor of the next claim of that resource."
  resource : {m n : Ident} (r : ℕ) → Releases A r m → Claims B r n → Links A B p m n
  -- "Each earlier node of an event precedes each later node of it."
  event : {m n : Ident} (e : ℕ) → Is A m (Kind.Event e) → Is B n (Kind.Event e) → Links A B p m n
  -- "Processing instance k of an event makes that node precede every successor of every claim of the next activity, the
  -- unnamed resources and the empty activity included."
  processed : {m n : Ident} (e k r : ℕ) → p ≡ instance e k → Instance A e k m → Claims B r n → Links A B p m n

abbrev pub sequenced : Graph → Processing → Graph → Graph
sequenced A p B = record { Holds = Joined A B; Arrow = Links A B p }

-- ---- the combined activity (Def. 8, the behaviour activity function)

-- after w, the instance |w|^e + 1 of e is processed
abbrev pub processing : Word → Input → Processing
processing w Input.Nothing = nothing
processing w (Input.Outcome e u) = instance e (times e w + 1)

-- the empty activity for the empty word; then each transition's, at its position
abbrev pub combined : ℕ → Word → Graph
combined R τ = completed R 0 []
combined R (w ▷ x) = sequenced (combined R w) (processing w x.input) (completed R (suc (size w)) x.output)
