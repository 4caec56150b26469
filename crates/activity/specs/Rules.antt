-- "What an activity must satisfy (Def. 1)", as statements about chains of arrows. An activity is the list of its nodes
-- by number; the empty activity is the empty list.
use Rattle.std.specs.Prelude.{◌≡◌, List, ◌⊎◌, ℕ, ◌<◌, length, get_or}
use Rattle.basis.specs.Lists.{Among, Chain}
use Rattle.plan.specs.Plan.{past_node, predecessors}
use Rattle.plan.specs.declared.Kind.{Kind}
use Rattle.plan.specs.declared.Node.{Node}

abbrev pub node : List Node → ℕ → Node
node a n = get_or a n past_node

-- node n of the activity is of kind k
pub record Is (a : List Node) (n : ℕ) (k : Kind) : Type 0 where
  pub within : n < length a
  pub kind : (node a n).kind ≡ k

-- an arrow m → n: m is a predecessor of n
pub record Arrow (a : List Node) (m n : ℕ) : Type 0 where
  pub within : n < length a
  pub from : Among m (predecessors (node a n))

-- "Before" means by one or more arrows.
abbrev pub Before : List Node → ℕ → ℕ → Type 0
Before a = Chain (Arrow a)

abbrev pub Ordered : List Node → ℕ → ℕ → Type 0
Ordered a m n = Before a m n ⊎ Before a n m

-- an unnamed resource is neither claimed nor released
pub record Unnamed (a : List Node) (r : ℕ) : Type 0 where
  pub unclaimed : (n : ℕ) → Is a n (Kind.Claim r) → ⊥
  pub unreleased : (n : ℕ) → Is a n (Kind.Release r) → ⊥

-- No cycle.
abbrev pub NoCycle : List Node → Type 0
NoCycle a = (n : ℕ) → Before a n n → ⊥

-- Two actions on one peripheral are ordered (I).
abbrev pub RuleI : List Node → Type 0
RuleI a = (m n x y p : ℕ) → Is a m (Kind.Action x p) → Is a n (Kind.Action y p) → (m ≡ n → ⊥) → Ordered a m n

-- A resource is claimed at most once and released at most once (II, III).
abbrev pub RuleII : List Node → Type 0
RuleII a = (m n r : ℕ) → Is a m (Kind.Claim r) → Is a n (Kind.Claim r) → m ≡ n

abbrev pub RuleIII : List Node → Type 0
RuleIII a = (m n r : ℕ) → Is a m (Kind.Release r) → Is a n (Kind.Release r) → m ≡ n

-- An action has a claim of its peripheral's resource before it and a release after it (IV, V).
abbrev pub RuleIV : (ℕ → ℕ) → List Node → Type 0
RuleIV belongs a = (n x p : ℕ) → Is a n (Kind.Action x p) → (m : ℕ) × Is a m (Kind.Claim (belongs p)) × Before a m n

abbrev pub RuleV : (ℕ → ℕ) → List Node → Type 0
RuleV belongs a = (n x p : ℕ) → Is a n (Kind.Action x p) → (m : ℕ) × Is a m (Kind.Release (belongs p)) × Before a n m

-- A release has its claim before it and a claim its release after it (VI, VII).
abbrev pub RuleVI : List Node → Type 0
RuleVI a = (n r : ℕ) → Is a n (Kind.Release r) → (m : ℕ) × Is a m (Kind.Claim r) × Before a m n

abbrev pub RuleVII : List Node → Type 0
RuleVII a = (n r : ℕ) → Is a n (Kind.Claim r) → (m : ℕ) × Is a m (Kind.Release r) × Before a n m

-- Claims have no predecessor, releases no successor (VIII, IX).
abbrev pub RuleVIII : List Node → Type 0
RuleVIII a = (m n r : ℕ) → Is a n (Kind.Claim r) → Arrow a m n → ⊥

abbrev pub RuleIX : List Node → Type 0
RuleIX a = (m n r : ℕ) → Is a m (Kind.Release r) → Arrow a m n → ⊥

-- An event has a predecessor (X).
abbrev pub RuleX : List Node → Type 0
RuleX a = (n e : ℕ) → Is a n (Kind.Event e) → (m : ℕ) × Arrow a m n

-- Two different nodes of one event are ordered (XI).
abbrev pub RuleXI : List Node → Type 0
RuleXI a = (m n e : ℕ) → Is a m (Kind.Event e) → Is a n (Kind.Event e) → (m ≡ n → ⊥) → Ordered a m n

-- The activity meets all of them; `belongs` gives the resource of each peripheral.
pub record Meets (belongs : ℕ → ℕ) (a : List Node) : Type 0 where
  pub no_cycle_lem : NoCycle a
  pub rule_I : RuleI a
  pub rule_II : RuleII a
  pub rule_III : RuleIII a
  pub rule_IV : RuleIV belongs a
  pub rule_V : RuleV belongs a
  pub rule_VI : RuleVI a
  pub rule_VII : RuleVII a
  pub rule_VIII : RuleVIII a
  pub rule_IX : RuleIX a
  pub rule_X : RuleX a
  pub rule_XI : RuleXI a
