-- What the code sees of a node: words of the nodes before it, after it and like it, and of the claims and releases of its resource.
use Rattle.std.specs.Prelude.{◌≡◌, Bool, List, ◌↔◌, ℕ, ◌<◌, length, get_or, Result}
use Rattle.basis.specs.Inner.Tells.{Tells}
use Rattle.plan.specs.declared.Kind.{Kind}
use Rattle.plan.specs.declared.Node.{Node}
use Rattle.plan.specs.declared.Fault.{Fault}
use Rattle.activity.specs.declared.nodes.Label.{Label}
use Rattle.activity.specs.declared.nodes.Sight.{Sight}
use Rattle.activity.specs.Rules.{Is, Before, Ordered}
use Rattle.activity.specs.Number.{kind_of}
use Rattle.activity.specs.Inner.Bits.{Bit}
use Rattle.activity.specs.Inner.Closure.{Closure}
use Rattle.activity.specs.Inner.Order.{Lowest}
use Rattle.activity.specs.Inner.Nodes.{At}

-- what the logic takes for a label past the end of an array
abbrev pub past_label : Label
past_label = Label.Action 0

-- the kind of a node and what it names, an action's own number apart
abbrev pub label_of : Kind → Label
label_of (Kind.Action x p) = Label.Action p
label_of (Kind.Claim r) = Label.Claim r
label_of (Kind.Release r) = Label.Release r
label_of (Kind.Event e) = Label.Event e

-- the resource of an action's peripheral, of a claim and of a release
abbrev pub held_of : (ℕ → ℕ) → Kind → ℕ
held_of belongs (Kind.Action x p) = belongs p
held_of belongs (Kind.Claim r) = r
held_of belongs (Kind.Release r) = r
held_of belongs (Kind.Event e) = 0

-- node m has label k
pub record Labelled (a : List Node) (k : Label) (m : ℕ) : Type 0 where
  pub within : m < length a
  pub label : label_of (kind_of a m) ≡ k

-- bit m of w stands iff m has P
abbrev pub Marks : ℕ → (ℕ → Type 0) → Type 0
Marks w P = (m : ℕ) → Bit w m ↔ P m

-- the words are those of node n
pub record Seen (belongs : ℕ → ℕ) (a : List Node) (n : ℕ) (s : Sight) : Type 0 where
  pub own : Marks s.own (λ m. m ≡ n)
  pub before : Marks s.before (λ m. Before a m n)
  pub after : Marks s.after (λ m. Before a n m)
  pub same : Marks s.same (Labelled a (label_of (kind_of a n)))
  pub claims : Marks s.claims (Labelled a (Label.Claim (held_of belongs (kind_of a n))))
  pub releases : Marks s.releases (Labelled a (Label.Release (held_of belongs (kind_of a n))))

-- every other node like n is ordered with it
abbrev pub InLine : List Node → ℕ → Type 0
InLine a n = (m : ℕ) → Labelled a (label_of (kind_of a n)) m → (m ≡ n → ⊥) → Ordered a m n

-- no other node is like n
abbrev pub Alone : List Node → ℕ → Type 0
Alone a n = (m : ℕ) → Labelled a (label_of (kind_of a n)) m → m ≡ n

-- a claim of n's resource is before it
abbrev pub Claimed : (ℕ → ℕ) → List Node → ℕ → Type 0
Claimed belongs a n = (m : ℕ) × Labelled a (Label.Claim (held_of belongs (kind_of a n))) m × Before a m n

-- a release of n's resource is after it
abbrev pub Released : (ℕ → ℕ) → List Node → ℕ → Type 0
Released belongs a n = (m : ℕ) × Labelled a (Label.Release (held_of belongs (kind_of a n))) m × Before a n m

-- the labels are those of the nodes
abbrev pub Labels : List Node → List Label → Type 0
Labels a l = (m : ℕ) → m < length a → get_or l m past_label ≡ label_of (kind_of a m)

-- r is the first rule that a node of this kind breaks, for every node of an activity that has these words and is on no cycle
abbrev pub Breaks : Sight → Kind → Result (Unit {0}) Fault → Type 0
Breaks s k r =
    (belongs : ℕ → ℕ) (a : List Node) (n : ℕ) → Is a n k → Seen belongs a n s → (Before a n n → ⊥) → Lowest (At belongs a n) r

-- of a claim, whose partner is after it, and of a release, whose partner is before it
pub record EndBreaks (s : Sight) (paired : Bool) (past : ℕ) (r : Result (Unit {0}) Fault) : Type 0 where
  pub claim : (q : ℕ) → past ≡ s.before → ((belongs : ℕ → ℕ) (a : List Node) (n : ℕ) → Seen belongs a n s → Tells paired (Released belongs a n)) → Breaks s (Kind.Claim q) r
  pub release : (q : ℕ) → past ≡ s.after → ((belongs : ℕ → ℕ) (a : List Node) (n : ℕ) → Seen belongs a n s → Tells paired (Claimed belongs a n)) → Breaks s (Kind.Release q) r

-- s is what is seen of node n, of every activity with this closure and these labels in which n is of kind k and needs this resource
abbrev pub Looks : List ℕ → List Label → Kind → ℕ → ℕ → Sight → Type 0
Looks words labels k resource n s =
    (belongs : ℕ → ℕ) (a : List Node) → length a ≡ length labels → Closure a words → Labels a labels → kind_of a n ≡ k → resource ≡ held_of belongs k
    → Seen belongs a n s
