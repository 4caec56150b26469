-- Tests over numbers and over the kinds of nodes, and the word of the nodes before a node: the parts of `fault_of`.
use Rattle.std.specs.Prelude.{List, [], ◌∷◌, map, Bool, true, false, cond, ℕ, zero, suc, ◌+◌, ◌^◌, length, get_or, eqb}
use Rattle.std.specs.Int.Bits.{bit_or}
use Rattle.wire.specs.Map as Map
use Rattle.plan.specs.Plan.{predecessors}
pub use Rattle.plan.specs.Plan.{is_event}
use Rattle.plan.specs.declared.Kind.{Kind}
use Rattle.plan.specs.declared.Node.{Node}

-- where the first holds, the second does
abbrev pub implies : Bool → Bool → Bool
implies true b = b
implies false b = true

-- the list is empty
abbrev pub none : List ℕ → Bool
none [] = true
none (m ∷ ms) = false

-- an action on peripheral p
abbrev pub is_action : ℕ → Kind → Bool
is_action p (Kind.Action x q) = eqb q p
is_action p (Kind.Claim r) = false
is_action p (Kind.Release r) = false
is_action p (Kind.Event e) = false

-- a claim of resource s
abbrev pub is_claim : ℕ → Kind → Bool
is_claim s (Kind.Action x q) = false
is_claim s (Kind.Claim r) = eqb r s
is_claim s (Kind.Release r) = false
is_claim s (Kind.Event e) = false

-- a release of resource s
abbrev pub is_release : ℕ → Kind → Bool
is_release s (Kind.Action x q) = false
is_release s (Kind.Claim r) = false
is_release s (Kind.Release r) = eqb r s
is_release s (Kind.Event e) = false

-- an action's peripheral passes; any other kind does
abbrev pub of_action : Kind → (ℕ → Bool) → Bool
of_action (Kind.Action x p) f = f p
of_action (Kind.Claim r) f = true
of_action (Kind.Release r) f = true
of_action (Kind.Event e) f = true

-- a claim's resource passes
abbrev pub of_claim : Kind → (ℕ → Bool) → Bool
of_claim (Kind.Action x p) f = true
of_claim (Kind.Claim r) f = f r
of_claim (Kind.Release r) f = true
of_claim (Kind.Event e) f = true

-- a release's resource passes
abbrev pub of_release : Kind → (ℕ → Bool) → Bool
of_release (Kind.Action x p) f = true
of_release (Kind.Claim r) f = true
of_release (Kind.Release r) f = f r
of_release (Kind.Event e) f = true

-- an event's number passes
abbrev pub of_event : Kind → (ℕ → Bool) → Bool
of_event (Kind.Action x p) f = true
of_event (Kind.Claim r) f = true
of_event (Kind.Release r) f = true
of_event (Kind.Event e) f = f e

-- bit m of a word
abbrev pub bit : ℕ → ℕ → Bool
bit w m = Map.bit m w

-- the word that has the bits of these numbers
unfoldable pub word_of : List ℕ → ℕ
word_of [] = 0
word_of (m ∷ ms) = bit_or (2 ^ m) (word_of ms)

-- what is before k is before each node that k is before
abbrev pub through : ℕ → ℕ → ℕ → ℕ
through k row w = cond (bit w k) (bit_or w row) w

-- one pass, through node k, over all words
abbrev pub pass : ℕ → List ℕ → List ℕ
pass k t = map (through k (get_or t k 0)) t

-- the passes through j nodes from k on
unfoldable pub passes : ℕ → ℕ → List ℕ → List ℕ
passes k zero t = t
passes k (suc j) t = passes (k + 1) j (pass k t)

-- for each node a word: bit m stands if m is before the node
unfoldable pub before_words : List Node → List ℕ
before_words a = passes 0 (length a) (map (λ n. word_of (predecessors n)) a)
