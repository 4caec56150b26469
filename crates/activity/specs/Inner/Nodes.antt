-- What the contracts behind `Laws/Nodes` cite.
use Rattle.std.specs.Prelude.{◌≡◌, List, ℕ}
use Rattle.plan.specs.declared.Kind.{Kind}
use Rattle.plan.specs.declared.Node.{Node}
use Rattle.plan.specs.declared.Fault.{Fault}
use Rattle.activity.specs.Rules.{Is, Arrow, Before, Ordered}

-- what number f asks of node n
abbrev pub At : (ℕ → ℕ) → List Node → ℕ → Fault → Type 0
At belongs a n Fault.Cycle = Before a n n → ⊥
At belongs a n Fault.ActionsUnordered =
    (x p : ℕ) → Is a n (Kind.Action x p) → (m y : ℕ) → Is a m (Kind.Action y p) → (m ≡ n → ⊥) → Ordered a m n
At belongs a n Fault.NamedTwice =
    ((r : ℕ) → Is a n (Kind.Claim r) → (m : ℕ) → Is a m (Kind.Claim r) → m ≡ n)
    × ((r : ℕ) → Is a n (Kind.Release r) → (m : ℕ) → Is a m (Kind.Release r) → m ≡ n)
At belongs a n Fault.ActionUnheld =
    (x p : ℕ) → Is a n (Kind.Action x p)
    → ((m : ℕ) × Is a m (Kind.Claim (belongs p)) × Before a m n) × ((m : ℕ) × Is a m (Kind.Release (belongs p)) × Before a n m)
At belongs a n Fault.ClaimUnpaired =
    ((r : ℕ) → Is a n (Kind.Release r) → (m : ℕ) × Is a m (Kind.Claim r) × Before a m n)
    × ((r : ℕ) → Is a n (Kind.Claim r) → (m : ℕ) × Is a m (Kind.Release r) × Before a n m)
At belongs a n Fault.ArrowPastEnd =
    ((r : ℕ) → Is a n (Kind.Claim r) → (m : ℕ) → Arrow a m n → ⊥) × ((r : ℕ) → Is a n (Kind.Release r) → (m : ℕ) → Arrow a n m → ⊥)
At belongs a n Fault.EventFirst = (e : ℕ) → Is a n (Kind.Event e) → (m : ℕ) × Arrow a m n
At belongs a n Fault.EventsUnordered = (e : ℕ) → Is a n (Kind.Event e) → (m : ℕ) → Is a m (Kind.Event e) → (m ≡ n → ⊥) → Ordered a m n
At belongs a n Fault.Ends = Unit {0}
At belongs a n Fault.Map = Unit {0}
At belongs a n Fault.NoAutomaton = Unit {0}
At belongs a n Fault.Count = Unit {0}
At belongs a n Fault.Names = Unit {0}
At belongs a n Fault.Duration = Unit {0}
At belongs a n Fault.NotRising = Unit {0}
At belongs a n Fault.LeftOver = Unit {0}
At belongs a n Fault.WayOutOfFinal = Unit {0}
At belongs a n Fault.ForbiddenBranch = Unit {0}
At belongs a n Fault.OutcomeMissing = Unit {0}
At belongs a n Fault.NoWayToFinal = Unit {0}
At belongs a n Fault.Unbalanced = Unit {0}
At belongs a n Fault.TooManyPending = Unit {0}
