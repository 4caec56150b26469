-- The rules node by node: what each number asks of one node.
use Rattle.std.specs.Prelude.{List, ◌↔◌, ℕ, ◌<◌, ◌≤◌, length}
use Rattle.std.proofs.Common.{⊎_elim, arith}
use Rattle.plan.specs.declared.Kind.{Kind}
use Rattle.plan.specs.declared.Node.{Node}
use Rattle.plan.specs.declared.Fault.{Fault}
use Rattle.activity.specs.Rules.{Is}
use Rattle.activity.specs.Judged.{Rule}
use Rattle.activity.proofs.Laws.Theorem.{start}
use Rattle.activity.specs.Inner.Nodes.{At}
use Rattle.activity.proofs.Laws.Bits.{lt-or-ge}
use Rattle.activity.proofs.Laws.Closure.{within}
use Rattle.activity.specs.Inner.Order.{Below}

-- an activity meets a number's rule iff each node meets it
pub each_node : (belongs : ℕ → ℕ) (a : List Node) (f : Fault) → ((n : ℕ) → At belongs a n f) ↔ Rule belongs a f
each_node belongs a Fault.Cycle = (λ h. h, λ h. h)
each_node belongs a Fault.ActionsUnordered = (λ h m n x y p i j d. h n y p j m x i d, λ h n y p j m x i d. h m n x y p i j d)
each_node belongs a Fault.NamedTwice =
    (λ h. (λ m n r i j. (h n).0 r j m i, λ m n r i j. (h n).1 r j m i), λ h n. (λ r j m i. h.0 m n r i j, λ r j m i. h.1 m n r i j))
each_node belongs a Fault.ActionUnheld = (λ h. (λ n x p i. (h n x p i).0, λ n x p i. (h n x p i).1), λ h n x p i. (h.0 n x p i, h.1 n x p i))
each_node belongs a Fault.ClaimUnpaired = (λ h. (λ n r i. (h n).0 r i, λ n r i. (h n).1 r i), λ h n. (λ r i. h.0 n r i, λ r i. h.1 n r i))
each_node belongs a Fault.ArrowPastEnd =
    (λ h. (λ m n r i x. (h n).0 r i m x, λ m n r i x. (h m).1 r i n x), λ h n. (λ r i m x. h.0 m n r i x, λ r i m x. h.1 n m r i x))
each_node belongs a Fault.EventFirst = (λ h. h, λ h. h)
each_node belongs a Fault.EventsUnordered = (λ h m n e i j d. h n e j m i d, λ h n e j m i d. h m n e i j d)
each_node belongs a Fault.Ends = (λ h. tt, λ h n. tt)
each_node belongs a Fault.Map = (λ h. tt, λ h n. tt)
each_node belongs a Fault.NoAutomaton = (λ h. tt, λ h n. tt)
each_node belongs a Fault.Count = (λ h. tt, λ h n. tt)
each_node belongs a Fault.Names = (λ h. tt, λ h n. tt)
each_node belongs a Fault.Duration = (λ h. tt, λ h n. tt)
each_node belongs a Fault.NotRising = (λ h. tt, λ h n. tt)
each_node belongs a Fault.LeftOver = (λ h. tt, λ h n. tt)
each_node belongs a Fault.WayOutOfFinal = (λ h. tt, λ h n. tt)
each_node belongs a Fault.ForbiddenBranch = (λ h. tt, λ h n. tt)
each_node belongs a Fault.OutcomeMissing = (λ h. tt, λ h n. tt)
each_node belongs a Fault.NoWayToFinal = (λ h. tt, λ h n. tt)
each_node belongs a Fault.Unbalanced = (λ h. tt, λ h n. tt)
each_node belongs a Fault.TooManyPending = (λ h. tt, λ h n. tt)

-- no number below 11 asks anything of a node
pub start_at_lem : (belongs : ℕ → ℕ) (a : List Node) (n : ℕ) → Below (At belongs a n) 11
start_at_lem belongs a n f l = (each_node belongs a f).1 (start belongs a f l) n

-- what holds of the numbers below 19 holds of all: none from 19 on is an activity's
pub all_at : (belongs : ℕ → ℕ) (a : List Node) (n : ℕ) → Below (At belongs a n) 19 → (f : Fault) → At belongs a n f
all_at belongs a n h Fault.Cycle = h Fault.Cycle (omega arith)
all_at belongs a n h Fault.ActionsUnordered = h Fault.ActionsUnordered (omega arith)
all_at belongs a n h Fault.NamedTwice = h Fault.NamedTwice (omega arith)
all_at belongs a n h Fault.ActionUnheld = h Fault.ActionUnheld (omega arith)
all_at belongs a n h Fault.ClaimUnpaired = h Fault.ClaimUnpaired (omega arith)
all_at belongs a n h Fault.ArrowPastEnd = h Fault.ArrowPastEnd (omega arith)
all_at belongs a n h Fault.EventFirst = h Fault.EventFirst (omega arith)
all_at belongs a n h Fault.EventsUnordered = h Fault.EventsUnordered (omega arith)
all_at belongs a n h Fault.Ends = tt
all_at belongs a n h Fault.Map = tt
all_at belongs a n h Fault.NoAutomaton = tt
all_at belongs a n h Fault.Count = tt
all_at belongs a n h Fault.Names = tt
all_at belongs a n h Fault.Duration = tt
all_at belongs a n h Fault.NotRising = tt
all_at belongs a n h Fault.LeftOver = tt
all_at belongs a n h Fault.WayOutOfFinal = tt
all_at belongs a n h Fault.ForbiddenBranch = tt
all_at belongs a n h Fault.OutcomeMissing = tt
all_at belongs a n h Fault.NoWayToFinal = tt
all_at belongs a n h Fault.Unbalanced = tt
all_at belongs a n h Fault.TooManyPending = tt

module _ (belongs : ℕ → ℕ) (a : List Node) where
  no_node : {n : ℕ} {k : Kind} {P : Type 0} → length a ≤ n → Is a n k → P
  no_node l i = absurd (omega (arith, i.within))

  -- a number past the last node is no node, so nothing is asked of it
  outside : (n : ℕ) → length a ≤ n → (f : Fault) → At belongs a n f
  outside n l Fault.Cycle = λ b. omega (arith, within b)
  outside n l Fault.ActionsUnordered = λ x p i. no_node l i
  outside n l Fault.NamedTwice = (λ r i. no_node l i, λ r i. no_node l i)
  outside n l Fault.ActionUnheld = λ x p i. no_node l i
  outside n l Fault.ClaimUnpaired = (λ r i. no_node l i, λ r i. no_node l i)
  outside n l Fault.ArrowPastEnd = (λ r i. no_node l i, λ r i. no_node l i)
  outside n l Fault.EventFirst = λ e i. no_node l i
  outside n l Fault.EventsUnordered = λ e i. no_node l i
  outside n l Fault.Ends = tt
  outside n l Fault.Map = tt
  outside n l Fault.NoAutomaton = tt
  outside n l Fault.Count = tt
  outside n l Fault.Names = tt
  outside n l Fault.Duration = tt
  outside n l Fault.NotRising = tt
  outside n l Fault.LeftOver = tt
  outside n l Fault.WayOutOfFinal = tt
  outside n l Fault.ForbiddenBranch = tt
  outside n l Fault.OutcomeMissing = tt
  outside n l Fault.NoWayToFinal = tt
  outside n l Fault.Unbalanced = tt
  outside n l Fault.TooManyPending = tt

  -- an activity meets a number's rule iff each of its nodes does
  pub each_within : (f : Fault) → ((n : ℕ) → n < length a → At belongs a n f) ↔ Rule belongs a f
  each_within f = (
    λ h. (each_node belongs a f).0 (λ n. ⊎_elim (λ l. h n l) (λ l. outside n l f) (lt-or-ge n (length a))),
    λ r n l. (each_node belongs a f).1 r n,
  )
