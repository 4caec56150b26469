-- "Paths are loaded up to a waiting or final state": the nodes that a path brings, and where it ends.
use Rattle.std.specs.Prelude.{Bool, true, false, cond, List, [], ◌∷◌, ◌++◌, ℕ, zero, suc, ◌+◌}
use Rattle.plan.specs.Plan.{move, emitted_by}
use Rattle.plan.specs.declared.Kind.{Kind}
use Rattle.plan.specs.declared.Node.{Node}
use Rattle.plan.specs.declared.Output.{Output}
use Rattle.plan.specs.declared.Plan.{Plan}
use Rattle.automaton.specs.Next.{next_of}
use Rattle.automaton.specs.declared.Next.{Next}
use Rattle.times.specs.Times.{specified, at}
pub use Rattle.times.specs.Engine.{taken_by}
use Rattle.times.specs.declared.Progress.{Progress}
use Rattle.times.specs.declared.Schedule.{Schedule}
use Rattle.run_window.specs.declared.Phase.{Phase}
use Rattle.run_window.specs.declared.Entry.{Entry}

-- ---- the nodes that one transition brings

-- "The window holds loaded action and event nodes"
abbrev pub is_work : Kind → Bool
is_work (Kind.Action a x) = true
is_work (Kind.Claim r) = false
is_work (Kind.Release r) = false
is_work (Kind.Event e) = true

-- node n of an activity at a position, unstarted
abbrev pub loaded : ℕ → ℕ → Schedule → ℕ → Entry
loaded position a s n =
    record { phase = Phase.Loaded; position = position; activity = a; node = n; start = specified (at s.start n); end = specified (at s.end n) }

-- the entries of the nodes from number n on
unfoldable pub entries_from : ℕ → ℕ → Schedule → ℕ → List Node → List Entry
entries_from position a s n [] = []
entries_from position a s n (x ∷ xs) =
    cond (is_work x.kind) (loaded position a s n ∷ entries_from position a s (n + 1) xs) (entries_from position a s (n + 1) xs)

-- the number of the activity that a transition emits; the empty one has no nodes
abbrev pub activity_number : Output → ℕ
activity_number Output.Empty = 0
activity_number (Output.Activity a) = a

-- ---- one transition and one path

abbrev pub entries_by : Plan → ℕ → Progress → List Entry
entries_by p t g =
    entries_from g.position (activity_number (move p.automaton t).output) (taken_by p t g).schedule 0
    (emitted_by p (move p.automaton t).output)

-- a path: the nodes that it brings and where it ends, or that it passes a limit of time or position
pub record Path : Type 0 where
  pub beyond : Bool
  pub entries : List Entry
  pub progress : Progress

abbrev pub ends : Progress → Path
ends g = record { beyond = false; entries = []; progress = g }

-- the nodes `es` before the rest of a path
abbrev pub after : List Entry → Path → Path
after es q = record { beyond = q.beyond; entries = es ++ q.entries; progress = q.progress }

-- at most k transitions more; an accepted plan waits or ends within 64
unfoldable pub path_from : Plan → ℕ → Next → Progress → Path
path_from p zero next g = ends g
path_from p (suc k) Next.Ended g = ends g
path_from p (suc k) (Next.Waits e) g = ends g
path_from p (suc k) (Next.Goes t) g =
    cond (taken_by p t g).beyond (record { beyond = true; entries = []; progress = g })
    (after (entries_by p t g) (path_from p k (next_of p.automaton (taken_by p t g).progress.state) (taken_by p t g).progress))

-- the number of transitions after which a path is ended
abbrev pub longest_path : ℕ
longest_path = 64
