-- What the inner functions answer: the activity of a transition as an array, and a path's entries put one after the other.
use Rattle.std.specs.Prelude.{Bool, true, false, cond, List, [], ◌∷◌, ℕ, ◌+◌, ltb, length, set, replicate}
use Rattle.time.specs.declared.Specified.{Specified}
use Rattle.plan.specs.declared.Node.{Node}
use Rattle.plan.specs.declared.Output.{Output}
use Rattle.plan.specs.declared.Activity.{Activity}
use Rattle.plan.specs.declared.Plan.{Plan}
use Rattle.activity.specs.Inner.Copied.{copied}
use Rattle.plan.specs.Nodes.{zero_node}
use Rattle.times.specs.declared.Progress.{Progress}
use Rattle.run_window.specs.Window.{vacant}
use Rattle.run_window.specs.declared.Phase.{Phase}
use Rattle.run_window.specs.declared.Entry.{Entry}
use Rattle.run_path.specs.declared.Pathed.{Pathed}
use Rattle.run_path.specs.Path.{Path, is_work, taken_by, entries_by}

-- the activity that a transition emits, copied out of the plan
unfoldable pub emitted_of : Plan → Output → Activity
emitted_of p Output.Empty = record { count = 0; nodes = replicate 64 zero_node }
emitted_of p (Output.Activity a) = copied p a

-- how many nodes a transition emits whose activity has so many
abbrev pub emitted_count : Output → ℕ → ℕ
emitted_count Output.Empty size = 0
emitted_count (Output.Activity a) size = size

-- the entry of a node, which is not started
abbrev pub entry_of : ℕ → ℕ → ℕ → Specified → Specified → Entry
entry_of position a n start end = record { phase = Phase.Loaded; position = position; activity = a; node = n; start = start; end = end }

-- how many entries a path has after a node
abbrev pub counted_of : ℕ → Node → ℕ
counted_of count x = cond (is_work x.kind) (count + 1) count

-- whether a node has an entry, and that entry a place
abbrev pub is_kept : ℕ → Node → Bool
is_kept place x = cond (is_work x.kind) (ltb place 512) false

-- a path of no transition
abbrev pub nothing_yet : Progress → Pathed
nothing_yet g = record { beyond = false; entries = replicate 512 vacant; count = 0; progress = g }

-- entries put from place i on; those past the last place are dropped
unfoldable pub put : List Entry → ℕ → List Entry → List Entry
put l i [] = l
put l i (e ∷ es) = put (set l i e) (i + 1) es

-- entries after a part of a path
unfoldable pub stored : Pathed → List Entry → Pathed
stored f es = record { beyond = f.beyond; entries = put f.entries f.count es; count = f.count + length es; progress = f.progress }

-- the rest q of a path after a part of it
unfoldable pub onto : Pathed → Path → Pathed
onto f q = record {
  beyond = q.beyond;
  entries = put f.entries f.count q.entries;
  count = f.count + length q.entries;
  progress = q.progress;
}

-- a part of a path that passes a limit
abbrev pub stopped : Pathed → Pathed
stopped f = record { beyond = true; entries = f.entries; count = f.count; progress = f.progress }

-- one transition more
abbrev pub step : Plan → ℕ → Pathed → Path
step p t f = record { beyond = false; entries = entries_by p t f.progress; progress = (taken_by p t f.progress).progress }

-- transition t after a part of a path
unfoldable pub taken_of : Plan → ℕ → Pathed → Pathed
taken_of p t f = cond (taken_by p t f.progress).beyond (stopped f) (onto f (step p t f))
