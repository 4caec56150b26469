-- The engine along a path of a plan's automaton.
use Rattle.std.specs.Prelude.{cond, List, [], ◌∷◌, ℕ, eqb}
use Rattle.plan.specs.declared.Plan.{Plan}
use Rattle.times_combined.specs.Word.{size}
use Rattle.times_combined.specs.Paths.{word_of}
use Rattle.times.specs.declared.Progress.{Progress}
use Rattle.times.specs.declared.Schedule.{Schedule}
use Rattle.times.specs.Times.{unscheduled}
use Rattle.times.specs.Engine.{taken_by}

-- ---- the engine along some transitions; the latest stands first

-- what is stored after all of them
abbrev pub progress_after : Plan → Progress → List ℕ → Progress
progress_after p g [] = g
progress_after p g (i ∷ is) = (taken_by p i (progress_after p g is)).progress

-- the position of the next transition
abbrev pub places : Plan → List ℕ → ℕ
places p is = size (word_of p is)

-- the times of the nodes at position q
abbrev pub schedule_at : Plan → Progress → List ℕ → ℕ → Schedule
schedule_at p g [] q = unscheduled
schedule_at p g (i ∷ is) q = cond (eqb q (places p is)) (taken_by p i (progress_after p g is)).schedule (schedule_at p g is q)
