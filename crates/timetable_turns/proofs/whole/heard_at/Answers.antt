-- `heard_at` meets its contract. Assumes nothing.
use mathlib.Core.Path.{◌∙◌}
use native.Mathlib.Omega.{arith}
use Rattle.timetable_turns.proofs.Laws.Whole.{head_looked}
use Rattle.timetable_turns.proofs.whole.heard_at.Goals as goal

pub returns : goal.returns
returns c = let g = c.get.ensures.lookup in c.copied.ensures ∙ head_looked _ c.get.result _ _ g.0 (g.4 (omega arith))
