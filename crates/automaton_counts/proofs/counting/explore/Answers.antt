use Rattle.automaton.proofs.Laws.Passes.{going_starts}
use borrow.Author.Rules.{rules}
use Rattle.automaton_counts.proofs.counting.explore.Goals as goal

pub loop-init : goal.loop-init
loop-init c = rw c.from.ensures (going_starts _ _ c.requires c.blank.result (search rules) c.blank.ensures)
