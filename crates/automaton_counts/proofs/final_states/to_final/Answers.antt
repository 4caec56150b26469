use Rattle.automaton.proofs.Laws.Works.{back_done}
use Rattle.automaton.proofs.Laws.Passes.{same_back, back_starts, back_ends}
use Rattle.automaton_counts.proofs.final_states.to_final.Goals as goal

pub loop-init : goal.loop-init
loop-init c = back_starts _ _ c.finals_of-done.ensures.long c.finals_of-done.ensures.bits

pub returns : goal.returns
returns c = same_back _ _ _ (back_ends _ c.requires c.loop.done _ c.loop-test.ensures) (back_done _ c.requires)
