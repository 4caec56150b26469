-- `blank` is all zeros.
use Rattle.basis.proofs.Laws.Lists.{all_same}
use Rattle.automaton_counts.proofs.counting.blank.Goals as goal

pub returns : goal.returns
returns c = λ k. all_same 1024 k 0
