-- `by_told` goes by the outcome that was reported, or waits.
use Rattle.run_outcomes.proofs.by_told.Goals as goal

pub returns-in-Nothing : goal.returns-in-Nothing
returns-in-Nothing c = simp c.in-Nothing.is

pub returns-in-Outcome : goal.returns-in-Outcome
returns-in-Outcome c = simp (c.in-Outcome.is, c.by_choice.ensures, c.chosen_of-chosen.ensures)
