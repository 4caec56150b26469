-- `effect` refuses where no kind is told, and otherwise does what the checks say.
use Rattle.held_checks.proofs.effect.Goals as goal

pub returns : goal.returns
returns c = rw (c.in-Some.is, ← c.outcomes_for-most.ensures) c.effect_of.ensures
