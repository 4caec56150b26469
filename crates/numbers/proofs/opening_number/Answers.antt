-- The number of each refused opening.
use Rattle.numbers.proofs.opening_number.Goals as goal

pub returns-in-Plan : goal.returns-in-Plan
returns-in-Plan c = rw c.in-Plan.is c.number_of.ensures
