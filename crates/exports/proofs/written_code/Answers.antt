use Rattle.exports.specs.Codes.{written_code}
use Rattle.exports.proofs.written_code.Goals as goal

pub returns-in-Ok : goal.returns-in-Ok
unfolding written_code
returns-in-Ok c = rw c.in-Ok.is

pub returns-in-BreaksRule : goal.returns-in-BreaksRule
unfolding written_code
returns-in-BreaksRule c = rw (c.in-Err.is, c.in-BreaksRule.is)

pub returns-in-TooShort : goal.returns-in-TooShort
unfolding written_code
returns-in-TooShort c = rw (c.in-Err.is, c.in-TooShort.is)
