use native.Mathlib.Omega.{arith}
use Rattle.numbers.specs.Codes.{code_of}
use Rattle.numbers.proofs.codes.code.Goals as goal

pub overflow_mul-result : goal.overflow_mul-result
overflow_mul-result c = omega (arith, c.number.ensures.1)

pub overflow_add-result : goal.overflow_add-result
overflow_add-result c = omega (arith, c.number.ensures.1, c.short_place.ensures)

pub returns-in-Ok : goal.returns-in-Ok
unfolding code_of
returns-in-Ok c = rw c.in-Ok.is

pub returns-in-Err : goal.returns-in-Err
unfolding code_of
returns-in-Err c = simp (c.in-Err.is, c.number.ensures.0, c.short_place.ensures)
