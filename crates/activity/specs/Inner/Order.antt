-- What the contracts behind `Laws/Order` cite.
use Rattle.std.specs.Prelude.{cond, ltb, ℕ, ◌<◌, Result, Ok, Err}
use Rattle.plan.specs.Fault.{number_of}
use Rattle.plan.specs.declared.Fault.{Fault}

-- R holds of every fault with a number below k
abbrev pub Below : (Fault → Type 0) → ℕ → Type 0
Below R k = (f : Fault) → number_of f < k → R f

-- R fails at f, and at no fault with a smaller number
pub record LowestAt (R : Fault → Type 0) (f : Fault) : Type 0 where
  pub fails : R f → ⊥
  pub below : Below R (number_of f)

-- the fault with the lowest number whose R fails, if there is one
abbrev pub Lowest : (Fault → Type 0) → Result (Unit {0}) Fault → Type 0
Lowest R (Ok u) = (f : Fault) → R f
Lowest R (Err f) = LowestAt R f

-- the one with the lower number
abbrev pub earlier : Result (Unit {0}) Fault → Result (Unit {0}) Fault → Result (Unit {0}) Fault
earlier (Ok u) b = b
earlier (Err f) (Ok u) = Err f
earlier (Err f) (Err g) = cond (ltb (number_of g) (number_of f)) (Err g) (Err f)
