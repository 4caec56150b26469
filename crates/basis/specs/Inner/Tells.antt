-- A test tells whether a statement holds.
use Rattle.std.specs.Prelude.{Bool, true, false}

-- the answer to whether P holds
pub data Answer (P : Type 0) : Bool → Type 0 where
  holds : P → Answer P true
  fails : (P → ⊥) → Answer P false

abbrev pub Tells : Bool → Type 0 → Type 0
Tells b P = Answer P b
