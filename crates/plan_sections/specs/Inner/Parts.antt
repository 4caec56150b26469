-- What follows a part of the section of activities whose nodes are put where they stay.
use Rattle.std.specs.Prelude.{ℕ, Result, Ok, Err}
use Rattle.plan.specs.declared.FaultAt.{FaultAt}

abbrev pub on_end : {A : Type 0} → Result ℕ FaultAt → (ℕ → Result A FaultAt) → Result A FaultAt
on_end (Ok next) follow = follow next
on_end (Err e) follow = Err e
