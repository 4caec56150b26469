-- An outcome byte, read where a turn waits for one.
use Rattle.std.specs.Prelude.{◌≡◌, Bool, true, false, List, [], ◌∷◌, ℕ, ◌≤◌, Option, Some, None}
use Rattle.timetable_steps.specs.declared.Step.{Step}
use Rattle.timetable_streams.specs.declared.Output.{Output}
use Rattle.timetable_streams.specs.declared.Outcomes.{Outcomes}
use Rattle.timetable_streams.specs.declared.Asked.{Asked}
use Rattle.timetable_streams.specs.Inner.Gathering.{HandsOn}

-- the byte that was heard, if one was
abbrev pub heard_bytes : Option ℕ → List ℕ
heard_bytes None = []
heard_bytes (Some byte) = byte ∷ []

-- whether the turn waits for an outcome byte
abbrev pub asks : Step → Bool
asks Step.Ends = false
asks (Step.Waits e) = true
asks Step.Lacks = false
asks (Step.Takes m heard) = false

-- the outcome bytes that are not yet taken stand in a block of at most 65,536
pub record Held (u : Outcomes) : Type 0 where
  pub order : u.at ≤ u.end
  pub within : u.end ≤ 65_536
  pub most : u.most ≤ 65_536

-- what is read or taken of them, no text is lost
pub record Listens (out : List ℕ) (o : Output) (r : Asked) : Type 0 where
  pub hands : HandsOn out o r.output
  pub fewer : r.output.gathered ≤ o.gathered
  pub held : Held r.outcomes

-- a byte is taken only where the turn asks for one
pub record Asks (out : List ℕ) (o : Output) (unheard : Step) (r : Asked) : Type 0 where
  pub listens : Listens out o r
  pub unasked : asks unheard ≡ false → r.heard ≡ None
