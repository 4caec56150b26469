-- What was handed on and what is gathered are together the text so far.
use Rattle.std.specs.Prelude.{◌≡◌, Bool, false, cond, Option, List, ℕ, ◌+◌, ◌-◌, ◌≤◌, length, take, drop}
use Rattle.std.specs.Io.KnownBytes.{Appends}
use Rattle.timetable_streams.specs.declared.Output.{Output}
use Rattle.timetable_streams.specs.declared.After.{After}

abbrev pub output : ℕ → ℕ → Bool → Output
output handed gathered lost = record { handed = handed; gathered = gathered; lost = lost }

-- the first bytes of `text` were handed on, the others are gathered at the front of the buffer
pub record Gathers (text out : List ℕ) (o : Output) : Type 0 where
  pub whole : o.handed + o.gathered ≡ length text
  pub rest : take o.gathered out ≡ drop o.handed text

-- where no output failed, a writer's bytes grew by those that are newly counted as handed on
pub record HandsTo (before after : Option (List ℕ)) (out : List ℕ) (o r : Output) : Type 0 where
  pub onward : o.handed ≤ r.handed
  pub bytes : r.lost ≡ false → Appends before after (take (r.handed - o.handed) out)

-- what a function does to the output is no more than to hand on
pub record HandsOn (out : List ℕ) (o r : Output) : Type 0 where
  pub count : r.handed + r.gathered ≡ o.handed + o.gathered
  pub gathers : (text : List ℕ) → Gathers text out o → Gathers text out r

-- at the end: where no output failed, then or before, nothing is left gathered
pub record Rests (out : List ℕ) (o r : Output) : Type 0 where
  pub hands : HandsOn out o r
  pub went : r.lost ≡ false → o.lost ≡ false
  pub none : r.lost ≡ false → r.gathered ≡ 0

-- after a turn that put its text up to `next`: it joined what is gathered, the next turn has room, and after output that
-- failed there is none
pub record Keeps (out : List ℕ) (o : Output) (next : ℕ) (closed : Bool) (turns : ℕ) (r : After) : Type 0 where
  pub hands : HandsOn out (output o.handed next false) r.output
  pub room : r.output.gathered ≤ 61_440
  pub left : r.left ≡ cond closed 0 (cond r.output.lost 0 (turns - 1))
