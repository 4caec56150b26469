-- The host's side of demand 3: a well-behaved host.
use Rattle.std.specs.Prelude.{◌≡◌, Bool, true, false, cond, [], ◌∷◌, ◌⊎◌, ℕ, ◌+◌, ◌≤◌, ◌<◌}
use Rattle.run.specs.declared.Call.{Call}
use Rattle.run.specs.declared.Reply.{Reply}
use Rattle.run_checks.specs.declared.Stop.{Stop}
use Rattle.demands_log.specs.Log.{Id, Log, Always, reading, Started, Reported}

abbrev pub is_refused : Reply → Bool
is_refused (Reply.Start p a n) = false
is_refused Reply.Wait = false
is_refused Reply.Done = false
is_refused Reply.Taken = false
is_refused (Reply.Refused f) = true
is_refused (Reply.Stopped s) = false

-- the latest reading among the calls not refused
pub data Reading : Type 0 where
  None : Reading
  At : ℕ → Reading

abbrev pub previous : Log → Reading
previous [] = None
previous (y ∷ older) = cond (is_refused y.reply) (previous older) (At (reading y.call))

-- an ask that is not refused starts nothing
abbrev pub StartsNothing : Reply → Type 0
StartsNothing (Reply.Start p a n) = ⊥
StartsNothing Reply.Wait = Unit {0}
StartsNothing Reply.Done = Unit {0}
StartsNothing Reply.Taken = ⊥
StartsNothing (Reply.Refused f) = ⊥
StartsNothing (Reply.Stopped s) = Unit {0}

abbrev pub Asks : Call → Reply → ℕ → Type 0
Asks (Call.Ask t) r u = (t.0 ≡ u) × StartsNothing r
Asks (Call.Completion t p n) r u = ⊥
Asks (Call.Outcome t p n o) r u = ⊥

-- some ask at the reading u has started nothing
abbrev pub AskedIdle : Log → ℕ → Type 0
AskedIdle [] u = ⊥
AskedIdle (y ∷ older) u = Asks y.call y.reply u ⊎ AskedIdle older u

-- The four conditions at a call that is not refused, with the reading t, after the calls `older`; C gives the specified
-- completion of each node.
pub record HostAt (psi slack : ℕ) (C : Id → ℕ) (older : Log) (t : ℕ) : Type 0 where
  -- the first reading is at most Ψ + slack
  pub first : previous older ≡ None → t ≤ psi + slack
  -- no reading is more than the slack above the one before
  pub steps : (u : ℕ) → previous older ≡ At u → t ≤ u + slack
  -- before each rise some ask at the old reading has started nothing
  pub asks : (u : ℕ) → previous older ≡ At u → u < t → AskedIdle older u
  -- each started node is reported before any reading reaches Ψ + its completion
  pub reports : (x : Id) → Started older x → psi + C x ≤ t → Reported older x

abbrev pub Host : ℕ → ℕ → (Id → ℕ) → Log → Type 0
Host psi slack C log = Always (λ y older. is_refused y.reply ≡ false → HostAt psi slack C older (reading y.call)) log

-- neither late nor overdue
abbrev pub MildStop : Stop → Type 0
MildStop (Stop.Late p n) = ⊥
MildStop (Stop.Overdue p n) = ⊥
MildStop Stop.Full = Unit {0}
MildStop Stop.Beyond = Unit {0}

abbrev pub Mild : Reply → Type 0
Mild (Reply.Start p a n) = Unit {0}
Mild Reply.Wait = Unit {0}
Mild Reply.Done = Unit {0}
Mild Reply.Taken = Unit {0}
Mild (Reply.Refused f) = Unit {0}
Mild (Reply.Stopped s) = MildStop s
