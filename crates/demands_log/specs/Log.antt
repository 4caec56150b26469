-- "Demand 3 is a single claim about the whole list": calls with their answers, and what they tell of the nodes.
use Rattle.std.specs.Prelude.{◌≡◌, List, [], ◌∷◌, ◌⊎◌, ℕ}
use Rattle.run.specs.declared.Call.{Call}
use Rattle.run.specs.declared.Reply.{Reply}
use Rattle.run_checks.specs.declared.Stop.{Stop}

-- "A node's identity is its position .. and its node number."
pub record Id : Type 0 where
  pub position : ℕ
  pub node : ℕ

abbrev pub id : ℕ → ℕ → Id
id p n = record { position = p; node = n }

-- a call and its answer
pub record Said : Type 0 where
  pub call : Call
  pub reply : Reply

abbrev pub said : Call → Reply → Said
said c r = record { call = c; reply = r }

-- the calls so far, the latest first
abbrev pub Log : Type 0
Log = List Said

-- P holds of each call of the log and of the calls before it
abbrev pub Always : (Said → Log → Type 0) → Log → Type 0
Always P [] = Unit {0}
Always P (x ∷ older) = P x older × Always P older

abbrev pub reading : Call → ℕ
reading (Call.Ask t) = t.0
reading (Call.Completion t p n) = t.0
reading (Call.Outcome t p n o) = t.0

abbrev pub IsAsk : Call → Type 0
IsAsk (Call.Ask t) = Unit {0}
IsAsk (Call.Completion t p n) = ⊥
IsAsk (Call.Outcome t p n o) = ⊥

-- ---- started: "A node is started by the ask answered start with it, at that ask's reading."

abbrev pub Starts : Reply → Id → Type 0
Starts (Reply.Start p a n) x = id p n ≡ x
Starts Reply.Wait x = ⊥
Starts Reply.Done x = ⊥
Starts Reply.Taken x = ⊥
Starts (Reply.Refused f) x = ⊥
Starts (Reply.Stopped s) x = ⊥

abbrev pub Started : Log → Id → Type 0
Started [] x = ⊥
Started (y ∷ older) x = Starts y.reply x ⊎ Started older x

-- ---- stopped, and failed loadings

abbrev pub Stops : Reply → Type 0
Stops (Reply.Start p a n) = ⊥
Stops Reply.Wait = ⊥
Stops Reply.Done = ⊥
Stops Reply.Taken = ⊥
Stops (Reply.Refused f) = ⊥
Stops (Reply.Stopped s) = Unit {0}

abbrev pub StoppedIn : Log → Type 0
StoppedIn [] = ⊥
StoppedIn (y ∷ older) = Stops y.reply ⊎ StoppedIn older

-- some call was answered by the stop s
abbrev pub StoppedBy : Log → Stop → Type 0
StoppedBy [] s = ⊥
StoppedBy (y ∷ older) s = (y.reply ≡ Reply.Stopped s) ⊎ StoppedBy older s

-- the stops of loading, 43 and 44
abbrev pub Failing : Stop → Type 0
Failing (Stop.Late p n) = ⊥
Failing (Stop.Overdue p n) = ⊥
Failing Stop.Full = Unit {0}
Failing Stop.Beyond = Unit {0}

abbrev pub Fails : Reply → Type 0
Fails (Reply.Start p a n) = ⊥
Fails Reply.Wait = ⊥
Fails Reply.Done = ⊥
Fails Reply.Taken = ⊥
Fails (Reply.Refused f) = ⊥
Fails (Reply.Stopped s) = Failing s

-- "unless a loading has failed"
abbrev pub FailedIn : Log → Type 0
FailedIn [] = ⊥
FailedIn (y ∷ older) = Fails y.reply ⊎ FailedIn older

-- ---- reported: "It is reported by its completion or outcome that is answered taken, or answered stopped because loading
-- after it fails." A kept stop answers the same to every later call, so that answer is the first stop of the log.

abbrev pub Accepts : Reply → Log → Type 0
Accepts (Reply.Start p a n) older = ⊥
Accepts Reply.Wait older = ⊥
Accepts Reply.Done older = ⊥
Accepts Reply.Taken older = Unit {0}
Accepts (Reply.Refused f) older = ⊥
Accepts (Reply.Stopped s) older = Failing s × (StoppedIn older → ⊥)

abbrev pub Reports : Call → Reply → Log → Id → Type 0
Reports (Call.Ask t) r older x = ⊥
Reports (Call.Completion t p n) r older x = (id p n ≡ x) × Accepts r older
Reports (Call.Outcome t p n o) r older x = (id p n ≡ x) × Accepts r older

abbrev pub Reported : Log → Id → Type 0
Reported [] x = ⊥
Reported (y ∷ older) x = Reports y.call y.reply older x ⊎ Reported older x

-- the outcome o was reported of the event node x
abbrev pub Tells : Call → Reply → Log → Id → ℕ → Type 0
Tells (Call.Ask t) r older x o = ⊥
Tells (Call.Completion t p n) r older x o = ⊥
Tells (Call.Outcome t p n u) r older x o = (id p n ≡ x) × (u ≡ o) × Accepts r older

abbrev pub Told : Log → Id → ℕ → Type 0
Told [] x o = ⊥
Told (y ∷ older) x o = Tells y.call y.reply older x o ⊎ Told older x o

-- ---- the latest answer

abbrev pub Finishes : Reply → Type 0
Finishes (Reply.Start p a n) = ⊥
Finishes Reply.Wait = ⊥
Finishes Reply.Done = Unit {0}
Finishes Reply.Taken = ⊥
Finishes (Reply.Refused f) = ⊥
Finishes (Reply.Stopped s) = ⊥
