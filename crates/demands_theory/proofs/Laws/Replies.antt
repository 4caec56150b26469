-- What each kind of reply tells, and what it does not: facts by cases for the laws of `Keeping`.
use Rattle.std.specs.Prelude.{◌≡◌, refl, false, [], ◌∷◌, ◌⊎◌, Option, Some, None}
use Rattle.std.proofs.Common.{sym, ap, subst, inl, inr, ⊎_elim}
use Rattle.run.specs.declared.Call.{Call}
use Rattle.run.specs.declared.Reply.{Reply}
use Rattle.run_checks.specs.declared.Refusal.{Refusal}
use Rattle.run_checks.specs.declared.Stop.{Stop}
use Rattle.run_loading.specs.declared.Failure.{Failure}
use Rattle.run.specs.Inner.Calls.{reply_after, halt_after}
use Rattle.demands_log.specs.Log.{Id, Log, said, Starts, Stops, StoppedIn, StoppedBy, Fails, FailedIn, Accepts, Finishes}
use Rattle.demands_log.specs.Host.{is_refused, Mild}
use Rattle.demands_theory.proofs.Laws.Machine.{Waiting}
use Rattle.demands_theory.proofs.Laws.Way.{Idle}
use Rattle.demands_theory.proofs.Laws.Invariant.{MildHalt}

abbrev Goes : Option Stop → Type 0
Goes None = Unit {0}
Goes (Some s) = ⊥

pub not_going : (s : Stop) → Some s ≡ None → ⊥
not_going s e = subst Goes (sym e) tt

pub failed_stopped : (log : Log) → FailedIn log → StoppedIn log
failed_stopped [] x' = elim x' [ ]
failed_stopped (y ∷ log) (inl p) = inl (go y.reply p)
  where
    go : (r : Reply) → Fails r → Stops r
    go (Reply.Start q a n) p = p
    go Reply.Wait p = p
    go Reply.Done p = p
    go Reply.Taken p = p
    go (Reply.Refused f) p = p
    go (Reply.Stopped s) p = tt
failed_stopped (y ∷ log) (inr p) = inr (failed_stopped log p)

-- a log tells whether a loading has failed, and by which number
pub failed_by : (log : Log) → (FailedIn log → ⊥) ⊎ (StoppedBy log Stop.Beyond ⊎ StoppedBy log Stop.Full)
failed_by [] = inl (λ q. q)
failed_by (y ∷ log) = ⊎_elim (λ n. go y.reply refl n) (λ q. inr (⊎_elim (λ s. inl (inr s)) (λ s. inr (inr s)) q)) (failed_by log)
  where
    passes : (Fails y.reply → ⊥) → (FailedIn log → ⊥) → (FailedIn (y ∷ log) → ⊥) ⊎ (StoppedBy (y ∷ log) Stop.Beyond ⊎ StoppedBy (y ∷ log) Stop.Full)
    passes n m = inl (⊎_elim n m)

    go : (r : Reply) → y.reply ≡ r → (FailedIn log → ⊥) → (FailedIn (y ∷ log) → ⊥) ⊎ (StoppedBy (y ∷ log) Stop.Beyond ⊎ StoppedBy (y ∷ log) Stop.Full)
    go (Reply.Start q a n) e = passes (λ f. subst Fails e f)
    go Reply.Wait e = passes (λ f. subst Fails e f)
    go Reply.Done e = passes (λ f. subst Fails e f)
    go Reply.Taken e = passes (λ f. subst Fails e f)
    go (Reply.Refused x) e = passes (λ f. subst Fails e f)
    go (Reply.Stopped (Stop.Late q n)) e = passes (λ f. subst Fails e f)
    go (Reply.Stopped (Stop.Overdue q n)) e = passes (λ f. subst Fails e f)
    go (Reply.Stopped Stop.Full) e = λ m. inr (inr (inl e))
    go (Reply.Stopped Stop.Beyond) e = λ m. inr (inl (inl e))

-- ---- 50

-- no refusal, or one by another number than 50
abbrev pub Other : Reply → Type 0
Other (Reply.Start q a n) = Unit {0}
Other Reply.Wait = Unit {0}
Other Reply.Done = Unit {0}
Other Reply.Taken = Unit {0}
Other (Reply.Refused f) = f ≡ Refusal.OutOfLimits → ⊥
Other (Reply.Stopped s) = Unit {0}

pub not_50 : (r : Reply) → Other r → r ≡ Reply.Refused Refusal.OutOfLimits → ⊥
not_50 r h e = subst Other e h refl

-- ---- wait and done

pub record Quiet (r : Reply) (log : Log) : Type 0 where
  pub starts : (x : Id) → Starts r x → ⊥
  pub accepts : Accepts r log → ⊥
  pub stops : Stops r → ⊥
  pub counts : is_refused r ≡ false
  pub mild : Mild r
  pub other : Other r

pub quiet : (r : Reply) (log : Log) → Idle r → Quiet r log
quiet (Reply.Start _ _ _) log h = elim h [ ]
quiet Reply.Taken log h = elim h [ ]
quiet (Reply.Refused _) log h = elim h [ ]
quiet (Reply.Stopped _) log h = elim h [ ]
quiet Reply.Wait log h = record { starts = λ x p. p; accepts = λ p. p; stops = λ p. p; counts = refl; mild = tt; other = tt }
quiet Reply.Done log h = record { starts = λ x p. p; accepts = λ p. p; stops = λ p. p; counts = refl; mild = tt; other = tt }

-- ---- stops

pub same_stop : {s u : Stop} → Reply.Stopped s ≡ Reply.Stopped u → s ≡ u
same_stop e = cc

-- an answer that is no stop
pub not_stop : (r : Reply) (s : Stop) → (Stops r → ⊥) → r ≡ Reply.Stopped s → ⊥
not_stop r s n e = n (subst Stops (sym e) tt)

-- a kept stop reports nothing
pub stop_accepts : (s : Stop) (log : Log) → StoppedIn log → Accepts (Reply.Stopped s) log → ⊥
stop_accepts s log h p = p.1 h

-- ---- what an outcome is answered

pub failure_starts : (f : Option Failure) (x : Id) → Starts (reply_after f) x → ⊥
failure_starts None x p = p
failure_starts (Some Failure.Full) x p = p
failure_starts (Some Failure.Beyond) x p = p

pub failure_accepts : (f : Option Failure) (log : Log) → (StoppedIn log → ⊥) → Accepts (reply_after f) log
failure_accepts None log h = tt
failure_accepts (Some Failure.Full) log h = (tt, h)
failure_accepts (Some Failure.Beyond) log h = (tt, h)

pub failure_unfinished : (f : Option Failure) → Finishes (reply_after f) → ⊥
failure_unfinished None p = p
failure_unfinished (Some Failure.Full) p = p
failure_unfinished (Some Failure.Beyond) p = p

pub failure_unwaiting : (f : Option Failure) → Waiting (reply_after f) → ⊥
failure_unwaiting None p = p
failure_unwaiting (Some Failure.Full) p = p
failure_unwaiting (Some Failure.Beyond) p = p

pub failure_mild : (f : Option Failure) → Mild (reply_after f)
failure_mild None = tt
failure_mild (Some Failure.Full) = tt
failure_mild (Some Failure.Beyond) = tt

pub failure_halt : (f : Option Failure) → MildHalt (halt_after f)
failure_halt None = tt
failure_halt (Some Failure.Full) = tt
failure_halt (Some Failure.Beyond) = tt

pub failure_other : (f : Option Failure) → Other (reply_after f)
failure_other None = tt
failure_other (Some Failure.Full) = tt
failure_other (Some Failure.Beyond) = tt

pub failure_halted : (f : Option Failure) (c : Call) (log : Log) (s : Stop) → halt_after f ≡ Some s → StoppedIn (said c (reply_after f) ∷ log)
failure_halted None c log s e = absurd (not_going s (sym e))
failure_halted (Some Failure.Full) c log s e = inl tt
failure_halted (Some Failure.Beyond) c log s e = inl tt

pub failure_stopped : (f : Option Failure) (s : Stop) → reply_after f ≡ Reply.Stopped s → halt_after f ≡ Some s
failure_stopped None s e = absurd (not_stop Reply.Taken s (λ p. p) e)
failure_stopped (Some Failure.Full) s e = ap Some (same_stop e)
failure_stopped (Some Failure.Beyond) s e = ap Some (same_stop e)
