-- `unfailed`: a list of calls whose last answer is neither refused nor stopped was never stopped, so no loading of it has failed: a
-- run that has stopped answers its stop, or 50, and stays as it is.
use Rattle.std.specs.Prelude.{◌≡◌, refl, Bool, true, false, List, [], ◌∷◌, Some}
use Rattle.std.proofs.Common.{sym, ap, ◌∙◌, subst, ⊎_elim}
use Rattle.run.specs.declared.Run.{Run}
use Rattle.run_checks.specs.declared.Stop.{Stop}
use Rattle.run.specs.declared.Call.{Call}
use Rattle.run.specs.declared.Reply.{Reply}
use Rattle.run.specs.declared.Answer.{Answer}
use Rattle.run.specs.Limits.{run_in_limits}
use Rattle.run.specs.Calls.{call_of}
use Rattle.demands_log.specs.Log.{Log, Stops, StoppedIn, FailedIn}
use Rattle.demands_log.specs.Drive.{Driven, drive}
use Rattle.demands_theory.proofs.Laws.Replies.{failed_by}
use Rattle.demands.proofs.Laws.Unchanged.{stop_kept, stops_stay}
use Rattle.demands.proofs.Laws.Repeated.{out_gets_50}
use Rattle.demands.proofs.Laws.ByLogConditions.{stopped_in}

abbrev pub GoesOn : Reply → Type 0
GoesOn (Reply.Start p a n) = Unit {0}
GoesOn Reply.Wait = Unit {0}
GoesOn Reply.Done = Unit {0}
GoesOn Reply.Taken = Unit {0}
GoesOn (Reply.Refused f) = ⊥
GoesOn (Reply.Stopped s) = ⊥

-- the latest answer
abbrev pub EndsGoing : Log → Type 0
EndsGoing [] = ⊥
EndsGoing (y ∷ older) = GoesOn y.reply

-- ---- one call

record Stays (run : Run) (a : Answer) : Type 0 where
  same : a.run ≡ run
  ended : GoesOn a.reply → ⊥

stays : (run : Run) (s : Stop) (c : Call) → run.halt ≡ Some s → Stays run (call_of run c)
stays run s c h = go (run_in_limits run) refl
  where
    go : (b : Bool) → run_in_limits run ≡ b → Stays run (call_of run c)
    go true l = subst (Stays run) (sym (stop_kept run s c l h)) (record { same = refl; ended = λ q. q })
    go false l = subst (Stays run) (sym (out_gets_50 run c l)) (record { same = refl; ended = λ q. q })

halts : (run : Run) (c : Call) (r : Reply) → (call_of run c).reply ≡ r → Stops r → (s : Stop) × ((call_of run c).run.halt ≡ Some s)
halts run c (Reply.Start _ _ _) e q = elim q [ ]
halts run c Reply.Wait e q = elim q [ ]
halts run c Reply.Done e q = elim q [ ]
halts run c Reply.Taken e q = elim q [ ]
halts run c (Reply.Refused _) e q = elim q [ ]
halts run c (Reply.Stopped s) e q = (s, stops_stay run s c e)

stops_ended : (r : Reply) → Stops r → GoesOn r → ⊥
stops_ended (Reply.Start _ _ _) q g = elim q [ ]
stops_ended Reply.Wait q g = elim q [ ]
stops_ended Reply.Done q g = elim q [ ]
stops_ended Reply.Taken q g = elim q [ ]
stops_ended (Reply.Refused _) q g = elim q [ ]
stops_ended (Reply.Stopped s) q g = g

-- ---- a list

record StopLasts (d : Driven) : Type 0 where
  halted : StoppedIn d.log → (s : Stop) × (d.run.halt ≡ Some s)
  ended : EndsGoing d.log → StoppedIn d.log → ⊥

lasting : (cs : List Call) (log : Log) (run : Run) → StopLasts (record { log = log; run = run }) → StopLasts (drive log run cs)
lasting [] log run h = h
lasting (c ∷ cs) log run h = lasting cs _ _ (record {
  halted = ⊎_elim (λ q. halts run c (call_of run c).reply refl q) (λ q. let s = h.halted q in (s.0, ap (λ (r : Run). r.halt) (stays run s.0 c s.1).same ∙ s.1));
  ended = λ g. ⊎_elim (λ q. stops_ended (call_of run c).reply q g) (λ q. let s = h.halted q in (stays run s.0 c s.1).ended g);
})

never_stopped : (run : Run) (cs : List Call) → EndsGoing (drive [] run cs).log → StoppedIn (drive [] run cs).log → ⊥
never_stopped run cs = (lasting cs [] run (record { halted = λ q. absurd q; ended = λ g q. q })).ended

pub unfailed : (run : Run) (cs : List Call) → EndsGoing (drive [] run cs).log → FailedIn (drive [] run cs).log → ⊥
unfailed run cs g =
    let never = never_stopped run cs g in
    let log = (drive [] run cs).log in
    ⊎_elim (λ n. n) (⊎_elim (λ s. absurd (never (stopped_in log Stop.Beyond s))) (λ s. absurd (never (stopped_in log Stop.Full s)))) (failed_by log)
