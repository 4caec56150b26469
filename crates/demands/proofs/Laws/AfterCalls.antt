-- After any calls the run's last reading and its stop are those of the log, and it is in limits.
use Rattle.std.specs.Prelude.{◌≡◌, refl, List, [], ◌∷◌, ◌↔◌, ℕ, Option, Some, None}
use Rattle.std.proofs.Common.{sym, ap, ◌∙◌, subst, inl, inr, ⊎_elim, arith}
use Rattle.time.specs.declared.Clock.{Clock}
use Rattle.run.specs.declared.Run.{Run}
use Rattle.run_checks.specs.declared.Stop.{Stop}
use Rattle.run.specs.declared.Call.{Call}
use Rattle.run.specs.declared.Reply.{Reply}
use Rattle.run.specs.declared.Answer.{Answer}
use Rattle.run_checks.specs.declared.Refusal.{Refusal}
use Rattle.run.specs.declared.Opening.{Opening}
use Rattle.run.specs.Opening.{open_of}
use Rattle.run.specs.Calls.{call_of, reading_of}
use Rattle.demands_log.specs.Log.{Log, said, reading, StoppedIn, StoppedBy}
use Rattle.demands_log.specs.Drive.{drive}
use Rattle.demands_log.proofs.Laws.Kept.{plan_kept}
use Rattle.demands_log.proofs.Laws.Latest.{Right, reading_last}
use Rattle.demands_theory.proofs.Laws.Replies.{same_stop}
use Rattle.demands_run.proofs.Laws.Theorem as Works
use Rattle.demands.specs.Accepted.{Bytes}
use Rattle.demands.specs.Demand3.{driven_by}
use Rattle.demands.specs.InLimits.{RunInLimits}
use Rattle.demands.proofs.Laws.InLimitsIff.{in_limits_lem}
use Rattle.demands.proofs.Laws.InLimitsKept.{limits_kept}
use Rattle.demands.proofs.Laws.Unchanged.{refused_unchanged, stop_kept}
use Rattle.demands.specs.ByLog.{last_reading}

pub record After (log : Log) (run : Run) : Type 0 where
  pub limits : RunInLimits run
  pub last : (StoppedIn log → ⊥) → run.last.0 ≡ last_reading log
  pub halted : (s : Stop) → (run.halt ≡ Some s) ↔ StoppedBy log s

pub going_stopped : {A : Type 0} {s : Stop} → None ≡ Some s → A
going_stopped e = absurd (let z : ◌≡◌ {A = ℕ} 0 1 = cc in omega arith)

same_halt : {s u : Stop} → Some s ≡ Some u → s ≡ u
same_halt e = cc

pub reading_is : (c : Call) → (reading_of c).0 ≡ reading c
reading_is (Call.Ask t) = refl
reading_is (Call.Completion t p n) = refl
reading_is (Call.Outcome t p n o) = refl

abbrev Other : Reply → Type 0
Other (Reply.Start p a n) = Unit {0}
Other Reply.Wait = Unit {0}
Other Reply.Done = Unit {0}
Other Reply.Taken = Unit {0}
Other (Reply.Refused f) = Unit {0}
Other (Reply.Stopped s) = ⊥

module _ (log : Log) (run : Run) (a : After log run) (c : Call) where
  -- a call of a run that has stopped
  kept : (s : Stop) → run.halt ≡ Some s → After (said c (call_of run c).reply ∷ log) (call_of run c).run
  kept s h = subst (λ (x : Answer). After (said c x.reply ∷ log) x.run) (sym (stop_kept run s c ((in_limits_lem run).1 a.limits) h)) record {
    limits = a.limits;
    last = λ n. absurd (n (inl tt));
    halted = λ u. (λ q. inl (ap Reply.Stopped (same_halt (sym h ∙ q))), ⊎_elim (λ q. h ∙ ap Some (same_stop q)) (λ q. (a.halted u).1 q));
  }

  module _ (going : run.halt ≡ None) where
    never : (s : Stop) → StoppedBy log s → ⊥
    never s q = going_stopped (sym going ∙ (a.halted s).1 q)

    unstopped : (r : Reply) → Other r → (s : Stop) → StoppedBy (said c r ∷ log) s → ⊥
    unstopped r o s (inl q) = subst Other q o
    unstopped r o s (inr q) = never s q

    -- an answer that is neither refused nor stopped
    goes_on : (r : Reply) (next : Run) → Other r → RunInLimits next → next.last ≡ reading_of c → next.halt ≡ None → reading c ≡ last_reading (said c r ∷ log) → After (said c r ∷ log) next
    goes_on r next o l q h e = record { limits = l; last = λ n. ap (λ (t : Clock). t.0) q ∙ reading_is c ∙ e; halted = λ s. (λ z. going_stopped (sym h ∙ z), λ z. absurd (unstopped r o s z)) }

    by_reply : (r : Reply) (next : Run) → RunInLimits next → Right (reading_of c) r next → ((f : Refusal) → r ≡ Reply.Refused f → next ≡ run) → After (said c r ∷ log) next
    by_reply (Reply.Start p x n) next l q u = goes_on (Reply.Start p x n) next tt l q.0 q.1 refl
    by_reply Reply.Wait next l q u = goes_on Reply.Wait next tt l q.0 q.1 refl
    by_reply Reply.Done next l q u = goes_on Reply.Done next tt l q.0 q.1 refl
    by_reply Reply.Taken next l q u = goes_on Reply.Taken next tt l q.0 q.1 refl
    by_reply (Reply.Refused f) next l q u = subst (After (said c (Reply.Refused f) ∷ log)) (sym (u f refl)) record {
      limits = a.limits;
      last = λ n. a.last (λ z. n (inr z));
      halted = λ s. (λ z. going_stopped (sym going ∙ z), λ z. absurd (unstopped (Reply.Refused f) tt s z));
    }
    by_reply (Reply.Stopped s) next l q u = record {
      limits = l;
      last = λ n. absurd (n (inl tt));
      halted = λ v. (λ z. inl (ap Reply.Stopped (same_halt (sym q.1 ∙ z))), ⊎_elim (λ z. q.1 ∙ ap Some (same_stop z)) (λ z. absurd (never v z)));
    }

    goes : After (said c (call_of run c).reply ∷ log) (call_of run c).run
    goes = by_reply (call_of run c).reply (call_of run c).run (limits_kept run c a.limits) (reading_last run c going) (λ f e. refused_unchanged run c f e)

  pub after_call : After (said c (call_of run c).reply ∷ log) (call_of run c).run
  after_call = go run.halt refl
    where
      go : (h : Option Stop) → run.halt ≡ h → After (said c (call_of run c).reply ∷ log) (call_of run c).run
      go None e = goes e
      go (Some s) e = kept s e

pub after_calls : (cs : List Call) (log : Log) (run : Run) → After log run → After (drive log run cs).log (drive log run cs).run
after_calls [] log run a = a
after_calls (c ∷ cs) log run a = after_calls cs _ _ (after_call log run a c)

-- after an opening that is accepted, and any calls
pub after_opening : (bytes : List ℕ) → Bytes bytes → (psi : Clock) (slack : ℕ) (ts : List ℕ) → (open_of bytes psi slack ts).opening ≡ Opening.Opened → (cs : List Call)
    → After (driven_by bytes psi slack ts cs).log (driven_by bytes psi slack ts cs).run
after_opening bytes are psi slack ts opened cs =
    let k = plan_kept bytes psi slack ts opened in
    after_calls cs [] (open_of bytes psi slack ts).run record {
      limits = (in_limits_lem (open_of bytes psi slack ts).run).0 (Works.in_limits_lem bytes are psi slack ts opened []);
      last = λ n. k.last;
      halted = λ s. (λ q. going_stopped (sym k.going ∙ q), λ q. absurd q);
    }
