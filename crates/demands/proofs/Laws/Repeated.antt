-- `stop_repeated`: of any run, a call that is answered stopped is followed, whatever calls come, by the same stop and the same run.
-- `refused_list`: so is a refused opening, by 50 and the run of zeros.
use Rattle.std.specs.Prelude.{◌≡◌, refl, Bool, true, false, List, [], ◌∷◌, ℕ}
use Rattle.std.proofs.Common.{sym, ap, ◌∙◌, arith}
use Rattle.time.specs.declared.Clock.{Clock}
use Rattle.run.specs.declared.Run.{Run}
use Rattle.run_checks.specs.declared.Stop.{Stop}
use Rattle.run.specs.declared.Call.{Call}
use Rattle.run.specs.declared.Reply.{Reply}
use Rattle.run.specs.declared.Answer.{Answer}
use Rattle.run_checks.specs.declared.Refusal.{Refusal}
use Rattle.run.specs.Limits.{run_in_limits}
use Rattle.run.specs.Opening.{zero_run}
use Rattle.run.specs.Calls.{answer, refuse, called, ask_of, completion_of, outcome_of, call_of}
use Rattle.demands_log.specs.Log.{Log, said}
use Rattle.demands_log.specs.Drive.{drive}
use Rattle.demands.specs.Demand1.{answered, StatementStopRepeated, StatementRefusedList}
use Rattle.demands.proofs.Laws.Unchanged.{stop_kept, stops_stay, refused_opening, zeros_get_50}
use Rattle.demands.proofs.Laws.InLimitsIff.{in_limits_lem}
use Rattle.demands.proofs.Laws.InLimitsKept.{limits_kept}

-- a run that is out of limits is not answered stopped
called_out : (run : Run) (t : Clock) (go : Answer) → run_in_limits run ≡ false → called run t go ≡ refuse run Refusal.OutOfLimits
called_out run t go l = rw l

pub out_gets_50 : (run : Run) (c : Call) → run_in_limits run ≡ false → call_of run c ≡ refuse run Refusal.OutOfLimits
unfolding call_of ask_of completion_of outcome_of
out_gets_50 run (Call.Ask t) l = called_out run t _ l
out_gets_50 run (Call.Completion t p n) l = called_out run t _ l
out_gets_50 run (Call.Outcome t p n o) l = called_out run t _ l

refused_stopped : {A : Type 0} {f : Refusal} {s : Stop} → Reply.Refused f ≡ Reply.Stopped s → A
refused_stopped e = absurd (let z : ◌≡◌ {A = ℕ} 0 1 = cc in omega arith)

stopped_in : (run : Run) (c : Call) (s : Stop) → (call_of run c).reply ≡ Reply.Stopped s → (b : Bool) → run_in_limits run ≡ b → run_in_limits run ≡ true
stopped_in run c s e true q = q
stopped_in run c s e false q = refused_stopped (sym (ap (λ (a : Answer). a.reply) (out_gets_50 run c q)) ∙ e)

-- a run that answers every call alike, and stays
steady : (run : Run) (r : Reply) → ((c : Call) → call_of run c ≡ answer r run) → (log : Log) (cs : List Call) → drive log run cs ≡ record { log = answered r cs log; run = run }
steady run r same log [] = refl
steady run r same log (c ∷ cs) = ap (λ (a : Answer). drive (said c a.reply ∷ log) a.run cs) (same c) ∙ steady run r same (said c r ∷ log) cs

pub stop_repeated : StatementStopRepeated
stop_repeated run s c e = steady (call_of run c).run (Reply.Stopped s) (λ d. stop_kept (call_of run c).run s d limits (stops_stay run s c e))
  where
    limits : run_in_limits (call_of run c).run ≡ true
    limits = (in_limits_lem (call_of run c).run).1 (limits_kept run c ((in_limits_lem run).0 (stopped_in run c s e (run_in_limits run) refl)))

pub refused_list : StatementRefusedList
refused_list bytes psi slack ts u e cs = ap (λ (r : Run). drive [] r cs) (refused_opening bytes psi slack ts u e) ∙ steady zero_run (Reply.Refused Refusal.OutOfLimits) zeros_get_50 [] cs
