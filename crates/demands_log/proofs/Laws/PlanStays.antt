-- `plan_stays`: a call leaves the plan of any run, a made-up one too.
use Rattle.std.specs.Prelude.{◌≡◌, ℕ, zero, suc, ltb, length, Option, Some, None}
use Rattle.std.proofs.Math.Path.{refl}
use Rattle.basis.proofs.Laws.Bools.{by_cond}
use Rattle.time.specs.declared.Clock.{Clock}
use Rattle.plan.specs.Plan.{outcomes_of}
use Rattle.plan.specs.declared.Kind.{Kind}
use Rattle.plan.specs.declared.Plan.{Plan}
use Rattle.automaton.specs.Next.{next_of}
use Rattle.automaton.specs.declared.Next.{Next}
use Rattle.run_window.specs.declared.Entry.{Entry}
use Rattle.run_window.specs.Window.{vacancies, first, is_started, starts_before, by_start, is_due, is_node}
use Rattle.run_path.specs.Path.{Path, path_from, longest_path}
use Rattle.run_outcomes.specs.Way.{way_on}
use Rattle.run_outcomes.specs.Told.{told_of}
use Rattle.run_checks.proofs.Laws.Checks.{by_timely}
use Rattle.run_checks.specs.declared.Refusal.{Refusal}
use Rattle.run_loading.specs.declared.Failure.{Failure}
use Rattle.run.specs.declared.Run.{Run}
use Rattle.run.specs.declared.Call.{Call}
use Rattle.run.specs.declared.Reply.{Reply}
use Rattle.run.specs.declared.Answer.{Answer}
use Rattle.run.specs.Limits.{run_in_limits}
use Rattle.run.specs.Loading.{Loading, load, load_path, on_loading, further, most_pending}
use Rattle.run.specs.Calls.{answer, refuse, asked, reported, completed_by, completed, after_loading, learnt, cleared, is_marker, hears, learns_by, learns, called, ask_of, completion_of, outcome_of, call_of, kind_of}
use Rattle.demands_log.proofs.Laws.ByCases.{by_found, by_way, by_halt}

-- ---- loading

record Loads (p : Plan) (l : Loading) : Type 0 where
  stays : l.run.plan ≡ p

record LoadsOn (p : Plan) (m : Run → Loading) (l : Loading) : Type 0 where
  stays : Loads p (on_loading l m)

loads_path : (p : Plan) (m : Run → Loading) → ((r : Run) → r.plan ≡ p → Loads p (m r))
    → (run : Run) (q : Path) → run.plan ≡ p → LoadsOn p m (load_path run q)
loads_path p m h run q e =
    by_cond (LoadsOn p m) q.beyond _ _ (record { stays = record { stays = e } })
    (by_cond (LoadsOn p m) (ltb (vacancies run.window) (length q.entries)) _ _ (record { stays = record { stays = e } })
    (record { stays = h _ e }))

loads_further : (p : Plan) (k : ℕ) (run : Run) → run.plan ≡ p → Loads p (further k run)
unfolding further load
loads_further p zero run e = record { stays = e }
loads_further p (suc k) run e =
    by_way (Loads p) (way_on run.plan.automaton run.progress (next_of run.plan.automaton run.progress.state)) _ _
    (λ s w. (loads_path p (further k) (loads_further p k) run (path_from run.plan longest_path (Next.Goes s) run.progress) e).stays)
    (λ w. record { stays = e })

-- ---- an answer

record Stays (p : Plan) (a : Answer) : Type 0 where
  stays : a.run.plan ≡ p

module _ (run : Run) where
  abbrev Right : Answer → Type 0
  Right = Stays run.plan

  right_asked : (t : Clock) → Right (asked run t)
  unfolding asked
  right_asked t =
      by_found Right (first (is_due run.psi t) (starts_before run.plan.nodes) 0 run.window) _ _
      (λ i e. record { stays = refl }) (record { stays = refl })

  right_reported : (p n : ℕ) (f : ℕ → Entry → Answer) → ((i : ℕ) (e : Entry) → Right (f i e)) → Right (reported run p n f)
  right_reported p n f h =
      by_found Right (first (is_node p n) by_start 0 run.window) _ _
      (λ i e. by_cond Right (is_started e.phase) (f i e) (refuse run Refusal.NotStarted) (h i e) (record { stays = refl }))
      (record { stays = refl })

  right_completed : (t : Clock) (i : ℕ) (k : Kind) → Right (completed_by run t i k)
  right_completed t i (Kind.Action a x) = record { stays = refl }
  right_completed t i (Kind.Claim r) = record { stays = refl }
  right_completed t i (Kind.Release r) = record { stays = refl }
  right_completed t i (Kind.Event e) = record { stays = refl }

  right_loaded : (f : Option Failure) (next : Run) → next.plan ≡ run.plan → Right (after_loading f next)
  right_loaded None next e = record { stays = e }
  right_loaded (Some Failure.Full) next e = record { stays = e }
  right_loaded (Some Failure.Beyond) next e = record { stays = e }

  right_learns : (t : Clock) (i : ℕ) (x : Entry) (o : ℕ) (k : Kind) → Right (learns_by run t i x o k)
  right_learns t i x o (Kind.Action a y) = record { stays = refl }
  right_learns t i x o (Kind.Claim r) = record { stays = refl }
  right_learns t i x o (Kind.Release r) = record { stays = refl }
  right_learns t i x o (Kind.Event e) =
      by_cond Right (ltb o (outcomes_of run.plan e)) (hears run t i x e o) (refuse run Refusal.OutcomeLacking)
      (by_cond Right (is_marker run.plan e) (answer Reply.Taken (cleared run t i run.progress)) (learnt next)
      (record { stays = refl })
      (right_loaded (further most_pending next).failure (further most_pending next).run
      (loads_further run.plan most_pending next refl).stays))
      (record { stays = refl })
    where
      next : Run
      next = cleared run t i (told_of run.progress e x o)

  right_called : (t : Clock) (go : Answer) → Right go → Right (called run t go)
  right_called t go h =
      by_cond Right (run_in_limits run) _ _
      (by_halt Right run.halt _ _ (λ s e. record { stays = refl })
      (λ g. by_timely Right _ _ _ _ _ (record { stays = refl }) (λ i e q. record { stays = refl })
      (λ i e q. record { stays = refl }) h))
      (record { stays = refl })

  right : (c : Call) → Right (call_of run c)
  unfolding call_of ask_of completion_of outcome_of completed learns
  right (Call.Ask t) = right_called t _ (right_asked t)
  right (Call.Completion t p n) = right_called t _ (right_reported p n _ (λ i e. right_completed t i (kind_of run e)))
  right (Call.Outcome t p n o) = right_called t _ (right_reported p n _ (λ i e. right_learns t i e o (kind_of run e)))

pub plan_stays : (run : Run) (c : Call) → (call_of run c).run.plan ≡ run.plan
plan_stays run c = (right run c).stays
