-- `replies_by_content`: runs that differ in nothing but the places of their nodes answer alike, and differ in nothing else afterwards.
use Rattle.std.specs.Prelude.{◌≡◌, refl, Bool, ◌&&◌, List, [], ◌∷◌, ℕ, ◌<◌, ltb, set, Option, Some, None}
use Rattle.std.proofs.Common.{sym, subst, true≢false, ⊎_elim, arith}
use Rattle.std.proofs.Math.Path.{ap}
use Rattle.std.proofs.Math.Bool.{cond}
use Rattle.basis.proofs.Laws.Bools.{by_same}
use Rattle.basis.proofs.Laws.Tells.{tells_same, tells_iff}
use Rattle.time.specs.declared.Clock.{Clock}
use Rattle.plan.specs.Plan.{is_final, outcomes_of}
use Rattle.plan.specs.declared.Kind.{Kind}
use Rattle.times.specs.declared.Progress.{Progress}
use Rattle.run_window.specs.declared.Entry.{Entry}
use Rattle.run_window.specs.Window.{vacant, started_of, is_held, is_started, is_overdue, is_late, is_due, is_node}
use Rattle.run_window.specs.Places.{Holds}
use Rattle.run_window.proofs.Laws.Tests.{overdue_tells, late_tells, due_tells, node_tells}
use Rattle.run_window.proofs.Laws.Places.{stored_only, cleared_only}
use Rattle.run_window.proofs.Laws.Order.{by_service, by_time, service_telling, time_telling}
use Rattle.run_window.proofs.Laws.Content.{same_empty, by_both}
use Rattle.run_outcomes.specs.Told.{told_of}
use Rattle.run_checks.specs.declared.Stop.{Stop}
use Rattle.run_checks.specs.declared.Refusal.{Refusal}
use Rattle.run_checks.specs.Order.{is_below, timely_by}
use Rattle.run_loading.specs.declared.Failure.{Failure}
use Rattle.run.specs.declared.Run.{Run}
use Rattle.run.specs.declared.Call.{Call}
use Rattle.run.specs.declared.Reply.{Reply}
use Rattle.run.specs.declared.Answer.{Answer}
use Rattle.run.specs.Loading.{further, most_pending}
use Rattle.run.specs.Limits.{run_in_limits}
use Rattle.run.specs.Calls.{on_halt, answer, refuse, heard, asked, kind_of, reported, cleared, completed_by, completed, halted_by, after_loading, learnt, is_marker, learns_by, learns, moment_of, timely, called, ask_of, completion_of, outcome_of, call_of}
use Rattle.demands_log.specs.Log.{Log, said}
use Rattle.demands_log.specs.Drive.{drive}
use Rattle.demands.specs.InLimits.{RunInLimits}
use Rattle.demands.specs.RepliesByContent.{SameContent, StatementRepliesByContent}
use Rattle.demands.proofs.Laws.InLimitsIff.{tells_run}
use Rattle.demands.proofs.Laws.LikeRuns.{content_stored, with_window, Before, Like, like_runs, further_like}

-- ---- answers

record LikeAnswer (a b : Answer) : Type 0 where
  reply : a.reply ≡ b.reply
  run : Like a.run b.run

after_like : (f : Option Failure) (a b : Run) → Like a b → LikeAnswer (after_loading f a) (after_loading f b)
after_like f a b r = go f
  where
    stopped : (s : Stop) → Like (halted_by a s) (halted_by b s)
    stopped s = record { rest = ap (λ (x : Run). halted_by x s) r.rest; content = r.content; loaded = r.loaded }

    go : (f : Option Failure) → LikeAnswer (after_loading f a) (after_loading f b)
    go None = record { reply = refl; run = r }
    go (Some Failure.Full) = record { reply = refl; run = stopped Stop.Full }
    go (Some Failure.Beyond) = record { reply = refl; run = stopped Stop.Beyond }

learnt_like : (a b : Run) → Like a b → LikeAnswer (learnt a) (learnt b)
learnt_like a b r =
    let h = further_like most_pending a b r in
    subst (λ (f : Option Failure). LikeAnswer (learnt a) (after_loading f (further most_pending b).run)) h.failure (after_like (further most_pending a).failure _ _ h.run)

module _ (run : Run) (v : List Entry) (c : SameContent run.window v) (old : Before run.progress run.window) where
  abbrev other : Run
  other = with_window run v

  -- an answer that leaves the run as it is
  same : (r : Reply) → LikeAnswer (record { reply = r; run = run }) (record { reply = r; run = other })
  same r = record { reply = refl; run = record { rest = refl; content = c; loaded = old } }

  heard_like : (t : Clock) (h : Option Stop) (g : Progress) (w u : List Entry) → SameContent w u → Before g w → Like (heard run t h g w) (heard other t h g u)
  heard_like t h g w u d b = record { rest = refl; content = d; loaded = b }

  -- a stop, and a wait
  unmoved : (t : Clock) (h : Option Stop) → Like (heard run t h run.progress run.window) (heard other t h run.progress v)
  unmoved t h = heard_like t h run.progress run.window v c old

  -- ---- ask

  started_like : (t : Clock) (i j : ℕ) (e : Entry) → Holds run.window i e → Holds v j e
      → Like (heard run t None run.progress (set run.window i (started_of e))) (heard other t None run.progress (set v j (started_of e)))
  started_like t i j e p q =
      heard_like t None run.progress _ _ (content_stored run.window v c i j e (started_of e) p q (λ h. (refl, refl)))
      (λ k x h. ⊎_elim (λ s. subst (λ (y : Entry). y.position < run.progress.position) s.1 (old i e p)) (λ s. old k x s.1) (stored_only run.window i (started_of e) k x h))

  asked_like : (t : Clock) → LikeAnswer (asked run t) (asked other t)
  unfolding asked
  asked_like t =
      by_both (by_service run.plan.nodes) (service_telling run.plan.nodes) (is_due run.psi t) (λ e q. ap is_held ((due_tells run.psi t e).0 q).0) LikeAnswer run.window v c.there c.back c.once.1 _ _ _ _
      (λ i j e s p q. record { reply = refl; run = started_like t i j e p q })
      (record { reply = ap (λ (b : Bool). cond (is_final run.plan.automaton run.progress.state && b) Reply.Done Reply.Wait) (same_empty run.window v c.there c.back); run = unmoved t None })

  -- ---- reports

  reported_like : (p n : ℕ) (f g : ℕ → Entry → Answer) → ((i j : ℕ) (e : Entry) → Holds run.window i e → Holds v j e → LikeAnswer (f i e) (g j e)) → LikeAnswer (reported run p n f) (reported other p n g)
  reported_like p n f g h =
      by_both (by_time (λ e. e.start.0)) (time_telling (λ e. e.start.0)) (is_node p n) (λ e q. ((node_tells p n e).0 q).0) LikeAnswer run.window v c.there c.back c.once.1 _ _ _ _
      (λ i j e s a b. by_same LikeAnswer (is_started e.phase) (f i e) (refuse run Refusal.NotStarted) (g j e) (refuse other Refusal.NotStarted) (λ x. h i j e a b) (λ x. same (Reply.Refused Refusal.NotStarted)))
      (same (Reply.Refused Refusal.NoSuchNode))

  module _ (t : Clock) (i j : ℕ) (e : Entry) (p : Holds run.window i e) (q : Holds v j e) where
    cleared_like : (g : Progress) → g.position ≡ run.progress.position → Like (cleared run t i g) (cleared other t j g)
    cleared_like g z =
        heard_like t None g _ _ (content_stored run.window v c i j e vacant p q (λ h. absurd (true≢false (sym h))))
        (λ k x h. let b = old k x (cleared_only run.window i k x h).1 in omega arith)

    completed_by_like : (k : Kind) → LikeAnswer (completed_by run t i k) (completed_by other t j k)
    completed_by_like (Kind.Action a x) = record { reply = refl; run = cleared_like run.progress refl }
    completed_by_like (Kind.Claim r) = same (Reply.Refused Refusal.OtherKind)
    completed_by_like (Kind.Release r) = same (Reply.Refused Refusal.OtherKind)
    completed_by_like (Kind.Event x) = same (Reply.Refused Refusal.OtherKind)

    learns_by_like : (o : ℕ) (k : Kind) → LikeAnswer (learns_by run t i e o k) (learns_by other t j e o k)
    learns_by_like o (Kind.Action a x) = same (Reply.Refused Refusal.OtherKind)
    learns_by_like o (Kind.Claim r) = same (Reply.Refused Refusal.OtherKind)
    learns_by_like o (Kind.Release r) = same (Reply.Refused Refusal.OtherKind)
    learns_by_like o (Kind.Event x) =
        by_same LikeAnswer (ltb o (outcomes_of run.plan x)) _ (refuse run Refusal.OutcomeLacking) _ (refuse other Refusal.OutcomeLacking)
        (λ has. by_same LikeAnswer (is_marker run.plan x) (answer Reply.Taken (cleared run t i run.progress)) _ (answer Reply.Taken (cleared other t j run.progress)) _
        (λ m. record { reply = refl; run = cleared_like run.progress refl })
        (λ m. learnt_like (cleared run t i (told_of run.progress x e o)) (cleared other t j (told_of run.progress x e o)) (cleared_like (told_of run.progress x e o) refl)))
        (λ has. same (Reply.Refused Refusal.OutcomeLacking))

  completed_like : (t : Clock) (p n : ℕ) → LikeAnswer (completed run t p n) (completed other t p n)
  unfolding completed
  completed_like t p n = reported_like p n _ _ (λ i j e a b. completed_by_like t i j e a b (kind_of run e))

  learns_like : (t : Clock) (p n o : ℕ) → LikeAnswer (learns run t p n o) (learns other t p n o)
  unfolding learns
  learns_like t p n o = reported_like p n _ _ (λ i j e a b. learns_by_like t i j e a b o (kind_of run e))

  -- ---- the checks

  same_limits : run_in_limits run ≡ run_in_limits other
  same_limits = tells_same (tells_run run) (tells_iff (from, to) (tells_run other))
    where
      to : RunInLimits run → RunInLimits other
      to r = record { plan = r.plan; psi = r.psi; slack = r.slack; progress = r.progress; window = λ j e h. let b = c.back j e h in r.window b.0 e b.1; halt = r.halt }

      from : RunInLimits other → RunInLimits run
      from r = record { plan = r.plan; psi = r.psi; slack = r.slack; progress = r.progress; window = λ i e h. let b = c.there i e h in r.window b.0 e b.1; halt = r.halt }

  timely_like : (t : Clock) (go on : Answer) → LikeAnswer go on → LikeAnswer (timely run t go) (timely other t on)
  unfolding timely_by
  timely_like t go on h =
      by_same LikeAnswer (is_below (moment_of run t)) _ _ _ _ (λ b. same (Reply.Refused Refusal.ReadingBelow)) λ b.
      by_both (by_time (λ e. e.end.0)) (time_telling (λ e. e.end.0)) (is_overdue run.psi t) (λ e q. ap is_held ((overdue_tells run.psi t e).0 q).0) LikeAnswer run.window v c.there c.back c.once.1 _ _ _ _
      (λ i j e s p q. record { reply = refl; run = unmoved t (Some (Stop.Overdue e.position e.node)) })
      (by_both (by_service run.plan.nodes) (service_telling run.plan.nodes) (is_late run.psi run.slack t) (λ e q. ap is_held ((late_tells run.psi t e run.slack).0 q).0) LikeAnswer run.window v c.there c.back c.once.1 _ _ _ _
      (λ i j e s p q. record { reply = refl; run = unmoved t (Some (Stop.Late e.position e.node)) }) h)

  called_like : (t : Clock) (go on : Answer) → LikeAnswer go on → LikeAnswer (called run t go) (called other t on)
  called_like t go on h =
      rw (sym same_limits)
      (by_same LikeAnswer (run_in_limits run) _ _ _ _ (λ l. halting run.halt) (λ l. same (Reply.Refused Refusal.OutOfLimits)))
    where
      halting : (x : Option Stop) → LikeAnswer (on_halt x (λ s. record { reply = Reply.Stopped s; run = run }) (timely run t go)) (on_halt x (λ s. record { reply = Reply.Stopped s; run = other }) (timely other t on))
      halting None = timely_like t go on h
      halting (Some s) = same (Reply.Stopped s)

  other_like : (x : Call) → LikeAnswer (call_of run x) (call_of other x)
  unfolding call_of ask_of completion_of outcome_of
  other_like (Call.Ask t) = called_like t _ _ (asked_like t)
  other_like (Call.Completion t p n) = called_like t _ _ (completed_like t p n)
  other_like (Call.Outcome t p n o) = called_like t _ _ (learns_like t p n o)

call_like : (a b : Run) → Like a b → (x : Call) → LikeAnswer (call_of a x) (call_of b x)
call_like a b r x = subst (λ (y : Run). LikeAnswer (call_of a x) (call_of y x)) (sym r.rest) (other_like a b.window r.content r.loaded x)

-- ---- over a list of calls

driven_like : (log : Log) (a b : Run) → Like a b → (cs : List Call) → (drive log a cs).log ≡ (drive log b cs).log
driven_like log a b r [] = refl
driven_like log a b r (x ∷ cs) =
    let h = call_like a b r x in
    subst (λ (y : Reply). (drive log a (x ∷ cs)).log ≡ (drive (said x y ∷ log) (call_of b x).run cs).log) h.reply
    (driven_like (said x (call_of a x).reply ∷ log) (call_of a x).run (call_of b x).run h.run cs)

pub replies_by_content : StatementRepliesByContent
replies_by_content run other h cs = driven_like [] run other (like_runs run other h) cs
