-- `place_kept`, `places_kept`: a node keeps its place from its loading to its report, at every call of every run and over the list of
-- demand 3. The others: `lowest_places`, `outcome_places`, `first_places` of LowestPlaces, and `in_order` of PathOrder.
use Rattle.std.specs.Prelude.{◌≡◌, refl, List, [], ◌∷◌, ◌++◌, ◌⊎◌, ℕ, set}
use Rattle.std.proofs.Common.{sym, ap, ◌∙◌, subst, inl, inr, ⊎_elim}
use Rattle.time.specs.declared.Clock.{Clock}
use Rattle.run_window.specs.declared.Entry.{Entry}
use Rattle.run_window.specs.Window.{vacant, started_of, is_held}
use Rattle.run_window.specs.Places.{Holds}
use Rattle.run_window.proofs.Laws.Places.{holds_within, same_or_other, stored_here, stored_kept}
use Rattle.run_checks.specs.declared.Stop.{Stop}
use Rattle.run.specs.declared.Run.{Run}
use Rattle.run.specs.declared.Call.{Call}
use Rattle.run.specs.declared.Reply.{Reply}
use Rattle.run.specs.declared.Answer.{Answer}
use Rattle.run.specs.Calls.{call_of, kind_of}
use Rattle.run.specs.Opening.{open_of}
use Rattle.demands_log.specs.Log.{Log, id, said, Accepts, Fails, StoppedIn}
use Rattle.demands_log.specs.Log as Log
use Rattle.demands_log.specs.Drive.{drive}
use Rattle.demands.specs.Demand3.{driven_by}
use Rattle.demands.specs.Conditions.{entry_at, NodeAt, Condition, Reports, Decides, Halts, Asks, Takes}
use Rattle.demands.proofs.Laws.InLimitsIff.{in_limits_lem}
use Rattle.demands.proofs.Laws.Unchanged.{refused_unchanged, stop_kept}
use Rattle.demands.proofs.Laws.ConditionsMet.{met}
use Rattle.demands.proofs.Laws.ConditionsGive.{overdue_call, late_call, timely_call, asked_starts, asked_nothing, none_due, report_call, completed_action, marker_call}
use Rattle.demands.proofs.Laws.AfterCalls.{After, going_stopped, after_call, after_opening}
use Rattle.demands.proofs.Laws.ByLogConditions.{stopped_by_lem}
pub use Rattle.demands.proofs.Laws.LowestPlaces.{lowest_places, outcome_places, first_places}
use Rattle.demands.proofs.Laws.LowestPlaces.{one_by_one_kept}
pub use Rattle.demands.proofs.Laws.PathOrder.{in_order}
use Rattle.demands.specs.Places.{Kept, ReportedAt, ReportedSince, StatementPlaceKept, StatementPlacesKept}

-- ---- one call

abbrev window_of : Answer → List Entry
window_of a = a.run.window

module _ (run : Run) where
  -- what a call does to the places that hold nodes
  abbrev Stays : Call → Type 0
  Stays c = (i : ℕ) (e : Entry) → Holds run.window i e → Kept (call_of run c).run.window i e ⊎ ReportedAt run c i

  same_window : (c : Call) → (call_of run c).run.window ≡ run.window → Stays c
  same_window c q i e h = inl (inl (subst (λ (w : List Entry). Holds w i e) (sym q) h))

  -- ask starts the node at place j
  started_here : (i : ℕ) (e : Entry) → Holds run.window i e → Holds (set run.window i (started_of (entry_at run i))) i (started_of e)
  started_here i e h = rw h.entry (stored_here run.window i (started_of e) (holds_within run.window i e h) refl)

  starts_at : (c : Call) (j : ℕ) → (call_of run c).run.window ≡ set run.window j (started_of (entry_at run j)) → Stays c
  starts_at c j q i e h =
      inl (subst (λ (w : List Entry). Kept w i e) (sym q)
      (⊎_elim (λ s. inr (subst (λ (k : ℕ). Holds (set run.window k (started_of (entry_at run k))) i (started_of e)) s (started_here i e h)))
      (λ d. inl (stored_kept run.window j (started_of (entry_at run j)) i e d h))
      (same_or_other i j)))

  -- place j is reported, and the others keep their nodes
  reports_at : (c : Call) (j : ℕ) → Reports run c j → ((call_of run c).reply ≡ Reply.Taken) ⊎ Fails (call_of run c).reply
      → ((i : ℕ) (e : Entry) → Holds (set run.window j vacant) i e → Holds (call_of run c).run.window i e) → Stays c
  reports_at c j r x others i e h =
      ⊎_elim (λ s. inr record { reports = subst (Reports run c) (sym s) r; counts = x }) (λ d. inl (inl (others i e (stored_kept run.window j vacant i e d h)))) (same_or_other i j)

  stays_learns : (t : Clock) (p n o j x : ℕ) → Decides run t p n o j x → ((call_of run (Call.Outcome t p n o)).reply ≡ Reply.Taken) ⊎ Fails (call_of run (Call.Outcome t p n o)).reply
      → Stays (Call.Outcome t p n o)
  stays_learns t p n o j x l y = reports_at (Call.Outcome t p n o) j l.learns.reports y (one_by_one_kept (outcome_places run t p n o j x l))

  stays_asked : (c : Call) (r : Reply) → Asks run c r → Stays c
  stays_asked _ _ (Asks.starts {t} j h f) = starts_at (Call.Ask t) j (ap window_of (timely_call run (Call.Ask t) h ∙ asked_starts run t j f))
  stays_asked _ _ (Asks.done {t} h e) = same_window (Call.Ask t) (ap window_of (timely_call run (Call.Ask t) h ∙ asked_nothing run t (none_due run t e)))
  stays_asked _ _ (Asks.waits {t} h n e) = same_window (Call.Ask t) (ap window_of (timely_call run (Call.Ask t) h ∙ asked_nothing run t n))

  stays_taken : (c : Call) → (call_of run c).reply ≡ Reply.Taken → Takes run c → Stays c
  stays_taken _ y (Takes.completion {t} {p} {n} j r k) =
      let q = ap window_of (report_call run (Call.Completion t p n) j r ∙ completed_action run t j (kind_of run (entry_at run j)) k) in
      reports_at (Call.Completion t p n) j r (inl y) (λ i e h. subst (λ (w : List Entry). Holds w i e) (sym q) h)
  stays_taken _ y (Takes.outcome {t} {p} {n} {o} j x l f) = stays_learns t p n o j x l (inl y)
  stays_taken _ y (Takes.marker {t} {p} {n} {o} j x l one) =
      let q = ap window_of (marker_call run t p n o j x l one) in
      reports_at (Call.Outcome t p n o) j l.reports (inl y) (λ i e h. subst (λ (w : List Entry). Holds w i e) (sym q) h)

  stays_halted : (c : Call) (s : Stop) → (call_of run c).reply ≡ Reply.Stopped s → Halts run c s → Stays c
  stays_halted c s y (Halts.kept l h) = same_window c (ap window_of (stop_kept run s c ((in_limits_lem run).1 l) h))
  stays_halted c _ y (Halts.number42 j r f) = same_window c (ap window_of (overdue_call run c j r f))
  stays_halted c _ y (Halts.number41 j h f) = same_window c (ap window_of (late_call run c j h f))
  stays_halted _ _ y (Halts.number43 {t} {p} {n} {o} j x l f) = stays_learns t p n o j x l (inr (subst Fails (sym y) tt))
  stays_halted _ _ y (Halts.number44 {t} {p} {n} {o} j x l f) = stays_learns t p n o j x l (inr (subst Fails (sym y) tt))

  by_reply : (c : Call) (r : Reply) → (call_of run c).reply ≡ r → Condition run c r → Stays c
  by_reply c (Reply.Start p a n) y h = stays_asked c (Reply.Start p a n) h
  by_reply c Reply.Wait y h = stays_asked c Reply.Wait h
  by_reply c Reply.Done y h = stays_asked c Reply.Done h
  by_reply c Reply.Taken y h = stays_taken c y h
  by_reply c (Reply.Refused f) y h = same_window c (ap (λ (x : Run). x.window) (refused_unchanged run c f y))
  by_reply c (Reply.Stopped s) y h = stays_halted c s y h

pub place_kept : StatementPlaceKept
place_kept run c = by_reply run c (call_of run c).reply refl (met run c).condition

-- ---- a list of calls

counted : (r : Reply) (log : Log) → (StoppedIn log → ⊥) → (r ≡ Reply.Taken) ⊎ Fails r → Accepts r log
counted (Reply.Start _ _ _) log n (inr f) = elim f [ ]
counted Reply.Wait log n (inr f) = elim f [ ]
counted Reply.Done log n (inr f) = elim f [ ]
counted Reply.Taken log n (inr f) = elim f [ ]
counted (Reply.Refused _) log n (inr f) = elim f [ ]
counted r log n (inl q) = subst (λ (x : Reply). Accepts x log) (sym q) tt
counted (Reply.Stopped s) log n (inr f) = (f, n)

module _ (p n i : ℕ) where
  -- what stands at place i has one identity
  same_id : (run : Run) (q m : ℕ) → NodeAt run q m i → NodeAt run p n i → id q m ≡ id p n
  same_id run q m a b k = record { position = (sym a.position ∙ b.position) k; node = (sym a.node ∙ b.node) k }

  module _ (log : Log) (run : Run) (after : After log run) (h : NodeAt run p n i) where
    -- the run is going, so its log has no stop
    accepts : (c : Call) → ReportedAt run c i → Accepts (call_of run c).reply log
    accepts c r = counted (call_of run c).reply log unstopped r.counts
      where
        unstopped : StoppedIn log → ⊥
        unstopped q = let s = stopped_by_lem log q in going_stopped (sym r.reports.timely.not_overdue.rises.going.going ∙ (after.halted s.0).1 s.1)

    reported : (c : Call) → ReportedAt run c i → Log.Reports c (call_of run c).reply log (id p n)
    reported (Call.Ask t) r = absurd r.reports.named.has
    reported (Call.Completion t q m) r = (same_id run q m r.reports.named.has h, accepts (Call.Completion t q m) r)
    reported (Call.Outcome t q m o) r = (same_id run q m r.reports.named.has h, accepts (Call.Outcome t q m o) r)

    holding : (next : Run) (e : Entry) → Holds next.window i e → e.position ≡ p → e.node ≡ n → NodeAt next p n i
    holding next e k x y = record {
      held = ap (λ (z : Entry). is_held z.phase) k.entry ∙ k.held;
      position = ap (λ (z : Entry). z.position) k.entry ∙ x;
      node = ap (λ (z : Entry). z.node) k.entry ∙ y;
    }

    one_call : (c : Call) → NodeAt (call_of run c).run p n i ⊎ Log.Reports c (call_of run c).reply log (id p n)
    one_call c =
        ⊎_elim (λ k. inl (⊎_elim (λ x. holding (call_of run c).run _ x h.position h.node) (λ x. holding (call_of run c).run _ x h.position h.node) k))
        (λ r. inr (reported c r))
        (place_kept run c i (entry_at run i) (record { entry = refl; held = h.held }))

  reported_before : (ds : List Call) (older newer : Log) (run : Run) → ReportedSince older newer (id p n) → ReportedSince older (drive newer run ds).log (id p n)
  reported_before [] older newer run r = r
  reported_before (c ∷ ds) older newer run r = reported_before ds older (said c (call_of run c).reply ∷ newer) (call_of run c).run (inr r)

  over_list : (ds : List Call) (older newer : Log) (run : Run) → After (newer ++ older) run → NodeAt run p n i
      → NodeAt (drive newer run ds).run p n i ⊎ ReportedSince older (drive newer run ds).log (id p n)
  over_list [] older newer run a h = inl h
  over_list (c ∷ ds) older newer run a h =
      ⊎_elim (λ k. over_list ds older (said c (call_of run c).reply ∷ newer) (call_of run c).run (after_call (newer ++ older) run a c) k)
      (λ r. inr (reported_before ds older (said c (call_of run c).reply ∷ newer) (call_of run c).run (inl r)))
      (one_call (newer ++ older) run a h c)

-- the run after two lists is that after the second, whatever is logged
drive_run : (ds : List Call) (older newer : Log) (run : Run) → (drive older run ds).run ≡ (drive newer run ds).run
drive_run [] older newer run = refl
drive_run (c ∷ ds) older newer run = drive_run ds _ _ (call_of run c).run

drive_both : (cs ds : List Call) (log : Log) (run : Run) → (drive log run (cs ++ ds)).run ≡ (drive [] (drive log run cs).run ds).run
drive_both [] ds log run = drive_run ds log [] run
drive_both (c ∷ cs) ds log run = drive_both cs ds (said c (call_of run c).reply ∷ log) (call_of run c).run

pub places_kept : StatementPlacesKept
places_kept bytes are psi slack ts opened cs ds p n i h =
    let d = driven_by bytes psi slack ts cs in
    ⊎_elim (λ k. inl (subst (λ (x : Run). NodeAt x p n i) (sym (drive_both cs ds [] (open_of bytes psi slack ts).run)) k)) (λ r. inr r)
    (over_list p n i ds d.log [] d.run (after_opening bytes are psi slack ts opened cs) h)
