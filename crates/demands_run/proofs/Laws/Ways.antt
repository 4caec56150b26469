-- Each call goes one of the eight ways and the run keeps what it knows of itself, if an accepted outcome does.
use Rattle.std.proofs.Math.Path.{◌≡◌, refl, ap}
use Rattle.std.proofs.Common.{sym, ◌∙◌, subst, true≢false, inl, inr, ⊎_elim, length-set}
use Rattle.std.specs.Prelude.{Bool, false, ◌&&◌, List, [], ◌∷◌, ◌⊎◌, ℕ, suc, ◌+◌, ◌≤◌, ◌<◌, ltb, length, get_or, set, Option, Some, None}
use Rattle.std.proofs.Math.Bool.{true}
use native.Mathlib.Omega.{arith}
use borrow.Author.Tests.{ltb-false}
use Rattle.basis.proofs.Laws.Bools.{and_left, and_right, and-false, by_test}
use Rattle.time.specs.declared.Clock.{Clock}
use Rattle.plan.specs.Plan.{outcomes_of, is_final}
use Rattle.plan.specs.declared.Kind.{Kind}
use Rattle.plan.specs.declared.Plan.{Plan}
use Rattle.times.specs.declared.Progress.{Progress}
use Rattle.run_window.specs.Window.{vacant, is_free, is_held, is_started, started_of, is_overdue, is_late, is_due, is_node, starts_before, by_start, ends_before, is_empty}
use Rattle.run_window.proofs.Laws.Tests.{overdue_tells, overdue_false, due_tells, due_false, late_tells, late_false, node_tells, started_true, unfree_held}
use Rattle.run_window.proofs.Laws.Order.{starts_order, report_order, ends_order}
use Rattle.run_window.proofs.Laws.Firsts.{First, NonePass, by_first}
use Rattle.run_window.specs.Places.{Holds}
use Rattle.run_window.specs.declared.Entry.{Entry}
use Rattle.run_window.specs.declared.Phase.{Phase}
use Rattle.run_window.proofs.Laws.Places.{holds_within, empty_none, stored_here, stored_kept, stored_only, stored_each, cleared_only}
use Rattle.run_limits.specs.Window.{entry_in_limits}
use Rattle.run_checks.specs.Order.{timely_by}
use Rattle.run.specs.Limits.{run_in_limits, halt_in_limits}
use Rattle.run_outcomes.specs.Told.{told_of}
use Rattle.run.specs.Calls.{answer, heard, cleared, kind_of, is_done, learnt, reported, completed_by, is_marker, learns_by, asked, completed, learns, timely, called, ask_of, completion_of, outcome_of, call_of}
use Rattle.run.specs.Calls as Calls
use Rattle.run.specs.declared.Run.{Run}
use Rattle.run_checks.specs.declared.Stop.{Stop}
use Rattle.run.specs.declared.Call.{Call}
use Rattle.run.specs.declared.Reply.{Reply}
use Rattle.run_checks.specs.declared.Refusal.{Refusal}
use Rattle.run.specs.declared.Answer.{Answer}
use Rattle.demands_log.specs.Log.{Id, Log, said, reading, Failing, Tells, Accepts}
use Rattle.demands_log.proofs.Laws.ByCases.{by_halt}
use Rattle.demands_theory.proofs.Laws.Way.{Way, keeps, refuses, overdues, lates, begins, idles, completes, Turns, Clear, Clears, Marks, Answers}
use Rattle.demands_theory.proofs.Laws.OfPlan.{world_of}
use Rattle.demands_theory.proofs.Laws.Invariant.{Invariant}
use Rattle.demands_theory.proofs.Laws.Accounts.{no_report}
use Rattle.demands_theory.proofs.Laws.Replies.{not_going}
use Rattle.demands_theory.proofs.Laws.OfRun.{machine}
use Rattle.demands_run.proofs.Laws.Stands.{Accepted, Good}
use Rattle.demands_run.proofs.Laws.Later.{tells_not, stuck_later, beyond_later, full_later, stands_later}
use Rattle.demands_run.proofs.Laws.Bounds.{entry_passes, entry_within, vacant_passes, run_passes, late_passes}

-- ---- the window

pub held_loaded : (s : Phase) → is_held s ≡ true → is_started s ≡ false → s ≡ Phase.Loaded
held_loaded Phase.Free h q = absurd (true≢false (sym h))
held_loaded Phase.Loaded h q = refl
held_loaded Phase.Started h q = absurd (true≢false q)

nonempty : (w : List Entry) → is_empty w ≡ false → (i : ℕ) × (e : Entry) × Holds w i e
unfolding is_empty
nonempty [] q = absurd (true≢false q)
nonempty (x ∷ w) q = go (is_free x.phase) refl q (λ s. nonempty w s)
  where
    go : (b : Bool) → is_free x.phase ≡ b → b && is_empty w ≡ false → (is_empty w ≡ false → (i : ℕ) × (e : Entry) × Holds w i e) → (i : ℕ) × (e : Entry) × Holds (x ∷ w) i e
    go true f s k = let r = k s in (suc r.0, r.1, record { entry = r.2.entry; held = r.2.held })
    go false f s k = (0, x, record { entry = refl; held = unfree_held x.phase f })

marks : (w : List Entry) (i : ℕ) (e : Entry) → Holds w i e → Marks (Holds w) (Holds (set w i (started_of e))) i e
marks w i e h j f = (
  λ q. ⊎_elim (λ (s : (j ≡ i) × (started_of e ≡ f)). inl (s.0, sym s.1)) (λ s. inr s) (stored_only w i (started_of e) j f q),
  ⊎_elim (λ (s : (j ≡ i) × (f ≡ started_of e)). subst (λ (n : ℕ). Holds (set w i (started_of e)) n f) (sym s.0) (subst (Holds (set w i (started_of e)) i) (sym s.1) (stored_here w i (started_of e) (holds_within w i e h) refl)))
      (λ (s : (j ≡ i → ⊥) × Holds w j f). stored_kept w i (started_of e) j f s.0 s.1),
)

clears : (w : List Entry) (i : ℕ) → Clears (Holds w) (Holds (set w i vacant)) i
clears w i j f = (λ q. cleared_only w i j f q, λ q. stored_kept w i vacant j f q.0 q.1)

abbrev FailedHalt : Option Stop → Type 0
FailedHalt None = ⊥
FailedHalt (Some s) = Failing s

-- ---- a run of an accepted opening

module _ (p : Plan) (psi : Clock) (slack : ℕ) (given : Accepted p psi slack) (available : ℕ → ℕ) where
  abbrev pub run_of : Progress → List Entry → Clock → Option Stop → Run
  run_of g w last halt = record { plan = p; psi = psi; slack = slack; progress = g; window = w; last = last; halt = halt }

  abbrev pub Entries : List Entry → Type 0
  Entries w = (j : ℕ) → entry_in_limits p.activities p.sizes (get_or w j vacant) ≡ true

  module _ (log : Log) (is : List ℕ) (g : Progress) (w : List Entry) (last : Clock) (halt : Option Stop) (good : Good p psi slack available log is (run_of g w last halt)) where
    abbrev pub run : Run
    run = run_of g w last halt

    abbrev pub Calm : Clock → Type 0
    Calm t = Clear psi.0 slack last.0 (Holds w) t.0

    -- the call c that is answered by a goes one of the ways, and the run stays good
    abbrev pub Goes : Call → Answer → Type 0
    Goes c a = (later : List ℕ) × Way (world_of p available) machine psi.0 slack run a.run is later c a.reply × Good p psi slack available (said c a.reply ∷ log) later a.run

    -- an accepted outcome o of the event ev at place i
    abbrev pub Learning : Type 0
    Learning = (t : Clock) (i : ℕ) (e : Entry) (ev o : ℕ) → halt ≡ None → Calm t → Holds w i e → is_started e.phase ≡ true → kind_of run e ≡ Kind.Event ev → ltb o (outcomes_of p ev) ≡ true
        → Goes (Call.Outcome t e.position e.node o) (learnt (cleared run t i (told_of g ev e o)))

    -- and of a marker
    abbrev pub Marking : Type 0
    Marking = (t : Clock) (i : ℕ) (e : Entry) (ev o : ℕ) → halt ≡ None → Calm t → Holds w i e → is_started e.phase ≡ true → kind_of run e ≡ Kind.Event ev → ltb o (outcomes_of p ev) ≡ true → is_marker p ev ≡ true
        → Goes (Call.Outcome t e.position e.node o) (answer Reply.Taken (cleared run t i g))

    -- nothing is told, and the word stays
    stays_good : (c : Call) (r : Reply) → (Accepts r log → ⊥) ⊎ ((x : Id) (o : ℕ) → Tells c r log x o → ⊥) → (v : List Entry) (t : Clock) (h : Option Stop) → Entries v → length v ≡ 512 → halt_in_limits h ≡ true
        → ((s : Stop) → Failing s → h ≡ Some s → (halt ≡ Some s) × (Accepts r log → ⊥))
        → Good p psi slack available (said c r ∷ log) is (run_of g v t h)
    stays_good c r n v t h entries long stop old = record {
      same_plan = refl;
      same_psi = refl;
      same_slack = refl;
      stands = stands_later c r log p available is g silent good.stands;
      rests = good.rests;
      within = good.within;
      whole = λ nf. stuck_later c r log p is silent (good.whole (λ q. nf (inr q)));
      beyond = λ e. beyond_later c r log p available is (good.beyond (old Stop.Beyond tt e).0);
      full = λ e. let o = old Stop.Full tt e in full_later c r log p available is silent (λ x q. no_report c r log x o.1 q) (good.full o.0);
      entries = entries;
      long = long;
      halt = stop;
    }
      where
        silent : (x : Id) (o : ℕ) → Tells c r log x o → ⊥
        silent = ⊎_elim (λ a x o q. tells_not c r log a x o q) (λ a. a) n

    refuse : (c : Call) (f : Refusal) → halt ≡ None → (f ≡ Refusal.OutOfLimits → ⊥) → Goes c (Calls.refuse run f)
    refuse c f h n = (is, refuses h n refl, stays_good c (Reply.Refused f) (inl (λ a. a)) w last halt good.entries good.long good.halt (λ s x e. (e, λ a. a)))

    entry_of_lem : (i : ℕ) (e : Entry) → Holds w i e → entry_in_limits p.activities p.sizes e ≡ true
    entry_of_lem i e h = subst (λ (x : Entry). entry_in_limits p.activities p.sizes x ≡ true) h.entry (good.entries i)

    -- ---- 51, 42 and 41

    timely_way : (c : Call) (t : Clock) → t.0 ≡ reading c → halt ≡ None → (go : Answer) → (Calm t → Goes c go) → Goes c (timely run t go)
    unfolding timely_by
    timely_way c t rd h go k =
        by_test (Goes c) (ltb t.0 last.0) _ _ (λ b. refuse c Refusal.ReadingBelow h (λ e. below e)) λ b.
        by_first (is_overdue psi t) ends_before ends_order w (Goes c) _ _ (λ i e f. overdue i e f) λ on-time.
        by_first (is_late psi slack t) (starts_before p.nodes) (starts_order p.nodes) w (Goes c) _ _ (λ i e f. late (ltb-false _ _ b) i e f) λ not_late.
        k record {
          rises = ltb-false _ _ b;
          not_overdue = λ i e q s. overdue_false psi t e (none_at (is_overdue psi t) on-time i e q) (started_true e.phase s);
          not_late = λ i e q s. late_false psi t e slack (none_at (is_late psi slack t) not_late i e q) (held_loaded e.phase q.held s);
        }
      where
        below : Refusal.ReadingBelow ≡ Refusal.OutOfLimits → ⊥
        below e = let z : ◌≡◌ {A = ℕ} 0 1 = cc in omega arith

        none_at : (test : Entry → Bool) → NonePass test w → (i : ℕ) (e : Entry) → Holds w i e → test e ≡ false
        none_at test n i e q = subst (λ (x : Entry). test x ≡ false) q.entry (n i (holds_within w i e q))

        overdue : (i : ℕ) (e : Entry) → First (is_overdue psi t) ends_before w i e → Goes c (Calls.stops run t (Stop.Overdue e.position e.node))
        overdue i e f =
            let q = (overdue_tells psi t e).0 f.passes in
            let held : Holds w i e = record { entry = f.stands; held = ap is_held q.0 } in (
              is,
              overdues {c = c} i e (record { going = h; last = rd; halt = refl }) (λ j x. (λ z. z, λ z. z)) held (ap is_started q.0) (let u = q.1 in omega arith),
              stays_good c (Reply.Stopped (Stop.Overdue e.position e.node)) (inl (λ a. a.0)) w t (Some (Stop.Overdue e.position e.node)) good.entries good.long (late_passes p psi slack given e held.held (entry_of_lem i e held)) (λ s x z. absurd (subst FailedHalt (sym z) x)),
            )

        late : last.0 ≤ t.0 → (i : ℕ) (e : Entry) → First (is_late psi slack t) (starts_before p.nodes) w i e → Goes c (Calls.stops run t (Stop.Late e.position e.node))
        late rise i e f =
            let q = (late_tells psi t e slack).0 f.passes in
            let held : Holds w i e = record { entry = f.stands; held = ap is_held q.0 } in (
              is,
              lates {c = c} i e (record { going = h; last = rd; halt = refl }) (λ j x. (λ z. z, λ z. z)) (omega arith) held (ap is_started q.0) (let u = q.1 in omega arith),
              stays_good c (Reply.Stopped (Stop.Late e.position e.node)) (inl (λ a. a.0)) w t (Some (Stop.Late e.position e.node)) good.entries good.long (late_passes p psi slack given e held.held (entry_of_lem i e held)) (λ s x z. absurd (subst FailedHalt (sym z) x)),
            )

    -- ---- ask

    turns : (t : Clock) (v : List Entry) → halt ≡ None → Turns machine run (run_of g v t None) t.0 None
    turns t v h = record { going = h; last = refl; halt = refl }

    started_entries : (i : ℕ) (e : Entry) → Holds w i e → Entries (set w i (started_of e))
    started_entries i e h =
        let r = entry_within p.activities p.sizes e h.held (entry_of_lem i e h) in
        stored_each (λ (x : Entry). entry_in_limits p.activities p.sizes x ≡ true) w i (started_of e) good.entries
        (entry_passes p.activities p.sizes (started_of e) refl record { position = r.position; activity = r.activity; node = r.node; start = r.start; end = r.end })

    final : is_final p.automaton g.state ≡ true → (world_of p available).Final is
    final f = subst (λ (s : ℕ). is_final p.automaton s ≡ true) good.stands.place f

    ask_way : (t : Clock) → halt ≡ None → Calm t → Goes (Call.Ask t) (asked run t)
    unfolding asked
    ask_way t h k =
        by_first (is_due psi t) (starts_before p.nodes) (starts_order p.nodes) w (Goes (Call.Ask t)) _ _ (λ i e f. start i e f) λ none_due.
        by_test (λ (r : Reply). Goes (Call.Ask t) (answer r (heard run t None g w))) (is_done run) Reply.Done Reply.Wait
        (λ b. (is, idles (turns t w h) k tt (not_due none_due) (done b) (λ j x. (λ z. z, λ z. z)), stays_good (Call.Ask t) Reply.Done (inl (λ a. a)) w t None good.entries good.long refl (λ s x z. absurd (not_going s (sym z)))))
        (λ b. (is, idles (turns t w h) k tt (not_due none_due) (wait b) (λ j x. (λ z. z, λ z. z)), stays_good (Call.Ask t) Reply.Wait (inl (λ a. a)) w t None good.entries good.long refl (λ s x z. absurd (not_going s (sym z)))))
      where
        start : (i : ℕ) (e : Entry) → First (is_due psi t) (starts_before p.nodes) w i e → Goes (Call.Ask t) (answer (Reply.Start e.position e.activity e.node) (heard run t None g (set w i (started_of e))))
        start i e f =
            let q = (due_tells psi t e).0 f.passes in
            let held : Holds w i e = record { entry = f.stands; held = ap is_held q.0 } in (
              is,
              begins i e (turns t (set w i (started_of e)) h) k held (ap is_started q.0) q.1 (marks w i e held),
              stays_good (Call.Ask t) (Reply.Start e.position e.activity e.node) (inl (λ a. a)) (set w i (started_of e)) t None (started_entries i e held) (length-set w i (started_of e) ∙ good.long) refl (λ s x z. absurd (not_going s (sym z))),
            )

        not_due : NonePass (is_due psi t) w → (i : ℕ) (e : Entry) → Holds w i e → is_started e.phase ≡ false → t.0 < psi.0 + e.start.0
        not_due n i e q s = due_false psi t e (subst (λ (x : Entry). is_due psi t x ≡ false) q.entry (n i (holds_within w i e q))) (held_loaded e.phase q.held s)

        done : is_done run ≡ true → Answers (world_of p available) is (Holds w) Reply.Done
        done b = record {
          done_final = λ z. final (and_left (is_final p.automaton g.state) _ b);
          done_empty = λ z i e q. empty_none w (and_right (is_final p.automaton g.state) _ b) i e q;
          wait_only = λ z. absurd z;
        }

        wait : is_done run ≡ false → Answers (world_of p available) is (Holds w) Reply.Wait
        wait b = record {
          done_final = λ z. absurd z;
          done_empty = λ z. absurd z;
          wait_only = λ z f. nonempty w (and-false (is_final p.automaton g.state) _ b (subst (λ (s : ℕ). is_final p.automaton s ≡ true) (sym good.stands.place) f));
        }

    -- ---- reports

    report_way : (c : ℕ → ℕ → Call) (position node : ℕ) (f : ℕ → Entry → Answer) → halt ≡ None
        → ((i : ℕ) (e : Entry) → Holds w i e → is_started e.phase ≡ true → Goes (c e.position e.node) (f i e)) → Goes (c position node) (reported run position node f)
    report_way c position node f h k =
        by_first (is_node position node) by_start report_order w (Goes (c position node)) _ _
        (λ i e q. by_test (Goes (c position node)) (is_started e.phase) _ _ (λ s. go i e q s) (λ s. refuse (c position node) Refusal.NotStarted h (λ z. unstarted z)))
        (λ n. refuse (c position node) Refusal.NoSuchNode h (λ z. missing z))
      where
        unstarted : Refusal.NotStarted ≡ Refusal.OutOfLimits → ⊥
        unstarted e = let z : ◌≡◌ {A = ℕ} 0 1 = cc in omega arith

        missing : Refusal.NoSuchNode ≡ Refusal.OutOfLimits → ⊥
        missing e = let z : ◌≡◌ {A = ℕ} 0 1 = cc in omega arith

        go : (i : ℕ) (e : Entry) → First (is_node position node) by_start w i e → is_started e.phase ≡ true → Goes (c position node) (f i e)
        go i e q s =
            let t = (node_tells position node e).0 q.passes in
            subst (λ (n : ℕ). Goes (c position n) (f i e)) t.2 (subst (λ (n : ℕ). Goes (c n e.node) (f i e)) t.1 (k i e (record { entry = q.stands; held = t.0 }) s))

    other_kind : Refusal.OtherKind ≡ Refusal.OutOfLimits → ⊥
    other_kind e = let z : ◌≡◌ {A = ℕ} 0 1 = cc in omega arith

    lacking : Refusal.OutcomeLacking ≡ Refusal.OutOfLimits → ⊥
    lacking e = let z : ◌≡◌ {A = ℕ} 0 1 = cc in omega arith

    completion_way : (t : Clock) (position node : ℕ) → halt ≡ None → Calm t → Goes (Call.Completion t position node) (completed run t position node)
    unfolding completed
    completion_way t position node h k = report_way (λ m n. Call.Completion t m n) position node _ h (λ i e held s. by i e held s (kind_of run e))
      where
        by : (i : ℕ) (e : Entry) → Holds w i e → is_started e.phase ≡ true → (x : Kind) → Goes (Call.Completion t e.position e.node) (completed_by run t i x)
        by i e held s (Kind.Action a x) = (
          is,
          completes i e (turns t (set w i vacant) h) k held s (clears w i),
          stays_good (Call.Completion t e.position e.node) Reply.Taken (inr (λ x o q. q)) (set w i vacant) t None
              (stored_each (λ (x : Entry). entry_in_limits p.activities p.sizes x ≡ true) w i vacant good.entries (vacant_passes p.activities p.sizes)) (length-set w i vacant ∙ good.long) refl (λ s x z. absurd (not_going s (sym z))),
        )
        by i e held s (Kind.Claim r) = refuse (Call.Completion t e.position e.node) Refusal.OtherKind h other_kind
        by i e held s (Kind.Release r) = refuse (Call.Completion t e.position e.node) Refusal.OtherKind h other_kind
        by i e held s (Kind.Event v) = refuse (Call.Completion t e.position e.node) Refusal.OtherKind h other_kind

    outcome_way : Learning → Marking → (t : Clock) (position node o : ℕ) → halt ≡ None → Calm t → Goes (Call.Outcome t position node o) (learns run t position node o)
    unfolding learns
    outcome_way learning marking t position node o h k = report_way (λ m n. Call.Outcome t m n o) position node _ h (λ i e held s. by i e held s (kind_of run e) refl)
      where
        by : (i : ℕ) (e : Entry) → Holds w i e → is_started e.phase ≡ true → (x : Kind) → kind_of run e ≡ x → Goes (Call.Outcome t e.position e.node o) (learns_by run t i e o x)
        by i e held s (Kind.Action a x) q = refuse (Call.Outcome t e.position e.node o) Refusal.OtherKind h other_kind
        by i e held s (Kind.Claim r) q = refuse (Call.Outcome t e.position e.node o) Refusal.OtherKind h other_kind
        by i e held s (Kind.Release r) q = refuse (Call.Outcome t e.position e.node o) Refusal.OtherKind h other_kind
        by i e held s (Kind.Event v) q =
            by_test (Goes (Call.Outcome t e.position e.node o)) (ltb o (outcomes_of p v)) _ _
            (λ b. by_test (Goes (Call.Outcome t e.position e.node o)) (is_marker p v) _ _ (λ m. marking t i e v o h k held s q b m) (λ m. learning t i e v o h k held s q b))
            (λ b. refuse (Call.Outcome t e.position e.node o) Refusal.OutcomeLacking h lacking)

    -- ---- any call

    called_way : Invariant (world_of p available) machine psi.0 slack is log run → (c : Call) (t : Clock) → t.0 ≡ reading c → (go : Answer) → (halt ≡ None → Calm t → Goes c go) → Goes c (called run t go)
    called_way v c t rd go k =
        by_test (Goes c) (run_in_limits run) _ _
        (λ b. by_halt (Goes c) halt _ _
        (λ s e. (is, keeps e refl, stays_good c (Reply.Stopped s) (inl (λ a. a.1 (v.halted s e))) w last halt good.entries good.long good.halt (λ u x z. (z, λ a. a.1 (v.halted s e)))))
        (λ e. timely_way c t rd e go (k e)))
        (λ b. absurd (true≢false (sym (run_passes p psi slack given g w last halt good.stands.within good.entries good.halt) ∙ b)))

    pub call_way : Learning → Marking → Invariant (world_of p available) machine psi.0 slack is log run → (c : Call) → Goes c (call_of run c)
    unfolding call_of ask_of completion_of outcome_of
    call_way learning marking v (Call.Ask t) = called_way v (Call.Ask t) t refl _ (ask_way t)
    call_way learning marking v (Call.Completion t m n) = called_way v (Call.Completion t m n) t refl _ (completion_way t m n)
    call_way learning marking v (Call.Outcome t m n o) = called_way v (Call.Outcome t m n o) t refl _ (outcome_way learning marking t m n o)
