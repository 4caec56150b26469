-- Of a run whose window is what demand 3 says, the condition of each reply over its places is the one over the log.
use Rattle.std.specs.Prelude.{◌≡◌, refl, true, List, ◌∷◌, ◌⊎◌, ◌↔◌, ℕ, Option, Some, None}
use Rattle.std.proofs.Common.{sym, ap, ◌∙◌, subst, true≢false, inl, inr, ⊎_elim, arith}
use Rattle.std.proofs.Math.Decide.{ℕ_discrete}
use Rattle.time.specs.declared.Clock.{Clock}
use Rattle.plan.specs.Plan.{is_final, outcomes_of}
use Rattle.plan.specs.declared.Kind.{Kind}
use Rattle.automaton.specs.Rules.{MeetsAutomaton}
use Rattle.times_combined.specs.Combined.{Ident, Is}
use Rattle.times_combined.specs.Paths.{Follows, Lawful}
use Rattle.run_window.specs.Window.{is_held, starts_before}
use Rattle.run_window.proofs.Laws.Tests.{free_true, free_or_held, unfree_held}
use Rattle.run.specs.declared.Run.{Run}
use Rattle.run_checks.specs.declared.Stop.{Stop}
use Rattle.run.specs.declared.Call.{Call}
use Rattle.run.specs.declared.Reply.{Reply}
use Rattle.run_checks.specs.declared.Refusal.{Refusal}
use Rattle.run_loading.specs.declared.Failure.{Failure}
use Rattle.run.specs.Calls.{reading_of, kind_of}
use Rattle.demands_log.specs.Log.{Id, id, Log, reading, Stops, StoppedIn, StoppedBy, Started, FailedIn}
use Rattle.demands_theory.specs.Nodes.{whose, EmitsAt}
use Rattle.demands_theory.specs.TheWord.{state_after, whole_of, TheWord}
use Rattle.demands_theory.specs.Loading.{EndsAt, Loads}
use Rattle.demands_theory.proofs.Laws.TheWord.{takes_follows}
use Rattle.demands_run.proofs.Laws.Apart.{stuck_marked}
use Rattle.demands_theory.specs.Demand.{Demand3}
use Rattle.demands_theory.proofs.Laws.Nodes.{one_activity}
use Rattle.demands.proofs.Laws.AfterCalls.{going_stopped, reading_is}
use Rattle.demands.specs.InLimits.{RunInLimits}
use Rattle.demands.specs.Conditions.{entry_at, DueAt, FirstOf, IsReport, IsAction, RightKind, Condition, NamedAt, loading_after}
use Rattle.demands.specs.Conditions as Places
use Rattle.demands.specs.ByLog.{Known, last_reading, Open, Overdue, Late, Earliest, FirstServed, Rises, NotOverdue, Timely, Names, Reports, Refuses, Learns, Ended, Asks, After, Halts, Takes, Answered}
use Rattle.demands.proofs.Laws.ConditionsMet.{several_if}
use Rattle.demands.proofs.Laws.ByLogPlaces.{known, node_of, IsHeld, of_word, stands_at, at_stands, started_at, at_started, unstarted_at, at_unstarted, overdue_to, overdue_from, late_to, late_from, due_to, due_from, overdue_earliest, overdue_first, late_served, served_late, due_served, served_due, named_to, named_from, named_first, kind_same, kind_at}

is_stop : (r : Reply) → Stops r → (s : Stop) × (r ≡ Reply.Stopped s)
is_stop (Reply.Start _ _ _) h = elim h [ ]
is_stop Reply.Wait h = elim h [ ]
is_stop Reply.Done h = elim h [ ]
is_stop Reply.Taken h = elim h [ ]
is_stop (Reply.Refused _) h = elim h [ ]
is_stop (Reply.Stopped s) h = (s, refl)

pub stopped_by_lem : (log : Log) → StoppedIn log → (s : Stop) × StoppedBy log s
stopped_by_lem mathlib.Core.List.[] x' = elim x' [ ]
stopped_by_lem (y ∷ log) (inl q) = let r = is_stop y.reply q in (r.0, inl r.1)
stopped_by_lem (y ∷ log) (inr q) = let r = stopped_by_lem log q in (r.0, inr r.1)

pub stopped_in : (log : Log) (s : Stop) → StoppedBy log s → StoppedIn log
stopped_in mathlib.Core.List.[] s x' = elim x' [ ]
stopped_in (y ∷ log) s (inl q) = inl (subst Stops (sym q) tt)
stopped_in (y ∷ log) s (inr q) = inr (stopped_in log s q)

none_full : None ≡ Some Failure.Full → ⊥
none_full e = let z : ◌≡◌ {A = ℕ} 0 1 = cc in omega arith

none_beyond : None ≡ Some Failure.Beyond → ⊥
none_beyond e = let z : ◌≡◌ {A = ℕ} 0 1 = cc in omega arith

module _ (run : Run) (log : Log) (is : List ℕ) (S C : Ident → ℕ) (available : ℕ → ℕ) (d : Demand3 run.plan run.psi.0 run.slack available is S C (record { log = log; run = run })) (nf : FailedIn log → ⊥)
    (lawful : Lawful run.plan) (automaton : MeetsAutomaton run.plan) (word : TheWord run.plan log is)
    (limits : RunInLimits run) (place : run.progress.state ≡ state_after run.plan is)
    (last : (StoppedIn log → ⊥) → run.last.0 ≡ last_reading log) (halted : (s : Stop) → (run.halt ≡ Some s) ↔ StoppedBy log s)
    (loading : (t : Clock) (p n o i e : ℕ) → Places.Learns run t p n o i e → (f : Option Failure) → (loading_after run t o i e ≡ f) ↔ After (known run log is S C available d nf) (Call.Outcome t p n o) f) where
  abbrev K : Known
  K = known run log is S C available d nf

  path : Follows run.plan run.plan.automaton.initial is (state_after run.plan is)
  path = takes_follows run.plan log is word.taken

  -- ---- the order

  unstopped : run.halt ≡ None → StoppedIn log → ⊥
  unstopped g q = let s = stopped_by_lem log q in going_stopped (sym g ∙ (halted s.0).1 s.1)

  going : (StoppedIn log → ⊥) → Places.Going run
  going n = record { limits = limits; going = go run.halt refl }
    where
      go : (h : Option Stop) → run.halt ≡ h → run.halt ≡ None
      go None e = e
      go (Some s) e = absurd (n (stopped_in log s ((halted s).0 e)))

  rises_to : (t : Clock) → Places.Rises run t → Rises K t.0
  rises_to t r = let n = unstopped r.going.going in record { going = n; rises = (let u = last n in let v = r.rises in omega arith) }

  rises_from : (t : Clock) → Rises K t.0 → Places.Rises run t
  rises_from t r = record { going = going r.going; rises = (let u = last r.going in let v = r.rises in omega arith) }

  overdue_none : (t : Clock) → Places.NotOverdue run t → NotOverdue K t.0
  overdue_none t r = record { rises = rises_to t r.rises; none = λ x o. let p = overdue_from run log is S C available d nf t x o in r.none p.0 p.1 }

  none_overdue : (t : Clock) → NotOverdue K t.0 → Places.NotOverdue run t
  none_overdue t r = record { rises = rises_from t r.rises; none = λ i o. r.none (node_of run log is S C available d nf i) (overdue_to run log is S C available d nf t i o) }

  timely_to : (t : Clock) → Places.Timely run t → Timely K t.0
  timely_to t r = record { not_overdue = overdue_none t r.not_overdue; none = λ x o. let p = late_from run log is S C available d nf t x o in r.none p.0 p.1 }

  timely_from : (t : Clock) → Timely K t.0 → Places.Timely run t
  timely_from t r = record { not_overdue = none_overdue t r.not_overdue; none = λ i o. r.none (node_of run log is S C available d nf i) (late_to run log is S C available d nf t i o) }

  -- at a call
  timely_at : (c : Call) → Places.Timely run (reading_of c) → Timely K (reading c)
  timely_at c r = subst (Timely K) (reading_is c) (timely_to (reading_of c) r)

  at_timely : (c : Call) → Timely K (reading c) → Places.Timely run (reading_of c)
  at_timely c r = timely_from (reading_of c) (subst (Timely K) (sym (reading_is c)) r)

  -- ---- reports

  held_at : (c : Call) (i : ℕ) → NamedAt run c i → IsHeld run log is S C available d nf i
  held_at c i h = (named_to run log is S C available d nf c i h).0

  reports_to : (c : Call) (i : ℕ) → Places.Reports run c i → Reports K c (node_of run log is S C available d nf i) (kind_of run (entry_at run i))
  reports_to c i r =
      let n = named_to run log is S C available d nf c i r.named.has in
      record { timely = timely_at c r.timely; names = n.1; stands = stands_at run log is S C available d nf i n.0; started = started_at run log is S C available d nf i n.0 r.started; kind = kind_at run log is S C available d nf lawful path i n.0 }

  reports_from : (c : Call) (x : Id) (h : Kind) → Reports K c x h → (i : ℕ) × Places.Reports run c i × (kind_of run (entry_at run i) ≡ h)
  reports_from c x h r =
      let p = at_stands run log is S C available d nf x r.stands in (
        p.0,
        record { timely = at_timely c r.timely; named = named_first run log is S C available d nf c p.0 (named_from run log is S C available d nf c x r.names p.0 p.1 p.2); started = at_started run log is S C available d nf p.0 p.1 (subst (Started log) (sym p.2) r.started) },
        kind_same run log is S C available d nf lawful path p.0 p.1 h (subst (λ (z : Id). Is (whole_of run.plan is) (whose z) h) (sym p.2) r.kind),
      )

  is_report : (c : Call) (x : Id) → Names c x → IsReport c
  is_report c x Names.completion = tt
  is_report c x Names.outcome = tt

  named_by : (c : Call) → IsReport c → (x : Id) × Names c x
  named_by (Call.Ask t) h = absurd h
  named_by (Call.Completion t p n) h = (id p n, Names.completion)
  named_by (Call.Outcome t p n o) h = (id p n, Names.outcome)

  refuses_to : (c : Call) (f : Refusal) → Places.Refuses run c f → Refuses K c f
  refuses_to c f (Places.Refuses.number50 n) = absurd (n limits)
  refuses_to c f (Places.Refuses.number51 g l) = let n = unstopped g.going in Refuses.number51 {c = c} n (let u = last n in let v = reading_is c in omega arith)
  refuses_to c f (Places.Refuses.number52 t r none) =
      let x = named_by c r in
      Refuses.number52 x.0 (timely_at c t) x.1 (λ o. let p = at_stands run log is S C available d nf x.0 o in none p.0 (named_from run log is S C available d nf c x.0 x.1 p.0 p.1 p.2))
  refuses_to c f (Places.Refuses.number53 i t n l) =
      let m = named_to run log is S C available d nf c i n.has in
      Refuses.number53 (node_of run log is S C available d nf i) (timely_at c t) m.1 (stands_at run log is S C available d nf i m.0) (unstarted_at run log is S C available d nf i m.0 l)
  refuses_to c f (Places.Refuses.number54 i r n) = Refuses.number54 (node_of run log is S C available d nf i) (kind_of run (entry_at run i)) (reports_to c i r) n
  refuses_to c f (Places.Refuses.number55 i e r k l) = Refuses.number55 (node_of run log is S C available d nf i) e (subst (Reports K c (node_of run log is S C available d nf i)) k (reports_to c i r)) l

  refuses_from : (c : Call) (f : Refusal) → Refuses K c f → Places.Refuses run c f
  refuses_from c f (Refuses.number51 n l) = Places.Refuses.number51 {c = c} (going n) (let u = last n in let v = reading_is c in omega arith)
  refuses_from c f (Refuses.number52 x t n none) =
      Places.Refuses.number52 (at_timely c t) (is_report c x n) (λ i h. none (subst (Open K) (same i h) (stands_at run log is S C available d nf i (held_at c i h))))
    where
      same : (i : ℕ) → NamedAt run c i → node_of run log is S C available d nf i ≡ x
      same i h = one (node_of run log is S C available d nf i) (named_to run log is S C available d nf c i h).1 n
        where
          one : {c : Call} (y : Id) → Names c y → Names c x → y ≡ x
          one y Names.completion Names.completion = refl
          one y Names.outcome Names.outcome = refl
  refuses_from c f (Refuses.number53 x t n o u) =
      let p = at_stands run log is S C available d nf x o in
      Places.Refuses.number53 p.0 (at_timely c t) (named_first run log is S C available d nf c p.0 (named_from run log is S C available d nf c x n p.0 p.1 p.2)) (at_unstarted run log is S C available d nf p.0 p.1 (λ q. u (subst (Started log) p.2 q)))
  refuses_from c f (Refuses.number54 x h r n) = let p = reports_from c x h r in Places.Refuses.number54 p.0 p.1 (λ q. n (subst (RightKind c) p.2 q))
  refuses_from c f (Refuses.number55 x e r l) = let p = reports_from c x (Kind.Event e) r in Places.Refuses.number55 p.0 e p.1 p.2 l

  -- ---- stops

  learns_to : (t : Clock) (p n o i e : ℕ) → Places.Learns run t p n o i e → Learns K (Call.Outcome t p n o) o e
  learns_to t p n o i e l = record { node = node_of run log is S C available d nf i; reports = subst (Reports K (Call.Outcome t p n o) (node_of run log is S C available d nf i)) l.event (reports_to (Call.Outcome t p n o) i l.reports); has = l.has }

  learns_from : (t : Clock) (p n o e : ℕ) → Learns K (Call.Outcome t p n o) o e → (i : ℕ) × Places.Learns run t p n o i e
  learns_from t p n o e l = let q = reports_from (Call.Outcome t p n o) l.node (Kind.Event e) l.reports in (q.0, record { reports = q.1; event = q.2; has = l.has })

  -- after the report of a marker nothing is loaded
  marked : (t : Clock) (p n o e : ℕ) → Learns K (Call.Outcome t p n o) o e → outcomes_of run.plan e ≡ 1 → After K (Call.Outcome t p n o) None
  marked t p n o e l one =
      (is, Loads.ends (EndsAt.whole (stuck_marked run.plan lawful log is word.taken l.node e l.reports.kind one automaton (Call.Outcome t p n o) Reply.Taken (λ y u q. named l.reports.names ∙ q.0) word.whole)))
    where
      named : {x : Id} → Names (Call.Outcome t p n o) x → x ≡ id p n
      named Names.outcome = refl

  -- the event of an accepted outcome is a marker, or has several
  by_outcomes : (t : Clock) (p n o i e : ℕ) → Places.Learns run t p n o i e → (outcomes_of run.plan e ≡ 1) ⊎ Places.Decides run t p n o i e
  by_outcomes t p n o i e l = elim (ℕ_discrete (outcomes_of run.plan e) 1) [ yes q ↦ inl q | no q ↦ inr (record { learns = l; several = several_if o (outcomes_of run.plan e) l.has q }) ]

  -- loading fails after the outcome of an event with several alone
  fails_deciding : (t : Clock) (p n o e : ℕ) (f : Option Failure) → (None ≡ f → ⊥) → Learns K (Call.Outcome t p n o) o e → After K (Call.Outcome t p n o) f → (i : ℕ) × Places.Decides run t p n o i e × (loading_after run t o i e ≡ f)
  fails_deciding t p n o e f fails l q =
      let m = learns_from t p n o e l in
      let ends = loading t p n o m.0 e m.1 in
      ⊎_elim (λ one. absurd (fails (sym ((ends None).1 (marked t p n o e l one)) ∙ (ends f).1 q))) (λ k. (m.0, k, (ends f).1 q)) (by_outcomes t p n o m.0 e m.1)

  halts_to : (c : Call) (s : Stop) → Places.Halts run c s → Halts K c s
  halts_to c s (Places.Halts.kept l h) = Halts.kept ((halted s).0 h)
  halts_to c s (Places.Halts.number42 i r f) =
      Halts.number42 (subst (Rises K) (reading_is c) (rises_to (reading_of c) r)) (subst (λ (t : ℕ). Earliest C (Overdue K t) (node_of run log is S C available d nf i)) (reading_is c) (overdue_earliest run log is S C available d nf (reading_of c) i f))
  halts_to c s (Places.Halts.number41 i r f) =
      Halts.number41 (subst (NotOverdue K) (reading_is c) (overdue_none (reading_of c) r)) (subst (λ (t : ℕ). FirstServed K (Late K t) (node_of run log is S C available d nf i)) (reading_is c) (late_served run log is S C available d nf lawful path limits (reading_of c) i f))
  halts_to c s (Places.Halts.number43 {t} {p} {n} {o} i e l q) = Halts.number43 e (learns_to t p n o i e l.learns) ((loading t p n o i e l.learns (Some Failure.Full)).0 q)
  halts_to c s (Places.Halts.number44 {t} {p} {n} {o} i e l q) = Halts.number44 e (learns_to t p n o i e l.learns) ((loading t p n o i e l.learns (Some Failure.Beyond)).0 q)

  halts_from : (c : Call) (s : Stop) → Halts K c s → Places.Halts run c s
  halts_from c s (Halts.kept h) = Places.Halts.kept limits ((halted s).1 h)
  halts_from c s (Halts.number42 {p = p} {n} r f) =
      let q = overdue_first run log is S C available d nf (reading_of c) (id p n) (subst (λ (t : ℕ). Earliest C (Overdue K t) (id p n)) (sym (reading_is c)) f) in
      subst (λ (z : Id). Places.Halts run c (Stop.Overdue z.position z.node)) q.2 (Places.Halts.number42 q.0 (rises_from (reading_of c) (subst (Rises K) (sym (reading_is c)) r)) q.1)
  halts_from c s (Halts.number41 {p = p} {n} r f) =
      let q = served_late run log is S C available d nf lawful path limits (reading_of c) (id p n) (subst (λ (t : ℕ). FirstServed K (Late K t) (id p n)) (sym (reading_is c)) f) in
      subst (λ (z : Id). Places.Halts run c (Stop.Late z.position z.node)) q.2 (Places.Halts.number41 q.0 (none_overdue (reading_of c) (subst (NotOverdue K) (sym (reading_is c)) r)) q.1)
  halts_from c s (Halts.number43 {t} {p} {n} {o} e l q) = let m = fails_deciding t p n o e (Some Failure.Full) none_full l q in Places.Halts.number43 m.0 e m.1 m.2
  halts_from c s (Halts.number44 {t} {p} {n} {o} e l q) = let m = fails_deciding t p n o e (Some Failure.Beyond) none_beyond l q in Places.Halts.number44 m.0 e m.1 m.2

  -- ---- ask

  ended_to : Places.Ended run → Ended K
  ended_to e = record {
    final = subst (λ (s : ℕ). is_final run.plan.automaton s ≡ true) place e.final;
    empty = λ x o. let p = at_stands run log is S C available d nf x o in true≢false (sym p.1 ∙ ap is_held (e.empty p.0));
  }

  ended_from : Ended K → Places.Ended run
  ended_from e = record {
    final = subst (λ (s : ℕ). is_final run.plan.automaton s ≡ true) (sym place) e.final;
    empty = λ i. ⊎_elim (free_true (entry_at run i).phase) (λ n. absurd (e.empty (node_of run log is S C available d nf i) (stands_at run log is S C available d nf i (unfree_held (entry_at run i).phase n)))) (free_or_held (entry_at run i).phase);
  }

  asks_to : (c : Call) (r : Reply) → Places.Asks run c r → Asks K c r
  asks_to c r (Places.Asks.starts {t} i y f) = Asks.starts (timely_to t y) (due_served run log is S C available d nf lawful path limits t i f) (of_word run log is S C available d nf i (ap is_held f.has.unstarted)).activity
  asks_to c r (Places.Asks.done {t} y e) = Asks.done (timely_to t y) (ended_to e)
  asks_to c r (Places.Asks.waits {t} y n e) = Asks.waits (timely_to t y) (λ x o. let p = due_from run log is S C available d nf t x o in n p.0 p.1) (λ q. e (ended_from q))

  asks_from : (c : Call) (r : Reply) → Asks K c r → Places.Asks run c r
  asks_from c r (Asks.starts {t} {q} {a} {n} y f m) = go (served_due run log is S C available d nf lawful path limits t (id q n) f)
    where
      go : (p : (i : ℕ) × FirstOf run (DueAt run t) (starts_before run.plan.nodes) i × (node_of run log is S C available d nf i ≡ id q n)) → Places.Asks run (Call.Ask t) (Reply.Start q a n)
      go p =
          let e : (entry_at run p.0).activity ≡ a = one_activity run.plan is q (entry_at run p.0).activity a (subst (λ (z : ℕ). EmitsAt run.plan is z (entry_at run p.0).activity) (ap (λ (z : Id). z.position) p.2) (of_word run log is S C available d nf p.0 (ap is_held p.1.has.unstarted)).activity) m in
          subst (λ (z : Id). Places.Asks run (Call.Ask t) (Reply.Start z.position a z.node)) p.2
          (subst (λ (b : ℕ). Places.Asks run (Call.Ask t) (Reply.Start (entry_at run p.0).position b (entry_at run p.0).node)) e (Places.Asks.starts p.0 (timely_from t y) p.1))
  asks_from c r (Asks.done {t} y e) = Places.Asks.done (timely_from t y) (ended_from e)
  asks_from c r (Asks.waits {t} y n e) = Places.Asks.waits (timely_from t y) (λ i o. n (node_of run log is S C available d nf i) (due_to run log is S C available d nf t i o)) (λ q. e (ended_to q))

  -- ---- taken

  takes_to : (c : Call) → Places.Takes run c → Takes K c
  takes_to c (Places.Takes.completion i r a) = Takes.completion (node_of run log is S C available d nf i) (kind_of run (entry_at run i)) (reports_to c i r) a
  takes_to c (Places.Takes.outcome {t} {p} {n} {o} i e l q) = Takes.outcome e (learns_to t p n o i e l.learns) ((loading t p n o i e l.learns None).0 q)
  takes_to c (Places.Takes.marker {t} {p} {n} {o} i e l one) = Takes.outcome e (learns_to t p n o i e l) (marked t p n o e (learns_to t p n o i e l) one)

  takes_from : (c : Call) → Takes K c → Places.Takes run c
  takes_from c (Takes.completion x h r a) = let p = reports_from c x h r in Places.Takes.completion p.0 p.1 (subst IsAction (sym p.2) a)
  takes_from c (Takes.outcome {t} {p} {n} {o} e l q) =
      let m = learns_from t p n o e l in
      ⊎_elim (λ one. Places.Takes.marker m.0 e m.1 one) (λ k. Places.Takes.outcome m.0 e k ((loading t p n o m.0 e m.1 None).1 q)) (by_outcomes t p n o m.0 e m.1)

  -- ---- each reply

  pub same_condition : (c : Call) (r : Reply) → Condition run c r ↔ Answered K c r
  same_condition c (Reply.Start p a n) = (asks_to c (Reply.Start p a n), asks_from c (Reply.Start p a n))
  same_condition c Reply.Wait = (asks_to c Reply.Wait, asks_from c Reply.Wait)
  same_condition c Reply.Done = (asks_to c Reply.Done, asks_from c Reply.Done)
  same_condition c Reply.Taken = (takes_to c, takes_from c)
  same_condition c (Reply.Refused f) = (refuses_to c f, refuses_from c f)
  same_condition c (Reply.Stopped s) = (halts_to c s, halts_from c s)
