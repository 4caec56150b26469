-- What a call does to a run gives the answer that is defined; the places, the event and the outcome that it names are the run's.
use Rattle.std.specs.Prelude.{◌≡◌, refl, Bool, true, false, cond, List, ℕ, ◌<◌, ltb, length, set, Option, Some, None, Result, Ok, Err}
use Rattle.std.proofs.Common.{sym, ◌∙◌, subst, arith, ltb-true}
use Rattle.std.proofs.Math.Path.{ap}
use Rattle.basis.proofs.Laws.Bools.{by_test}
use Rattle.time.specs.declared.Clock.{Clock}
use Rattle.plan.specs.Plan.{outcomes_of}
use Rattle.plan.specs.Limits.{KindNames}
use Rattle.plan.specs.declared.Kind.{Kind}
use Rattle.plan.specs.declared.Node.{Node}
use Rattle.run_window.specs.declared.Entry.{Entry}
use Rattle.run_window.specs.declared.Found.{Found}
use Rattle.run_window.specs.declared.Sought.{Sought}
use Rattle.run_window.specs.Window.{vacant, is_started, started_of, on_found, found_at}
use Rattle.run_window.specs.Places.{Holds}
use Rattle.run_window.specs.Inner.Search.{is_sought, sooner, first_of, SoughtInTime}
use Rattle.run_window.proofs.Laws.Sought.{sought_held, sought_order}
use Rattle.run_window.proofs.Laws.Firsts.{first_found}
use Rattle.run_checks.specs.declared.Refusal.{Refusal}
use Rattle.run_checks.specs.declared.Objection.{Objection}
use Rattle.run_checks.specs.Order.{reported_by}
use Rattle.run.specs.declared.Run.{Run}
use Rattle.run.specs.declared.Reply.{Reply}
use Rattle.run.specs.declared.Answer.{Answer}
use Rattle.run.specs.declared.Call.{Call}
use Rattle.run.specs.declared.Effect.{Effect}
use Rattle.run.specs.Limits.{run_in_limits}
use Rattle.run.specs.Calls.{answer, refuse, heard, objected, is_done, asked, kind_of, completed_by, completed, is_marker, hears, learns_by, learns, called, ask_of, completion_of, outcome_of, call_of, reading_of}
use Rattle.run.specs.Inner.Checks.{check_of}
use Rattle.run.specs.Inner.Effects.{sought_by, found_by, place_of, outcomes_for, kind_found, checked_of, refusing, completes_by, hears_as, learns_as, starts_by, effect_on, effect_for, effect_by, effect_of, acted, Named}
use Rattle.run.proofs.Laws.Checking.{goes, objected_halt, answer_goes, answer_objects, timed, state_below, loads_in_limits, named_held}

-- ---- the answer of each effect

module _ (run : Run) (t : Clock) where
  acted_cond : (b : Bool) (x y : Effect) → acted run t (cond b x y) ≡ cond b (acted run t x) (acted run t y)
  acted_cond true x y = refl
  acted_cond false x y = refl

  acted_objection : (o : Objection) → acted run t (effect_for o) ≡ objected run t o
  acted_objection (Objection.Refuses f) = refl
  acted_objection (Objection.Keeps s) = refl
  acted_objection (Objection.Stops s) = refl

  acted_ask : (found : Option Found)
      → acted run t (starts_by found)
      ≡ on_found found (λ i e. answer (Reply.Start e.position e.activity e.node) (heard run t None run.progress (set run.window i (started_of e))))
      (answer (cond (is_done run) Reply.Done Reply.Wait) (heard run t None run.progress run.window))
  acted_ask None = refl
  acted_ask (Some x) = refl

  -- a report, where what it does to the node that it names is known
  module _ (f : ℕ → Entry → Effect) (g : ℕ → Entry → Answer) where
    acted_report : (found : Option Found) → ((i : ℕ) (e : Entry) → found ≡ found_at i e → acted run t (f i e) ≡ g i e) → acted run t (reported_by found f refusing) ≡ reported_by found g (refuse run)
    acted_report None h = refl
    acted_report (Some x) h = acted_cond (is_started x.entry.phase) (f x.place x.entry) (refusing Refusal.NotStarted) ∙ ap (λ (a : Answer). cond (is_started x.entry.phase) a (refuse run Refusal.NotStarted)) (h x.place x.entry refl)

  acted_completes : (i : ℕ) (k : Kind) → acted run t (completes_by i k) ≡ completed_by run t i k
  acted_completes i (Kind.Action a x) = refl
  acted_completes i (Kind.Claim r) = refl
  acted_completes i (Kind.Release r) = refl
  acted_completes i (Kind.Event e) = refl

  acted_hears : (i : ℕ) (x : Entry) (e o : ℕ) → acted run t (hears_as i x e o (outcomes_of run.plan e)) ≡ hears run t i x e o
  acted_hears i x e o = acted_cond (is_marker run.plan e) (Effect.Stores i vacant Reply.Taken) (Effect.Learns i x e o)

  acted_learns : (i : ℕ) (x : Entry) (o : ℕ) (k : Kind) → acted run t (learns_as i x o (outcomes_for run.plan.outcomes k) k) ≡ learns_by run t i x o k
  acted_learns i x o (Kind.Action a y) = refl
  acted_learns i x o (Kind.Claim r) = refl
  acted_learns i x o (Kind.Release r) = refl
  acted_learns i x o (Kind.Event e) =
      acted_cond (ltb o (outcomes_of run.plan e)) (hears_as i x e o (outcomes_of run.plan e)) (refusing Refusal.OutcomeLacking)
      ∙ ap (λ (a : Answer). cond (ltb o (outcomes_of run.plan e)) a (refuse run Refusal.OutcomeLacking)) (acted_hears i x e o)

-- ---- the answer to a call

abbrev answer_of : Run → Call → Answer
answer_of run (Call.Ask t) = asked run t
answer_of run (Call.Completion t p n) = completed run t p n
answer_of run (Call.Outcome t p n o) = learns run t p n o

call_checked : (run : Run) (c : Call) → call_of run c ≡ called run (reading_of c) (answer_of run c)
unfolding call_of ask_of completion_of outcome_of
call_checked run (Call.Ask t) = refl
call_checked run (Call.Completion t p n) = refl
call_checked run (Call.Outcome t p n o) = refl

module _ (run : Run) where
  abbrev kind_at : Option Found → Kind
  kind_at found = kind_found run (Ok found)

  acted_call : (c : Call) (found : Option Found) → found ≡ first_of run.plan.nodes (sought_by run.psi c) run.window
      → acted run (reading_of c) (effect_on c found (kind_at found) (outcomes_for run.plan.outcomes (kind_at found))) ≡ answer_of run c
  unfolding asked completed learns
  acted_call (Call.Ask t) found q =
      acted_ask run t found
      ∙ ap (λ (f : Option Found). on_found f (λ i e. answer (Reply.Start e.position e.activity e.node) (heard run t None run.progress (set run.window i (started_of e)))) (answer (cond (is_done run) Reply.Done Reply.Wait) (heard run t None run.progress run.window))) q
  acted_call (Call.Completion t p n) found q =
      acted_report run t (λ i e. completes_by i (kind_at found)) (λ i e. completed_by run t i (kind_of run e)) found
      (λ i e s. acted_completes run t i (kind_at found) ∙ ap (λ (f : Option Found). completed_by run t i (kind_at f)) s)
      ∙ ap (λ (f : Option Found). reported_by f (λ i e. completed_by run t i (kind_of run e)) (refuse run)) q
  acted_call (Call.Outcome t p n o) found q =
      acted_report run t (λ i e. learns_as i e o (outcomes_for run.plan.outcomes (kind_at found)) (kind_at found)) (λ i e. learns_by run t i e o (kind_of run e)) found
      (λ i e s. acted_learns run t i e o (kind_at found) ∙ ap (λ (f : Option Found). learns_by run t i e o (kind_at f)) s)
      ∙ ap (λ (f : Option Found). reported_by f (λ i e. learns_by run t i e o (kind_of run e)) (refuse run)) q

  acted_check : (c : Call) (check : Result (Option Found) Objection) → check ≡ check_of run (reading_of c) (sought_by run.psi c)
      → acted run (reading_of c) (effect_by c check (kind_found run check) (outcomes_for run.plan.outcomes (kind_found run check))) ≡ call_of run c
  acted_check c (Ok found) q =
      let h = goes run (reading_of c) (sought_by run.psi c) (Ok found) q found refl in
      acted_call c found h.found
      ∙ (sym (answer_goes run (reading_of c) (sought_by run.psi c) (Ok found) q (answer_of run c) found refl) ∙ sym (call_checked run c))
  acted_check c (Err o) q =
      acted_objection run (reading_of c) o
      ∙ (sym (answer_objects run (reading_of c) (sought_by run.psi c) (Err o) q (answer_of run c) o refl) ∙ sym (call_checked run c))

-- ---- what an effect names

-- neither 50 nor a kept stop
abbrev Passes : Run → Type 0
Passes run = (run_in_limits run ≡ true) × (run.halt ≡ None)

-- what is found stands in the window
pub found_holds : (nodes : List Node) (s : Sought) (w : List Entry) (i : ℕ) (e : Entry) → first_of nodes s w ≡ found_at i e → Holds w i e × (i < length w)
found_holds nodes s w i e q = let f = first_found (is_sought s) (sooner nodes s) (sought_order nodes s) w i e q in (record { entry = f.stands; held = sought_held s e f.passes }, f.within)

module _ (run : Run) (long : length run.window ≡ 512) where
  -- of a report of a started node
  module _ (f : Option Found → ℕ → Entry → Effect) where
    named_report : (found : Option Found) → ((i : ℕ) (e : Entry) → found ≡ found_at i e → Named run (f found i e)) → Named run (reported_by found (f found) refusing)
    named_report None h = tt
    named_report (Some x) h = by_test (Named run) (is_started x.entry.phase) _ _ (λ s. h x.place x.entry refl) (λ s. tt)

  named_completes : (i : ℕ) (k : Kind) → i < 512 → Passes run → Named run (completes_by i k)
  named_completes i (Kind.Action a x) l p = (l, tt, p.1)
  named_completes i (Kind.Claim r) l p = tt
  named_completes i (Kind.Release r) l p = tt
  named_completes i (Kind.Event e) l p = tt

  named_learns : (i : ℕ) (x : Entry) (o : ℕ) (k : Kind) → i < 512 → KindNames run.plan k → Passes run → Named run (learns_as i x o (outcomes_for run.plan.outcomes k) k)
  named_learns i x o (Kind.Action a y) l n p = tt
  named_learns i x o (Kind.Claim r) l n p = tt
  named_learns i x o (Kind.Release r) l n p = tt
  named_learns i x o (Kind.Event e) l n p =
      by_test (Named run) (ltb o (outcomes_of run.plan e)) (hears_as i x e o (outcomes_of run.plan e)) (refusing Refusal.OutcomeLacking)
      (λ b. by_test (Named run) (is_marker run.plan e) (Effect.Stores i vacant Reply.Taken) (Effect.Learns i x e o) (λ k. (l, tt, p.1)) (λ k. (l, n, ltb-true o (outcomes_of run.plan e) b, loads_in_limits run p.0, p.1)))
      (λ b. tt)

  module _ (p : Passes run) where
    named_call : (c : Call) (found : Option Found) → found ≡ first_of run.plan.nodes (sought_by run.psi c) run.window
        → Named run (effect_on c found (kind_at run found) (outcomes_for run.plan.outcomes (kind_at run found)))
    named_call (Call.Ask t) None q = (state_below run p.0, p.1)
    named_call (Call.Ask t) (Some x) q = ((named_held run p.0 long x.place x.entry (found_holds run.plan.nodes (Sought.Due run.psi t) run.window x.place x.entry (sym q))).0, tt, p.1)
    named_call (Call.Completion t m n) found q =
        named_report (λ f i e. completes_by i (kind_at run f)) found
        (λ i e s. named_completes i (kind_at run found) (named_held run p.0 long i e (found_holds run.plan.nodes (Sought.Node m n) run.window i e (sym q ∙ s))).0 p)
    named_call (Call.Outcome t m n o) found q =
        named_report (λ f i e. learns_as i e o (outcomes_for run.plan.outcomes (kind_at run f)) (kind_at run f)) found
        (λ i e s.
        let k = named_held run p.0 long i e (found_holds run.plan.nodes (Sought.Node m n) run.window i e (sym q ∙ s)) in
        named_learns i e o (kind_at run found) k.0 (subst (λ (f : Option Found). KindNames run.plan (kind_at run f)) (sym s) k.2) p)

  named_check : (c : Call) (check : Result (Option Found) Objection) → check ≡ check_of run (reading_of c) (sought_by run.psi c)
      → Named run (effect_by c check (kind_found run check) (outcomes_for run.plan.outcomes (kind_found run check)))
  named_check c (Ok found) q =
      let h = goes run (reading_of c) (sought_by run.psi c) (Ok found) q found refl in
      named_call (h.limits, h.going) c found h.found
  named_check c (Err (Objection.Refuses f)) q = tt
  named_check c (Err (Objection.Keeps s)) q = objected_halt run (reading_of c) (sought_by run.psi c) (Err (Objection.Keeps s)) q
  named_check c (Err (Objection.Stops s)) q = objected_halt run (reading_of c) (sought_by run.psi c) (Err (Objection.Stops s)) q

-- ---- a call, by the effect that the code works out

pub sought_timely : (run : Run) (c : Call) → run_in_limits run ≡ true → SoughtInTime (sought_by run.psi c)
sought_timely run (Call.Ask t) g = (timed run g t).0
sought_timely run (Call.Completion t p n) g = tt
sought_timely run (Call.Outcome t p n o) g = tt

module _ (run : Run) (c : Call) (t : Clock) (effect : Effect) (q : t ≡ reading_of c) (e : effect ≡ effect_of c (checked_of run t (sought_by run.psi c))) where
  worked_out : effect ≡ effect_of c (checked_of run (reading_of c) (sought_by run.psi c))
  worked_out = e ∙ ap (λ (x : Clock). effect_of c (checked_of run x (sought_by run.psi c))) q

  pub call_acted : (x : Effect) → effect ≡ x → acted run t x ≡ call_of run c
  call_acted x r = ap (λ (y : Clock). acted run y x) q ∙ (ap (acted run (reading_of c)) (sym r ∙ worked_out) ∙ acted_check run c _ refl)

  pub call_named : length run.window ≡ 512 → (x : Effect) → effect ≡ x → Named run x
  call_named long x r = subst (Named run) (sym worked_out ∙ r) (named_check run long c _ refl)

-- where the node that the checks found stands
pub place_below : (run : Run) → length run.window ≡ 512 → (t : Clock) (sought : Sought) (check : Result (Option Found) Objection) → check ≡ check_of run t sought → place_of (found_by check) < 2048
place_below run long t sought (Err o) q = omega arith
place_below run long t sought (Ok None) q = omega arith
place_below run long t sought (Ok (Some x)) q =
    let h = goes run t sought (Ok (Some x)) q (Some x) refl in
    (named_held run h.limits long x.place x.entry (found_holds run.plan.nodes sought run.window x.place x.entry (sym h.found))).1

-- the run with its reading, and with a place stored
pub rests_acted : (run : Run) (t : Clock) (r : Reply) → run.halt ≡ None → r ≡ cond (is_done run) Reply.Done Reply.Wait
    → answer r (record { plan = run.plan; psi = run.psi; slack = run.slack; progress = run.progress; window = run.window; last = t; halt = run.halt }) ≡ acted run t Effect.Rests
rests_acted run t r h q = rw (h, q)

pub stores_acted : (run : Run) (t : Clock) (i : ℕ) (e : Entry) (r : Reply) → run.halt ≡ None
    → answer r (record { plan = run.plan; psi = run.psi; slack = run.slack; progress = run.progress; window = set run.window i e; last = t; halt = run.halt }) ≡ acted run t (Effect.Stores i e r)
stores_acted run t i e r h = rw h
