-- `limits_kept`: a run in limits is in limits after every call, a made-up one too.
use Rattle.std.specs.Prelude.{◌≡◌, refl, Bool, true, cond, List, [], ◌++◌, ◌⊎◌, ltb, length, get_or, set, Option, Some, None}
use Rattle.std.proofs.Common.{sym, true≢false, inl, inr, ⊎_elim, arith, ltb-true}
use Rattle.std.proofs.Math.Path.{ap, subst}
use Rattle.std.proofs.Math.Bool.{false}
use Prim.Native.Nat.{ℕ, zero, suc, ◌+◌, ◌*◌, ◌≤◌, ◌<◌}
use Rattle.basis.specs.Lists.{Among}
use Rattle.basis.proofs.Laws.Lists.{among_either, among_at}
use Rattle.basis.proofs.Laws.Bools.{by_test}
use Rattle.basis.proofs.Laws.PartsHold.{length_part}
use Rattle.time.specs.declared.Clock.{Clock}
use Rattle.plan.specs.Plan.{past_node, size_of, outcomes_of, emitted_by, move}
use Rattle.plan.specs.Limits.{InLimits, KindNames, OutputNames}
use Rattle.plan.specs.declared.Kind.{Kind}
use Rattle.plan.specs.declared.Output.{Output}
use Rattle.plan.specs.declared.Plan.{Plan}
use Rattle.automaton.specs.Next.{next_of}
use Rattle.automaton.specs.declared.Next.{Next}
use Rattle.times.specs.Engine.{last_position}
use Rattle.times.specs.Queues.{no_instance, pending_of, instance_of}
use Rattle.times.specs.Limits.{InstanceInLimits}
use Rattle.times.specs.declared.Progress.{Progress}
use Rattle.run_window.specs.Window.{vacant, started_of, is_held, is_started, is_due, is_node, starts_before, by_start, placed, vacancies}
use Rattle.run_window.proofs.Laws.Tests.{due_tells, node_tells}
use Rattle.run_window.proofs.Laws.Order.{starts_order, report_order}
use Rattle.run_window.proofs.Laws.Firsts.{First, by_first}
use Rattle.run_window.specs.Places.{Holds}
use Rattle.run_window.proofs.Laws.Placed.{placed_only}
use Rattle.run_window.specs.declared.Entry.{Entry}
use Rattle.run_window.proofs.Laws.Places.{stored_only, cleared_only}
use Rattle.run_path.specs.Path.{Path, activity_number, taken_by, entries_by, path_from, longest_path}
use Rattle.run_path.specs.Pathed.{ProgressIn, Leads, pathed}
use Rattle.run_path.proofs.Laws.Stepping.{next_leads, taken_kept}
use Rattle.run_path.proofs.Laws.InTime.{loads}
use Rattle.run_outcomes.specs.Told.{tell, told_from, told_of}
use Rattle.run_outcomes.specs.Way.{way_on}
use Rattle.run_checks.proofs.Laws.Checks.{by_timely}
use Rattle.run.specs.declared.Run.{Run}
use Rattle.run_checks.specs.declared.Stop.{Stop}
use Rattle.run.specs.declared.Call.{Call}
use Rattle.run.specs.declared.Answer.{Answer}
use Rattle.run_loading.specs.declared.Failure.{Failure}
use Rattle.run_loading.proofs.Laws.Loading.{way_leads}
use Rattle.run.specs.Loading.{Loading}
use Rattle.run_checks.specs.declared.Refusal.{Refusal}
use Rattle.run.specs.Loading.{load, on_way, on_loading, further, most_pending}
use Rattle.run.specs.Limits.{run_in_limits}
use Rattle.run.specs.Calls.{refuse, heard, asked, reported, completed_by, completed, after_loading, cleared, is_marker, hears, learns_by, learns, timely, called, ask_of, completion_of, outcome_of, call_of, kind_of}
use Rattle.demands_run.proofs.Laws.Entries.{brought}
use Rattle.demands_run.proofs.Laws.Telling.{told_cases}
use Rattle.demands_run.proofs.Laws.Loaded.{not_beyond}
use Rattle.demands_log.proofs.Laws.ByCases.{by_halt}
use Rattle.demands.specs.InLimits.{EntryInLimits, HaltInLimits, RunInLimits, StatementLimitsKept}

-- ---- the entries of a path

-- an entry that is loaded names a node of the plan
record Named (p : Plan) (e : Entry) : Type 0 where
  position : e.position ≤ last_position
  activity : e.activity < p.activities
  node : e.node < size_of p e.activity

abbrev AllNamed : Plan → List Entry → Type 0
AllNamed p es = (e : Entry) → Among e es → Named p e

module _ (p : Plan) (limits : InLimits p) where
  by_output : (o : Output) → OutputNames p o → (q n : ℕ) → n < length (emitted_by p o) → (activity_number o < p.activities) × (n < size_of p (activity_number o))
  by_output Output.Empty l q n m = absurd (omega arith)
  by_output (Output.Activity a) l q n m = (l, (let u = length_part past_node p.nodes (64 * a) (size_of p a) in omega arith))

  named_by : (t : ℕ) (g : Progress) → t < p.automaton.count → g.position ≤ last_position → AllNamed p (entries_by p t g)
  named_by t g l q e m =
      let b = brought g.position (activity_number (move p.automaton t).output) (taken_by p t g).schedule 0 (emitted_by p (move p.automaton t).output) e m in
      let n = by_output (move p.automaton t).output (limits.moves t l).output 0 b.number b.within in
      let z : b.number ≡ 0 + b.number = omega arith in
      subst (Named p) (sym b.entry) record { position = q; activity = n.0; node = subst (λ (k : ℕ). k < size_of p (activity_number (move p.automaton t).output)) z n.1 }

  -- no transition of a path that passes no limit is past the last position
  low_position : (k t : ℕ) (g : Progress) → (path_from p (suc k) (Next.Goes t) g).beyond ≡ false → g.position ≤ last_position
  unfolding path_from
  low_position k t g = by_test (λ (q : Path). q.beyond ≡ false → g.position ≤ last_position) (taken_by p t g).beyond _ _ (λ c b. absurd (true≢false b)) (λ c b. (not_beyond p t g c).0)

  named_path : (k : ℕ) (next : Next) (g : Progress) → Leads p.automaton.count next → ProgressIn p g → (path_from p k next g).beyond ≡ false → AllNamed p (path_from p k next g).entries
  unfolding path_from
  named_path zero next g l h b = λ e m. absurd m
  named_path (suc k) Next.Ended g l h b = λ e m. absurd m
  named_path (suc k) (Next.Waits x) g l h b = λ e m. absurd m
  named_path (suc k) (Next.Goes t) g l h b =
      go (low_position k t g b)
      (λ h. named_path k (next_of p.automaton (taken_by p t g).progress.state) (taken_by p t g).progress (next_leads p.automaton (taken_by p t g).progress.state) h) b
    where
      rest : Path
      rest = path_from p k (next_of p.automaton (taken_by p t g).progress.state) (taken_by p t g).progress

      whole : Bool → Path
      whole c = cond c (record { beyond = true; entries = []; progress = g }) (record { beyond = rest.beyond; entries = entries_by p t g ++ rest.entries; progress = rest.progress })

      go : g.position ≤ last_position → (ProgressIn p (taken_by p t g).progress → rest.beyond ≡ false → AllNamed p rest.entries) → (whole (taken_by p t g).beyond).beyond ≡ false → AllNamed p (whole (taken_by p t g).beyond).entries
      go q more = by_test (λ (r : Path). r.beyond ≡ false → AllNamed p r.entries) (taken_by p t g).beyond _ _ (λ c z. absurd (true≢false z))
          (λ c z e m. ⊎_elim (λ n. named_by t g l q e n) (λ n. more (taken_kept p t g limits l h c) z e n) (among_either e (entries_by p t g) rest.entries m))

-- the way on is a transition of the plan
by_way : {A : Type 0} (P : A → Type 0) (n : Next) (c : ℕ) → Leads c n → (f : ℕ → A) (z : A) → ((t : ℕ) → t < c → P (f t)) → P z → P (on_way n f z)
by_way P Next.Ended c l f z k q = q
by_way P (Next.Goes t) c l f z k q = k t l
by_way P (Next.Waits e) c l f z k q = q

-- ---- loading

record LoadingKept (l : Loading) : Type 0 where
  kept : RunInLimits l.run

abbrev Entries : Plan → List Entry → Type 0
Entries p w = (i : ℕ) (e : Entry) → Holds w i e → EntryInLimits p e

placed_kept : (p : Plan) (limits : InLimits p) (t : ℕ) (g : Progress) → t < p.automaton.count → ProgressIn p g → (path_from p longest_path (Next.Goes t) g).beyond ≡ false → (w : List Entry) → Entries p w
    → Entries p (placed w (path_from p longest_path (Next.Goes t) g).entries)
placed_kept p limits t g l h b w old i e q = ⊎_elim (λ k. old i e k) (λ k. new k.0.number k.0.listed k.1) (placed_only w es i e q)
  where
    es : List Entry
    es = (path_from p longest_path (Next.Goes t) g).entries

    new : (k : ℕ) → k < length es → e ≡ get_or es k vacant → EntryInLimits p e
    new k m z =
        let n = named_path p limits longest_path (Next.Goes t) g l h b (get_or es k vacant) (among_at vacant es k m) in
        let u = (loads p limits (Next.Goes t) g l h (pathed (path_from p longest_path (Next.Goes t) g)) refl).times b k (subst (λ (x : Entry). is_held x.phase ≡ true) z q.held) in
        subst (EntryInLimits p) (sym z) record { position = n.position; activity = n.activity; node = n.node; start = u.0; end = u.1 }

further_kept : (k : ℕ) (run : Run) → RunInLimits run → LoadingKept (further k run)
unfolding further load
further_kept zero run r = record { kept = r }
further_kept (suc k) run r =
    by_way LoadingKept (way_on run.plan.automaton run.progress (next_of run.plan.automaton run.progress.state)) run.plan.automaton.count (way_leads run.plan.automaton run.progress _) _ _
    (λ t l. goes t l (λ r s. further_kept k r s)) (record { kept = r })
  where
    goes : (t : ℕ) → t < run.plan.automaton.count → ((r : Run) → RunInLimits r → LoadingKept (further k r)) → LoadingKept (on_loading (load run (Next.Goes t)) (further k))
    goes t l more =
        by_test (λ (m : Loading). LoadingKept (on_loading m (further k))) (path_from run.plan longest_path (Next.Goes t) run.progress).beyond _ _ (λ b. record { kept = r }) λ b.
        by_test (λ (m : Loading). LoadingKept (on_loading m (further k))) (ltb (vacancies run.window) (length (path_from run.plan longest_path (Next.Goes t) run.progress).entries)) _ _ (λ f. record { kept = r }) λ f.
        more _ record {
          plan = r.plan;
          psi = r.psi;
          slack = r.slack;
          progress = (loads run.plan r.plan (Next.Goes t) run.progress l r.progress (pathed (path_from run.plan longest_path (Next.Goes t) run.progress)) refl).limits b;
          window = placed_kept run.plan r.plan t run.progress l r.progress b run.window r.window;
          halt = r.halt;
        }

-- ---- an answer

record AnswerKept (a : Answer) : Type 0 where
  kept : RunInLimits a.run

module _ (run : Run) (r : RunInLimits run) where
  next : (t : Clock) (h : Option Stop) (g : Progress) (w : List Entry) → HaltInLimits h → ProgressIn run.plan g → Entries run.plan w → RunInLimits (heard run t h g w)
  next t h g w halt progress window = record { plan = r.plan; psi = r.psi; slack = r.slack; progress = progress; window = window; halt = halt }

  -- the node that a stop names
  names : (i : ℕ) (e : Entry) → Holds run.window i e → (e.position ≤ last_position) × (e.node < 64)
  names i e h = let l = r.window i e h in (l.position, (let u = (r.plan.sizes e.activity l.activity).1 in let v = l.node in omega arith))

  asked_kept : (t : Clock) → AnswerKept (asked run t)
  unfolding asked
  asked_kept t =
      by_first (is_due run.psi t) (starts_before run.plan.nodes) (starts_order run.plan.nodes) run.window AnswerKept _ _
      (λ i e f. record { kept = next t None run.progress _ tt r.progress (λ j x q. started i e f j x (stored_only run.window i (started_of e) j x q)) })
      (λ n. record { kept = next t None run.progress run.window tt r.progress r.window })
    where
      started : (i : ℕ) (e : Entry) → First (is_due run.psi t) (starts_before run.plan.nodes) run.window i e → (j : ℕ) (x : Entry) → ((j ≡ i) × (started_of e ≡ x)) ⊎ ((j ≡ i → ⊥) × Holds run.window j x) → EntryInLimits run.plan x
      started i e f j x (inl q) =
          let l = r.window i e (record { entry = f.stands; held = ap is_held ((due_tells run.psi t e).0 f.passes).0 }) in
          subst (EntryInLimits run.plan) q.1 record { position = l.position; activity = l.activity; node = l.node; start = l.start; end = l.end }
      started i e f j x (inr q) = r.window j x q.1

  cleared_kept : (t : Clock) (i : ℕ) (g : Progress) → ProgressIn run.plan g → RunInLimits (cleared run t i g)
  cleared_kept t i g h = next t None g (set run.window i vacant) tt h (λ j x q. r.window j x (cleared_only run.window i j x q).1)

  -- a report of a node that stands in the window
  reported_kept : (p n : ℕ) (f : ℕ → Entry → Answer) → ((i : ℕ) (e : Entry) → Holds run.window i e → AnswerKept (f i e)) → AnswerKept (reported run p n f)
  reported_kept p n f h =
      by_first (is_node p n) by_start report_order run.window AnswerKept _ _
      (λ i e q. by_test AnswerKept (is_started e.phase) (f i e) (refuse run Refusal.NotStarted) (λ s. h i e (record { entry = q.stands; held = ((node_tells p n e).0 q.passes).0 })) (λ s. record { kept = r })) (λ q. record { kept = r })

  completed_by_kept : (t : Clock) (i : ℕ) (k : Kind) → AnswerKept (completed_by run t i k)
  completed_by_kept t i (Kind.Action a x) = record { kept = cleared_kept t i run.progress r.progress }
  completed_by_kept t i (Kind.Claim x) = record { kept = r }
  completed_by_kept t i (Kind.Release x) = record { kept = r }
  completed_by_kept t i (Kind.Event x) = record { kept = r }

  completed_kept : (t : Clock) (p n : ℕ) → AnswerKept (completed run t p n)
  unfolding completed
  completed_kept t p n = reported_kept p n _ (λ i e h. completed_by_kept t i (kind_of run e))

  told_kept : (x : Entry) (e o : ℕ) → e < run.plan.events → o < outcomes_of run.plan e → ProgressIn run.plan (told_of run.progress e x o)
  told_kept x e o l has = record {
    available = r.progress.available;
    latest = r.progress.latest;
    lengths = r.progress.lengths;
    pending = λ d i m n.
        ⊎_elim (λ q. subst (InstanceInLimits (outcomes_of run.plan d)) (sym q) (r.progress.pending d i m n))
        (λ (q : (8 * e ≤ 8 * d + i) × (8 * d + i < 8 * e + pending_of run.progress e) × (get_or (told_from x.position x.node o (8 * e) (pending_of run.progress e) run.progress.pending) (8 * d + i) no_instance ≡ tell (instance_of run.progress d i) o)).
        let old = r.progress.pending d i m n in
        let same : e ≡ d = (let a = q.0 in let b = q.1 in let u = r.progress.lengths e l in let w = r.progress.lengths d m in omega arith) in
        subst (InstanceInLimits (outcomes_of run.plan d)) (sym q.2) record { position = old.position; node = old.node; end = old.end; told = subst (λ (k : ℕ). o < outcomes_of run.plan k) same has })
        (told_cases x.position x.node o (pending_of run.progress e) (8 * e) run.progress.pending (8 * d + i));
    position = r.progress.position;
    state = r.progress.state;
  }

  loaded_kept : (f : Option Failure) (next : Run) → RunInLimits next → AnswerKept (after_loading f next)
  loaded_kept None next h = record { kept = h }
  loaded_kept (Some Failure.Full) next h = record { kept = record { plan = h.plan; psi = h.psi; slack = h.slack; progress = h.progress; window = h.window; halt = tt } }
  loaded_kept (Some Failure.Beyond) next h = record { kept = record { plan = h.plan; psi = h.psi; slack = h.slack; progress = h.progress; window = h.window; halt = tt } }

  learns_by_kept : (t : Clock) (i : ℕ) (x : Entry) (o : ℕ) (k : Kind) → KindNames run.plan k → AnswerKept (learns_by run t i x o k)
  learns_by_kept t i x o (Kind.Action a y) n = record { kept = r }
  learns_by_kept t i x o (Kind.Claim y) n = record { kept = r }
  learns_by_kept t i x o (Kind.Release y) n = record { kept = r }
  learns_by_kept t i x o (Kind.Event e) n =
      by_test AnswerKept (ltb o (outcomes_of run.plan e)) (hears run t i x e o) (refuse run Refusal.OutcomeLacking)
      (λ has. by_test AnswerKept (is_marker run.plan e) _ _ (λ m. record { kept = cleared_kept t i run.progress r.progress })
      (λ m. loaded_kept (further most_pending (after has)).failure (further most_pending (after has)).run (further_kept most_pending (after has) (cleared_kept t i (told_of run.progress e x o) (told_kept x e o n (ltb-true _ _ has)))).kept))
      (λ has. record { kept = r })
    where
      after : ltb o (outcomes_of run.plan e) ≡ true → Run
      after has = cleared run t i (told_of run.progress e x o)

  learns_kept : (t : Clock) (p n o : ℕ) → AnswerKept (learns run t p n o)
  unfolding learns
  learns_kept t p n o = reported_kept p n _ (λ i e h. let l = r.window i e h in learns_by_kept t i e o (kind_of run e) (r.plan.nodes e.activity e.node l.activity l.node).names)

  timely_kept : (t : Clock) (go : Answer) → AnswerKept go → AnswerKept (timely run t go)
  timely_kept t go h =
      by_timely AnswerKept _ _ _ _ _ (record { kept = r })
      (λ i e q. record { kept = next t _ run.progress run.window (names i e q) r.progress r.window })
      (λ i e q. record { kept = next t _ run.progress run.window (names i e q) r.progress r.window }) h

  called_kept : (t : Clock) (go : Answer) → AnswerKept go → AnswerKept (called run t go)
  called_kept t go h =
      by_test AnswerKept (run_in_limits run) _ _ (λ l. by_halt AnswerKept run.halt _ _ (λ s e. record { kept = r }) (λ e. timely_kept t go h)) (λ l. record { kept = r })

  call_kept : (c : Call) → AnswerKept (call_of run c)
  unfolding call_of ask_of completion_of outcome_of
  call_kept (Call.Ask t) = called_kept t _ (asked_kept t)
  call_kept (Call.Completion t p n) = called_kept t _ (completed_kept t p n)
  call_kept (Call.Outcome t p n o) = called_kept t _ (learns_kept t p n o)

pub limits_kept : StatementLimitsKept
limits_kept run c r = (call_kept run r c).kept
