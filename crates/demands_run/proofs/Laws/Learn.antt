-- An accepted outcome goes its way: it is stored, and then as many paths are loaded as the log tells of.
use Rattle.std.specs.Prelude.{◌≡◌, refl, true, List, [], ◌∷◌, ℕ, ◌≤◌, ◌<◌, ltb, length, get_or, set, Option, Some, None}
use Rattle.std.proofs.Common.{sym, ap, ◌∙◌, subst, inl, inr, ⊎_elim, arith, ltb-true, length-set}
use Rattle.std.proofs.Math.Decide.{ℕ_discrete}
use Rattle.time.specs.declared.Clock.{Clock}
use Rattle.plan.specs.Plan.{outcomes_of}
use Rattle.plan.specs.declared.Kind.{Kind}
use Rattle.plan.specs.declared.Plan.{Plan}
use Rattle.automaton.specs.declared.Next.{Next}
use Rattle.automaton.proofs.Laws.Cases.{waits_same, ended_waits}
use Rattle.times_combined.specs.Combined.{Is}
use Rattle.times_combined.specs.Paths.{Follows}
use Rattle.times.specs.Queues.{queue_of}
use Rattle.times.specs.declared.Told.{Told}
use Rattle.times.specs.declared.Instance.{Instance}
use Rattle.times.specs.declared.Progress.{Progress}
use Rattle.run_window.specs.Window.{vacant, is_started}
use Rattle.run_window.specs.Places.{Holds}
use Rattle.run_window.specs.declared.Entry.{Entry}
use Rattle.run_window.proofs.Laws.Places.{stored_kept, stored_each, cleared_only, cleared_once}
use Rattle.run_limits.specs.Window.{entry_in_limits}
use Rattle.run_outcomes.specs.Told.{told_of}
use Rattle.run.specs.Calls.{cleared, kind_of, after_loading}
use Rattle.run.specs.Loading.{further, most_pending}
use Rattle.run.specs.declared.Run.{Run}
use Rattle.run_checks.specs.declared.Stop.{Stop}
use Rattle.run.specs.declared.Call.{Call}
use Rattle.run.specs.declared.Reply.{Reply}
use Rattle.run_loading.specs.declared.Failure.{Failure}
use Rattle.run.specs.Limits.{halt_in_limits}
use Rattle.run.specs.Loading.{Loading}
use Rattle.run.specs.Inner.Calls.{reply_after, halt_after}
use Rattle.demands_log.specs.Log.{Id, Log, Always, said, Accepts, Reports, Reported, StoppedIn}
use Rattle.demands_log.specs.Log as Log
use Rattle.demands_theory.proofs.Laws.Machine.{World, Held}
use Rattle.demands_theory.proofs.Laws.Way.{learns, Agrees}
use Rattle.demands_theory.proofs.Laws.Way as Way
use Rattle.demands_theory.specs.Loading.{Unreported, EndsAt, whole, beyond, full, Loads}
use Rattle.demands_theory.proofs.Laws.Accounts.{always_map}
use Rattle.demands_theory.proofs.Laws.OfPlan.{world_of}
use Rattle.demands_theory.specs.Nodes.{whose, length_of, id_of}
use Rattle.demands_theory.specs.TheWord.{state_after, next_after, whole_of, Oldest, Stuck, ended, waits}
use Rattle.demands_theory.proofs.Laws.Invariant.{Invariant}
use Rattle.demands_theory.proofs.Laws.Growth.{here, extends_self}
use Rattle.demands_theory.proofs.Laws.Replies.{failed_stopped}
use Rattle.demands_theory.proofs.Laws.Longest.{within_loads, loads_end, ends_whole, ends_beyond, ends_full}
use Rattle.demands_theory.proofs.Laws.TheWord.{told_once, takes_follows}
use Rattle.demands_theory.proofs.Laws.World.{old_position, new_start}
use Rattle.demands_theory.proofs.Laws.OfRun.{machine}
use Rattle.demands_run.proofs.Laws.Engine.{EngineLaws}
use Rattle.demands_run.proofs.Laws.Stands.{Stands, Accepted, Good}
use Rattle.demands_run.proofs.Laws.Bounds.{vacant_passes}
use Rattle.demands_run.proofs.Laws.Ways.{run_of, Calm, Goes, Learning}
use Rattle.demands_run.proofs.Laws.Counts.{pending_length, pending_few}
use Rattle.demands_run.proofs.Laws.Loaded.{Loaded}
use Rattle.demands_run.proofs.Laws.Paths.{is_told, tolds}
use Rattle.demands_run.proofs.Laws.Sums.{sum_at_most}
use Rattle.demands_run.proofs.Laws.Further.{Onto, still, hearing, Furthered, further_loads, told}
use Rattle.demands_run.proofs.Laws.Informed.{stands_informed}
use Rattle.demands_run.proofs.Laws.EventAt as EventAt

tolds_few : (q : List Instance) → tolds q ≤ length q
tolds_few [] = omega arith
tolds_few (x ∷ q) = let u = tolds_few q in let v = one x.told in omega arith
  where
    one : (t : Told) → is_told t ≤ 1
    one Told.Nothing = omega arith
    one (Told.Outcome o) = omega arith

failed_limits : (f : Option Failure) → halt_in_limits (halt_after f) ≡ true
failed_limits None = refl
failed_limits (Some Failure.Full) = refl
failed_limits (Some Failure.Beyond) = refl

module _ (laws : EngineLaws) (p : Plan) (psi : Clock) (slack : ℕ) (given : Accepted p psi slack) (available : ℕ → ℕ) (log : Log) (is : List ℕ) (g : Progress) (w : List Entry) (last : Clock) (halt : Option Stop)
    (good : Good p psi slack available log is (run_of p psi slack given available g w last halt))
    (v : Invariant (world_of p available) machine psi.0 slack is log (run_of p psi slack given available g w last halt)) where
  abbrev W : World
  W = world_of p available

  abbrev run : Run
  run = run_of p psi slack given available g w last halt

  path : Follows p p.automaton.initial is (state_after p is)
  path = EventAt.path p psi slack given available log is g w last halt good v

  module _ (t : Clock) (i : ℕ) (e : Entry) (ev o : ℕ) (going : halt ≡ None) (calm : Calm p psi slack given available log is g w last halt good t) (held : Holds w i e) (started : is_started e.phase ≡ true)
      (kind : kind_of run e ≡ Kind.Event ev) (has : ltb o (outcomes_of p ev) ≡ true) where
    abbrev c : Call
    c = Call.Outcome t e.position e.node o

    agrees : Agrees W is e
    agrees = EventAt.agrees p psi slack given available log is g w last halt good v i e ev held kind

    unstopped : StoppedIn log → ⊥
    unstopped = (v.clock going).unstopped

    before : Stuck p log is
    before = good.whole (λ q. unstopped (failed_stopped log q))

    event : Is (whole_of p is) (whose (id_of e)) (Kind.Event ev)
    event = EventAt.event p psi slack given available log is g w last halt good v i e ev held kind

    low : ev < p.events
    low = EventAt.low p psi slack given available log is g w last halt good v i e ev held kind

    inside : e.position < length_of is
    inside = EventAt.inside p psi slack given available log is g w last halt good v i e ev held kind

    accepts : (f : Option Failure) → Accepts (reply_after f) log
    accepts None = tt
    accepts (Some Failure.Full) = (tt, unstopped)
    accepts (Some Failure.Beyond) = (tt, unstopped)

    abbrev g1 : Progress
    g1 = told_of g ev e o

    abbrev w1 : List Entry
    w1 = set w i vacant

    abbrev l : Loading
    l = further most_pending (cleared run t i g1)

    -- the log with this call, whose answer tells how loading went
    module _ (f : Option Failure) where
      abbrev log1 : Log
      log1 = said c (reply_after f) ∷ log

      stands : Stands p available log1 is g1
      stands = stands_informed p given.lawful given.automaton available log is g good.stands e ev o event inside low (ltb-true _ _ has) t (reply_after f) (accepts f)

      start : Loaded p given.lawful given.automaton available log1 is w1 is g1 w1
      start = record {
        stands = stands;
        tail = here;
        grows = extends_self W is;
        kept = λ j x q. q;
        only = λ j x q. inl q;
        agree = λ j x q. v.accounts.agree j x (cleared_only w i j x q).1;
        once = cleared_once w i (λ j k x y q r z. v.accounts.distinct j k x y q r (λ n. record { position = z.0 n; node = z.1 n }));
        all = λ x n. inl n;
        entries = stored_each (λ x. entry_in_limits p.activities p.sizes x ≡ true) w i vacant good.entries (vacant_passes p.activities p.sizes);
        long = length-set w i vacant ∙ good.long;
      }

      few : told p given.lawful given.automaton available log1 is w1 laws psi slack t None g1 ≤ most_pending
      few =
          let u = sum_at_most p.events 8 (λ e. tolds (queue_of g1 e)) (λ e m.
          let a = tolds_few (queue_of g1 e) in
          let b = pending_length p given.lawful given.automaton available log1 is g1 stands e in
          let d = pending_few p given.lawful given.automaton available log1 is g1 stands e in
          omega arith) in
          let x = given.lawful.file.limits.events in
          omega arith

      reports_once : Always (λ y older. (x : Id) → Reports y.call y.reply older x → Reported older x → ⊥) log1
      reports_once = (λ x q r. v.accounts.unreported i e held (subst (Reported log) (sym q.0) r), always_map _ _ (λ y older h x q. (h x q).once) log v.accounts.reports)

      unreported : (j : ℕ) (y : Entry) → Holds w1 j y → Reported log1 (id_of y) → ⊥
      unreported j y q = ⊎_elim (λ r. (cleared_only w i j y q).0 (v.accounts.distinct j i y e (cleared_only w i j y q).1 held (sym r.0))) (λ r. v.accounts.unreported j y (cleared_only w i j y q).1 r)

      held_still : (x : Id) → Unreported p log1 is x → Held (Holds w1) x
      held_still x q = ⊎_elim (λ (k : Held (Holds w) x). go k (ℕ_discrete k.0 i)) (λ r. absurd (q.unreported (inr r))) (v.accounts.held x q.node)
        where
          go : (k : Held (Holds w) x) → Dec (k.0 ≡ i) → Held (Holds w1) x
          go k (yes z) =
              let same : k.1 ≡ e = sym k.2.entry ∙ ap (λ (n : ℕ). get_or w n vacant) z ∙ held.entry in
              absurd (q.unreported (inl (sym (ap id_of same) ∙ k.3, accepts f)))
          go k (no z) = (k.0, k.1, stored_kept w i vacant k.0 k.1 z k.2, k.3)

      old_report : (x : Id) → Reported log1 x → x.position < length_of is
      old_report x = ⊎_elim (λ r. subst (λ (z : Id). z.position < length_of is) r.0 inside) (λ r. old_position p given.lawful available is (state_after p is) path x (v.accounts.reported_node x r))

      loads : Furthered p given.lawful given.automaton available log1 is w1 laws psi slack t None is g1 l
      loads =
          further_loads p given.lawful given.automaton available log1 is w1 laws psi slack t None (told_once log1 reports_once) unreported held_still old_report
          most_pending is g1 w1 start good.rests few

      after_loading_lem : l.failure ≡ f → Good p psi slack available log1 loads.word (run_of p psi slack given available loads.progress loads.window t (halt_after f))
      after_loading_lem q =
          let x = loads in
          let e = subst (EndsAt p available log1 x.word) q (loads_end p available log1 is x.word l.failure x.says) in
          record {
            same_plan = refl;
            same_psi = refl;
            same_slack = refl;
            stands = x.loaded.stands;
            rests = x.rests;
            within = within_loads p available log1 is x.word l.failure x.says good.within;
            whole = ends_whole p available log1 x.word c log f e;
            beyond = ends_beyond p available log1 x.word f e;
            full = ends_full p available log1 x.word f e;
            entries = x.loaded.entries;
            long = x.loaded.long;
            halt = failed_limits f;
          }

      -- what is heard first is the outcome of this call
      heard_now : (d : ℕ) (x : Id) (u : ℕ) → next_after p is ≡ Next.Waits d → Log.Told log1 x u → (Log.Told log x u → ⊥) → id_of e ≡ x
      heard_now d x u n (inl q) new = q.0
      heard_now d x u n (inr q) new = absurd (new q)

      not_told : (d : ℕ) (x : Id) (u : ℕ) → next_after p is ≡ Next.Waits d → Stuck p log is → Oldest p is d x → Log.Told log x u → ⊥
      not_told d x u n (ended q) old k = ended_waits (sym q ∙ n)
      not_told d x u n (waits b m none) old k = none x u (subst (λ (z : ℕ). Oldest p is z x) (waits_same (sym n ∙ m)) old) k

      -- nothing that is loaded starts before the reported event's completion
      held_back : (word : List ℕ) → Onto p given.lawful given.automaton available log1 is w1 laws psi slack t None is g1 word → Follows p p.automaton.initial word (state_after p word)
          → (y : Entry) → Agrees W word y → length_of is ≤ y.position → e.end.0 ≤ y.start.0
      held_back word still q y a m = absurd (let u = old_position p given.lawful available is (state_after p is) path (id_of y) a.node in omega arith)
      held_back word (hearing {t = n} s h b) q y a m =
          let now = heard_now h.event h.instance h.outcome h.awaits h.told (not_told h.event h.instance h.outcome h.awaits before h.oldest) in
          let u = new_start p given.lawful available n is word (state_after p word) h.event h.outcome q b (takes_follows p log1 (n ∷ is) h.takes).0 h.input h.instance h.oldest (id_of y) a.node m in
          let x : W.completion is (id_of e) ≡ W.completion is h.instance = ap (W.completion is) now in
          let z = agrees.completes in
          let d = a.starts in
          omega arith

      -- the whole way, from the run that loading hands back
      way : (x : Furthered p given.lawful given.automaton available log1 is w1 laws psi slack t None is g1 l) → Way.Loads W (Holds w) (Holds x.window) i e.end.0 is x.word
      way x = record {
        extends = x.loaded.grows;
        kept = λ j y n q. x.loaded.kept j y (stored_kept w i vacant j y n q);
        only = λ j y q. ⊎_elim (λ r. inl (cleared_only w i j y r)) (λ r. inr record {
          agrees = x.loaded.agree j y q;
          unstarted = r.0;
          new = λ n. let u = old_position p given.lawful available is (state_after p is) path (id_of y) n in let m = r.1 in omega arith;
          held_back = held_back x.word x.onto (takes_follows p log1 x.word x.loaded.stands.taken) y (x.loaded.agree j y q) r.1;
        }) (x.loaded.only j y q);
        distinct = λ j k y z q r s. x.loaded.once j k y z q r (ap (λ (n : Id). n.position) s, ap (λ (n : Id). n.node) s);
        all = x.loaded.all;
      }

    learnt_way : (f : Option Failure) → l.failure ≡ f → Goes p psi slack given available log is g w last halt good c (after_loading f l.run)
    learnt_way None q =
        let x = loads None in
        subst (λ (r : Run). Goes p psi slack given available log is g w last halt good c (after_loading None r)) (sym x.same) (
          x.word,
          learns i e None (record { going = going; last = refl; halt = refl }) calm held started (way None x),
          after_loading_lem None q,
        )
    learnt_way (Some Failure.Full) q =
        let x = loads (Some Failure.Full) in
        subst (λ (r : Run). Goes p psi slack given available log is g w last halt good c (after_loading (Some Failure.Full) r)) (sym x.same) (
          x.word,
          learns i e (Some Failure.Full) (record { going = going; last = refl; halt = refl }) calm held started (way (Some Failure.Full) x),
          after_loading_lem (Some Failure.Full) q,
        )
    learnt_way (Some Failure.Beyond) q =
        let x = loads (Some Failure.Beyond) in
        subst (λ (r : Run). Goes p psi slack given available log is g w last halt good c (after_loading (Some Failure.Beyond) r)) (sym x.same) (
          x.word,
          learns i e (Some Failure.Beyond) (record { going = going; last = refl; halt = refl }) calm held started (way (Some Failure.Beyond) x),
          after_loading_lem (Some Failure.Beyond) q,
        )

  pub learning_says : (t : Clock) (i : ℕ) (e : Entry) (ev o : ℕ) → halt ≡ None → Calm p psi slack given available log is g w last halt good t → Holds w i e → is_started e.phase ≡ true → kind_of run e ≡ Kind.Event ev → ltb o (outcomes_of p ev) ≡ true
      → (us : List ℕ) × Loads p available (said (Call.Outcome t e.position e.node o) Reply.Taken ∷ log) is us (further most_pending (cleared run t i (told_of g ev e o))).failure
  learning_says t i e ev o going calm held started kind has = let x = loads t i e ev o going calm held started kind has None in (x.word, x.says)

  pub learning : Learning p psi slack given available log is g w last halt good
  learning t i e ev o going calm held started kind has = learnt_way t i e ev o going calm held started kind has (further most_pending (cleared run t i (told_of g ev e o))).failure refl
