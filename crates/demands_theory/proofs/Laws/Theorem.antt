-- Demand 3, from what the run supplies: the invariant after a list of calls, and the claim that it gives of every word that goes
-- on from the one that is loaded.
use Rattle.std.specs.Prelude.{◌≡◌, refl, Bool, true, false, List, [], ◌∷◌, ◌↔◌, ℕ}
use Rattle.std.proofs.Common.{sym, ap, ◌∙◌, subst, true≢false, inl, inr, ⊎_elim, arith}
use Rattle.plan.specs.declared.Plan.{Plan}
use Rattle.times_combined.specs.Combined.{Ident}
use Rattle.times_combined.specs.Paths.{Lawful, Follows}
use Rattle.times_combined.specs.Times.{Timing}
use Rattle.times_combined.proofs.Laws.Theorems.{plan_times_only}
use Rattle.run_window.specs.Window.{is_started}
use Rattle.run_window.specs.Places.{Holds}
use Rattle.run_window.specs.declared.Entry.{Entry}
use Rattle.run.specs.Calls.{call_of}
use Rattle.run.specs.declared.Run.{Run}
use Rattle.run.specs.declared.Call.{Call}
use Rattle.run.specs.declared.Reply.{Reply}
use Rattle.run_checks.specs.declared.Stop.{Stop}
use Rattle.demands_log.specs.Log.{Id, Said, said, Log, Always, Started, StoppedBy, Reports, Reported, FailedIn, Finishes}
use Rattle.demands_log.specs.Host.{Reading, None, At}
use Rattle.demands_log.specs.Drive.{Driven, drive}
use Rattle.demands_theory.proofs.Laws.Machine.{World, Finished, Waiting, before}
use Rattle.demands_theory.proofs.Laws.Machine as Machine
use Rattle.demands_theory.specs.Nodes.{whose, Work, id_of}
use Rattle.demands_theory.specs.TheWord.{state_after, whole_of, Tail}
use Rattle.demands_theory.specs.Loading.{Unreported, PathBeyond, PathFull, Fits}
use Rattle.demands_theory.proofs.Laws.OfPlan.{world_of}
use Rattle.demands_theory.proofs.Laws.OfRun.{machine}
use Rattle.demands_theory.specs.Demand.{Held, OfTheWord, Ends, Demand3}
use Rattle.demands_theory.proofs.Laws.Way.{Agrees, Extends, RightActivity}
use Rattle.demands_theory.proofs.Laws.Works.{Works, Opened}
use Rattle.demands_theory.proofs.Laws.Accounts.{always_map, no_report, agree_later, BegunAt, EndedAt, Accounts, begun_later, ended_later}
use Rattle.demands_theory.proofs.Laws.Invariant.{MildHalt, Latest, Invariant}
use Rattle.demands_theory.proofs.Laws.Replies.{not_going}
use Rattle.demands_theory.proofs.Laws.Keeping.{kept}

abbrev IsNone : Reading → Type 0
IsNone None = Unit {0}
IsNone (At u) = ⊥

none_at : (u : ℕ) → None ≡ At u → ⊥
none_at u e = subst IsNone e tt

-- an answer done reports nothing
finish_reports : (c : Call) (r : Reply) (older : Log) (x : Id) → Finishes r → Reports c r older x → ⊥
finish_reports c (Reply.Start _ _ _) older x p q = elim p [ ]
finish_reports c Reply.Wait older x p q = elim p [ ]
finish_reports c Reply.Taken older x p q = elim p [ ]
finish_reports c (Reply.Refused _) older x p q = elim p [ ]
finish_reports c (Reply.Stopped _) older x p q = elim p [ ]
finish_reports c Reply.Done older x p q = no_report c Reply.Done older x (λ z. z) q

finished_before : (log : Log) → Finished log → (x : Id) → Reported log x → Reported (before log) x
finished_before [] p x _ = elim p [ ]
finished_before (y ∷ older) p x (inl q) = absurd (finish_reports y.call y.reply older x p q)
finished_before (y ∷ older) p x (inr q) = q

module _ (W : World) (psi slack : ℕ) (Good : Log → W.Word → Run → Type 0) where
  pub invariant_open : (word : W.Word) (run : Run) → Opened W machine Good word run → Invariant W machine psi slack word [] run
  invariant_open word run o = record {
    accounts = record {
      agree = o.agree;
      distinct = o.distinct;
      unreported = λ i e h p. p;
      held = λ id n. inl (o.all id n);
      started_node = λ id p. absurd p;
      reported_node = λ id p. absurd p;
      waiting = λ i e h s p. p;
      running = λ i e h s. absurd (true≢false (sym s ∙ o.unstarted i e h));
      starts = tt;
      reports = tt;
      activities = tt;
    };
    clock = λ g. record {
      unstopped = λ p. p;
      last_is = λ u e. absurd (none_at u e);
      asked = λ u p. absurd p;
      idle = λ p. absurd p;
      within = λ u q. absurd (none_at u q);
    };
    halted = λ s e. absurd (not_going s (sym e ∙ o.going));
    stopped = λ s p. absurd p;
    numbers = tt;
    latest = record { done_final = λ p. absurd p; done_empty = λ p. absurd p; wait_only = λ p. absurd p };
    mild = λ C m h. (tt, subst MildHalt (sym o.going) tt);
  }

  pub invariant_drive : Works W machine psi slack Good → (cs : List Call) (log : Log) (word : W.Word) (run : Run) → Good log word run → Invariant W machine psi slack word log run →
      (later : W.Word) × Good (drive log run cs).log later (drive log run cs).run × Invariant W machine psi slack later (drive log run cs).log (drive log run cs).run
  invariant_drive w [] log word run g v = (word, g, v)
  invariant_drive w (c ∷ cs) log word run g v =
      let n = w.ways log word run g v c in
      invariant_drive w cs (said c (call_of run c).reply ∷ log) n.0 (call_of run c).run n.2
      (kept W machine psi slack Good w log word run g v c (call_of run c).reply (call_of run c).run n.0 n.1)

-- ---- the claim

-- `word` is loaded, and u goes on from it; S and C are times of u
module _ (p : Plan) (lawful : Lawful p) (psi slack : ℕ) (available : ℕ → ℕ) (word u : List ℕ) (d : Driven) (v : Invariant (world_of p available) machine psi slack word d.log d.run)
    (path : Follows p p.automaton.initial u (state_after p u)) (begins : Tail word u) (x : Extends (world_of p available) word u) (same : (FailedIn d.log → ⊥) → word ≡ u)
    (fits : Fits p available d.log word) (longest : (y : List ℕ) → Tail y u → Fits p available d.log y → Tail y word)
    (beyond : StoppedBy d.log Stop.Beyond → PathBeyond p available d.log word) (full : StoppedBy d.log Stop.Full → PathFull p available d.log word)
    (S C : Ident → ℕ) (times : Timing (whole_of p u) available S C) where
  abbrev W : World
  W = world_of p available

  a : Accounts W psi slack word d.log (Holds d.run.window)
  a = v.accounts

  start_is : (y : Id) → W.Node u y → S (whose y) ≡ W.start u y
  start_is y n = (plan_times_only p lawful available u (state_after p u) path S C times (whose y) n.0 n.1.0 n.1.1).0

  end_is : (y : Id) → W.Node u y → C (whose y) ≡ W.completion u y
  end_is y n = (plan_times_only p lawful available u (state_after p u) path S C times (whose y) n.0 n.1.0 n.1.1).1

  starts : {P : Said → Log → Type 0} → ((y : Said) (older : Log) → BegunAt W psi slack u y older → P y older) → Always P d.log
  starts {P} f =
      always_map (BegunAt W psi slack word) P (λ y older h. f y older (λ z q. begun_later W psi slack word d.log (Holds d.run.window) a u x older y.call z (h z q))) d.log a.starts

  reports : {P : Said → Log → Type 0} → ((y : Said) (older : Log) → EndedAt W psi u y older → P y older) → Always P d.log
  reports {P} f =
      always_map (EndedAt W psi word) P (λ y older h. f y older (λ z q. ended_later W psi slack word d.log (Holds d.run.window) a u x older y.call z (h z q))) d.log a.reports

  agrees : (i : ℕ) (e : Entry) → Holds d.run.window i e → Agrees W u e
  agrees i e h = agree_later W word u x e (a.agree i e h)

  of_word : (i : ℕ) (e : Entry) → Holds d.run.window i e → OfTheWord p u S C d.log e
  of_word i e h =
      let g = agrees i e h in
      record { node = g.node; unreported = a.unreported i e h; start = g.starts ∙ sym (start_is (id_of e) g.node); end = g.completes ∙ sym (end_is (id_of e) g.node); activity = g.activity }

  held : (y : Id) → Machine.Held (Holds d.run.window) y → Held d.run S C y
  held y (i, e, h, q) =
      let g = of_word i e h in
      record { place = i; entry = e; holds = h; node = q; start = g.start ∙ ap (λ (z : Id). S (whose z)) q; end = g.end ∙ ap (λ (z : Id). C (whose z)) q }

  -- the window, of what is loaded
  window : (y : Id) → Held d.run S C y ↔ Unreported p d.log word y
  window y = (
    λ h. record { node = subst (W.Node word) h.node (a.agree h.place h.entry h.holds).node; unreported = λ q. a.unreported h.place h.entry h.holds (subst (Reported d.log) (sym h.node) q) },
    λ n. ⊎_elim (λ h. held y h) (λ q. absurd (n.unreported q)) (a.held y n.node),
  )

  -- and of the word, unless a loading failed
  old : (FailedIn d.log → ⊥) → (y : Id) → Work (whole_of p u) y → Work (whole_of p word) y
  old nf y n = subst (λ (z : List ℕ). Work (whole_of p z) y) (sym (same nf)) n

  flag : (i : ℕ) (e : Entry) → Holds d.run.window i e → Started d.log (id_of e) → (b : Bool) → is_started e.phase ≡ b → is_started e.phase ≡ true
  flag i e h q true z = z
  flag i e h q false z = absurd (a.waiting i e h z q)

  ends : (log : Log) → (FailedIn log → ⊥) → log ≡ d.log → Latest W word log (Holds d.run.window) → Ends p u log
  ends [] nf e l = tt
  ends (y ∷ older) nf e l = record {
    final = λ q. subst W.Final (same no) (l.done_final q);
    all = λ q z n. ⊎_elim (λ (h : Machine.Held (Holds d.run.window) z). absurd (l.done_empty q h.0 h.1 h.2)) (λ r. finished_before (y ∷ older) q z (subst (λ (m : Log). Reported m z) (sym e) r)) (a.held z (old no z n));
    only = λ q f all.
        let h = l.wait_only (subst Waiting (sym q) tt) (subst W.Final (sym (same no)) f) in
        a.unreported h.0 h.1 h.2 (subst (λ (m : Log). Reported m (id_of h.1)) e (inr (all (id_of h.1) (agrees h.0 h.1 h.2).node)));
  }
    where
      no : FailedIn d.log → ⊥
      no q = nf (subst FailedIn (sym e) q)

  pub claim : Demand3 p psi slack available u S C d
  claim = record {
    by_ask = starts (λ y older h z q. (h z q).ask);
    once = starts (λ y older h z q. (h z q).once);
    in_word = starts (λ y older h z q. (h z q).node);
    in_activity = always_map _ _ (λ y older h q b n e. x.activities q b (subst (RightActivity W word) e h)) d.log a.activities;
    from = starts (λ y older h z q. let b = h z q in let s = start_is z b.node in let l = b.from in omega arith);
    until = starts (λ y older h z q. let b = h z q in let s = start_is z b.node in let l = b.until in omega arith);
    after_all = starts (λ y older h z m q. (h z q).after m);
    reported_started = reports (λ y older h z q. (h z q).started);
    reported_early = reports (λ y older h z q. let b = h z q in let s = end_is z b.node in let l = b.early in omega arith);
    reported_once = reports (λ y older h z q. (h z q).once);
    window_exact = λ nf y. subst (λ (z : List ℕ). Held d.run S C y ↔ Unreported p d.log z y) (same nf) (window y);
    window_or_reported = λ nf y n. ⊎_elim (λ h. inl (held y h)) (λ q. inr q) (a.held y (old nf y n));
    loaded = (word, record { begins = begins; fits = fits; longest = longest; whole = same; beyond = beyond; full = full; window = window });
    window_only = of_word;
    window_once = a.distinct;
    window_started = λ i e h. (a.running i e h, λ q. flag i e h q (is_started e.phase) refl);
    done = λ nf. ends d.log nf refl v.latest;
    never_late = λ h. (v.mild (λ y. C (whose y)) (λ y q. let n = a.started_node y q in end_is y (x.nodes y n) ∙ x.completions y n) h).0;
    never_50 = v.numbers;
  }
