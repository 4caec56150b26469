-- The invariant, kept by every way that a call can go.
use Rattle.std.specs.Prelude.{◌≡◌, refl, true, ◌∷◌, ℕ, ◌+◌, ◌≤◌, Option, Some, None}
use Rattle.std.proofs.Common.{sym, ap, ◌∙◌, subst, true≢false, inl, inr, ⊎_elim, arith}
use Rattle.run_window.specs.Window.{is_started}
use Rattle.run_window.specs.declared.Entry.{Entry}
use Rattle.run.specs.declared.Call.{Call}
use Rattle.run.specs.declared.Reply.{Reply}
use Rattle.run_checks.specs.declared.Refusal.{Refusal}
use Rattle.run_checks.specs.declared.Stop.{Stop}
use Rattle.run_loading.specs.declared.Failure.{Failure}
use Rattle.run.specs.Inner.Calls.{reply_after, halt_after}
use Rattle.demands_log.specs.Log.{Id, Said, said, Log, reading, Started, Stops, StoppedBy, Accepts, Finishes}
use Rattle.demands_log.specs.Host.{HostAt, Mild}
use Rattle.demands_theory.proofs.Laws.Machine.{World, Machine, Window, Waiting}
use Rattle.demands_theory.proofs.Laws.Way.{Stays, Loads, Turns, Answers, Way, keeps, refuses, overdues, lates, begins, idles, completes, learns}
use Rattle.demands_theory.proofs.Laws.Works.{Works}
use Rattle.demands_theory.proofs.Laws.Accounts.{Accounts, accounts_quiet, accounts_begin, accounts_report, accounts_load}
use Rattle.demands_theory.proofs.Laws.Clock.{Clock, clock_refused, clock_next, never_late}
use Rattle.demands_theory.proofs.Laws.Invariant.{MildHalt, Latest, Invariant}
use Rattle.demands_theory.proofs.Laws.Replies.{not_going, same_stop, not_stop, Other, not_50, quiet, stop_accepts, failure_starts, failure_accepts, failure_unfinished, failure_unwaiting, failure_mild, failure_halt, failure_other, failure_halted, failure_stopped}
use Rattle.demands_theory.specs.Nodes.{id_of}

module _ (W : World) (M : Machine) (psi slack : ℕ) (Good : Log → W.Word → M.Run → Type 0) (w : Works W M psi slack Good) (log : Log) (word : W.Word) (run : M.Run) (g : Good log word run) (v : Invariant W M psi slack word log run) where
  -- an answer that is neither done nor wait
  unspoken : (r : Reply) (ws : Window) → (Finishes r → ⊥) → (Waiting r → ⊥) → Answers W word ws r
  unspoken r ws nf nw = record { done_final = λ p. absurd (nf p); done_empty = λ p. absurd (nf p); wait_only = λ p. absurd (nw p) }

  spoken : (c : Call) (r : Reply) (ws : Window) → (Finishes r → ⊥) → (Waiting r → ⊥) → Latest W word (said c r ∷ log) ws
  spoken c r ws nf nw = record { done_final = λ p. absurd (nf p); done_empty = λ p. absurd (nf p); wait_only = λ p. absurd (nw p) }

  -- the same of a window that stays
  moved : (r : Reply) (ws ws' : Window) → Stays ws ws' → Answers W word ws r → Answers W word ws' r
  moved r ws ws' q a = record {
    done_final = a.done_final;
    done_empty = λ p i e h. a.done_empty p i e ((q i e).0 h);
    wait_only = λ p f. let x = a.wait_only p f in (x.0, x.1, (q x.0 x.1).1 x.2);
  }

  -- a run that goes has not been stopped
  unstopped : M.halt run ≡ None → (s : Stop) → StoppedBy log s → ⊥
  unstopped e s q = not_going s (sym (v.stopped s q) ∙ e)

  -- the run as it was: a kept stop, a refusal
  same : (c : Call) (r : Reply) (run' : M.Run) → run' ≡ run → Invariant W M psi slack word (said c r ∷ log) run → Invariant W M psi slack word (said c r ∷ log) run'
  same c r run' e h = subst (Invariant W M psi slack word (said c r ∷ log)) (sym e) h

  keep : (c : Call) (s : Stop) → M.halt run ≡ Some s → Invariant W M psi slack word (said c (Reply.Stopped s) ∷ log) run
  keep c s e =
      let na : Accepts (Reply.Stopped s) log → ⊥ = stop_accepts s log (v.halted s e) in
      record {
        accounts = accounts_quiet W psi slack word log _ v.accounts c (Reply.Stopped s) _ (λ j f. (λ h. h, λ h. h)) (λ id p. p) na;
        clock = λ h. absurd (not_going s (sym e ∙ h));
        halted = λ s' q. inl tt;
        stopped = λ u. ⊎_elim (λ q. e ∙ ap Some (same_stop q)) (λ q. v.stopped u q);
        numbers = (not_50 (Reply.Stopped s) tt, v.numbers);
        latest = spoken c (Reply.Stopped s) _ (λ p. p) (λ p. p);
        mild = λ C m h. let b = v.mild C (λ id p. m id (inr p)) h.1 in ((subst MildHalt e b.1, b.0), b.1);
      }

  refuse : (c : Call) (f : Refusal) → M.halt run ≡ None → (f ≡ Refusal.OutOfLimits → ⊥) → Invariant W M psi slack word (said c (Reply.Refused f) ∷ log) run
  refuse c f e l =
      record {
        accounts = accounts_quiet W psi slack word log _ v.accounts c (Reply.Refused f) _ (λ j f. (λ h. h, λ h. h)) (λ id p. p) (λ p. p);
        clock = λ h. clock_refused _ _ _ log _ (v.clock e) c f;
        halted = λ s q. absurd (not_going s (sym q ∙ e));
        stopped = λ s. ⊎_elim (λ q. absurd (not_stop (Reply.Refused f) s (λ p. p) q)) (λ q. v.stopped s q);
        numbers = (not_50 (Reply.Refused f) l, v.numbers);
        latest = spoken c (Reply.Refused f) _ (λ p. p) (λ p. p);
        mild = λ C m h. let b = v.mild C (λ id p. m id (inr p)) h.1 in ((tt, b.0), b.1);
      }

  -- a new stop as late or overdue, which the host's side excludes
  halt : (c : Call) (s : Stop) (run' : M.Run) → M.halt run ≡ None → M.halt run' ≡ Some s → Stays (M.holds run) (M.holds run') → (Accepts (Reply.Stopped s) log → ⊥) →
      ((C : Id → ℕ) → ((id : Id) → Started log id → C id ≡ W.completion word id) → HostAt psi slack C log (reading c) → ⊥) →
      Invariant W M psi slack word (said c (Reply.Stopped s) ∷ log) run'
  halt c s run' going e q na never =
      record {
        accounts = accounts_quiet W psi slack word log _ v.accounts c (Reply.Stopped s) _ q (λ id p. p) na;
        clock = λ h. absurd (not_going s (sym e ∙ h));
        halted = λ s' p. inl tt;
        stopped = λ u. ⊎_elim (λ p. e ∙ ap Some (same_stop p)) (λ p. absurd (unstopped going u p));
        numbers = (not_50 (Reply.Stopped s) tt, v.numbers);
        latest = spoken c (Reply.Stopped s) _ (λ p. p) (λ p. p);
        mild = λ C m h. absurd (never C (λ id p. m id (inr p)) (h.0 refl));
      }

  not_overdue : (c : Call) (i : ℕ) (e : Entry) → M.holds run i e → is_started e.phase ≡ true → psi + e.end.0 ≤ reading c →
      (C : Id → ℕ) → ((id : Id) → Started log id → C id ≡ W.completion word id) → HostAt psi slack C log (reading c) → ⊥
  not_overdue c i e h s d C m host =
      let r = v.accounts.running i e h s in
      let q = (v.accounts.agree i e h).completes in
      let z = m (id_of e) r in
      v.accounts.unreported i e h (host.reports (id_of e) r (omega arith))

  -- an answer that is neither a refusal nor a stop, and no outcome
  goes : (c : Call) (r : Reply) (run' : M.Run) → Turns M run run' (reading c) None → (Stops r → ⊥) → Other r → Mild r → Answers W word (M.holds run') r →
      Accounts W psi slack word (said c r ∷ log) (M.holds run') → Clock psi slack (reading c) (said c r ∷ log) (M.holds run') → Invariant W M psi slack word (said c r ∷ log) run'
  goes c r run' t ns ab mi fi a k = record {
    accounts = a;
    clock = λ h. subst (λ (l : ℕ). Clock psi slack l (said c r ∷ log) (M.holds run')) (sym t.last) k;
    halted = λ s p. absurd (not_going s (sym p ∙ t.halt));
    stopped = λ s. ⊎_elim (λ p. absurd (not_stop r s ns p)) (λ p. absurd (unstopped t.going s p));
    numbers = (not_50 r ab, v.numbers);
    latest = record { done_final = fi.done_final; done_empty = fi.done_empty; wait_only = fi.wait_only };
    mild = λ C m h. let b = v.mild C (λ id p. m id (inr p)) h.1 in ((mi, b.0), subst MildHalt (sym t.halt) tt);
  }

  pub kept : (c : Call) (r : Reply) (run' : M.Run) (later : W.Word) → Way W M psi slack run run' word later c r → Invariant W M psi slack later (said c r ∷ log) run'
  kept c r run' later (keeps {s = s} e q) = same c (Reply.Stopped s) run' q (keep c s e)
  kept c r run' later (refuses {f = f} e l q) = same c (Reply.Refused f) run' q (refuse c f e l)
  kept c r run' later (overdues i e t q h s d) = halt c (Stop.Overdue e.position e.node) run' t.going t.halt q (λ p. p.0) (not_overdue c i e h s d)
  kept c r run' later (lates i e t q l h s d) =
      halt c (Stop.Late e.position e.node) run' t.going t.halt q (λ p. p.0) λ C m host.
      let n = never_late _ _ _ log _ (v.clock t.going) C (reading c) host l i e h s in
      omega arith
  kept c r run' later (begins {t = t} i e u k h s d q) =
      goes (Call.Ask t) (Reply.Start e.position e.activity e.node) run' u (λ p. p) tt tt (unspoken _ _ (λ p. p) (λ p. p))
      (accounts_begin W psi slack word log _ v.accounts (w.long log word run g) (w.orders log word run g) (w.one run) (M.last run) t k i e h s d _ q)
      (clock_next _ _ _ log _ (v.clock u.going) (Call.Ask t) (Reply.Start e.position e.activity e.node) _ refl (λ p. p) k
      (λ j f x y. ⊎_elim (λ p. absurd (true≢false (sym (ap (λ (z : Entry). is_started z.phase) p.1) ∙ y))) (λ p. inl p.1) ((q j f).0 x)) (λ n p. absurd p.1))
  kept c r run' later (idles {t = t} u k n waits fin q) =
      goes (Call.Ask t) r run' u (quiet r log n).stops (quiet r log n).other (quiet r log n).mild (moved r (M.holds run) (M.holds run') q fin)
      (accounts_quiet W psi slack word log _ v.accounts (Call.Ask t) r _ q (quiet r log n).starts (quiet r log n).accepts)
      (clock_next _ _ _ log _ (v.clock u.going) (Call.Ask t) r _ (quiet r log n).counts (quiet r log n).stops k (λ j f x y. inl ((q j f).0 x))
      (λ m p j f x y. let z = p.0 in let l = waits j f ((q j f).0 x) y in omega arith))
  kept c r run' later (completes {t = t} i e u k h s q) =
      goes (Call.Completion t e.position e.node) Reply.Taken run' u (λ p. p) tt tt (unspoken _ _ (λ p. p) (λ p. p))
      (accounts_report W psi slack word log _ v.accounts (w.one run) (Call.Completion t e.position e.node) Reply.Taken i e h s (k.not_overdue i e h s) (λ id p. p) (refl, tt) (λ id p. p.0) _ q)
      (clock_next _ _ _ log _ (v.clock u.going) (Call.Completion t e.position e.node) Reply.Taken _ refl (λ p. p) k (λ j f x y. inl ((q j f).0 x).1) (λ n p. absurd p))
  kept c r run' later (learns {t = t} {o = o} i e f u k h s q) = record {
    accounts = accounts_load W psi slack word (x ∷ log) cleared reported later q.extends e.end.0 (M.holds run')
        (λ j d p. q.kept j d p.0 p.1) q.only q.distinct q.all;
    clock = λ p. subst (λ (l : ℕ). Clock psi slack l (x ∷ log) (M.holds run')) (sym u.last) (clock' f q (sym u.halt ∙ p));
    halted = λ a p. failure_halted f (Call.Outcome t e.position e.node o) log a (sym u.halt ∙ p);
    stopped = λ a. ⊎_elim (λ p. u.halt ∙ failure_stopped f a p) (λ p. absurd (unstopped u.going a p));
    numbers = (not_50 (reply_after f) (failure_other f), v.numbers);
    latest = record { done_final = λ p. absurd (failure_unfinished f p); done_empty = λ p. absurd (failure_unfinished f p); wait_only = λ p. absurd (failure_unwaiting f p) };
    mild = λ C m host. let b = v.mild C (λ id p. m id (inr p) ∙ q.extends.completions id (v.accounts.started_node id p)) host.1 in ((failure_mild f, b.0), subst MildHalt (sym u.halt) (failure_halt f));
  }
    where
      x : Said
      x = said (Call.Outcome t e.position e.node o) (reply_after f)

      cleared : Window
      cleared j d = (j ≡ i → ⊥) × M.holds run j d

      reported : Accounts W psi slack word (x ∷ log) cleared
      reported = accounts_report W psi slack word log _ v.accounts (w.one run) (Call.Outcome t e.position e.node o) (reply_after f) i e h s (k.not_overdue i e h s)
          (failure_starts f) (refl, failure_accepts f log (v.clock u.going).unstopped) (λ id p. p.0) cleared (λ j d. (λ p. p, λ p. p))

      clock' : (f' : Option Failure) → Loads W (M.holds run) (M.holds run') i e.end.0 word later → halt_after f' ≡ None → Clock psi slack t.0 (said (Call.Outcome t e.position e.node o) (reply_after f') ∷ log) (M.holds run')
      clock' None l p = clock_next _ _ _ log _ (v.clock u.going) (Call.Outcome t e.position e.node o) Reply.Taken _ refl (λ z. z) k
          (λ j d y z. ⊎_elim (λ a. inl a.1) (λ n. inr (let b = n.held_back in let m = k.not_overdue i e h s in omega arith)) (l.only j d y)) (λ n z. absurd z)
      clock' (Some Failure.Full) l p = absurd (not_going Stop.Full p)
      clock' (Some Failure.Beyond) l p = absurd (not_going Stop.Beyond p)
