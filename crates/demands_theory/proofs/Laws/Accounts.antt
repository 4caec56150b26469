-- The invariant's first half: the window, the word and the log agree. It holds of stopped runs too.
-- One law for each thing that can happen: nothing to speak of, a start, a report, a growing word.
use Rattle.std.specs.Prelude.{◌≡◌, refl, Bool, true, false, [], ◌∷◌, ◌++◌, ◌⊎◌, ℕ, ◌+◌, ◌≤◌, ◌<◌}
use Rattle.std.proofs.Common.{sym, ap, ◌∙◌, subst, true≢false, inl, inr, ⊎_elim, arith}
use Rattle.std.proofs.Math.Decide.{ℕ_discrete}
use Rattle.time.specs.declared.Clock.{Clock}
use Rattle.run_window.specs.Window.{is_started, started_of}
use Rattle.run_window.specs.declared.Entry.{Entry}
use Rattle.run.specs.declared.Call.{Call}
use Rattle.run.specs.declared.Reply.{Reply}
use Rattle.demands_log.specs.Log.{Accepts, Always, Id, IsAsk, Log, Reported, Reports, Said, Started, Starts, id, reading, said}
use Rattle.demands_theory.proofs.Laws.Machine.{Held, Window, World}
use Rattle.demands_theory.proofs.Laws.Way.{Outlasts, InOrder, Agrees, RightActivity, Clear, Clears, Extends, Marks, New, Stays}
use Rattle.demands_theory.specs.Nodes.{id_of}

pub always_map : (P Q : Said → Log → Type 0) → ((x : Said) (older : Log) → P x older → Q x older) → (log : Log) → Always P log → Always Q log
always_map P Q f [] h = tt
always_map P Q f (x ∷ log) h = (f x log h.0, always_map P Q f log h.1)

pub always_both : (P Q : Said → Log → Type 0) (log : Log) → Always P log → Always Q log → Always (λ y older. P y older × Q y older) log
always_both P Q [] g h = tt
always_both P Q (y ∷ log) g h = ((g.0, h.0), always_both P Q log g.1 h.1)

-- the same at a place of the log: x, with `older` before it and `newer` after it
pub always_at : (P : Said → Log → Type 0) (newer : Log) (x : Said) (older : Log) → Always P (newer ++ (x ∷ older)) → P x older
always_at P [] x older h = h.0
always_at P (y ∷ newer) x older h = always_at P newer x older h.1

pub no_report : (c : Call) (r : Reply) (log : Log) (id : Id) → (Accepts r log → ⊥) → Reports c r log id → ⊥
no_report (Call.Ask t) r log id h p = p
no_report (Call.Completion t q n) r log id h p = h p.1
no_report (Call.Outcome t q n o) r log id h p = h p.1

-- an answer that starts nothing names no activity
right_quiet : (W : World) (word : W.Word) (r : Reply) → ((x : Id) → Starts r x → ⊥) → RightActivity W word r
right_quiet W word (Reply.Start q a n) h = absurd (h (id q n) refl)
right_quiet W word Reply.Wait h = tt
right_quiet W word Reply.Done h = tt
right_quiet W word Reply.Taken h = tt
right_quiet W word (Reply.Refused f) h = tt
right_quiet W word (Reply.Stopped s) h = tt

pub right_later : (W : World) (word later : W.Word) → Extends W word later → (r : Reply) → RightActivity W word r → RightActivity W later r
right_later W word later x (Reply.Start q a n) h = x.activities q a h
right_later W word later x Reply.Wait h = tt
right_later W word later x Reply.Done h = tt
right_later W word later x Reply.Taken h = tt
right_later W word later x (Reply.Refused f) h = tt
right_later W word later x (Reply.Stopped s) h = tt

pub agree_later : (W : World) (word later : W.Word) → Extends W word later → (e : Entry) → Agrees W word e → Agrees W later e
agree_later W word later x e h = record {
  node = x.nodes (id_of e) h.node;
  starts = h.starts ∙ sym (x.starts (id_of e) h.node);
  completes = h.completes ∙ sym (x.completions (id_of e) h.node);
  activity = x.activities e.position e.activity h.activity;
}

-- a node is started by the call c, after the calls `older`
pub record Begun (W : World) (psi slack : ℕ) (word : W.Word) (older : Log) (c : Call) (id : Id) : Type 0 where
  pub ask : IsAsk c
  pub node : W.Node word id
  pub once : Started older id → ⊥
  pub from : psi + W.start word id ≤ reading c
  pub until : reading c ≤ psi + W.start word id + slack
  pub after : (m : Id) → W.Before word m id → Reported older m

-- a node is reported by the call c, after the calls `older`
pub record Ended (W : World) (psi : ℕ) (word : W.Word) (older : Log) (c : Call) (id : Id) : Type 0 where
  pub node : W.Node word id
  pub once : Reported older id → ⊥
  pub started : Started older id
  pub early : reading c < psi + W.completion word id

abbrev pub BegunAt : (W : World) → ℕ → ℕ → W.Word → Said → Log → Type 0
BegunAt W psi slack word x older = (id : Id) → Starts x.reply id → Begun W psi slack word older x.call id

abbrev pub NamedAt : (W : World) → W.Word → Said → Log → Type 0
NamedAt W word x older = RightActivity W word x.reply

abbrev pub EndedAt : (W : World) → ℕ → W.Word → Said → Log → Type 0
EndedAt W psi word x older = (id : Id) → Reports x.call x.reply older id → Ended W psi word older x.call id

pub record Accounts (W : World) (psi slack : ℕ) (word : W.Word) (log : Log) (ws : Window) : Type 0 where
  pub agree : (i : ℕ) (e : Entry) → ws i e → Agrees W word e
  pub distinct : (i j : ℕ) (e f : Entry) → ws i e → ws j f → id_of e ≡ id_of f → i ≡ j
  -- the window is what is in the word and not reported
  pub unreported : (i : ℕ) (e : Entry) → ws i e → Reported log (id_of e) → ⊥
  pub held : (id : Id) → W.Node word id → Held ws id ⊎ Reported log id
  -- nothing is told of nodes that are not in the word
  pub started_node : (id : Id) → Started log id → W.Node word id
  pub reported_node : (id : Id) → Reported log id → W.Node word id
  -- an entry is marked as started if the log has its start
  pub waiting : (i : ℕ) (e : Entry) → ws i e → is_started e.phase ≡ false → Started log (id_of e) → ⊥
  pub running : (i : ℕ) (e : Entry) → ws i e → is_started e.phase ≡ true → Started log (id_of e)
  -- every start and every report of the log was right
  pub starts : Always (BegunAt W psi slack word) log
  pub reports : Always (EndedAt W psi word) log
  pub activities : Always (NamedAt W word) log

module _ (W : World) (psi slack : ℕ) (word : W.Word) (log : Log) (ws : Window) (a : Accounts W psi slack word log ws) where
  -- a call that starts nothing and reports nothing
  pub accounts_quiet : (c : Call) (r : Reply) (ws' : Window) → Stays ws ws' → ((id : Id) → Starts r id → ⊥) → (Accepts r log → ⊥) → Accounts W psi slack word (said c r ∷ log) ws'
  accounts_quiet c r ws' q ns nr = record {
    agree = λ i e h. a.agree i e ((q i e).0 h);
    distinct = λ i j e f h g. a.distinct i j e f ((q i e).0 h) ((q j f).0 g);
    unreported = λ i e h. ⊎_elim (λ p. no_report c r log (id_of e) nr p) (λ p. a.unreported i e ((q i e).0 h) p);
    held = λ id n. ⊎_elim (λ (h : Held ws id). inl (h.0, h.1, (q h.0 h.1).1 h.2, h.3)) (λ p. inr (inr p)) (a.held id n);
    started_node = λ id. ⊎_elim (λ p. absurd (ns id p)) (λ p. a.started_node id p);
    reported_node = λ id. ⊎_elim (λ p. absurd (no_report c r log id nr p)) (λ p. a.reported_node id p);
    waiting = λ i e h s. ⊎_elim (λ p. ns (id_of e) p) (λ p. a.waiting i e ((q i e).0 h) s p);
    running = λ i e h s. inr (a.running i e ((q i e).0 h) s);
    starts = (λ id p. absurd (ns id p), a.starts);
    reports = (λ id p. absurd (no_report c r log id nr p), a.reports);
    activities = (right_quiet W word r ns, a.activities);
  }

  -- what stands before a node that is due is reported: else 42, or 41
  due_after : Outlasts W slack word →
      (last t : ℕ) → Clear psi slack last ws t → (m : Id) (s : ℕ) → W.Node word m → W.completion word m ≤ s → psi + s ≤ t → Reported log m
  due_after long last t k m s n le d = ⊎_elim (λ (h : Held ws m). absurd (go h (is_started h.1.phase) refl)) (λ p. p) (a.held m n)
    where
      go : (h : Held ws m) (b : Bool) → is_started h.1.phase ≡ b → ⊥
      go h true q =
          let l = k.not_overdue h.0 h.1 h.2 q in
          let e : h.1.end.0 ≡ W.completion word m = (a.agree h.0 h.1 h.2).completes ∙ ap (W.completion word) h.3 in
          omega arith
      go h false q =
          let l = k.not_late h.0 h.1 h.2 q in
          let e : h.1.start.0 ≡ W.start word m = (a.agree h.0 h.1 h.2).starts ∙ ap (W.start word) h.3 in
          let g = long m n in
          omega arith

  -- an ask that starts e, at place i
  pub accounts_begin : Outlasts W slack word →
      InOrder W word →
      ((i : ℕ) (e f : Entry) → ws i e → ws i f → e ≡ f) →
      (last : ℕ) (t : Clock) → Clear psi slack last ws t.0 → (i : ℕ) (e : Entry) → ws i e → is_started e.phase ≡ false → psi + e.start.0 ≤ t.0 → (ws' : Window) → Marks ws ws' i e →
      Accounts W psi slack word (said (Call.Ask t) (Reply.Start e.position e.activity e.node) ∷ log) ws'
  accounts_begin long orders one last t k i e h s d ws' q = record {
    agree = λ j f g. was_agree j f ((q j f).0 g);
    distinct = λ j l f g x y z. once_more j l f g ((q j f).0 x) ((q l g).0 y) z;
    unreported = λ j f g. ⊎_elim (λ p. p) (λ p. open_still j f ((q j f).0 g) p);
    held = λ id n. ⊎_elim (λ x. inl (held_still id x)) (λ p. inr (inr p)) (a.held id n);
    started_node = λ id. ⊎_elim (λ (p : id_of e ≡ id). subst (W.Node word) p (a.agree i e h).node) (λ p. a.started_node id p);
    reported_node = λ id. ⊎_elim (λ p. absurd p) (λ p. a.reported_node id p);
    waiting = λ j f g u. still_waiting j f ((q j f).0 g) u;
    running = λ j f g u. now_running j f ((q j f).0 g) u;
    starts = (λ id p. subst (Begun W psi slack word log (Call.Ask t)) p first_time, a.starts);
    reports = (λ id p. absurd p, a.reports);
    activities = ((a.agree i e h).activity, a.activities);
  }
    where
      Was : ℕ → Entry → Type 0
      Was j f = ((j ≡ i) × (f ≡ started_of e)) ⊎ ((j ≡ i → ⊥) × ws j f)

      was_agree : (j : ℕ) (f : Entry) → Was j f → Agrees W word f
      was_agree j f (inl p) = let g = a.agree i e h in subst (Agrees W word) (sym p.1) record { node = g.node; starts = g.starts; completes = g.completes; activity = g.activity }
      was_agree j f (inr p) = a.agree j f p.1

      same_id : (f : Entry) → f ≡ started_of e → id_of f ≡ id_of e
      same_id f p = ap id_of p

      once_more : (j l : ℕ) (f g : Entry) → Was j f → Was l g → id_of f ≡ id_of g → j ≡ l
      once_more j l f g (inl x) (inl y) z = x.0 ∙ sym y.0
      once_more j l f g (inl x) (inr y) z = absurd (y.0 (a.distinct l i g e y.1 h (sym z ∙ same_id f x.1)))
      once_more j l f g (inr x) (inl y) z = absurd (x.0 (a.distinct j i f e x.1 h (z ∙ same_id g y.1)))
      once_more j l f g (inr x) (inr y) z = a.distinct j l f g x.1 y.1 z

      open_still : (j : ℕ) (f : Entry) → Was j f → Reported log (id_of f) → ⊥
      open_still j f (inl p) r = a.unreported i e h (subst (Reported log) (same_id f p.1) r)
      open_still j f (inr p) r = a.unreported j f p.1 r

      held_still : (id : Id) → Held ws id → Held ws' id
      held_still id x = elim (ℕ_discrete x.0 i) [
        | yes z ↦ (i, started_of e, (q i (started_of e)).1 (inl (refl, refl)), ap id_of (one i e x.1 h (subst (λ (n : ℕ). ws n x.1) z x.2)) ∙ x.3)
        | no z ↦ (x.0, x.1, (q x.0 x.1).1 (inr (z, x.2)), x.3)
      ]

      still_waiting : (j : ℕ) (f : Entry) → Was j f → is_started f.phase ≡ false → Started (said (Call.Ask t) (Reply.Start e.position e.activity e.node) ∷ log) (id_of f) → ⊥
      still_waiting j f (inl p) u = absurd (true≢false (sym (ap (λ (y : Entry). is_started y.phase) p.1) ∙ u))
      still_waiting j f (inr p) u = ⊎_elim (λ z. p.0 (a.distinct j i f e p.1 h (sym z))) (λ z. a.waiting j f p.1 u z)

      now_running : (j : ℕ) (f : Entry) → Was j f → is_started f.phase ≡ true → Started (said (Call.Ask t) (Reply.Start e.position e.activity e.node) ∷ log) (id_of f)
      now_running j f (inl p) u = inl (sym (same_id f p.1))
      now_running j f (inr p) u = inr (a.running j f p.1 u)

      first_time : Begun W psi slack word log (Call.Ask t) (id_of e)
      first_time =
          let g = a.agree i e h in
          let z = g.starts in
          let l = k.not_late i e h s in
          record {
            ask = tt;
            node = g.node;
            once = a.waiting i e h s;
            from = omega arith;
            until = omega arith;
            after = λ m b. let o = orders m (id_of e) g.node b in due_after long last t.0 k m (W.start word (id_of e)) o.0 o.1 (omega arith);
          }

  -- the report of e, at place i
  pub accounts_report : ((i : ℕ) (e f : Entry) → ws i e → ws i f → e ≡ f) → (c : Call) (r : Reply) (i : ℕ) (e : Entry) → ws i e → is_started e.phase ≡ true → reading c < psi + e.end.0 →
      ((id : Id) → Starts r id → ⊥) → Reports c r log (id_of e) → ((id : Id) → Reports c r log id → id_of e ≡ id) → (ws' : Window) → Clears ws ws' i → Accounts W psi slack word (said c r ∷ log) ws'
  accounts_report one c r i e h s d ns p only ws' q = record {
    agree = λ j f g. a.agree j f ((q j f).0 g).1;
    distinct = λ j l f g x y. a.distinct j l f g ((q j f).0 x).1 ((q l g).0 y).1;
    unreported = λ j f g. ⊎_elim (λ z. ((q j f).0 g).0 (a.distinct j i f e ((q j f).0 g).1 h (sym (only (id_of f) z)))) (λ z. a.unreported j f ((q j f).0 g).1 z);
    held = λ id n. ⊎_elim (λ x. kept id x) (λ z. inr (inr z)) (a.held id n);
    started_node = λ id. ⊎_elim (λ z. absurd (ns id z)) (λ z. a.started_node id z);
    reported_node = λ id. ⊎_elim (λ z. subst (W.Node word) (only id z) (a.agree i e h).node) (λ z. a.reported_node id z);
    waiting = λ j f g u. ⊎_elim (λ z. ns (id_of f) z) (λ z. a.waiting j f ((q j f).0 g).1 u z);
    running = λ j f g u. inr (a.running j f ((q j f).0 g).1 u);
    starts = (λ id z. absurd (ns id z), a.starts);
    reports = (λ id z. subst (Ended W psi word log c) (only id z) right, a.reports);
    activities = (right_quiet W word r ns, a.activities);
  }
    where
      kept : (id : Id) → Held ws id → Held ws' id ⊎ Reported (said c r ∷ log) id
      kept id x = elim (ℕ_discrete x.0 i) [
        | yes z ↦ inr (inl (subst (Reports c r log) (ap id_of (one i e x.1 h (subst (λ (n : ℕ). ws n x.1) z x.2)) ∙ x.3) p))
        | no z ↦ inl (x.0, x.1, (q x.0 x.1).1 (z, x.2), x.3)
      ]

      right : Ended W psi word log c (id_of e)
      right =
          let z = (a.agree i e h).completes in
          record { node = (a.agree i e h).node; once = a.unreported i e h; started = a.running i e h s; early = omega arith }

  pub begun_later : (later : W.Word) → Extends W word later → (older : Log) (c : Call) (id : Id) → Begun W psi slack word older c id → Begun W psi slack later older c id
  begun_later later x older c id b =
      let q = x.starts id b.node in
      record {
        ask = b.ask;
        node = x.nodes id b.node;
        once = b.once;
        from = omega (arith, b.from);
        until = omega (arith, b.until);
        after = λ m h. b.after m (x.befores m id b.node h);
      }

  pub ended_later : (later : W.Word) → Extends W word later → (older : Log) (c : Call) (id : Id) → Ended W psi word older c id → Ended W psi later older c id
  ended_later later x older c id b =
      let q = x.completions id b.node in
      record { node = x.nodes id b.node; once = b.once; started = b.started; early = omega (arith, b.early) }

  -- the word grows, and new entries come into the window
  pub accounts_load : (later : W.Word) → Extends W word later → (floor : ℕ) (ws' : Window) → ((j : ℕ) (f : Entry) → ws j f → ws' j f) → ((j : ℕ) (f : Entry) → ws' j f → ws j f ⊎ New W word later floor f) →
      ((j k : ℕ) (f g : Entry) → ws' j f → ws' k g → id_of f ≡ id_of g → j ≡ k) → ((id : Id) → W.Node later id → W.Node word id ⊎ Held ws' id) →
      Accounts W psi slack later log ws'
  accounts_load later x floor ws' keep only distinct all = record {
    agree = λ i e h. ⊎_elim (λ j. agree_later W word later x e (a.agree i e j)) (λ n. n.agrees) (only i e h);
    distinct = distinct;
    unreported = λ i e h p. ⊎_elim (λ j. a.unreported i e j p) (λ n. n.new (a.reported_node (id_of e) p)) (only i e h);
    held = λ id n. ⊎_elim (λ o. ⊎_elim (λ (h : Held ws id). inl (h.0, h.1, keep h.0 h.1 h.2, h.3)) (λ p. inr p) (a.held id o)) (λ h. inl h) (all id n);
    started_node = λ id p. x.nodes id (a.started_node id p);
    reported_node = λ id p. x.nodes id (a.reported_node id p);
    waiting = λ i e h s p. ⊎_elim (λ j. a.waiting i e j s p) (λ n. n.new (a.started_node (id_of e) p)) (only i e h);
    running = λ i e h s. ⊎_elim (λ j. a.running i e j s) (λ n. absurd (true≢false (sym s ∙ n.unstarted))) (only i e h);
    starts = always_map (BegunAt W psi slack word) (BegunAt W psi slack later) (λ y older h id p. begun_later later x older y.call id (h id p)) log a.starts;
    reports = always_map (EndedAt W psi word) (EndedAt W psi later) (λ y older h id p. ended_later later x older y.call id (h id p)) log a.reports;
    activities = always_map (NamedAt W word) (NamedAt W later) (λ y older h. right_later W word later x y.reply h) log a.activities;
  }
