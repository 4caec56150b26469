-- Between the window and the log: the places of the window hold exactly the nodes of the word that are not yet reported, so that
-- the conditions over places (Conditions) and those over nodes (ByLog) are the same.
use Rattle.std.specs.Prelude.{◌≡◌, refl, Bool, true, false, List, ◌⊎◌, ℕ, ◌≤◌, ◌<◌}
use Rattle.std.proofs.Common.{sym, ap, ◌∙◌, subst, true≢false, inl, inr, arith}
use Rattle.time.specs.declared.Clock.{Clock}
use Rattle.plan.specs.declared.Kind.{Kind}
use Rattle.times_combined.specs.Combined.{Ident, Is}
use Rattle.times_combined.specs.Paths.{Follows, Lawful}
use Rattle.times_combined.proofs.Laws.Plans.{good_path}
use Rattle.run_window.specs.Window.{starts_before, ends_before, by_start, is_held, is_started}
use Rattle.run_window.proofs.Laws.Tests.{started_true}
use Rattle.run_window.proofs.Laws.Order.{AtMost, lower, same, at_most_number, not-before, at_most_not, not_itself, neither_before, by_time, time_telling, service_telling, starts_order}
use Rattle.run_window.proofs.Laws.Places.{same_or_other}
use Rattle.run_window.specs.declared.Entry.{Entry}
use Rattle.run_window.specs.declared.Phase.{Phase}
use Rattle.run.specs.declared.Run.{Run}
use Rattle.run.specs.declared.Call.{Call}
use Rattle.run.specs.Calls.{kind_of}
use Rattle.demands_log.specs.Log.{Id, Log, Started, FailedIn}
use Rattle.demands_theory.specs.Nodes.{whose, id_of}
use Rattle.demands_theory.specs.TheWord.{state_after, whole_of}
use Rattle.demands_theory.specs.Demand.{Demand3, OfTheWord}
use Rattle.demands_run.proofs.Laws.Kinds.{kind_is}
use Rattle.demands.specs.Conditions.{entry_at, OverdueAt, LateAt, DueAt, NamedAt, FirstOf}
use Rattle.demands.specs.ByLog.{Known, Open, Overdue, Late, Due, NotAfter, Earliest, turn_of, ServedBefore, FirstServed, Names}
use Rattle.demands.specs.InLimits.{RunInLimits}
use Rattle.demands.specs.Served.{Turn, Served, turn_at}
use Rattle.demands.proofs.Laws.ServedHolds.{order_served}

held_loaded : (s : Phase) → is_held s ≡ true → (is_started s ≡ true → ⊥) → s ≡ Phase.Loaded
held_loaded Phase.Free h n = absurd (true≢false (sym h))
held_loaded Phase.Loaded h n = refl
held_loaded Phase.Started h n = absurd (n refl)

-- by which 42 goes
abbrev end_of : Entry → ℕ
end_of e = e.end.0

module _ (run : Run) (log : Log) (is : List ℕ) (S C : Ident → ℕ) (available : ℕ → ℕ) (d : Demand3 run.plan run.psi.0 run.slack available is S C (record { log = log; run = run })) (nf : FailedIn log → ⊥) where
  abbrev pub known : Known
  known = record { plan = run.plan; psi = run.psi.0; slack = run.slack; available = available; word = is; S = S; C = C; log = log }

  -- the node at a place
  abbrev pub node_of : ℕ → Id
  node_of i = id_of (entry_at run i)

  abbrev pub IsHeld : ℕ → Type 0
  IsHeld i = is_held (entry_at run i).phase ≡ true

  pub of_word : (i : ℕ) → IsHeld i → OfTheWord run.plan is S C log (entry_at run i)
  of_word i h = d.window_only i (entry_at run i) (record { entry = refl; held = h })

  pub stands_at : (i : ℕ) → IsHeld i → Open known (node_of i)
  stands_at i h = let o = of_word i h in record { node = o.node; unreported = o.unreported }

  pub at_stands : (x : Id) → Open known x → (i : ℕ) × IsHeld i × (node_of i ≡ x)
  at_stands x o =
      let h = (d.window_exact nf x).1 o in
      (h.place, subst (λ (e : Entry). is_held e.phase ≡ true) (sym h.holds.entry) h.holds.held, ap id_of h.holds.entry ∙ h.node)

  pub started_at : (i : ℕ) → IsHeld i → (entry_at run i).phase ≡ Phase.Started → Started log (node_of i)
  started_at i h s = (d.window_started i (entry_at run i) (record { entry = refl; held = h })).0 (ap is_started s)

  pub at_started : (i : ℕ) → IsHeld i → Started log (node_of i) → (entry_at run i).phase ≡ Phase.Started
  at_started i h s = started_true (entry_at run i).phase ((d.window_started i (entry_at run i) (record { entry = refl; held = h })).1 s)

  pub unstarted_at : (i : ℕ) → IsHeld i → (entry_at run i).phase ≡ Phase.Loaded → Started log (node_of i) → ⊥
  unstarted_at i h s q = true≢false (sym ((d.window_started i (entry_at run i) (record { entry = refl; held = h })).1 q) ∙ ap is_started s)

  pub at_unstarted : (i : ℕ) → IsHeld i → (Started log (node_of i) → ⊥) → (entry_at run i).phase ≡ Phase.Loaded
  at_unstarted i h n = held_loaded (entry_at run i).phase h (λ q. n ((d.window_started i (entry_at run i) (record { entry = refl; held = h })).0 q))

  -- a node stands at one place
  pub one_place : (i j : ℕ) → IsHeld i → IsHeld j → node_of i ≡ node_of j → i ≡ j
  one_place i j h k e = d.window_once i j (entry_at run i) (entry_at run j) (record { entry = refl; held = h }) (record { entry = refl; held = k }) e

  -- ---- 42, 41 and what is due

  starts_same : (i : ℕ) → IsHeld i → (entry_at run i).start.0 ≡ S (whose (node_of i))
  starts_same i h = (of_word i h).start

  ends_same : (i : ℕ) → IsHeld i → (entry_at run i).end.0 ≡ C (whose (node_of i))
  ends_same i h = (of_word i h).end

  pub overdue_to : (t : Clock) (i : ℕ) → OverdueAt run t i → Overdue known t.0 (node_of i)
  overdue_to t i o =
      let h = ap is_held o.started in
      record { stands = stands_at i h; started = started_at i h o.started; past = (let u = ends_same i h in let v = o.past in omega arith) }

  pub overdue_from : (t : Clock) (x : Id) → Overdue known t.0 x → (i : ℕ) × OverdueAt run t i × (node_of i ≡ x)
  overdue_from t x o =
      let p = at_stands x o.stands in (
        p.0,
        record { started = at_started p.0 p.1 (subst (Started log) (sym p.2) o.started); past = (let u = ends_same p.0 p.1 in let w = ap (λ (z : Id). C (whose z)) p.2 in let v = o.past in omega arith) },
        p.2,
      )

  pub late_to : (t : Clock) (i : ℕ) → LateAt run t i → Late known t.0 (node_of i)
  late_to t i o =
      let h = ap is_held o.unstarted in
      record { stands = stands_at i h; unstarted = unstarted_at i h o.unstarted; past = (let u = starts_same i h in let v = o.past in omega arith) }

  pub late_from : (t : Clock) (x : Id) → Late known t.0 x → (i : ℕ) × LateAt run t i × (node_of i ≡ x)
  late_from t x o =
      let p = at_stands x o.stands in (
        p.0,
        record { unstarted = at_unstarted p.0 p.1 (λ q. o.unstarted (subst (Started log) p.2 q)); past = (let u = starts_same p.0 p.1 in let w = ap (λ (z : Id). S (whose z)) p.2 in let v = o.past in omega arith) },
        p.2,
      )

  pub due_to : (t : Clock) (i : ℕ) → DueAt run t i → Due known t.0 (node_of i)
  due_to t i o =
      let h = ap is_held o.unstarted in
      record { stands = stands_at i h; unstarted = unstarted_at i h o.unstarted; due = (let u = starts_same i h in let v = o.due in omega arith) }

  pub due_from : (t : Clock) (x : Id) → Due known t.0 x → (i : ℕ) × DueAt run t i × (node_of i ≡ x)
  due_from t x o =
      let p = at_stands x o.stands in (
        p.0,
        record { unstarted = at_unstarted p.0 p.1 (λ q. o.unstarted (subst (Started log) p.2 q)); due = (let u = starts_same p.0 p.1 in let w = ap (λ (z : Id). S (whose z)) p.2 in let v = o.due in omega arith) },
        p.2,
      )

  -- ---- 42: the first by completion, position and node

  not_after : (i j : ℕ) → IsHeld i → IsHeld j → AtMost (by_time end_of (entry_at run i)) (by_time end_of (entry_at run j)) → NotAfter C (node_of i) (node_of j)
  not_after i j h k (lower l) = NotAfter.time (let u = ends_same i h in let v = ends_same j k in omega arith)
  not_after i j h k (same e (lower l)) = NotAfter.position (let u = ends_same i h in let v = ends_same j k in omega arith) l
  not_after i j h k (same e (same f (lower l))) = NotAfter.node (let u = ends_same i h in let v = ends_same j k in omega arith) f (let z : (entry_at run i).node ≤ (entry_at run j).node = omega arith in z)
  not_after i j h k (same e (same f (same g q))) = NotAfter.node (let u = ends_same i h in let v = ends_same j k in omega arith) f (let z : (entry_at run i).node ≤ (entry_at run j).node = omega arith in z)

  after_not : (i j : ℕ) → IsHeld i → IsHeld j → NotAfter C (node_of i) (node_of j) → AtMost (by_time end_of (entry_at run i)) (by_time end_of (entry_at run j))
  after_not i j h k (NotAfter.time l) = lower (let u = ends_same i h in let v = ends_same j k in let z : (entry_at run i).end.0 < (entry_at run j).end.0 = omega arith in z)
  after_not i j h k (NotAfter.position e l) = same (let u = ends_same i h in let v = ends_same j k in let z : (entry_at run i).end.0 ≡ (entry_at run j).end.0 = omega arith in z) (lower l)
  after_not i j h k (NotAfter.node e f l) = same (let u = ends_same i h in let v = ends_same j k in let z : (entry_at run i).end.0 ≡ (entry_at run j).end.0 = omega arith in z) (same f (at_most_number l))

  pub overdue_earliest : (t : Clock) (i : ℕ) → FirstOf run (OverdueAt run t) ends_before i → Earliest C (Overdue known t.0) (node_of i)
  overdue_earliest t i f = record {
    has = overdue_to t i f.has;
    first = λ y q.
        let p = overdue_from t y q in
        subst (NotAfter C (node_of i)) p.2 (not_after i p.0 (ap is_held f.has.started) (ap is_held p.1.started) (not-before _ _ (f.first p.0 p.1)));
  }

  pub overdue_first : (t : Clock) (x : Id) → Earliest C (Overdue known t.0) x → (i : ℕ) × FirstOf run (OverdueAt run t) ends_before i × (node_of i ≡ x)
  overdue_first t x f = (p.0, record { has = p.1; first = λ j q. at_most_not _ _ (most j q); lowest = λ j q l. low j q l (ends_before (entry_at run p.0) (entry_at run j)) refl }, p.2)
    where
      p : (i : ℕ) × OverdueAt run t i × (node_of i ≡ x)
      p = overdue_from t x f.has

      held : (j : ℕ) → OverdueAt run t j → IsHeld j
      held j q = ap is_held q.started

      most : (j : ℕ) → OverdueAt run t j → AtMost (by_time end_of (entry_at run p.0)) (by_time end_of (entry_at run j))
      most j q = after_not p.0 j (held p.0 p.1) (held j q) (subst (λ (z : Id). NotAfter C z (node_of j)) (sym p.2) (f.first (node_of j) (overdue_to t j q)))

      low : (j : ℕ) → OverdueAt run t j → j < p.0 → (b : Bool) → ends_before (entry_at run p.0) (entry_at run j) ≡ b → ends_before (entry_at run p.0) (entry_at run j) ≡ true
      low j q l true e = e
      low j q l false e =
          let s = time_telling end_of (entry_at run p.0) (entry_at run j) (neither_before _ _ e (at_most_not _ _ (most j q))) in
          let z = one_place p.0 j (held p.0 p.1) (held j q) (λ n. record { position = s.0 n; node = s.1 n }) in
          absurd (omega arith)

  -- ---- the node that a report names

  pub named_to : (c : Call) (i : ℕ) → NamedAt run c i → IsHeld i × Names c (node_of i)
  named_to (Call.Ask t) i h = absurd h
  named_to (Call.Completion t p n) i h = (h.held, subst (Names (Call.Completion t p n)) (λ k. record { position = sym h.position k; node = sym h.node k }) Names.completion)
  named_to (Call.Outcome t p n o) i h = (h.held, subst (Names (Call.Outcome t p n o)) (λ k. record { position = sym h.position k; node = sym h.node k }) Names.outcome)

  pub named_from : (c : Call) (x : Id) → Names c x → (i : ℕ) → IsHeld i → node_of i ≡ x → NamedAt run c i
  named_from c x Names.completion i h e = record { held = h; position = ap (λ (z : Id). z.position) e; node = ap (λ (z : Id). z.node) e }
  named_from c x Names.outcome i h e = record { held = h; position = ap (λ (z : Id). z.position) e; node = ap (λ (z : Id). z.node) e }

  one_name : (c : Call) (x y : Id) → Names c x → Names c y → x ≡ y
  one_name c x y Names.completion Names.completion = refl
  one_name c x y Names.outcome Names.outcome = refl

  pub named_first : (c : Call) (i : ℕ) → NamedAt run c i → FirstOf run (NamedAt run c) by_start i
  named_first c i h = record {
    has = h;
    first = λ j k. subst (λ (n : ℕ). by_start (entry_at run n) (entry_at run i) ≡ false) (one j k) (not_itself _);
    lowest = λ j k l. absurd (let z = one j k in omega arith);
  }
    where
      one : (j : ℕ) → NamedAt run c j → i ≡ j
      one j k = let a = named_to c i h in let b = named_to c j k in one_place i j a.0 b.0 (one_name c (node_of i) (node_of j) a.1 b.1)

  -- ---- kinds

  module _ (lawful : Lawful run.plan) (path : Follows run.plan run.plan.automaton.initial is (state_after run.plan is)) where
    pub kind_same : (i : ℕ) → IsHeld i → (k : Kind) → Is (whole_of run.plan is) (whose (node_of i)) k → kind_of run (entry_at run i) ≡ k
    kind_same i h k q = kind_is run.plan is (good_path run.plan lawful run.plan.automaton.initial is (state_after run.plan is) path) (entry_at run i).position (entry_at run i).activity (of_word i h).activity (entry_at run i).node k q.0 q.1

    pub kind_at : (i : ℕ) → IsHeld i → Is (whole_of run.plan is) (whose (node_of i)) (kind_of run (entry_at run i))
    kind_at i h = let n = (of_word i h).node in subst (Is (whole_of run.plan is) (whose (node_of i))) (sym (kind_same i h n.0 n.1)) n.1

    -- ---- 41 and ask: the node that is served first

    module _ (limits : RunInLimits run) where
      turn_same : (i : ℕ) → IsHeld i → (k : Kind) → kind_of run (entry_at run i) ≡ k → turn_at run i ≡ turn_of known (node_of i) k
      turn_same i h k q = λ n. record { start = starts_same i h n; kind = q n; position = (entry_at run i).position; node = (entry_at run i).node }

      served_before : (i j : ℕ) → IsHeld i → IsHeld j → starts_before run.plan.nodes (entry_at run i) (entry_at run j) ≡ true → ServedBefore known (node_of i) (node_of j)
      served_before i j h k q = record {
        kinds = (kind_of run (entry_at run i), kind_of run (entry_at run j));
        is = kind_at i h;
        other = kind_at j k;
        served = subst (λ (a : Turn). Served a (turn_of known (node_of j) (kind_of run (entry_at run j)))) (turn_same i h _ refl) (subst (Served (turn_at run i)) (turn_same j k _ refl) ((order_served run limits i j h k).0 q));
      }

      before_served : (i j : ℕ) → IsHeld i → IsHeld j → ServedBefore known (node_of i) (node_of j) → starts_before run.plan.nodes (entry_at run i) (entry_at run j) ≡ true
      before_served i j h k s =
          (order_served run limits i j h k).1
          (subst (λ (a : Turn). Served a (turn_at run j)) (sym (turn_same i h _ (kind_same i h _ s.is))) (subst (Served (turn_of known (node_of i) s.kinds.0)) (sym (turn_same j k _ (kind_same j k _ s.other))) s.served))

      module _ (P : ℕ → Type 0) (Q : Id → Type 0) (held : (i : ℕ) → P i → IsHeld i) (to : (i : ℕ) → P i → Q (node_of i)) (from : (x : Id) → Q x → (i : ℕ) × P i × (node_of i ≡ x)) where
        first_served : (i : ℕ) → FirstOf run P (starts_before run.plan.nodes) i → FirstServed known Q (node_of i)
        first_served i f = record { has = to i f.has; first = λ y q n. go y q n (from y q) }
          where
            goes : (j : ℕ) → P j → (node_of j ≡ node_of i → ⊥) → (b : Bool) → starts_before run.plan.nodes (entry_at run i) (entry_at run j) ≡ b → b ≡ true
            goes j h n true q = refl
            goes j h n false q = let s = service_telling run.plan.nodes (entry_at run i) (entry_at run j) (neither_before _ _ q (f.first j h)) in absurd (n (λ m. record { position = sym s.0 m; node = sym s.1 m }))

            go : (y : Id) → Q y → (y ≡ node_of i → ⊥) → (j : ℕ) × P j × (node_of j ≡ y) → ServedBefore known (node_of i) y
            go y q n (j, h, e) = subst (ServedBefore known (node_of i)) e (served_before i j (held i f.has) (held j h) (goes j h (λ z. n (sym e ∙ z)) (starts_before run.plan.nodes (entry_at run i) (entry_at run j)) refl))

        served_first : (x : Id) → FirstServed known Q x → (i : ℕ) × FirstOf run P (starts_before run.plan.nodes) i × (node_of i ≡ x)
        served_first x f = (p.0, record { has = p.1; first = λ j h. not_sooner j h (same_or_other j p.0); lowest = λ j h l. sooner j h (λ e. omega arith) }, p.2)
          where
            p : (i : ℕ) × P i × (node_of i ≡ x)
            p = from x f.has

            sooner : (j : ℕ) → P j → (j ≡ p.0 → ⊥) → starts_before run.plan.nodes (entry_at run p.0) (entry_at run j) ≡ true
            sooner j h n =
                before_served p.0 j (held p.0 p.1) (held j h)
                (subst (λ (z : Id). ServedBefore known z (node_of j)) (sym p.2) (f.first (node_of j) (to j h) (λ e. n (one_place j p.0 (held j h) (held p.0 p.1) (e ∙ sym p.2)))))

            not_sooner : (j : ℕ) → P j → (j ≡ p.0) ⊎ (j ≡ p.0 → ⊥) → starts_before run.plan.nodes (entry_at run j) (entry_at run p.0) ≡ false
            not_sooner j h (inl e) = rw e (not_itself _)
            not_sooner j h (inr n) = (starts_order run.plan.nodes).one_way (entry_at run p.0) (entry_at run j) (sooner j h n)

      pub late_served : (t : Clock) (i : ℕ) → FirstOf run (LateAt run t) (starts_before run.plan.nodes) i → FirstServed known (Late known t.0) (node_of i)
      late_served t = first_served (LateAt run t) (Late known t.0) (λ i o. ap is_held o.unstarted) (late_to t) (late_from t)

      pub served_late : (t : Clock) (x : Id) → FirstServed known (Late known t.0) x → (i : ℕ) × FirstOf run (LateAt run t) (starts_before run.plan.nodes) i × (node_of i ≡ x)
      served_late t = served_first (LateAt run t) (Late known t.0) (λ i o. ap is_held o.unstarted) (late_to t) (late_from t)

      pub due_served : (t : Clock) (i : ℕ) → FirstOf run (DueAt run t) (starts_before run.plan.nodes) i → FirstServed known (Due known t.0) (node_of i)
      due_served t = first_served (DueAt run t) (Due known t.0) (λ i o. ap is_held o.unstarted) (due_to t) (due_from t)

      pub served_due : (t : Clock) (x : Id) → FirstServed known (Due known t.0) x → (i : ℕ) × FirstOf run (DueAt run t) (starts_before run.plan.nodes) i × (node_of i ≡ x)
      served_due t = served_first (DueAt run t) (Due known t.0) (λ i o. ap is_held o.unstarted) (due_to t) (due_from t)
