-- `first` finds the place that goes first, and it finds nothing exactly where no place has what is looked for.
use Rattle.std.specs.Prelude.{◌≡◌, refl, Bool, true, false, cond, List, [], ◌∷◌, ℕ, zero, suc, ◌+◌, ◌<◌, length, get_or, Option, Some, None}
use Rattle.std.proofs.Common.{sym, ◌∙◌, ap, subst, true≢false, arith}
use Rattle.time.specs.declared.Clock.{Clock}
use Rattle.run_window.specs.declared.Entry.{Entry}
use Rattle.run_window.specs.declared.Found.{Found}
use Rattle.run_window.specs.Window.{vacant, better, first, on_found, is_overdue, is_late, is_due, is_node, found_at}
use Rattle.run_window.proofs.Laws.Tests.{overdue_tells, late_tells, due_tells, node_tells}
use Rattle.run_window.proofs.Laws.Order.{Order}
use Rattle.run_window.proofs.Laws.Firsts.{first_found, first_nothing, nothing_first}
use Rattle.run.specs.declared.Run.{Run}
use Rattle.demands.specs.Conditions.{entry_at, OverdueAt, LateAt, DueAt, NodeAt, Nowhere, FirstOf}

-- ---- of those that go alike the lowest place is found

-- entry e goes before each of those below place i that pass the test
abbrev Below : (Entry → Bool) → (Entry → Entry → Bool) → List Entry → ℕ → Entry → Type 0
Below p goes w i e = (j : ℕ) → j < i → p (get_or w j vacant) ≡ true → goes e (get_or w j vacant) ≡ true

-- of the places of w, counted from k
abbrev Lowest : (Entry → Bool) → (Entry → Entry → Bool) → ℕ → List Entry → Option Found → Type 0
Lowest p goes k w None = Unit {0}
Lowest p goes k w (Some x) = (j : ℕ) × (x.place ≡ k + j) × Below p goes w j x.entry

module _ (p : Entry → Bool) (goes : Entry → Entry → Bool) (x : Entry) (w : List Entry) where
  behind : (i : ℕ) (e : Entry) → (p x ≡ true → goes e x ≡ true) → Below p goes w i e → Below p goes (x ∷ w) (suc i) e
  behind i e h g zero l q = h q
  behind i e h g (suc j) l q = g j (omega arith) q

  front : (e : Entry) → Below p goes (x ∷ w) 0 e
  front e j l q = absurd (omega arith)

  choose : (k i : ℕ) (e : Entry) (b : Bool) → goes e x ≡ b → Lowest p goes (suc k) w (found_at i e) → Lowest p goes k (x ∷ w) (cond b (found_at i e) (found_at k x))
  choose k i e true o (j, q, g) = (suc j, omega arith, behind j e (λ h. o) g)
  choose k i e false o (j, q, g) = (0, omega arith, front x)

  step : (k : ℕ) (b : Bool) → p x ≡ b → (r : Option Found) → Lowest p goes (suc k) w r → Lowest p goes k (x ∷ w) (cond b (better goes k x r) r)
  step k true t None g = (0, omega arith, front x)
  step k true t (Some y) g = choose k y.place y.entry (goes y.entry x) refl g
  step k false f None g = tt
  step k false f (Some x) (j, q, g) = (suc j, omega arith, behind j x.entry (λ h. absurd (true≢false (sym h ∙ f))) g)

lowest : (p : Entry → Bool) (goes : Entry → Entry → Bool) (k : ℕ) (w : List Entry) → Lowest p goes k w (first p goes k w)
unfolding first
lowest p goes k [] = tt
lowest p goes k (x ∷ w) = step p goes x w k (p x) refl (first p goes (suc k) w) (lowest p goes (suc k) w)

first_lowest : (p : Entry → Bool) (goes : Entry → Entry → Bool) (w : List Entry) (i : ℕ) (e : Entry) → first p goes 0 w ≡ found_at i e → Below p goes w i e
first_lowest p goes w i e q = one (subst (Lowest p goes 0 w) q (lowest p goes 0 w))
  where
    one : (j : ℕ) × (i ≡ 0 + j) × Below p goes w j e → Below p goes w i e
    one (j, s, g) = let z : j ≡ i = omega arith in subst (λ (n : ℕ). Below p goes w n e) z g

-- a place past the end is vacant
past_end : (p : Entry → Bool) → p vacant ≡ false → (w : List Entry) (i : ℕ) → p (get_or w i vacant) ≡ true → i < length w
past_end p v [] i q = absurd (true≢false (sym q ∙ v))
past_end p v (x ∷ w) zero q = omega arith
past_end p v (x ∷ w) (suc i) q = let l = past_end p v w i q in omega arith

-- ---- a test p, and what P it tells of each place

pub record Tells (run : Run) (p : Entry → Bool) (P : ℕ → Type 0) : Type 0 where
  pub vacancy : p vacant ≡ false
  pub passed : (i : ℕ) → p (entry_at run i) ≡ true → P i
  pub passes : (i : ℕ) → P i → p (entry_at run i) ≡ true

module _ (run : Run) (p : Entry → Bool) (P : ℕ → Type 0) (tells : Tells run p P) (goes : Entry → Entry → Bool) (order : Order goes) where
  inside : (i : ℕ) → P i → i < length run.window
  inside i h = past_end p tells.vacancy run.window i (tells.passes i h)

  found_here : (i : ℕ) → first p goes 0 run.window ≡ found_at i (entry_at run i) → FirstOf run P goes i
  found_here i q =
      let f = first_found p goes order run.window i (entry_at run i) q in
      record {
        has = tells.passed i f.passes;
        first = λ j h. f.least j (inside j h) (tells.passes j h);
        lowest = λ j h l. first_lowest p goes run.window i (entry_at run i) q j l (tells.passes j h);
      }

  found_its : (i : ℕ) (e : Entry) → first p goes 0 run.window ≡ found_at i e → first p goes 0 run.window ≡ found_at i (entry_at run i)
  found_its i e q = q ∙ ap (found_at i) (sym (first_found p goes order run.window i e q).stands)

  found_none : first p goes 0 run.window ≡ None → Nowhere P
  found_none q i h = true≢false (sym (tells.passes i h) ∙ first_nothing p goes order run.window q i (inside i h))

  -- two places cannot both go first
  apart : (i j : ℕ) → FirstOf run P goes i → FirstOf run P goes j → i < j → ⊥
  apart i j f g l = true≢false (sym (g.lowest i f.has l) ∙ f.first j g.has)

  only : (i j : ℕ) → FirstOf run P goes i → FirstOf run P goes j → i ≡ j
  only i j f g =
      let a : (i < j → ⊥) = apart i j f g in
      let b : (j < i → ⊥) = apart j i g f in
      omega arith

  -- by cases of what is found
  pub by_place : {A : Type 0} (Q : A → Type 0) (f : ℕ → Entry → A) (z : A) → ((i : ℕ) → FirstOf run P goes i → Q (f i (entry_at run i))) → (Nowhere P → Q z)
      → Q (on_found (first p goes 0 run.window) f z)
  by_place Q f z one none = go (first p goes 0 run.window) refl
    where
      go : (r : Option Found) → first p goes 0 run.window ≡ r → Q (on_found r f z)
      go None q = none (found_none q)
      go (Some y) q =
          subst (λ (x : Entry). Q (f y.place x)) (first_found p goes order run.window y.place y.entry q).stands (one y.place (found_here y.place (found_its y.place y.entry q)))

  pub first_place : (i : ℕ) → FirstOf run P goes i → first p goes 0 run.window ≡ found_at i (entry_at run i)
  first_place i f = go (first p goes 0 run.window) refl
    where
      go : (r : Option Found) → first p goes 0 run.window ≡ r → first p goes 0 run.window ≡ found_at i (entry_at run i)
      go None q = absurd (found_none q i f.has)
      go (Some x) q =
          let h = found_its x.place x.entry q in
          let z : x.place ≡ i = only x.place i (found_here x.place h) f in
          subst (λ (n : ℕ). first p goes 0 run.window ≡ found_at n (entry_at run n)) z h

  pub none_place : Nowhere P → first p goes 0 run.window ≡ None
  none_place n = nothing_first p goes order run.window (λ j l. unpassed j (p (entry_at run j)) refl)
    where
      unpassed : (j : ℕ) (b : Bool) → p (entry_at run j) ≡ b → p (entry_at run j) ≡ false
      unpassed j true q = absurd (n j (tells.passed j q))
      unpassed j false q = q

-- ---- the tests of a call

module _ (run : Run) (t : Clock) where
  pub overdue_places : Tells run (is_overdue run.psi t) (OverdueAt run t)
  unfolding is_overdue
  overdue_places = record {
    vacancy = refl;
    passed = λ i q. let h = (overdue_tells run.psi t (entry_at run i)).0 q in record { started = h.0; past = h.1 };
    passes = λ i h. (overdue_tells run.psi t (entry_at run i)).1 (h.started, h.past);
  }

  pub late_places : Tells run (is_late run.psi run.slack t) (LateAt run t)
  unfolding is_late
  late_places = record {
    vacancy = refl;
    passed = λ i q. let h = (late_tells run.psi t (entry_at run i) run.slack).0 q in record { unstarted = h.0; past = h.1 };
    passes = λ i h. (late_tells run.psi t (entry_at run i) run.slack).1 (h.unstarted, h.past);
  }

  pub due_places : Tells run (is_due run.psi t) (DueAt run t)
  unfolding is_due
  due_places = record {
    vacancy = refl;
    passed = λ i q. let h = (due_tells run.psi t (entry_at run i)).0 q in record { unstarted = h.0; due = h.1 };
    passes = λ i h. (due_tells run.psi t (entry_at run i)).1 (h.unstarted, h.due);
  }

pub node_places : (run : Run) (p n : ℕ) → Tells run (is_node p n) (NodeAt run p n)
unfolding is_node
node_places run p n = record {
  vacancy = refl;
  passed = λ i q. let h = (node_tells p n (entry_at run i)).0 q in record { held = h.0; position = h.1; node = h.2 };
  passes = λ i h. (node_tells p n (entry_at run i)).1 (h.held, h.position, h.node);
}
