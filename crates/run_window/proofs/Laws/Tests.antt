-- What each test of one place tells, on the clock.
use Rattle.std.specs.Prelude.{◌≡◌, refl, true, false, ◌↔◌, ◌⊎◌, ℕ, ◌+◌, ◌≤◌, ◌<◌, eqb}
use Rattle.std.proofs.Common.{sym, true≢false, inl, inr}
use borrow.Author.Tests.{ltb-true, ltb-false, lt-ltb, leb-true, leb-false, le-leb, eqb-true, eq-eqb}
use Rattle.basis.proofs.Laws.Bools.{and_left, and_right, and_both}
use Rattle.time.specs.declared.Clock.{Clock}
use Rattle.run_window.specs.declared.Phase.{Phase}
use Rattle.run_window.specs.declared.Entry.{Entry}
use Rattle.run_window.specs.Window.{is_free, is_loaded, is_started, is_held, is_overdue, is_late, is_due, is_node}

-- ---- phases

pub started_true : (s : Phase) → is_started s ≡ true → s ≡ Phase.Started
started_true Phase.Free e = absurd (true≢false (sym e))
started_true Phase.Loaded e = absurd (true≢false (sym e))
started_true Phase.Started e = refl

pub loaded_true : (s : Phase) → is_loaded s ≡ true → s ≡ Phase.Loaded
loaded_true Phase.Free e = absurd (true≢false (sym e))
loaded_true Phase.Loaded e = refl
loaded_true Phase.Started e = absurd (true≢false (sym e))

pub free_true : (s : Phase) → is_free s ≡ true → s ≡ Phase.Free
free_true Phase.Free e = refl
free_true Phase.Loaded e = absurd (true≢false (sym e))
free_true Phase.Started e = absurd (true≢false (sym e))

-- a place is free or holds a node, and never both
pub free_or_held : (s : Phase) → (is_free s ≡ true) ⊎ (is_free s ≡ false)
free_or_held Phase.Free = inl refl
free_or_held Phase.Loaded = inr refl
free_or_held Phase.Started = inr refl

pub free_unheld : (s : Phase) → is_free s ≡ true → is_held s ≡ false
free_unheld Phase.Free e = refl
free_unheld Phase.Loaded e = absurd (true≢false (sym e))
free_unheld Phase.Started e = absurd (true≢false (sym e))

pub unfree_held : (s : Phase) → is_free s ≡ false → is_held s ≡ true
unfree_held Phase.Free e = absurd (true≢false e)
unfree_held Phase.Loaded e = refl
unfree_held Phase.Started e = refl

pub held_unfree : (s : Phase) → is_held s ≡ true → is_free s ≡ false
held_unfree Phase.Free e = absurd (true≢false (sym e))
held_unfree Phase.Loaded e = refl
held_unfree Phase.Started e = refl

-- ---- two tests at once

-- ---- the tests

module _ (psi t : Clock) (e : Entry) where
  pub overdue_tells : is_overdue psi t e ≡ true ↔ ((e.phase ≡ Phase.Started) × (psi.0 + e.end.0 ≤ t.0))
  unfolding is_overdue
  overdue_tells = (
    λ q. (started_true e.phase (and_left (is_started e.phase) _ q), leb-true _ _ (and_right (is_started e.phase) _ q)),
    λ q. rw q.0 (le-leb _ _ q.1),
  )

  pub overdue_false : is_overdue psi t e ≡ false → e.phase ≡ Phase.Started → t.0 < psi.0 + e.end.0
  unfolding is_overdue
  overdue_false q s = leb-false _ _ (rw s at q)

  pub due_tells : is_due psi t e ≡ true ↔ ((e.phase ≡ Phase.Loaded) × (psi.0 + e.start.0 ≤ t.0))
  unfolding is_due
  due_tells = (
    λ q. (loaded_true e.phase (and_left (is_loaded e.phase) _ q), leb-true _ _ (and_right (is_loaded e.phase) _ q)),
    λ q. rw q.0 (le-leb _ _ q.1),
  )

  pub due_false : is_due psi t e ≡ false → e.phase ≡ Phase.Loaded → t.0 < psi.0 + e.start.0
  unfolding is_due
  due_false q s = leb-false _ _ (rw s at q)

  pub late_tells : (slack : ℕ) → is_late psi slack t e ≡ true ↔ ((e.phase ≡ Phase.Loaded) × (psi.0 + e.start.0 + slack < t.0))
  unfolding is_late
  late_tells slack = (
    λ q. (loaded_true e.phase (and_left (is_loaded e.phase) _ q), ltb-true _ _ (and_right (is_loaded e.phase) _ q)),
    λ q. rw q.0 (lt-ltb _ _ q.1),
  )

  pub late_false : (slack : ℕ) → is_late psi slack t e ≡ false → e.phase ≡ Phase.Loaded → t.0 ≤ psi.0 + e.start.0 + slack
  unfolding is_late
  late_false slack q s = ltb-false _ _ (rw s at q)

module _ (position node : ℕ) (e : Entry) where
  pub node_tells : is_node position node e ≡ true ↔ ((is_held e.phase ≡ true) × (e.position ≡ position) × (e.node ≡ node))
  unfolding is_node
  node_tells = (
    λ q. (
      and_left (is_held e.phase) _ q,
      eqb-true _ _ (and_left (eqb e.position position) _ (and_right (is_held e.phase) _ q)),
      eqb-true _ _ (and_right (eqb e.position position) _ (and_right (is_held e.phase) _ q)),
    ),
    λ q. and_both (is_held e.phase) _ q.0 (and_both (eqb e.position position) _ (eq-eqb _ _ q.1) (eq-eqb _ _ q.2)),
  )
