-- "Order at a call: 50, kept stop, 51, 42, 41, 52 to 55.": what the checks object to, and what follows where they object to
-- nothing. The answer to a call and what the code's checks say are both instances.
use Rattle.std.specs.Prelude.{Bool, cond, List, ℕ, ◌≤◌, ltb, Option, Some, None}
use Rattle.time.specs.Time.{horizon}
use Rattle.plan.specs.declared.Node.{Node}
use Rattle.run_window.specs.declared.Entry.{Entry}
use Rattle.run_window.specs.declared.Found.{Found}
use Rattle.run_window.specs.Window.{is_started, is_overdue, is_late, starts_before, ends_before, on_found, first}
use Rattle.run_window.specs.Inner.Times.{AllInTime, AllNamed}
use Rattle.run_checks.specs.declared.Stop.{Stop}
use Rattle.run_checks.specs.declared.Refusal.{Refusal}
use Rattle.run_checks.specs.declared.Objection.{Objection}
use Rattle.run_checks.specs.declared.Moment.{Moment}

-- ---- 50, kept stop, 51, 42, 41

-- 41 late
abbrev pub late_then : {A : Type 0} → Option Found → (Objection → A) → A → A
late_then late f go = on_found late (λ i e. f (Objection.Stops (Stop.Late e.position e.node))) go

-- 42 overdue
abbrev pub overdue_then : {A : Type 0} → Option Found → (Objection → A) → A → A
overdue_then overdue f go = on_found overdue (λ i e. f (Objection.Stops (Stop.Overdue e.position e.node))) go

-- 51 reading below the last one, 42, 41
abbrev pub reading_then : {A : Type 0} → Bool → Option Found → Option Found → (Objection → A) → A → A
reading_then below overdue late f go = cond below (f (Objection.Refuses Refusal.ReadingBelow)) (overdue_then overdue f (late_then late f go))

abbrev pub is_below : Moment → Bool
is_below m = ltb m.t.0 m.last.0

-- the overdue node with the earliest completion; the late node with the earliest start, by the nodes of the plan
abbrev pub first_overdue : Moment → List Entry → Option Found
first_overdue m w = first (is_overdue m.psi m.t) ends_before 0 w

abbrev pub first_late : Moment → List Node → List Entry → Option Found
first_late m nodes w = first (is_late m.psi m.slack m.t) (starts_before nodes) 0 w

unfoldable pub timely_by : {A : Type 0} → Moment → List Node → List Entry → (Objection → A) → A → A
timely_by m nodes w f go = reading_then (is_below m) (first_overdue m w) (first_late m nodes w) f go

abbrev pub on_halt : {A : Type 0} → Option Stop → (Stop → A) → A → A
on_halt None f z = z
on_halt (Some s) f z = f s

-- 50 and the kept stop, then the others
abbrev pub called_by : {A : Type 0} → Bool → Option Stop → Moment → List Node → List Entry → (Objection → A) → A → A
called_by limits halt m nodes w f go =
    cond limits (on_halt halt (λ s. f (Objection.Keeps s)) (timely_by m nodes w f go)) (f (Objection.Refuses Refusal.OutOfLimits))

-- the times that are added to Ψ, so that every sum fits, and the nodes that the window names
abbrev pub Timed : Moment → List Entry → Type 0
Timed m w = (m.psi.0 ≤ horizon) × (m.slack ≤ horizon) × AllInTime w × AllNamed w

-- ---- 52, 53

-- 53 node not started
abbrev pub started_then : {A : Type 0} → ℕ → Entry → (ℕ → Entry → A) → (Refusal → A) → A
started_then i e f g = cond (is_started e.phase) (f i e) (g Refusal.NotStarted)

-- 52 no such node in the window
abbrev pub reported_by : {A : Type 0} → Option Found → (ℕ → Entry → A) → (Refusal → A) → A
reported_by found f g = on_found found (λ i e. started_then i e f g) (g Refusal.NoSuchNode)
