-- The checks at a call: the answer to a call is what they object to, or what is left once they object to nothing; a run that
-- passes them is in limits, so that every sum with Ψ fits and every number of a found entry names something.
use Rattle.std.specs.Prelude.{◌≡◌, refl, Bool, true, false, List, [], ◌∷◌, ℕ, zero, suc, ◌≤◌, ◌<◌, length, get_or, Option, Some, None, Result, Ok, Err}
use Rattle.std.proofs.Common.{sym, ◌∙◌, subst, true≢false, ⊎_elim, arith}
use Rattle.basis.specs.Inner.Tells.{Tells, holds, fails}
use Rattle.basis.proofs.Laws.Tells.{told_true, tells_and, tells_or, tells_ltb, tells_leb}
use Rattle.time.specs.Time.{horizon}
use Rattle.time.specs.declared.Clock.{Clock}
use Rattle.plan.specs.Limits.{KindNames, InLimits}
use Rattle.plan.specs.declared.Node.{Node}
use Rattle.times.specs.Engine.{last_position}
use Rattle.times.specs.Limits.{ProgressInLimits}
use Rattle.run_limits.specs.Window.{entry_in_limits}
use Rattle.plan_limits.proofs.Laws.Plans.{tells_in_limits}
use Rattle.run_limits.proofs.Laws.Stored.{tells_stored}
use Rattle.run_limits.proofs.Laws.Places.{tells_window}
use Rattle.run_window.specs.declared.Entry.{Entry}
use Rattle.run_window.specs.declared.Found.{Found}
use Rattle.run_window.specs.declared.Sought.{Sought}
use Rattle.run_window.specs.Window.{vacant, is_free, is_held, node_place}
use Rattle.run_window.specs.Inner.Search.{first_of}
use Rattle.run_window.proofs.Laws.Tests.{held_unfree}
use Rattle.run_window.specs.Places.{Holds}
use Rattle.run_checks.specs.declared.Stop.{Stop}
use Rattle.run_checks.specs.declared.Moment.{Moment}
use Rattle.run_checks.specs.declared.Objection.{Objection}
use Rattle.run_checks.specs.Order.{Timed, reading_then, is_below, first_overdue, first_late, timely_by, called_by}
use Rattle.run_checks.proofs.Laws.Checks.{Passed, passed, called_goes, called_objects}
use Rattle.run.specs.declared.Run.{Run}
use Rattle.run.specs.declared.Answer.{Answer}
use Rattle.run.specs.Limits.{halt_in_limits, run_in_limits}
use Rattle.run.specs.Calls.{objected, moment_of, called, kind_of}
use Rattle.run.specs.Inner.Checks.{check_of}
use Rattle.run.specs.Inner.Loads.{Loads}

-- ---- the answer by the checks

-- a stop that is kept is the run's, and a run that is stopped kept none
abbrev pub Objected : Option Stop → Result (Option Found) Objection → Type 0
Objected halt (Ok k) = Unit {0}
Objected halt (Err (Objection.Refuses f)) = Unit {0}
Objected halt (Err (Objection.Keeps s)) = halt ≡ Some s
Objected halt (Err (Objection.Stops s)) = halt ≡ None

by_reading : (below : Bool) (overdue late found : Option Found) → Objected None (reading_then below overdue late Err (Ok found))
by_reading true overdue late found = tt
by_reading false (Some x) late found = refl
by_reading false None (Some x) found = refl
by_reading false None None found = tt

by_called : (limits : Bool) (halt : Option Stop) (m : Moment) (nodes : List Node) (w : List Entry) (found : Option Found) → Objected halt (called_by limits halt m nodes w Err (Ok found))
unfolding timely_by
by_called false halt m nodes w found = tt
by_called true (Some s) m nodes w found = refl
by_called true None m nodes w found = by_reading (is_below m) (first_overdue m w) (first_late m nodes w) found

module _ (run : Run) (t : Clock) (sought : Sought) (check : Result (Option Found) Objection) (q : check ≡ check_of run t sought) where
  said : check ≡ called_by (run_in_limits run) run.halt (moment_of run t) run.plan.nodes run.window Err (Ok (first_of run.plan.nodes sought run.window))
  unfolding check_of
  said = q

  pub objected_halt : Objected run.halt check
  objected_halt = subst (Objected run.halt) (sym said) (by_called (run_in_limits run) run.halt (moment_of run t) run.plan.nodes run.window (first_of run.plan.nodes sought run.window))

  pub goes : (k : Option Found) → check ≡ Ok k → Passed (run_in_limits run) run.halt (first_of run.plan.nodes sought run.window) k
  goes k g = passed (run_in_limits run) run.halt (moment_of run t) run.plan.nodes run.window (first_of run.plan.nodes sought run.window) k (sym said ∙ g)

  module _ (go : Answer) where
    pub answer_goes : (k : Option Found) → check ≡ Ok k → called run t go ≡ go
    answer_goes k g = called_goes (run_in_limits run) run.halt (moment_of run t) run.plan.nodes run.window (first_of run.plan.nodes sought run.window) check said (objected run t) go k g

    pub answer_objects : (o : Objection) → check ≡ Err o → called run t go ≡ objected run t o
    answer_objects o g = called_objects (run_in_limits run) run.halt (moment_of run t) run.plan.nodes run.window (first_of run.plan.nodes sought run.window) check said (objected run t) go o g

-- ---- a run in limits

pub tells_self : (b : Bool) → Tells b (b ≡ true)
tells_self true = holds refl
tells_self false = fails (λ e. true≢false (sym e))

-- what is known of an entry that is held
abbrev Known : ℕ → List ℕ → Entry → Type 0
Known activities sizes e =
    (e.position ≤ last_position)
    × (((e.activity < activities) × (e.node < get_or sizes e.activity 0)) × ((e.start.0 ≤ horizon) × (e.end.0 ≤ horizon)))

known : (activities : ℕ) (sizes : List ℕ) (e : Entry) → is_held e.phase ≡ true → entry_in_limits activities sizes e ≡ true → Known activities sizes e
unfolding entry_in_limits
known activities sizes e h q =
    ⊎_elim (λ (f : is_free e.phase ≡ true). absurd (true≢false (sym f ∙ held_unfree e.phase h))) (λ k. k)
    (told_true
    (tells_or (tells_self (is_free e.phase))
    (tells_and (tells_leb e.position last_position)
    (tells_and (tells_and (tells_ltb e.activity activities) (tells_ltb e.node (get_or sizes e.activity 0)))
    (tells_and (tells_leb e.start.0 horizon) (tells_leb e.end.0 horizon)))))
    q)

-- a claim of every place holds past the end too, where it holds of a free place
beyond : (P : Entry → Type 0) (w : List Entry) → P vacant → ((i : ℕ) → i < length w → P (get_or w i vacant)) → (i : ℕ) → P (get_or w i vacant)
beyond P [] v f i = v
beyond P (e ∷ w) v f zero = f 0 (omega arith)
beyond P (e ∷ w) v f (suc i) = beyond P w v (λ j l. f (suc j) (omega arith)) i

abbrev Good : ℕ → List ℕ → Entry → Type 0
Good activities sizes e = entry_in_limits activities sizes e ≡ true

-- a window that names nodes of the plan, of at most 32 activities of at most 64 nodes each
module _ (activities : ℕ) (sizes : List ℕ) (few : activities ≤ 32) (small : (a : ℕ) → a < activities → get_or sizes a 0 ≤ 64) where
  -- a node that is held is one of the plan's
  pub node_below : (e : Entry) → is_held e.phase ≡ true → Good activities sizes e → node_place e < 2048
  node_below e h q =
      let k = known activities sizes e h q in
      let b = k.1.0.0 in
      let n = k.1.0.1 in
      let z = small e.activity b in
      omega arith

  pub window_timed : (m : Moment) (w : List Entry) → m.psi.0 ≤ horizon → m.slack ≤ 1_000_000 → ((i : ℕ) → i < length w → Good activities sizes (get_or w i vacant)) → Timed m w
  window_timed m w p s good = (
    p,
    omega arith,
    beyond (λ (e : Entry). is_held e.phase ≡ true → (e.start.0 ≤ horizon) × (e.end.0 ≤ horizon)) w
        (λ h. absurd (true≢false (sym h)))
        (λ i l h. (known activities sizes (get_or w i vacant) h (good i l)).1.1),
    beyond (λ (e : Entry). is_held e.phase ≡ true → node_place e < 2048) w
        (λ h. absurd (true≢false (sym h)))
        (λ i l h. node_below (get_or w i vacant) h (good i l)),
  )

module _ (run : Run) (good : run_in_limits run ≡ true) where
  abbrev Stored : Type 0
  Stored = (run.plan.resources ≤ 16)
      × (run.plan.events ≤ 16)
      × ProgressInLimits run.plan.resources run.plan.events run.plan.automaton.states run.plan.outcomes run.progress

  parts : InLimits run.plan × ((run.psi.0 ≤ horizon) × (((1 ≤ run.slack) × (run.slack ≤ 1_000_000)) × (Stored × (((i : ℕ) → i < length run.window → Good run.plan.activities run.plan.sizes (get_or run.window i vacant)) × (halt_in_limits run.halt ≡ true)))))
  unfolding run_in_limits
  parts =
      told_true
      (tells_and (tells_in_limits run.plan)
      (tells_and (tells_leb run.psi.0 horizon)
      (tells_and (tells_and (tells_leb 1 run.slack) (tells_leb run.slack 1_000_000))
      (tells_and (tells_stored run.plan run.progress)
      (tells_and (tells_window run.plan.activities run.plan.sizes run.window) (tells_self (halt_in_limits run.halt)))))))
      good

  few : run.plan.activities ≤ 32
  few = parts.0.activities

  small : (a : ℕ) → a < run.plan.activities → get_or run.plan.sizes a 0 ≤ 64
  small a l = let z = (parts.0.sizes a l).1 in omega arith

  pub timed : (t : Clock) → Timed (moment_of run t) run.window
  timed t = window_timed run.plan.activities run.plan.sizes few small (moment_of run t) run.window parts.1.0 parts.1.1.0.1 parts.1.1.1.1.0

  pub state_below : run.progress.state < 64
  state_below = let s = parts.1.1.1.0.2.state in let m = parts.0.states.1 in omega arith

  -- its plan and its progress
  pub loads_in_limits : Loads run
  loads_in_limits = record { plan = parts.0; progress = parts.1.1.1.0.2 }

  -- a node that the window holds is one of the plan's
  pub named_held : length run.window ≡ 512 → (i : ℕ) (e : Entry) → Holds run.window i e × (i < length run.window) → (i < 512) × (node_place e < 2048) × KindNames run.plan (kind_of run e)
  named_held long i e (h, l) =
      let g = subst (Good run.plan.activities run.plan.sizes) h.entry (parts.1.1.1.1.0 i l) in
      let k = known run.plan.activities run.plan.sizes e h.held g in
      (omega arith, node_below run.plan.activities run.plan.sizes few small e h.held g, (parts.0.nodes e.activity e.node k.1.0.0 k.1.0.1).names)
