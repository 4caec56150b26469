-- A run that is as it should be is in limits: none gets number 50.
use Rattle.std.specs.Prelude.{◌≡◌, refl, true, List, [], ◌∷◌, ℕ, suc, ◌≤◌, ◌<◌, get_or, Option}
use Rattle.std.proofs.Common.{arith}
use Rattle.basis.specs.Inner.Tells.{Tells}
use Rattle.basis.proofs.Laws.Tells.{tells_iff, tells_and, told_true, is_true, tells_ltb, tells_leb}
use Rattle.basis.proofs.Laws.Bools.{and_both}
use Rattle.time.specs.Time.{horizon}
use Rattle.time.specs.declared.Clock.{Clock}
use Rattle.plan.specs.Limits.{InLimits}
use Rattle.plan.specs.declared.Plan.{Plan}
use Rattle.times.specs.Engine.{last_position}
use Rattle.times.specs.declared.Progress.{Progress}
use Rattle.run_window.specs.Window.{vacant, is_held}
use Rattle.run_window.proofs.Laws.Tests.{held_unfree}
use Rattle.run_window.specs.declared.Entry.{Entry}
use Rattle.run_limits.specs.Window.{entry_in_limits, window_in_limits}
use Rattle.plan_limits.proofs.Laws.Plans.{tells_in_limits}
use Rattle.run_limits.proofs.Laws.Stored.{tells_progress}
use Rattle.run.specs.Limits.{run_in_limits, halt_in_limits, stop_in_limits}
use Rattle.run_checks.specs.declared.Stop.{Stop}
use Rattle.run_path.specs.Pathed.{ProgressIn}
use Rattle.demands_run.proofs.Laws.Stands.{Accepted}

-- ---- the window

-- an entry names a node of the plan, and its times are at most 10^15
pub record EntryWithin (activities : ℕ) (sizes : List ℕ) (e : Entry) : Type 0 where
  pub position : e.position ≤ last_position
  pub activity : e.activity < activities
  pub node : e.node < get_or sizes e.activity 0
  pub start : e.start.0 ≤ horizon
  pub end : e.end.0 ≤ horizon

tells_entry : (activities : ℕ) (sizes : List ℕ) (e : Entry) → is_held e.phase ≡ true → Tells (entry_in_limits activities sizes e) (EntryWithin activities sizes e)
unfolding entry_in_limits
tells_entry activities sizes e h =
    rw (held_unfree e.phase h)
    (tells_iff (
      λ q. record { position = q.0; activity = q.1.0.0; node = q.1.0.1; start = q.1.1.0; end = q.1.1.1 },
      λ r. (r.position, ((r.activity, r.node), (r.start, r.end))),
    )
    (tells_and (tells_leb e.position last_position)
    (tells_and (tells_and (tells_ltb e.activity activities) (tells_ltb e.node (get_or sizes e.activity 0)))
    (tells_and (tells_leb e.start.0 horizon) (tells_leb e.end.0 horizon)))))

pub entry_passes : (activities : ℕ) (sizes : List ℕ) (e : Entry) → is_held e.phase ≡ true → EntryWithin activities sizes e → entry_in_limits activities sizes e ≡ true
entry_passes activities sizes e h r = is_true (tells_entry activities sizes e h) r

pub entry_within : (activities : ℕ) (sizes : List ℕ) (e : Entry) → is_held e.phase ≡ true → entry_in_limits activities sizes e ≡ true → EntryWithin activities sizes e
entry_within activities sizes e h q = told_true (tells_entry activities sizes e h) q

pub vacant_passes : (activities : ℕ) (sizes : List ℕ) → entry_in_limits activities sizes vacant ≡ true
unfolding entry_in_limits
vacant_passes activities sizes = refl

window_passes : (activities : ℕ) (sizes : List ℕ) (w : List Entry) → ((j : ℕ) → entry_in_limits activities sizes (get_or w j vacant) ≡ true) → window_in_limits activities sizes w ≡ true
unfolding window_in_limits
window_passes activities sizes [] h = refl
window_passes activities sizes (e ∷ w) h = and_both (entry_in_limits activities sizes e) (window_in_limits activities sizes w) (h 0) (window_passes activities sizes w (λ j. h (suc j)))

-- ---- the run

module _ (p : Plan) (psi : Clock) (slack : ℕ) (given : Accepted p psi slack) where
  limits : InLimits p
  limits = given.lawful.file.limits

  pub run_passes : (g : Progress) (w : List Entry) (last : Clock) (halt : Option Stop) → ProgressIn p g → ((j : ℕ) → entry_in_limits p.activities p.sizes (get_or w j vacant) ≡ true) → halt_in_limits halt ≡ true
      → run_in_limits (record { plan = p; psi = psi; slack = slack; progress = g; window = w; last = last; halt = halt }) ≡ true
  unfolding run_in_limits
  run_passes g w last halt inside entries stop =
      and_both _ _ (is_true (tells_in_limits p) limits)
      (and_both _ _ (is_true (tells_leb psi.0 horizon) given.start)
      (and_both _ _ given.host
      (and_both _ _ (is_true (tells_progress p limits.resources limits.events g) inside)
      (and_both _ _ (window_passes p.activities p.sizes w entries) stop))))

  -- a stop that names an entry of the window
  entry_named : (e : Entry) → is_held e.phase ≡ true → entry_in_limits p.activities p.sizes e ≡ true → (e.position ≤ last_position) × (e.node < 64)
  entry_named e h q =
      let r = entry_within p.activities p.sizes e h q in
      (r.position, (let u = (limits.sizes e.activity r.activity).1 in let v = r.node in omega arith))

  pub late_passes : (e : Entry) → is_held e.phase ≡ true → entry_in_limits p.activities p.sizes e ≡ true → stop_in_limits (Stop.Late e.position e.node) ≡ true
  late_passes e h q = let r = entry_named e h q in and_both _ _ (is_true (tells_leb _ _) r.0) (is_true (tells_ltb _ _) r.1)
