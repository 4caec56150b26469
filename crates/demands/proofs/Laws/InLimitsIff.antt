-- `in_limits_lem`: the test of number 50 tells exactly the runs in limits.
use Rattle.std.specs.Prelude.{◌≡◌, refl, true, List, ◌↔◌, ℕ, ◌<◌, length, get_or, Option, Some, None}
use Rattle.std.proofs.Common.{subst, ⊎_elim}
use Rattle.basis.specs.Inner.Tells.{Tells, holds}
use Rattle.basis.proofs.Laws.Tells.{told_true, tells_iff, tells_and, tells_ltb, tells_leb, tells_then}
use Rattle.time.specs.Time.{horizon}
use Rattle.plan.specs.declared.Plan.{Plan}
use Rattle.times.specs.Engine.{last_position}
use Rattle.run_limits.specs.Window.{entry_in_limits}
use Rattle.plan_limits.proofs.Laws.Plans.{tells_in_limits}
use Rattle.run_limits.proofs.Laws.Stored.{tells_progress}
use Rattle.run_limits.proofs.Laws.Places.{tells_window}
use Rattle.run_window.specs.Window.{vacant, is_free, is_held}
use Rattle.run_window.proofs.Laws.Tests.{free_or_held, unfree_held}
use Rattle.run_window.specs.Places.{Holds}
use Rattle.run_window.specs.declared.Entry.{Entry}
use Rattle.run_window.proofs.Laws.Places.{holds_within}
use Rattle.run.specs.declared.Run.{Run}
use Rattle.run_checks.specs.declared.Stop.{Stop}
use Rattle.run.specs.Limits.{run_in_limits, stop_in_limits, halt_in_limits}
use Rattle.demands_run.proofs.Laws.Bounds.{entry_passes, entry_within}
use Rattle.demands.proofs.Laws.OpeningTests.{is_true}
use Rattle.demands.specs.InLimits.{EntryInLimits, StopInLimits, HaltInLimits, RunInLimits, StatementInLimits}

tells_stop : (s : Stop) → Tells (stop_in_limits s) (StopInLimits s)
tells_stop (Stop.Late p n) = tells_and (tells_leb p last_position) (tells_ltb n 64)
tells_stop (Stop.Overdue p n) = tells_and (tells_leb p last_position) (tells_ltb n 64)
tells_stop Stop.Full = holds tt
tells_stop Stop.Beyond = holds tt

tells_halt : (h : Option Stop) → Tells (halt_in_limits h) (HaltInLimits h)
tells_halt None = holds tt
tells_halt (Some s) = tells_stop s

module _ (p : Plan) where
  abbrev Passes : Entry → Type 0
  Passes e = entry_in_limits p.activities p.sizes e ≡ true

  free_passes : (e : Entry) → is_free e.phase ≡ true → Passes e
  unfolding entry_in_limits
  free_passes e f = rw f

  -- each place passes iff each entry that is held is in limits
  entries : (w : List Entry) → ((i : ℕ) → i < length w → Passes (get_or w i vacant)) ↔ ((i : ℕ) (e : Entry) → Holds w i e → EntryInLimits p e)
  entries w = (
    λ f i e h.
        let r = entry_within p.activities p.sizes e h.held (subst Passes h.entry (f i (holds_within w i e h))) in
        record { position = r.position; activity = r.activity; node = r.node; start = r.start; end = r.end },
    λ f i l. ⊎_elim (free_passes (get_or w i vacant)) (λ n. held f i (unfree_held (get_or w i vacant).phase n)) (free_or_held (get_or w i vacant).phase),
  )
    where
      held : ((i : ℕ) (e : Entry) → Holds w i e → EntryInLimits p e) → (i : ℕ) → is_held (get_or w i vacant).phase ≡ true → Passes (get_or w i vacant)
      held f i h =
          let r = f i (get_or w i vacant) (record { entry = refl; held = h }) in
          entry_passes p.activities p.sizes (get_or w i vacant) h record { position = r.position; activity = r.activity; node = r.node; start = r.start; end = r.end }

pub tells_run : (run : Run) → Tells (run_in_limits run) (RunInLimits run)
unfolding run_in_limits
tells_run run =
    tells_iff (
      λ q. record { plan = q.0; psi = q.1.0; slack = q.1.1.0; progress = q.1.1.1.0; window = q.1.1.1.1.0; halt = q.1.1.1.1.1 },
      λ r. (r.plan, (r.psi, (r.slack, (r.progress, (r.window, r.halt))))),
    )
    (tells_then (tells_in_limits run.plan) λ limits.
    tells_and (tells_leb run.psi.0 horizon)
    (tells_and (tells_and (tells_leb 1 run.slack) (tells_leb run.slack 1_000_000))
    (tells_and (tells_progress run.plan limits.resources limits.events run.progress)
    (tells_and (tells_iff (entries run.plan run.window) (tells_window run.plan.activities run.plan.sizes run.window)) (tells_halt run.halt)))))

pub in_limits_lem : StatementInLimits
in_limits_lem run = (λ q. told_true (tells_run run) q, λ r. is_true (tells_run run) (λ n. n r))
