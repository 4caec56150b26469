-- A transition passes the limits of number 44 where the engine stands: its test tells a completion, an availability or the position.
use Rattle.std.specs.Prelude.{◌≡◌, Bool, true, cond, List, ℕ, zero, suc, ◌+◌, ◌≤◌, ◌<◌, ltb, length}
use Rattle.std.proofs.Common.{subst, arith}
use Rattle.std.proofs.Math.Decide.{ℕ_discrete}
use Rattle.basis.specs.Inner.Tells.{Tells, holds, fails}
use Rattle.basis.proofs.Laws.Tells.{tells_iff, tells_ltb}
use Rattle.time.specs.Time.{horizon}
use Rattle.time.specs.declared.Specified.{Specified}
use Rattle.plan.specs.Plan.{move, emitted_by}
use Rattle.plan.specs.declared.Plan.{Plan}
use Rattle.times.specs.Times.{at}
use Rattle.times.specs.Engine.{last_position, held_of, above_of, beyond_of, closed_of, emits_of, timed_of}
use Rattle.times.specs.declared.Progress.{Progress}
use Rattle.run_path.specs.Path.{taken_by}
use Rattle.demands_run.proofs.Laws.Taken.{next_position}

-- the engine's times or its position pass a limit, where it stands at g
pub data Crosses (p : Plan) (t : ℕ) (g : Progress) : Type 0 where
  completion : (n : ℕ) → n < length (emitted_by p (move p.automaton t).output) → horizon < at (taken_by p t g).schedule.end n → Crosses p t g
  availability : (r : ℕ) → r < p.resources → horizon < at (taken_by p t g).progress.available r → Crosses p t g
  position : last_position < g.position → Crosses p t g

tells_times : (ts : List Specified) (k i : ℕ) → Tells (above_of ts i k) ((j : ℕ) × (i ≤ j) × (j < i + k) × (horizon < at ts j))
unfolding above_of
tells_times ts zero i = fails (λ s. omega (arith, s.1, s.2))
tells_times ts (suc k) i = step (tells_ltb horizon (at ts i)) (tells_times ts k (i + 1))
  where
    step : {b c : Bool} → Tells b (horizon < at ts i) → Tells c ((j : ℕ) × (i + 1 ≤ j) × (j < i + 1 + k) × (horizon < at ts j))
        → Tells (cond b true c) ((j : ℕ) × (i ≤ j) × (j < i + suc k) × (horizon < at ts j))
    step (holds h) t = holds (i, omega arith, omega arith, h)
    step (fails n) (holds s) = holds (s.0, omega (arith, s.1), omega (arith, s.2), s.3)
    step (fails n) (fails m) =
        fails (λ s. elim (ℕ_discrete s.0 i) [ yes z ↦ n (subst (λ (j : ℕ). horizon < at ts j) z s.3) | no z ↦ m (s.0, omega (arith, s.1, z), omega (arith, s.2), s.3) ])

pub tells_crosses : (p : Plan) (t : ℕ) (g : Progress) → Tells (taken_by p t g).beyond (Crosses p t g)
unfolding timed_of emits_of closed_of beyond_of held_of
tells_crosses p t g =
    step (place _ g.position (next_position p t g))
    (tells_times (taken_by p t g).schedule.end (length (emitted_by p (move p.automaton t).output)) 0)
    (tells_times (taken_by p t g).progress.available p.resources 0)
  where
    place : (x y : ℕ) → x + 1 ≡ y + 1 → Tells (ltb last_position x) (last_position < y)
    place x y e = tells_iff (λ l. omega arith, λ l. omega arith) (tells_ltb last_position x)

    step : {b c d : Bool} → Tells b (last_position < g.position)
        → Tells c ((n : ℕ) × (0 ≤ n) × (n < 0 + length (emitted_by p (move p.automaton t).output)) × (horizon < at (taken_by p t g).schedule.end n))
        → Tells d ((r : ℕ) × (0 ≤ r) × (r < 0 + p.resources) × (horizon < at (taken_by p t g).progress.available r))
        → Tells (cond b true (cond c true d)) (Crosses p t g)
    step (holds l) x y = holds (Crosses.position l)
    step (fails m) (holds s) y = holds (Crosses.completion s.0 (omega (arith, s.2)) s.3)
    step (fails m) (fails n) (holds s) = holds (Crosses.availability s.0 (omega (arith, s.2)) s.3)
    step (fails m) (fails n) (fails o) = fails none
      where
        none : Crosses p t g → ⊥
        none (Crosses.completion i l h) = n (i, omega arith, omega arith, h)
        none (Crosses.availability i l h) = o (i, omega arith, omega arith, h)
        none (Crosses.position l) = m l
