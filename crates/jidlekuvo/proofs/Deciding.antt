-- What a call does to a run, from what the checks say of its numbers.
use Rattle.std.specs.Prelude.{Option, Result}
use mathlib.Core.Path.{◌≡◌, refl, ◌∙◌}
use Prim.Native.Nat.{◌<◌}
use Rattle.run_window.specs.declared.Found.{Found}
use Rattle.run_checks.specs.declared.Objection.{Objection}
use Rattle.run.specs.declared.Call.{Call}
use Rattle.run.specs.declared.Effect.{Effect}
use Rattle.run.specs.Calls.{reading_of}
use Rattle.run.specs.Inner.Effects.{sought_by, found_by, place_of, checked_of, effect_of}
use Rattle.held.specs.declared.Held.{Held}
use Rattle.held.specs.Held.{run_of}
use Rattle.held_checks.specs.Inner.Checks.{check_nodes_last}
use Rattle.held_checks.proofs.Laws.Checks.{found_below, effect_read_lem}
use Rattle.jidlekuvo.specs.Inner.Steps.{effect_in}

module _ (h : Held) (c : Call) (check : Result (Option Found) Objection) (q : check ≡ check_nodes_last (run_of h) (reading_of c) (sought_by h.rest.psi c)) where
  pub place_below : place_of (found_by check) < 2_048
  place_below = found_below (run_of h) (reading_of c) (sought_by h.rest.psi c) check q

  pub effect_is : (effect : Effect) → effect ≡ effect_in h.plan c check → effect ≡ effect_of c (checked_of (run_of h) (reading_of c) (sought_by (run_of h).psi c))
  unfolding run_of
  effect_is effect e = e ∙ effect_read_lem (run_of h) (reading_of c) c (sought_by h.rest.psi c) check _ _ q refl refl
