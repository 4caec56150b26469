-- The way on, by what the state does next.
use mathlib.Core.Path.{◌≡◌}
use Prim.Native.Nat.{ℕ}
use Rattle.plan.specs.declared.Automaton.{Automaton}
use Rattle.automaton.specs.declared.Next.{Next}
use Rattle.times.specs.declared.Progress.{Progress}
use Rattle.run_outcomes.specs.Told.{oldest_told}
use Rattle.run_outcomes.specs.Way.{by_told, way_on}

module _ (a : Automaton) (g : Progress) where
  pub way_ended : (n : Next) → n ≡ Next.Ended → Next.Ended ≡ way_on a g n
  unfolding way_on
  way_ended n q = rw q

  pub way_goes : (n : Next) (t : ℕ) → n ≡ Next.Goes t → Next.Ended ≡ way_on a g n
  unfolding way_on
  way_goes n t q = rw q

  pub way_waits : (n : Next) (e : ℕ) → n ≡ Next.Waits e → by_told a g.state e (oldest_told g e) ≡ way_on a g n
  unfolding way_on
  way_waits n e q = rw q
