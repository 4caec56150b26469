-- Where the behaviour stands at first is within the plan's limits.
use Rattle.std.specs.Prelude.{◌≡◌, refl, false, List, [], ◌∷◌, ◌++◌, map, ℕ, zero, suc, ◌-◌, ◌≤◌, ltb, length, get_or, replicate}
use Rattle.std.proofs.Common.{ap, arith, ltb-false}
use Rattle.basis.proofs.Laws.Lists.{all_same}
use Rattle.basis.proofs.Laws.Bools.{or-false}
use Rattle.time.specs.Time.{horizon}
use Rattle.time.specs.declared.Specified.{Specified}
use Rattle.plan.specs.Limits.{InLimits}
use Rattle.plan.specs.declared.Plan.{Plan}
use Rattle.times.specs.Times.{specified, at}
use Rattle.run_path.specs.Pathed.{ProgressIn}
use Rattle.run_opening.specs.Given.{at_first, availabilities, any_above}

-- availability r of those given, 0 past them
pub given_at : (ts : List ℕ) (n r : ℕ) → at (map specified ts ++ replicate n (specified 0)) r ≡ get_or ts r 0
given_at [] n r = ap (λ (s : Specified). s.0) (all_same n r (specified 0))
given_at (t ∷ ts) n zero = refl
given_at (t ∷ ts) n (suc r) = given_at ts n r

pub none_above : (ts : List ℕ) → any_above ts ≡ false → (r : ℕ) → get_or ts r 0 ≤ horizon
unfolding any_above
none_above [] e r = omega arith
none_above (t ∷ ts) e zero = ltb-false horizon t (or-false (ltb horizon t) (any_above ts) e).0
none_above (t ∷ ts) e (suc r) = none_above ts (or-false (ltb horizon t) (any_above ts) e).1 r

pub first_in : (p : Plan) → InLimits p → (ts : List ℕ) → any_above ts ≡ false → ProgressIn p (at_first (availabilities ts) p.automaton.initial)
first_in p limits ts early = record {
  available = λ r l. (let u = given_at ts (16 - length ts) r in let x = none_above ts early r in omega arith);
  latest = λ e l. (let u = ap (λ (s : Specified). s.0) (all_same 16 e (specified 0)) in omega arith);
  lengths = λ e l. (let u = all_same {A = ℕ} 16 e 0 in omega arith);
  pending = λ e i l m. absurd (let u = all_same {A = ℕ} 16 e 0 in omega arith);
  position = omega arith;
  state = limits.initial;
}
