-- Words, their times and the reports say of loading one thing only: what it reaches, and how it ends.
use Rattle.std.specs.Prelude.{◌≡◌, refl, List, ◌∷◌, ℕ, Option}
use Rattle.std.proofs.Common.{subst}
use Rattle.plan.specs.declared.Plan.{Plan}
use Rattle.times_combined.specs.Paths.{Lawful}
use Rattle.run_loading.specs.declared.Failure.{Failure}
use Rattle.demands_log.specs.Log.{Id, Log, Told}
use Rattle.demands_theory.specs.TheWord.{Takes, goes, Stuck}
use Rattle.demands_theory.specs.Loading.{Silently, stays, goes_on, Onward, NextPath, PathBeyond, TooMany, EndsAt, whole, beyond, full, Loads, ends, later}
use Rattle.demands_theory.proofs.Laws.TheWord.{last, step_same, not_stuck}
use Rattle.demands_run.proofs.Laws.Silent.{one_rest}

module _ (p : Plan) (lawful : Lawful p) (available : ℕ → ℕ) (log : Log) (unique : (x : Id) (o q : ℕ) → Told log x o → Told log x q → o ≡ q) where
  silent_takes : (us vs : List ℕ) → Takes p log us → Silently p us vs → Takes p log vs
  silent_takes us vs h stays = h
  silent_takes us vs h (goes_on {vs = ws} q e) = goes (silent_takes us ws h q) e

  -- the next path is one
  one_path : (us vs ws : List ℕ) → Takes p log us → NextPath p log us vs → NextPath p log us ws → vs ≡ ws
  one_path us vs ws h a b =
      let same = step_same p lawful log unique us h a.onward.first b.onward.first (last p log (a.onward.first ∷ us) a.onward.taken).1 (last p log (b.onward.first ∷ us) b.onward.taken).1 in
      one_rest p (b.onward.first ∷ us) vs ws (subst (λ (t : ℕ). Silently p (t ∷ us) vs) same a.onward.silent) a.rests b.onward.silent b.rests

  path_takes : (us vs : List ℕ) → NextPath p log us vs → Takes p log vs
  path_takes us vs a = silent_takes (a.onward.first ∷ us) vs a.onward.taken a.onward.silent

  no_path : (us vs : List ℕ) → Stuck p log us → Onward p log us vs → ⊥
  no_path us vs s o = not_stuck p lawful log unique us o.first (last p log (o.first ∷ us) o.taken).1 s

  one_end : {us : List ℕ} {f g : Option Failure} → EndsAt p available log us f → EndsAt p available log us g → f ≡ g
  one_end (whole s) (whole r) = refl
  one_end {us} (whole s) (beyond y) = absurd (no_path us y.at s y.onward)
  one_end {us} (whole s) (full y) = absurd (no_path us y.path s y.next.onward)
  one_end {us} (beyond y) (whole s) = absurd (no_path us y.at s y.onward)
  one_end (beyond y) (beyond z) = refl
  one_end (beyond y) (full z) = absurd (z.within y)
  one_end {us} (full y) (whole s) = absurd (no_path us y.path s y.next.onward)
  one_end (full y) (beyond z) = absurd (y.within z)
  one_end (full y) (full z) = refl

  -- where loading ends it does not go on
  at-end : {us vs : List ℕ} {f : Option Failure} → Takes p log us → EndsAt p available log us f → NextPath p log us vs → (PathBeyond p available log us → ⊥) → (TooMany p log vs → ⊥) → ⊥
  at-end {us} {vs} h (whole s) n nb few = no_path us vs s n.onward
  at-end h (beyond y) n nb few = nb y
  at-end {us} {vs} h (full y) n nb few = few (subst (TooMany p log) (one_path us y.path vs h y.next n) y.many)

  -- it reaches one word, and ends in one way
  pub one_loading : {us vs ws : List ℕ} {f g : Option Failure} → Takes p log us → Loads p available log us vs f → Loads p available log us ws g → (vs ≡ ws) × (f ≡ g)
  one_loading h (ends a) (ends b) = (refl, one_end a b)
  one_loading h (ends a) (later n nb few l) = absurd (at-end h a n nb few)
  one_loading h (later n nb few l) (ends b) = absurd (at-end h b n nb few)
  one_loading {us} {vs} {ws} {f} h (later {vs = xs} n nb few l) (later {vs = ys} k nc fewer l') =
      one_loading (path_takes us ys k) (subst (λ (z : List ℕ). Loads p available log z vs f) (one_path us xs ys h n k) l) l'
