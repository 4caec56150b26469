-- An opening, check by check; its first run can be loaded; and a judged plan is within the limits.
use Rattle.std.specs.Prelude.{Option, Some, None, Ok}
use mathlib.Core.Path.{◌≡◌, sym, ap, ◌∙◌}
use mathlib.Core.Bool.{true, false}
use mathlib.Core.List.{List}
use Prim.Native.Nat.{ℕ, ◌<◌, ◌≤◌}
use borrow.Author.Tests.{lt-ltb, le-ltb, eq-eqb, ne_eqb}
use lib.ListN.{length, get_or, replicate}
use Rattle.time.specs.Time.{horizon}
use Rattle.time.specs.declared.Clock.{Clock}
use Rattle.plan.specs.Limits.{InLimits}
use Rattle.plan.specs.declared.Plan.{Plan}
use Rattle.plan.specs.declared.Fault.{Fault}
use Rattle.plan.specs.Verdict.{Verdict, faulty}
use Rattle.plan.specs.declared.PlanRead.{PlanRead}
use Rattle.judge.specs.Judge.{judge_of}
use Rattle.judge.proofs.Laws.Judge.{passed, read_limits}
use Rattle.run.specs.declared.Unopened.{Unopened}
use Rattle.run_opening.specs.Given.{at_first, availabilities, any_above}
use Rattle.run_opening.specs.Short.{on_short}
use Rattle.run_opening.proofs.Laws.Given.{first_in}
use Rattle.run.specs.Limits.{slack_in_limits}
use Rattle.automaton.specs.Next.{next_of}
use Rattle.times.specs.declared.Progress.{Progress}
use Rattle.run_window.specs.Window.{vacant}
use Rattle.run_loading.specs.Inner.Loading.{Loads}
use Rattle.run_loading.specs.Loading.{load}
use Rattle.run_loading.specs.declared.Loading.{Loading}
use Rattle.run.proofs.Laws.Loaded.{load_parts}
use Rattle.run.specs.Opening.{uncalled, fresh, unopened, after_first, first_loaded, begin, open_plan, open_judged, open_of}
use Rattle.run.specs.Inner.Calls.{first_path}

-- ---- the run at its opening

pub first_loads : (p : Plan) → InLimits p → (ts : List ℕ) → any_above ts ≡ false → Loads p (at_first (availabilities ts) p.automaton.initial)
first_loads p limits ts early = record { plan = limits; progress = first_in p limits ts early }

-- what its first path makes of it
pub begins : (p : Plan) (psi : Clock) (slack : ℕ) (g : Progress) (l : Loading) → l ≡ load p (next_of p.automaton p.automaton.initial) g (replicate 512 vacant)
    → after_first l.failure (uncalled p psi slack l.progress l.window) ≡ begin (fresh p psi slack g)
begins p psi slack g l e =
    ap (λ (x : Loading). after_first x.failure (uncalled p psi slack x.progress x.window)) e
    ∙ sym (ap first_loaded (load_parts (fresh p psi slack g) (next_of p.automaton p.automaton.initial)))

-- ---- 33

module _ {A : Type 0} (x : Option ℕ) (f : ℕ → A) (z : A) (s : Option ℕ) (e : s ≡ x) where
  pub none_short : s ≡ None → on_short x f z ≡ z
  none_short g = ap (λ (y : Option ℕ). on_short y f z) (sym e ∙ g)

  pub one_short : (a : ℕ) → s ≡ Some a → on_short x f z ≡ f a
  one_short a g = ap (λ (y : Option ℕ). on_short y f z) (sym e ∙ g)

-- ---- 30 to 32

module _ (p : Plan) (psi : Clock) (slack : ℕ) (ts : List ℕ) where
  pub wrong_count : (length ts ≡ p.resources → ⊥) → open_plan p psi slack ts ≡ unopened Unopened.Availabilities
  unfolding open_plan
  wrong_count n = let h = ne_eqb _ _ n in rw h

  module _ (count : length ts ≡ p.resources) where
    pub psi_above : horizon < psi.0 → open_plan p psi slack ts ≡ unopened Unopened.Time
    unfolding open_plan
    psi_above l = let h = eq-eqb _ _ count in let k = lt-ltb _ _ l in rw (h, k)

    module _ (early : psi.0 ≤ horizon) where
      pub one_above : any_above ts ≡ true → open_plan p psi slack ts ≡ unopened Unopened.Time
      unfolding open_plan
      one_above a = let h = eq-eqb _ _ count in let k = le-ltb _ _ early in rw (h, k, a)

      pub wrong_slack : any_above ts ≡ false → slack_in_limits slack ≡ false → open_plan p psi slack ts ≡ unopened Unopened.Slack
      unfolding open_plan
      wrong_slack a s = let h = eq-eqb _ _ count in let k = le-ltb _ _ early in rw (h, k, a, s)

      pub checked : any_above ts ≡ false → slack_in_limits slack ≡ true → open_plan p psi slack ts ≡ first_path p psi slack ts
      unfolding open_plan first_path
      checked a s = let h = eq-eqb _ _ count in let k = le-ltb _ _ early in rw (h, k, a, s)

-- ---- the judged plan

module _ (bytes : List ℕ) (r : PlanRead) (e : r ≡ judge_of bytes) where
  pub judged_limits : ((k : ℕ) → get_or bytes k 0 < 256) → r.verdict ≡ Ok tt → InLimits r.plan
  judged_limits small v =
      let q = passed r.plan bytes (sym e ∙ (λ i. record { verdict = v i; plan = r.plan })) in
      read_limits bytes small r.plan q.read

  module _ (psi : Clock) (slack : ℕ) (ts : List ℕ) where
    opened_as_lem : open_of bytes psi slack ts ≡ open_judged r.verdict r.plan psi slack ts
    unfolding open_of
    opened_as_lem = ap (λ (x : PlanRead). open_judged x.verdict x.plan psi slack ts) (sym e)

    pub opens_plan : r.verdict ≡ Ok tt → open_of bytes psi slack ts ≡ open_plan r.plan psi slack ts
    opens_plan v = opened_as_lem ∙ ap (λ (x : Verdict). open_judged x r.plan psi slack ts) v

    pub refuses_plan : (f : Fault) (place : ℕ) → r.verdict ≡ faulty f place → open_of bytes psi slack ts ≡ unopened (Unopened.Plan f place)
    refuses_plan f place v = opened_as_lem ∙ ap (λ (x : Verdict). open_judged x r.plan psi slack ts) v
