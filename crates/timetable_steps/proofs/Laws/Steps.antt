-- A step looked up in the tables is the plan's. Assumes nothing.
use Rattle.std.specs.Prelude.{◌≡◌, refl, Bool, true, false, cond, List, ℕ, ◌+◌, ◌*◌, ◌/◌, ◌%◌, ◌≤◌, ◌<◌, ltb, length, get_or, set, Option, None, Some}
use Rattle.std.proofs.Common.{sym, ap, ◌∙◌, subst, arith, ltb-true, ltb-false, lt-ltb, le-ltb, length-set, get_or-set_same, get_or-set_other}
use Rattle.std.proofs.Math.Decide.{ℕ_discrete}
use Rattle.plan.specs.Limits.{InLimits, OutputNames}
use Rattle.plan.specs.declared.Output.{Output}
use Rattle.plan.specs.declared.Activity.{Activity}
use Rattle.plan.specs.declared.Automaton.{Automaton}
use Rattle.plan.specs.declared.Plan.{Plan}
use Rattle.automaton.specs.Next.{next_of, chosen_of}
use Rattle.automaton.proofs.Laws.Following.{chosen_leaves, awaited_below}
use Rattle.automaton.specs.declared.Next.{Next}
use Rattle.run_path.specs.Inner.Path.{emitted_of}
use Rattle.run_path.specs.Pathed.{Leads}
use Rattle.run_path.proofs.Laws.Stepping.{next_leads}
use Rattle.timetable_steps.specs.declared.Step.{Step}
use Rattle.timetable_steps.specs.Inner.Steps.{Named, Below, chosen_step, heard_step, next_step, step_of, column_of, heard_as, past_activity, Looks, place_of, Emits}

-- ---- what a state does next is within the plan's limits

-- the transition of an outcome is one of the plan's
pub chosen_below : (a : Automaton) (s e o t : ℕ) → chosen_of a s e o ≡ Some t → t < a.count
chosen_below a s e o t q = (chosen_leaves a s e o t q).0.low

-- the transition that is taken without an outcome is one of the plan's
pub goes_below : (a : Automaton) (s t : ℕ) → next_of a s ≡ Next.Goes t → t < a.count
goes_below a s t q = subst (Leads a.count) q (next_leads a s)

pub below : (a : Automaton) → a.count ≤ 256 → (s e o : ℕ) (c : Option ℕ) → c ≡ chosen_of a s e o → Below c
below a few s e o None q = tt
below a few s e o (Some t) q = let u = chosen_below a s e o t (sym q) in omega arith

pub named : (p : Plan) → InLimits p → (s : ℕ) → Named p.automaton s
named p limits s = record { few = limits.transitions; awaited = λ e q. let u = awaited_below p limits s e q in let v = limits.events in omega arith }

-- the step, once it is known what the state does next
pub step_as : (a : Automaton) (outcomes : List ℕ) (s : ℕ) (heard : Option ℕ) (n m : Next) → n ≡ next_of a s → n ≡ m → next_step a outcomes s heard m ≡ step_of a outcomes s heard
unfolding step_of
step_as a outcomes s heard n m is k = ap (next_step a outcomes s heard) (sym k ∙ is)

module _ (a : Automaton) (outcomes : List ℕ) (s e o : ℕ) (heard : Option ℕ) (q : heard ≡ Some o) where
  pub heard_had : o < get_or outcomes e 0 → chosen_step a e (chosen_of a s e o) ≡ heard_step a outcomes s e heard
  heard_had h = sym (ap (heard_step a outcomes s e) q ∙ ap (λ (b : Bool). cond b (chosen_step a e (chosen_of a s e o)) Step.Lacks) (lt-ltb o (get_or outcomes e 0) h))

  pub heard_lacked : get_or outcomes e 0 ≤ o → Step.Lacks ≡ heard_step a outcomes s e heard
  heard_lacked h = sym (ap (heard_step a outcomes s e) q ∙ ap (λ (b : Bool). cond b (chosen_step a e (chosen_of a s e o)) Step.Lacks) (le-ltb o (get_or outcomes e 0) h))

-- ---- the table of steps

column_small : (h : Option ℕ) → column_of h < 10
column_small None = omega arith
column_small (Some o) = go (ltb o 8) refl
  where
    go : (b : Bool) → ltb o 8 ≡ b → cond b o 8 < 10
    go true e = let u = ltb-true o 8 e in omega arith
    go false e = omega arith

-- every byte above 7 is lacking
lacks_alike : (p : Plan) → InLimits p → (s o : ℕ) → 8 ≤ o → step_of p.automaton p.outcomes s (Some 8) ≡ step_of p.automaton p.outcomes s (Some o)
unfolding step_of
lacks_alike p limits s o h = go (next_of p.automaton s) refl
  where
    go : (n : Next) → next_of p.automaton s ≡ n → next_step p.automaton p.outcomes s (Some 8) n ≡ next_step p.automaton p.outcomes s (Some o) n
    go Next.Ended q = refl
    go (Next.Goes t) q = refl
    go (Next.Waits e) q =
        let u = (limits.outcomes e (awaited_below p limits s e q)).1 in
        rw (le-ltb 8 (get_or p.outcomes e 0) (omega arith), le-ltb o (get_or p.outcomes e 0) (omega arith))

same_step : (p : Plan) → InLimits p → (s : ℕ) (h : Option ℕ) → step_of p.automaton p.outcomes s (heard_as (column_of h)) ≡ step_of p.automaton p.outcomes s h
same_step p limits s None = refl
same_step p limits s (Some o) = go (ltb o 8) refl
  where
    go : (b : Bool) → ltb o 8 ≡ b → step_of p.automaton p.outcomes s (heard_as (cond b o 8)) ≡ step_of p.automaton p.outcomes s (Some o)
    go true e = let u = ltb-true o 8 e in rw (lt-ltb o 9 (omega arith))
    go false e = lacks_alike p limits s o (ltb-false o 8 e)

-- the first k places are filled
pub record Filled (a : Automaton) (outcomes : List ℕ) (steps : List Step) (k : ℕ) : Type 0 where
  pub long : length steps ≡ 640
  pub filled : (j : ℕ) → j < k → get_or steps j Step.Ends ≡ step_of a outcomes (j / 10) (heard_as (j % 10))

pub filled_more : (a : Automaton) (outcomes : List ℕ) (steps : List Step) (k : ℕ) (x : Step) → k < 640 → x ≡ step_of a outcomes (k / 10) (heard_as (k % 10)) → Filled a outcomes steps k → Filled a outcomes (set steps k x) (k + 1)
filled_more a outcomes steps k x h e f = record {
  long = length-set steps k x ∙ f.long;
  filled = λ j l. elim (ℕ_discrete j k) [
    | yes q ↦ subst (λ (i : ℕ). get_or (set steps k x) i Step.Ends ≡ step_of a outcomes (i / 10) (heard_as (i % 10))) (sym q) (get_or-set_same steps k x Step.Ends (let u = f.long in omega arith) ∙ e)
    | no ne ↦ get_or-set_other steps k j x Step.Ends ne ∙ f.filled j (before j l ne)
  ];
}
  where
    before : (j : ℕ) → j < k + 1 → (j ≡ k → ⊥) → j < k
    before j l ne = omega (arith, ne)

pub looks : (p : Plan) → InLimits p → (steps : List Step) (k : ℕ) → 10 * p.automaton.states ≤ k → Filled p.automaton p.outcomes steps k → Looks p steps
looks p limits steps k h f = record {
  looked = λ s heard l.
      let c = column_of heard in
      let u = column_small heard in
      let row : (10 * s + column_of heard) / 10 ≡ s = omega arith in
      let column : (10 * s + column_of heard) % 10 ≡ column_of heard = omega arith in
      f.filled (10 * s + column_of heard) (omega arith)
      ∙ ap (λ (n : ℕ). step_of p.automaton p.outcomes n (heard_as ((10 * s + column_of heard) % 10))) row
      ∙ ap (λ (n : ℕ). step_of p.automaton p.outcomes s (heard_as n)) column
      ∙ same_step p limits s heard;
}

-- ---- the table of activities

-- the first a activities are copied
pub record Copies (p : Plan) (all : List Activity) (a : ℕ) : Type 0 where
  pub long : length all ≡ 33
  pub empty : get_or all 32 past_activity ≡ emitted_of p Output.Empty
  pub below : (j : ℕ) → j < a → get_or all j past_activity ≡ emitted_of p (Output.Activity j)

pub copies-more : (p : Plan) (all : List Activity) (a i : ℕ) (x : Activity) → a < 32 → i ≡ a → x ≡ emitted_of p (Output.Activity a) → Copies p all a → Copies p (set all i x) (a + 1)
copies-more p all a i x h q e f = record {
  long = length-set all i x ∙ f.long;
  empty = get_or-set_other all i 32 x past_activity (λ z. omega arith) ∙ f.empty;
  below = λ j l. elim (ℕ_discrete j i) [
    | yes z ↦ ap (λ (n : ℕ). get_or (set all i x) n past_activity) z ∙ get_or-set_same all i x past_activity (let u = f.long in omega arith) ∙ e ∙ (let m : a ≡ j = omega arith in ap (λ (n : ℕ). emitted_of p (Output.Activity n)) m)
    | no ne ↦ get_or-set_other all i j x past_activity ne ∙ f.below j (before j l ne)
  ];
}
  where
    before : (j : ℕ) → j < a + 1 → (j ≡ i → ⊥) → j < a
    before j l ne = omega (arith, ne)

pub emits : (p : Plan) → InLimits p → (all : List Activity) (a : ℕ) → p.activities ≤ a → Copies p all a → Emits p all
emits p limits all a h f = record { emitted = go }
  where
    go : (o : Output) → OutputNames p o → get_or all (place_of o) past_activity ≡ emitted_of p o
    go Output.Empty l = f.empty
    go (Output.Activity n) l = let u = limits.activities in rw (lt-ltb n 32 (omega arith)) (f.below n (omega arith))
