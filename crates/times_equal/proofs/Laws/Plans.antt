-- What the engine computes along a path of an accepted plan are the times of the combined activity, and there are no others.
use Rattle.std.specs.Prelude.{◌≡◌, refl, cond, List, [], ◌∷◌, ℕ, suc, ◌+◌, ◌*◌, ◌≤◌, ◌<◌, length, eqb}
use Rattle.std.proofs.Common.{sym, ap, ◌∙◌, subst, arith, eq-eqb, ne_eqb}
use Rattle.basis.proofs.Laws.PartsHold.{length_part}
use Rattle.plan.specs.declared.Kind.{Kind}
use Rattle.plan.specs.declared.Node.{Node}
use Rattle.plan.specs.declared.Output.{Output}
use Rattle.plan.specs.declared.Plan.{Plan}
use Rattle.plan.specs.Plan.{past_node, size_of, emitted_by, resource_of, move}
use Rattle.plan.specs.Limits.{KindNames, InLimits, OutputNames}
use Rattle.activity.specs.Rules.{Is}
use Rattle.times_combined.specs.Word.{times, emissions}
use Rattle.times_combined.specs.Combined.{Ident, identity, combined}
use Rattle.times_combined.specs.Times.{Timing}
use Rattle.times_combined.proofs.Laws.Engine.{Run, end_at}
use Rattle.times_combined.specs.Paths.{word_of, Follows, Lawful}
use Rattle.times_combined.proofs.Laws.Theorems.{one_solution, plan_run_equal}
use Rattle.times_combined.proofs.Laws.TimesEqual.{Equal}
use Rattle.times_combined.proofs.Laws.Plans.{good_path, counted_path, node_is}
use Rattle.times.specs.declared.Progress.{Progress}
use Rattle.times.specs.Times.{at}
use Rattle.times.specs.Engine.{taken_by}
use Rattle.times_equal.proofs.Laws.Words.{Engine, opened, advanced, Opening, Fitting, Few, trace_by, engine_run}
use Rattle.times_combined.specs.Combined as Combined
use Rattle.times_equal.specs.Plans.{places, progress_after, schedule_at}

-- "at most 8 of one event are pending at a state", along every path from the initial state
abbrev pub AtMostEight : Plan → Type 0
AtMostEight p = (is : List ℕ) (q e : ℕ) → Follows p p.automaton.initial is q → emissions e (word_of p is) ≤ times e (word_of p is) + 8

-- what is stored before position q
abbrev pub progress_at : Plan → Progress → List ℕ → ℕ → Progress
progress_at p g [] q = g
progress_at p g (i ∷ is) q = cond (eqb q (suc (places p is))) (taken_by p i (progress_after p g is)).progress (progress_at p g is q)

-- ---- the engine's run

-- the transitions `is` are the first of some transitions
pub data First (is : List ℕ) : List ℕ → Type 0 where
  whole : First is is
  later : {j : ℕ} {js : List ℕ} → First is js → First is (j ∷ js)

module _ (p : Plan) (g : Progress) where
  first_places : {is js : List ℕ} → First is js → places p is ≤ places p js
  first_places whole = omega arith
  first_places (later f) = let u = first_places f in omega arith

  sooner : {i : ℕ} {is js : List ℕ} → First (i ∷ is) js → First is js
  sooner whole = later whole
  sooner (later f) = later (sooner f)

  pub stored_at : (is : List ℕ) {js : List ℕ} → First is js → progress_at p g js (places p is) ≡ progress_after p g is
  stored_at [] whole = refl
  stored_at (i ∷ is) whole = rw (eq-eqb (suc (places p is)) (suc (places p is)) refl)
  stored_at is (later {js} f) = rw (ne_eqb (places p is) (suc (places p js)) (λ e. let u = first_places f in omega arith)) (stored_at is f)

  pub times_at : (i : ℕ) (is : List ℕ) {js : List ℕ} → First (i ∷ is) js → schedule_at p g js (places p is) ≡ (taken_by p i (progress_after p g is)).schedule
  times_at i is whole = rw (eq-eqb (places p is) (places p is) refl)
  times_at i is (later {js} f) = rw (ne_eqb (places p is) (places p js) (λ e. let u = first_places f in omega arith)) (times_at i is f)

  pub engine : (is : List ℕ) {js : List ℕ} → First is js → Engine p.resources (progress_at p g js) (schedule_at p g js) (word_of p is)
  engine [] f = opened
  engine (i ∷ is) f =
      advanced (engine is (sooner f)) (move p.automaton i).to
      (times_at i is f ∙ ap (λ (h : Progress). (taken_by p i h).schedule) (sym (stored_at is (sooner f))))
      (stored_at (i ∷ is) f ∙ ap (λ (h : Progress). (taken_by p i h).progress) (sym (stored_at is (sooner f))))

-- ---- what a plan's limits give

module _ (p : Plan) (limits : InLimits p) where
  output_fits : (o : Output) → OutputNames p o → (length (emitted_by p o) ≤ 64) × ((n e : ℕ) → Is (emitted_by p o) n (Kind.Event e) → e < 16)
  output_fits Output.Empty h = (omega arith, λ n e i. absurd (let u = i.within in omega arith))
  output_fits (Output.Activity a) h = (
    (let u = length_part past_node p.nodes (64 * a) (size_of p a) in let v = (limits.sizes a h).1 in omega arith),
    λ n e i.
        (let u = length_part past_node p.nodes (64 * a) (size_of p a) in
        let l = i.within in
        let k : e < p.events = subst (KindNames p) (ap (λ (x : Node). x.kind) (sym (node_is p a n i.within)) ∙ i.kind) (limits.nodes a n h (omega arith)).names in
        let m = limits.events in
        omega arith),
  )

  fitting : (s : ℕ) (is : List ℕ) (q : ℕ) → Follows p s is q → Fitting (word_of p is)
  fitting s [] q f = tt
  fitting s (i ∷ is) q f = (fitting s is (move p.automaton i).from f.0, output_fits (move p.automaton i).output (limits.moves i f.1.0).output)

few : (p : Plan) → AtMostEight p → (is : List ℕ) (q : ℕ) → Follows p p.automaton.initial is q → Few (word_of p is)
few p h [] q f = tt
few p h (i ∷ is) q f = (few p h is (move p.automaton i).from f.0, λ e. h (i ∷ is) q e f)

-- ---- what a reader gets

-- the transitions `is` lead from the initial state of an accepted plan to q; g is what an opening stores
module _ (p : Plan) (lawful : Lawful p) (eight : AtMostEight p) (available : ℕ → ℕ) (g : Progress) (opening : Opening available g) (is : List ℕ) (q : ℕ) (path : Follows p p.automaton.initial is q) where
  -- the opening is stored before position 0
  at_opening_lem : (js : List ℕ) → progress_at p g js 0 ≡ g
  at_opening_lem [] = refl
  at_opening_lem (j ∷ js) = rw (ne_eqb 0 (suc (places p js)) (λ e. omega arith)) (at_opening_lem js)

  -- what is stored goes the engine's way, step by step
  pub plan_run : Run p.resources available (trace_by (progress_at p g is) (schedule_at p g is) (word_of p is)) (word_of p is)
  plan_run =
      engine_run p.resources (resource_of p) available lawful.file.limits.resources (progress_at p g is) (schedule_at p g is) (word_of p is)
      (good_path p lawful p.automaton.initial is q path)
      (counted_path p lawful is q path)
      (fitting p lawful.file.limits p.automaton.initial is q path)
      (few p eight is q path)
      (subst (Opening available) (sym (at_opening_lem is)) opening)
      (engine p g is whole)

  -- so its times satisfy Def. 11 on the combined activity of the whole word
  pub plan_equal : Equal p.resources available (trace_by (progress_at p g is) (schedule_at p g is) (word_of p is)) (word_of p is)
  plan_equal = plan_run_equal p lawful available is q path (trace_by (progress_at p g is) (schedule_at p g is) (word_of p is)) plan_run

  module _ (S C : Ident → ℕ) (timing : Timing (combined p.resources (word_of p is)) available S C) where
    -- whatever satisfies Def. 11 there gives each node the engine's start and completion
    pub plan_times : (k n : ℕ) (kind : Kind) (d : ℕ) → (combined p.resources (word_of p is)).Holds (identity k n) kind d → (S (identity k n) ≡ at (schedule_at p g is k).start n) × (C (identity k n) ≡ at (schedule_at p g is k).end n)
    plan_times k n kind d h =
        one_solution p.resources (resource_of p) available (word_of p is) (good_path p lawful p.automaton.initial is q path) S C _ _ timing plan_equal.timing (identity k n) kind d h

    -- and completes each release when the engine has its resource available
    pub plan_free : (x : Ident) (r : ℕ) → r < p.resources → Combined.Is (combined p.resources (word_of p is)) x (Kind.Release r) → C x ≡ at (progress_after p g is).available r
    plan_free x r l i =
        let f = plan_equal.free r l in
        let e = plan_equal.one_release x f.0 r i f.1 in
        (one_solution p.resources (resource_of p) available (word_of p is) (good_path p lawful p.automaton.initial is q path) S C _ _ timing plan_equal.timing x (Kind.Release r) i.0 i.1).1
        ∙ ap (end_at (trace_by (progress_at p g is) (schedule_at p g is) (word_of p is))) e ∙ f.2 ∙ ap (λ (h : Progress). at h.available r) (stored_at p g is whole)
