-- Every good word in which the processed instances exist has a run of the engine, and so its combined activity has times.
use Rattle.std.specs.Prelude.{◌≡◌, refl, List, [], ◌∷◌, ◌++◌, map, ◌<◌, ℕ, suc, ◌+◌, ◌≤◌, length}
use Rattle.std.proofs.Common.{ap, ◌∙◌, arith, length-append, eq-eqb, ne_eqb, le-leb}
use Rattle.std.proofs.lemmas.Bool.{lt-leb}
use Rattle.plan.specs.declared.Input.{Input}
use Rattle.plan.specs.declared.Input.TheVariants.{Nothing, Outcome}
use Rattle.times_combined.specs.Word.{Step, Word, τ, ◌▷◌, size, times}
use Rattle.times_combined.proofs.Laws.Accepted.{Good, GoodWord}
use Rattle.times_combined.specs.Combined.{identity, Ident, Instance, combined}
use Rattle.times_combined.proofs.Laws.Engine.{State, Trace, Steps, Floor, Run, opens, goes, end_at}
use Rattle.times_combined.proofs.Laws.Exec.{emits_of, oldest_of, floor_of, raised_of, starts_of, ends_of, next_of, state_of, put, trace_of, start_in, end_in}
use Rattle.times_combined.proofs.Laws.Computed.{timed, released, emits}
use Rattle.times_combined.proofs.Laws.Instances.{instance_cut}
use Rattle.times_combined.proofs.Laws.TimesEqual.{Emitted, After, after}

-- ---- one step

module _ (R : ℕ) (belongs : ℕ → ℕ) (x : Step) (ok : Good R belongs x.output) (s : State) where
  pub steps : Floor x.input s (floor_of x.input s) → Steps R x s (floor_of x.input s) (starts_of x s) (ends_of x s) (emits_of x.output) (next_of x s)
  steps fl = record {
    floor = fl;
    timed = timed R belongs x.output ok (raised_of x s) s.last;
    free = λ r l. released R belongs x.output ok (ends_of x s) s (floor_of x.input s) r;
    emits = emits R belongs x.output ok;
    last = λ e. refl;
    queue = λ e. refl;
  }

-- ---- a trace that goes on

module _ (R : ℕ) (available : ℕ → ℕ) (t : Trace) (p c : ℕ) (S C : ℕ → ℕ) (em : ℕ → List ℕ) (s : State) where
  run_kept : (w : Word) → size w ≤ p → Run R available t w → Run R available (put t p c S C em s) w
  run_kept w l (opens f g h) = let e = le-leb 0 p (omega arith) in opens (λ r. rw e (f r)) (λ r. rw e (g r)) (λ r. rw e (h r))
  run_kept w l (goes {w = v} {x} run st) =
      let e1 = le-leb (size v) p (omega arith) in
      let e2 = le-leb (suc (size v)) p l in
      let e3 = ne_eqb (size v) p (λ q. omega arith) in
      goes {w = v} {x = x} (run_kept v (omega arith) run) (rw (e1, e2, e3) st)

pub extended : (R : ℕ) (available : ℕ → ℕ) (t : Trace) (w : Word) (x : Step) (c : ℕ) (S C : ℕ → ℕ) (em : ℕ → List ℕ) (s : State) → Run R available t w → Steps R x (t.state (size w)) c S C em s → Run R available (put t (size w) c S C em s) (w ▷ x)
extended R available t w x c S C em s run st =
    let e1 = le-leb (size w) (size w) (omega arith) in
    let e2 = lt-leb (suc (size w)) (size w) (omega arith) in
    let e3 = eq-eqb (size w) (size w) refl in
    goes {w = w} {x = x} (run_kept R available t (size w) c S C em s w (omega arith) run) (rw (e1, e2, e3) st)

-- ---- the run of a word

pub state_after_lem : (available : ℕ → ℕ) (w : Word) → (trace_of available w).state (size w) ≡ state_of available w
unfolding trace_of
state_after_lem available τ = refl
state_after_lem available (w ▷ x) = rw (lt-leb (suc (size w)) (size w) (omega arith))

-- the instance that is processed has been emitted
abbrev pub Emitted-before : ℕ → Word → Input → Type 0
Emitted-before R w Nothing = Unit {0}
Emitted-before R w (Outcome e u) = (y : Ident) × Instance (combined R w) e (times e w + 1) y

abbrev pub Ready : ℕ → Word → Type 0
Ready R τ = Unit {0}
Ready R (w ▷ x) = Ready R w × Emitted-before R w x.input

module _ (R : ℕ) (belongs available : ℕ → ℕ) where
  -- the queue is not empty
  pub oldest : (t : Trace) (w : Word) → After R available t w → (i : Input) → Emitted-before R w i → Floor i (t.state (size w)) (floor_of i (t.state (size w)))
  oldest t w af Nothing y = refl
  oldest t w af (Outcome e u) y = go em.pending refl
    where
      em : Emitted (combined R w) e (times e w) (end_at t) ((t.state (size w)).queue e)
      em = af.queues e

      go : (is : List Ident) → em.pending ≡ is → (rest : List ℕ) × ((t.state (size w)).queue e ≡ oldest_of ((t.state (size w)).queue e) ∷ rest)
      go [] g =
          let q = instance_cut (combined R w) e (em.past ++ em.pending) em.listing (times e w) y.0 y.1 in
          let l1 = length-append em.past em.pending in
          let l2 = ap length g in
          let l3 = ap length q.2 in
          let l4 = length-append q.0 (y.0 ∷ q.1) in
          let l5 = q.3 in
          let l6 = em.count in
          absurd (omega arith)
      go (i ∷ is) g = (map (end_at t) is, rw (em.completions ∙ ap (map (end_at t)) g))

  pub runs : (w : Word) → GoodWord R belongs w → Ready R w → Run R available (trace_of available w) w
  unfolding trace_of
  runs τ ok ready = opens (λ r. refl) (λ e. refl) (λ e. refl)
  runs (w ▷ x) ok ready =
      let run = runs w ok.0 ready.0 in
      let fl = oldest (trace_of available w) w (after R belongs available (trace_of available w) w ok.0 run) x.input ready.1 in
      extended R available (trace_of available w) w x _ _ _ _ _ run
      (rw (state_after_lem available w) (steps R belongs x ok.1 (state_of available w) (rw (state_after_lem available w) at fl)))

-- ---- the times by identity

module _ (available : ℕ → ℕ) where
  -- at the last position they are those of the last transition
  pub last_start : (w : Word) (x : Step) (n : ℕ) → start_in available (w ▷ x) (identity (size w) n) ≡ starts_of x (state_of available w) n
  unfolding trace_of
  last_start w x n = rw (eq-eqb (size w) (size w) refl)

  pub last_end : (w : Word) (x : Step) (n : ℕ) → end_in available (w ▷ x) (identity (size w) n) ≡ ends_of x (state_of available w) n
  unfolding trace_of
  last_end w x n = rw (eq-eqb (size w) (size w) refl)

  -- at earlier positions they are as before
  pub kept_start : (w : Word) (x : Step) (p n : ℕ) → p < size w → start_in available (w ▷ x) (identity p n) ≡ start_in available w (identity p n)
  unfolding trace_of
  kept_start w x p n l = rw (ne_eqb p (size w) (λ e. omega arith))

  pub kept_end : (w : Word) (x : Step) (p n : ℕ) → p < size w → end_in available (w ▷ x) (identity p n) ≡ end_in available w (identity p n)
  unfolding trace_of
  kept_end w x p n l = rw (ne_eqb p (size w) (λ e. omega arith))
