-- The engine over a whole word: transition by transition, from an opening. Its times satisfy Def. 11 on the combined
-- activity of the word, and its availabilities are the completions of the releases.
use Rattle.std.specs.Prelude.{◌≡◌, refl, cond, [], map, ℕ, suc, ◌+◌, ◌*◌, ◌≤◌, ◌<◌, length, eqb}
use Rattle.std.proofs.Common.{sym, ap, subst, arith, lt-ltb, eq-eqb, ne_eqb}
use Rattle.std.proofs.Math.Decide.{ℕ_discrete}
use Rattle.basis.specs.Parts.{part}
use Rattle.plan.specs.declared.Kind.{Kind}
use Rattle.plan.specs.declared.Input.{Input}
use Rattle.activity.specs.Rules.{Is}
use Rattle.times_combined.specs.Word.{Step, Word, τ, ◌▷◌, Begins, here, longer, size, once, times, emissions}
use Rattle.times_combined.proofs.Laws.Accepted.{GoodWord, Enough, Counted}
use Rattle.times_combined.proofs.Laws.Engine.{Trace, Steps, Run, opens, goes}
use Rattle.times.specs.declared.Progress.{Progress}
use Rattle.times.specs.declared.Schedule.{Schedule}
use Rattle.times.specs.Times.{at}
use Rattle.times.specs.Queues.{no_instance, pending_of, processed_of, floor_of}
use Rattle.times.specs.Engine.{advance_of}
use Rattle.times_equal.proofs.Laws.Seen.{completion, seen, emitted, Whole, Pending, Ready}
use Rattle.times_equal.proofs.Laws.Steps.{steps, pending_grows, whole_after}
use Rattle.times_equal.proofs.Laws.Queue.{gone_length}

-- ---- what is given

-- G p is what is stored before the transition at position p, T p the times of its nodes
pub data Engine (R : ℕ) (G : ℕ → Progress) (T : ℕ → Schedule) : Word → Type 0 where
  opened : Engine R G T τ
  advanced : {w : Word} {x : Step} → Engine R G T w → (to : ℕ) → T (size w) ≡ (advance_of R x.output x.input to (G (size w))).schedule → G (suc (size w)) ≡ (advance_of R x.output x.input to (G (size w))).progress → Engine R G T (w ▷ x)

-- "An opening gives .. one availability .. for each resource": nothing is complete and nothing is pending
pub record Opening (available : ℕ → ℕ) (g : Progress) : Type 0 where
  pub whole : Whole g
  pub free : (r : ℕ) → at g.available r ≡ available r
  pub last : (e : ℕ) → at g.latest e ≡ 0
  pub none : (e : ℕ) → pending_of g e ≡ 0

-- the counts of the plan file
abbrev pub Fitting : Word → Type 0
Fitting τ = Unit {0}
Fitting (w ▷ x) = Fitting w × ((length x.output ≤ 64) × ((n e : ℕ) → Is x.output n (Kind.Event e) → e < 16))

-- "at most 8 of one event are pending at a state"
abbrev pub Few : Word → Type 0
Few τ = Unit {0}
Few (w ▷ x) = Few w × ((e : ℕ) → emissions e (w ▷ x) ≤ times e (w ▷ x) + 8)

-- the transition at position p of a word
abbrev pub step_at : Word → ℕ → Step
step_at τ p = record { input = Input.Nothing; output = [] }
step_at (w ▷ x) p = cond (eqb p (size w)) x (step_at w p)

-- what the engine computes over the word v, by position
abbrev pub trace_by : (ℕ → Progress) → (ℕ → Schedule) → Word → Trace
trace_by G T v = record {
  state = λ p. seen (G p);
  floor = λ p. floor_of (step_at v p).input (G p);
  start = λ p. at (T p).start;
  end = λ p. at (T p).end;
  emits = λ p. emitted (step_at v p).output (T p);
}

-- ---- how many are pending

few_at_lem : (w : Word) → Few w → (e : ℕ) → emissions e w ≤ times e w + 8
few_at_lem τ h e = omega arith
few_at_lem (w ▷ x) h e = h.1 e

-- after w: the arrays are whole, and what was emitted and not processed is pending
record Standing (w : Word) (g : Progress) : Type 0 where
  whole : Whole g
  pending : (e : ℕ) → pending_of g e + times e w ≡ emissions e w

processed_pending : (i : Input) (g : Progress) → Whole g → Pending i g → (e : ℕ) → pending_of (processed_of i g) e + once e i ≡ pending_of g e
unfolding processed_of
processed_pending Input.Nothing g w p e = omega arith
processed_pending (Input.Outcome f u) g w p e = elim (ℕ_discrete e f) [
  | yes q ↦
      (let a = gone_length g f w p e in
      let b = rw (eq-eqb f e (sym q)) at a in
      let c = ap (pending_of g) q in
      rw (lt-ltb 0 (pending_of g f) p, eq-eqb f e (sym q)) (omega arith))
  | no q ↦
      (let a = gone_length g f w p e in
      let b = rw (ne_eqb f e (λ s. q (sym s))) at a in
      rw (lt-ltb 0 (pending_of g f) p, ne_eqb f e (λ s. q (sym s))) (omega arith))
]

processes : (i : Input) (w : Word) (g : Progress) → Standing w g → Enough w i → Pending i g
processes Input.Nothing w g s h = tt
processes (Input.Outcome e u) w g s h = let a = s.pending e in omega arith

module _ (R : ℕ) (belongs available : ℕ → ℕ) (few_resources : R ≤ 16) (G : ℕ → Progress) (T : ℕ → Schedule) where
  module _ (w : Word) (x : Step) (good : GoodWord R belongs (w ▷ x)) (counted : Counted (w ▷ x)) (fitting : Fitting (w ▷ x)) (few : Few (w ▷ x)) (s : Standing w (G (size w))) where
    ready : Ready R belongs x.output x.input (G (size w))
    ready =
        let p = processes x.input w (G (size w)) s counted.1 in
        record {
          resources = few_resources;
          size = fitting.1.0;
          good = good.1;
          events = fitting.1.1;
          whole = s.whole;
          processes = p;
          few = λ e. let a = s.pending e in let b = few_at_lem w few.0 e in omega arith;
          room = λ e. let a = s.pending e in let b = few.1 e in let c = processed_pending x.input (G (size w)) s.whole p e in omega arith;
        }

    stands_on : (to : ℕ) → G (suc (size w)) ≡ (advance_of R x.output x.input to (G (size w))).progress → Standing (w ▷ x) (G (suc (size w)))
    stands_on to e =
        subst (Standing (w ▷ x)) (sym e)
        (record {
          whole = whole_after R belongs x.output x.input to (G (size w)) ready;
          pending = λ f.
              let a = pending_grows R belongs x.output x.input to (G (size w)) ready f in
              let b = processed_pending x.input (G (size w)) s.whole ready.processes f in
              let c = s.pending f in
              omega arith;
        })

  stands : (w : Word) → GoodWord R belongs w → Counted w → Fitting w → Few w → Opening available (G 0) → Engine R G T w → Standing w (G (size w))
  stands τ good counted fitting few o opened = record { whole = o.whole; pending = λ e. let a = o.none e in omega arith }
  stands (w ▷ x) good counted fitting few o (advanced run to s g) =
      stands_on w x good counted fitting few (stands w good.0 counted.0 fitting.0 few.0 o run) to g

  -- ---- the run

  shorter : {w : Word} {x : Step} {v : Word} → Begins (w ▷ x) v → Begins w v
  shorter here = longer here
  shorter (longer b) = longer (shorter b)

  begins_size : {w v : Word} → Begins w v → size w ≤ size v
  begins_size here = omega arith
  begins_size (longer b) = let u = begins_size b in omega arith

  step-at : {w : Word} {x : Step} {v : Word} → Begins (w ▷ x) v → step_at v (size w) ≡ x
  step-at {w} here = rw (eq-eqb (size w) (size w) refl)
  step-at {w} (longer {w = u} b) = rw (ne_eqb (size w) (size u) (λ e. let l = begins_size b in omega arith)) (step-at b)

  runs : (v w : Word) → Begins w v → GoodWord R belongs w → Counted w → Fitting w → Few w → Opening available (G 0) → Engine R G T w → Run R available (trace_by G T v) w
  runs v τ b good counted fitting few o opened = opens o.free o.last (λ e. ap (λ (k : ℕ). map completion (part no_instance (G 0).pending (8 * e) k)) (o.none e))
  runs v (w ▷ x) b good counted fitting few o (advanced run to s g) =
      goes {w = w} {x = x} (runs v w (shorter b) good.0 counted.0 fitting.0 few.0 o run)
      (subst (λ (y : Step). Steps R x (seen (G (size w))) (floor_of y.input (G (size w))) (at (T (size w)).start) (at (T (size w)).end) (emitted y.output (T (size w))) (seen (G (suc (size w))))) (sym (step-at b))
      (subst (λ (h : Progress). Steps R x (seen (G (size w))) (floor_of x.input (G (size w))) (at (T (size w)).start) (at (T (size w)).end) (emitted x.output (T (size w))) (seen h)) (sym g)
      (subst (λ (t : Schedule). Steps R x (seen (G (size w))) (floor_of x.input (G (size w))) (at t.start) (at t.end) (emitted x.output t) (seen (advance_of R x.output x.input to (G (size w))).progress)) (sym s)
      (steps R belongs x.output x.input to (G (size w)) (ready w x good counted fitting few (stands w good.0 counted.0 fitting.0 few.0 o run))))))

  module _ (w : Word) (good : GoodWord R belongs w) (counted : Counted w) (fitting : Fitting w) (few : Few w) (o : Opening available (G 0)) (run : Engine R G T w) where
    -- what is stored between transitions is what the combined activity asks for, step by step
    pub engine_run : Run R available (trace_by G T w) w
    engine_run = runs w w here good counted fitting few o run
