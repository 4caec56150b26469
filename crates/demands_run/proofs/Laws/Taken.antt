-- One transition more: where the run stands after it is where the engine's way over the longer word leads.
use Rattle.std.specs.Prelude.{◌≡◌, refl, Bool, true, false, cond, List, [], ◌∷◌, ◌++◌, map, ℕ, suc, ◌+◌, ◌<◌, eqb, length}
use Rattle.std.proofs.Common.{sym, ap, ◌∙◌, subst, inr, ⊎_elim, append_assoc, arith, add-zero, eqb-true, eq-eqb, length-append}
use Rattle.std.proofs.lemmas.List.{map-append}
use Rattle.std.proofs.lemmas.Bool.{lt-leb}
use Rattle.basis.specs.Lists.{Among}
use Rattle.basis.proofs.Laws.Lists.{among_either, map_among}
use Rattle.plan.specs.Plan.{move, outcomes_of, resource_of}
use Rattle.plan.specs.declared.Input.{Input}
use Rattle.plan.specs.declared.Plan.{Plan}
use Rattle.times_combined.specs.Word.{Step, Word, size, once, times, ◌▷◌}
use Rattle.times_combined.specs.Combined.{Ident, named, Graph, processing, combined}
use Rattle.times_combined.proofs.Laws.Accepted.{GoodWord}
use Rattle.times_combined.proofs.Laws.Engine.{Trace, Run as Runs, Steps, State, start_at, end_at}
use Rattle.times_combined.proofs.Laws.Exec.{put}
use Rattle.times_combined.specs.Paths.{step_of, word_of, Follows, Lawful}
use Rattle.times_combined.proofs.Laws.Exists.{extended}
use Rattle.times_combined.proofs.Laws.Instances.{Listing, listing_grows}
use Rattle.times_combined.proofs.Laws.Unique.{shape_of}
use Rattle.times_combined.proofs.Laws.Plans.{good_path}
use Rattle.times.specs.Times.{at}
use Rattle.times.specs.Queues.{pending_of, queue_of, floor_of, emission}
use Rattle.times.specs.Engine.{held_of, closed_of, emits_of, timed_of}
use Rattle.times.proofs.Laws.Fits.{processed_position, left_position}
use Rattle.times.specs.declared.Instance.{Instance}
use Rattle.times.specs.declared.Progress.{Progress}
use Rattle.times_equal.proofs.Laws.Seen.{seen, Pending}
use Rattle.run_path.specs.Path.{taken_by}
use Rattle.demands_log.specs.Log.{Log}
use Rattle.demands_log.specs.Log as Log
use Rattle.demands_theory.specs.Nodes.{length_of}
use Rattle.demands_theory.specs.TheWord.{state_after, whole_of, Takes}
use Rattle.demands_theory.proofs.Laws.TheWord.{takes_follows}
use Rattle.demands_run.proofs.Laws.Engine.{rest, remaining, Advances}
use Rattle.demands_run.proofs.Laws.Stands.{ident_of, id_of, ToldAs, Queued, Stands}

-- ---- the next position and state

pub next_position : (p : Plan) (t : ℕ) (g : Progress) → (taken_by p t g).progress.position ≡ g.position + 1
unfolding timed_of emits_of closed_of held_of
next_position p t g = ap (λ (n : ℕ). n + 1) (left_position _ _ _ _ ∙ processed_position (move p.automaton t).input g)

pub next_state : (p : Plan) (t : ℕ) (g : Progress) → (taken_by p t g).progress.state ≡ (move p.automaton t).to
unfolding timed_of emits_of closed_of
next_state p t g = refl

pub size_is : (p : Plan) (is : List ℕ) → size (word_of p is) ≡ length_of is
size_is p [] = refl
size_is p (i ∷ is) = let u = size_is p is in omega arith

-- ---- queues

rest_among : (x : Instance) (q : List Instance) → Among x (rest q) → Among x q
rest_among x [] h = elim h [ ]
rest_among x (y ∷ q) h = inr h

-- the oldest is taken
pub popped : (G : Graph) (log : Log) (m e n : ℕ) (q : List Instance) → 0 < length q → Queued G log m e n q → Queued G log m e (n + 1) (rest q)
popped G log m e n [] l h = absurd (omega arith)
popped G log m e n (x ∷ q) l h = record {
  past = h.past ++ (ident_of x ∷ []);
  count = (let u = length-append h.past (ident_of x ∷ []) in let v = h.count in omega arith);
  listing = subst (Listing G e) (sym (append_assoc h.past (ident_of x ∷ []) (map ident_of q))) h.listing;
  told = λ y k. h.told y (inr k);
}

-- new instances: nothing is told of them yet
pub emissions_are : (q : ℕ) (C : ℕ → ℕ) (ns : List ℕ) → map ident_of (map (λ n. emission q n (C n)) ns) ≡ map (named (suc q)) ns
emissions_are q C [] = refl
emissions_are q C (n ∷ ns) = ap (λ (l : List Ident). named (suc q) n ∷ l) (emissions_are q C ns)

module _ (p : Plan) (lawful : Lawful p) (available : ℕ → ℕ) (log : Log) (is : List ℕ) (g : Progress) (s : Stands p available log is g) (t : ℕ)
    (next : Takes p log (t ∷ is)) (ready : Pending (move p.automaton t).input g) (long : (e : ℕ) → length (queue_of g e) ≡ pending_of g e) (adv : Advances p t g) where
  abbrev w : Word
  w = word_of p is

  abbrev x : Step
  x = step_of p (move p.automaton t)

  pub follows : Follows p p.automaton.initial (t ∷ is) (state_after p (t ∷ is))
  follows = takes_follows p log (t ∷ is) next

  good : GoodWord p.resources (resource_of p) (w ▷ x)
  good = good_path p lawful p.automaton.initial (t ∷ is) (state_after p (t ∷ is)) follows

  processes : (i : Input) → Pending i g → (e : ℕ) → Queued (whole_of p is) log (outcomes_of p e) e (times e w + once e i) (remaining i g e)
  processes Input.Nothing h e = rw add-zero (s.queues e)
  processes (Input.Outcome f o) h e = go (eqb f e) refl
    where
      go : (b : Bool) → eqb f e ≡ b → Queued (whole_of p is) log (outcomes_of p e) e (times e w + cond b 1 0) (cond b (rest (queue_of g e)) (queue_of g e))
      go true q =
          let z : f ≡ e = eqb-true f e q in
          let h1 : 0 < pending_of g e = subst (λ (n : ℕ). 0 < pending_of g n) z h in
          let m = long e in
          popped (whole_of p is) log (outcomes_of p e) e (times e w) (queue_of g e) (omega arith) (s.queues e)
      go false q = rw add-zero (s.queues e)

  pub here : size w ≡ g.position
  here = size_is p is ∙ sym s.position

  joined : (e n : ℕ) (q : List Instance) → Queued (whole_of p is) log (outcomes_of p e) e n q → Queued (whole_of p (t ∷ is)) log (outcomes_of p e) e n (q ++ map (λ m. emission g.position m (at (taken_by p t g).schedule.end m)) (adv.emitted e))
  joined e n q h = record {
    past = h.past;
    count = h.count;
    listing =
        subst (Listing (combined p.resources (w ▷ x)) e) same
        (listing_grows p.resources (resource_of p) (combined p.resources w) (processing w x.input) (size w) x.output (shape_of p.resources (resource_of p) w good.0) good.1
        e (h.past ++ map ident_of q) h.listing (adv.emitted e) (adv.steps.emits e));
    told = λ y m. ⊎_elim (λ k. h.told y k) (λ k several. untold y (map_among (λ m. emission g.position m (at (taken_by p t g).schedule.end m)) y (adv.emitted e) k)) (among_either y q _ m);
  }
    where
      untold : (y : Instance) → (m : ℕ) × Among m (adv.emitted e) × (y ≡ emission g.position m (at (taken_by p t g).schedule.end m)) → ToldAs log (id_of y) y.told
      untold y c = subst (λ (z : Instance). ToldAs log (id_of z) z.told) (sym c.2) (λ o k. let u = s.known _ o k in let v = s.position in omega arith)

      same : (h.past ++ map ident_of q) ++ map (named (suc (size w))) (adv.emitted e) ≡ h.past ++ map ident_of (q ++ map (λ m. emission g.position m (at (taken_by p t g).schedule.end m)) (adv.emitted e))
      same =
          append_assoc h.past (map ident_of q) (map (named (suc (size w))) (adv.emitted e))
          ∙ ap (λ (l : List Ident). h.past ++ l)
          (ap (λ (l : List Ident). map ident_of q ++ l) (ap (λ (z : ℕ). map (named (suc z)) (adv.emitted e)) here ∙ sym (emissions_are g.position (λ m. at (taken_by p t g).schedule.end m) (adv.emitted e)))
          ∙ sym (map-append ident_of q (map (λ m. emission g.position m (at (taken_by p t g).schedule.end m)) (adv.emitted e))))

  abbrev pub trace : Trace
  trace = put s.trace (size w) (floor_of (move p.automaton t).input g) (λ n. at (taken_by p t g).schedule.start n) (λ n. at (taken_by p t g).schedule.end n) adv.emitted (seen (taken_by p t g).progress)

  -- the engine's way over the longer word, past the limits too
  pub runs_on : Runs p.resources available trace (w ▷ x)
  runs_on =
      extended p.resources available s.trace w x _ _ _ _ _ s.runs
      (subst (λ (z : State). Steps p.resources x z (floor_of (move p.automaton t).input g) (λ n. at (taken_by p t g).schedule.start n) (λ n. at (taken_by p t g).schedule.end n) adv.emitted (seen (taken_by p t g).progress)) (sym s.state) adv.steps)

  pub state_on : trace.state (size (w ▷ x)) ≡ seen (taken_by p t g).progress
  state_on = rw (lt-leb (suc (size w)) (size w) (omega arith))

  -- the times of its nodes are those of the schedule
  pub start_on_lem : (n : ℕ) → start_at trace (named (suc (size w)) n) ≡ at (taken_by p t g).schedule.start n
  start_on_lem n = rw (eq-eqb (size w) (size w) refl)

  pub end_on : (n : ℕ) → end_at trace (named (suc (size w)) n) ≡ at (taken_by p t g).schedule.end n
  end_on n = rw (eq-eqb (size w) (size w) refl)

  module _ (in-time : (taken_by p t g).beyond ≡ false) where
    pub stands_on : Stands p available log (t ∷ is) (taken_by p t g).progress
    stands_on = record {
      trace = trace;
      runs = runs_on;
      state = state_on;
      queues = λ e. subst (Queued (whole_of p (t ∷ is)) log (outcomes_of p e) e (times e w + once e x.input)) (sym (adv.queues e)) (joined e _ _ (processes (move p.automaton t).input ready e));
      place = next_state p t g;
      position = next_position p t g ∙ ap (λ (n : ℕ). n + 1) s.position;
      sized = adv.sized;
      within = adv.within in-time;
      taken = next;
      known = λ y o k. let u = s.known y o k in omega arith;
    }

    pub trace_start : (n : ℕ) → start_at stands_on.trace (named (suc (size w)) n) ≡ at (taken_by p t g).schedule.start n
    unfolding stands_on
    trace_start n = start_on_lem n

    pub trace_end : (n : ℕ) → end_at stands_on.trace (named (suc (size w)) n) ≡ at (taken_by p t g).schedule.end n
    unfolding stands_on
    trace_end n = end_on n
