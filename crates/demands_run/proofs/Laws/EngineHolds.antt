-- The laws of the engine hold: one transition goes the way whose times are those of the combined activity, a path settles, and an
-- awaited event has a transition for each outcome.
use Rattle.std.specs.Prelude.{◌≡◌, refl, cond, List, ◌++◌, map, ℕ, zero, suc, ◌+◌, ◌*◌, ◌-◌, ◌≤◌, ◌<◌, eqb, length, get_or}
use Rattle.std.proofs.Common.{sym, ap, ◌∙◌, subst, arith, lt-ltb, eq-eqb, ne_eqb}
use Rattle.std.proofs.Math.Decide.{ℕ_discrete}
use Rattle.basis.specs.Parts.{part}
use Rattle.basis.proofs.Laws.Parts.{part_same}
use Rattle.basis.proofs.Laws.PartsHold.{length_part}
use Rattle.plan.specs.Plan.{past_node, size_of, activity_of, resource_of, emitted_by, move}
use Rattle.plan.specs.Limits.{KindNames, OutputNames, NodeInLimits, InLimits}
use Rattle.plan.specs.declared.Kind.{Kind}
use Rattle.plan.specs.declared.Node.{Node}
use Rattle.plan.specs.declared.Activity.{Activity}
use Rattle.plan.specs.declared.Input.{Input}
use Rattle.plan.specs.declared.Output.{Output}
use Rattle.plan.specs.declared.Plan.{Plan}
use Rattle.activity.specs.Rules.{node, Is}
use Rattle.automaton.specs.Rules.{MeetsAutomaton}
use Rattle.automaton.proofs.Laws.Later.{Goes, stay, go, waits_chosen}
use Rattle.automaton.proofs.Laws.Halts.{goes_few}
use Rattle.times_combined.proofs.Laws.Accepted.{Good}
use Rattle.times_combined.specs.Paths.{Lawful}
use Rattle.times_combined.proofs.Laws.TimesEqual.{good_empty}
use Rattle.times_combined.proofs.Laws.Plans.{good_activity, node_is}
use Rattle.times.specs.Times.{at}
use Rattle.times.specs.Queues.{no_instance, pending_of, queue_of, shifted_of, oldest_gone, processed_of, emission}
use Rattle.times.proofs.Laws.Places.{shifted_inside, shifted_outside}
use Rattle.times.specs.declared.Instance.{Instance}
use Rattle.times.specs.declared.Progress.{Progress}
use Rattle.times_equal.proofs.Laws.Seen.{Whole, Pending, Ready, emitted}
use Rattle.times_equal.proofs.Laws.Steps.{steps, queue_grows, whole_after}
use Rattle.times_equal.proofs.Laws.Queue.{apart, gone_length}
use Rattle.run_path.specs.Path.{taken_by}
use Rattle.run_path.proofs.Laws.Stepping.{taken_kept}
use Rattle.demands_run.proofs.Laws.Engine.{rest, remaining, Possible, Advances, Settles, EngineLaws}

-- ---- the queues after an instance is processed

rest_part : (q : List Instance) (i k : ℕ) → 0 < k → part no_instance q (i + 1) (k - 1) ≡ rest (part no_instance q i k)
rest_part q i zero l = absurd (omega arith)
rest_part q i (suc k) l = let z : suc k - 1 ≡ k = omega arith in ap (part no_instance q (i + 1)) z

module _ (g : Progress) (e : ℕ) (s : Whole g) (p : 0 < pending_of g e) (few : (f : ℕ) → pending_of g f ≤ 8) where
  gone_queue : (f : ℕ) → queue_of (oldest_gone e g) f ≡ cond (eqb e f) (rest (queue_of g f)) (queue_of g f)
  gone_queue f = by (ℕ_discrete f e)
    where
      own : queue_of (oldest_gone e g) e ≡ rest (queue_of g e)
      own =
          let u = few e in
          let z : pending_of (oldest_gone e g) e ≡ pending_of g e - 1 = gone_length g e s p e ∙ rw (eq-eqb e e refl) in
          ap (part no_instance (shifted_of (8 * e) 7 g.pending) (8 * e)) z
          ∙ part_same no_instance (shifted_of (8 * e) 7 g.pending) g.pending (pending_of g e - 1) (8 * e) (8 * e + 1)
          (λ n q. shifted_inside 7 (8 * e) g.pending (8 * e + n) (omega arith) (omega arith)
          ∙ (let y : 8 * e + n + 1 ≡ 8 * e + 1 + n = omega arith in ap (λ (i : ℕ). get_or g.pending i no_instance) y))
          ∙ rest_part g.pending (8 * e) (pending_of g e) p

      other : (f ≡ e → ⊥) → queue_of (oldest_gone e g) f ≡ queue_of g f
      other n =
          let u = few f in
          let z : pending_of (oldest_gone e g) f ≡ pending_of g f = gone_length g e s p f ∙ rw (ne_eqb e f (λ q. n (sym q))) in
          ap (part no_instance (shifted_of (8 * e) 7 g.pending) (8 * f)) z
          ∙ part_same no_instance (shifted_of (8 * e) 7 g.pending) g.pending (pending_of g f) (8 * f) (8 * f)
          (λ m q. shifted_outside 7 (8 * e) g.pending (8 * f + m) (apart f e m n (omega arith)))

      by : Dec (f ≡ e) → queue_of (oldest_gone e g) f ≡ cond (eqb e f) (rest (queue_of g f)) (queue_of g f)
      by (yes q) = rw (eq-eqb e f (sym q)) (subst (λ (n : ℕ). queue_of (oldest_gone e g) n ≡ rest (queue_of g n)) (sym q) own)
      by (no n) = rw (ne_eqb e f (λ q. n (sym q))) (other n)

processed_queue : (i : Input) (g : Progress) → Whole g → Pending i g → ((f : ℕ) → pending_of g f ≤ 8) → (f : ℕ) → queue_of (processed_of i g) f ≡ remaining i g f
unfolding processed_of
processed_queue Input.Nothing g s p few f = refl
processed_queue (Input.Outcome e o) g s p few f = rw (lt-ltb 0 (pending_of g e) p) (gone_queue g e s p few f)

-- ---- the activity of a transition is within the limits

module _ (p : Plan) (limits : InLimits p) where
  -- each of its nodes is within the limits
  node_within : (o : Output) → OutputNames p o → (n : ℕ) → n < length (emitted_by p o) → NodeInLimits p (length (emitted_by p o)) (node (emitted_by p o) n)
  node_within Output.Empty h n l = absurd (omega arith)
  node_within (Output.Activity a) h n l =
      let u = length_part past_node p.nodes (64 * a) (size_of p a) in
      subst (λ (k : ℕ). NodeInLimits p k (node (activity_of p a) n)) (sym u) (subst (NodeInLimits p (size_of p a)) (sym (node_is p a n l)) (limits.nodes a n h (omega arith)))

  short : (o : Output) → OutputNames p o → length (emitted_by p o) ≤ 64
  short Output.Empty h = omega arith
  short (Output.Activity a) h = let u = length_part past_node p.nodes (64 * a) (size_of p a) in let v = (limits.sizes a h).1 in omega arith

  few_events : (o : Output) → OutputNames p o → (n e : ℕ) → Is (emitted_by p o) n (Kind.Event e) → e < 16
  few_events o h n e i =
      let k : e < p.events = subst (KindNames p) i.kind (node_within o h n i.within).names in
      let m = limits.events in
      omega arith

good_output : (p : Plan) → Lawful p → (o : Output) → OutputNames p o → Good p.resources (resource_of p) (emitted_by p o)
good_output p lawful Output.Empty h = good_empty p.resources (resource_of p)
good_output p lawful (Output.Activity a) h = good_activity p lawful a h

-- ---- one transition

module _ (p : Plan) (lawful : Lawful p) (t : ℕ) (g : Progress) (can : Possible p t g) where
  abbrev a : List Node
  a = emitted_by p (move p.automaton t).output

  abbrev i : Input
  i = (move p.automaton t).input

  limits : InLimits p
  limits = lawful.file.limits

  names : OutputNames p (move p.automaton t).output
  names = (limits.moves t can.low).output

  left : (e : ℕ) → queue_of (processed_of i g) e ≡ remaining i g e
  left = processed_queue i g can.sized can.pending can.few

  ready : Ready p.resources (resource_of p) a i g
  ready = record {
    resources = limits.resources;
    size = short p limits (move p.automaton t).output names;
    good = good_output p lawful (move p.automaton t).output names;
    events = few_events p limits (move p.automaton t).output names;
    whole = can.sized;
    processes = can.pending;
    few = can.few;
    room = λ e.
        let u = ap length (left e) in
        let v = length_part no_instance (processed_of i g).pending (8 * e) (pending_of (processed_of i g) e) in
        let w = can.room e in
        omega arith;
  }

  advances : Advances p t g
  advances = record {
    emitted = λ e. emitted a (taken_by p t g).schedule e;
    steps = steps p.resources (resource_of p) a i (move p.automaton t).to g ready;
    queues = λ e. queue_grows p.resources (resource_of p) a i (move p.automaton t).to g ready e ∙ ap (λ (q : List Instance). q ++ map (λ n. emission g.position n (at (taken_by p t g).schedule.end n)) (emitted a (taken_by p t g).schedule e)) (left e);
    sized = whole_after p.resources (resource_of p) a i (move p.automaton t).to g ready;
    within = taken_kept p t g limits can.low can.within;
  }

-- ---- paths settle

settles_from : (p : Plan) (limits : InLimits p) (m : MeetsAutomaton p) (s : ℕ) (low : s < p.automaton.states) {n q : ℕ} → Goes p.automaton s n q → (k : ℕ) → 63 ≤ n + k → Settles p.automaton k q
settles_from p limits m s low c zero h = λ t e. let u = goes_few p limits m s low (go c e refl) in omega arith
settles_from p limits m s low c (suc k) h = λ t e. settles_from p limits m s low (go c e refl) k (omega arith)

pub engine_laws : EngineLaws
engine_laws = record {
  advances = λ p lawful t g can. advances p lawful t g can;
  settles = λ p lawful m s k low h. settles_from p lawful.file.limits m s low stay k (omega arith);
  chosen = λ p lawful m s e o low w l. (let r = waits_chosen p lawful.file.limits m s e o low w l in (r.0, r.1));
}
