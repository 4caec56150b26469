-- What `advance` hands to the functions it calls lies within the limits that they ask for, and their answers put
-- together are the definition's. Assumes nothing.
use Rattle.std.specs.Prelude.{◌≡◌, refl, Bool, true, false, cond, ℕ, zero, suc, ◌+◌, ◌≤◌, ◌<◌, max, length, get_or, set, ltb}
use Rattle.std.proofs.Common.{sym, ap, ◌∙◌, ltb-true}
use Rattle.std.proofs.Math.Path.{subst}
use mathlib.Core.List.{List, [], ◌∷◌}
use native.Mathlib.Omega.{arith}
use Rattle.basis.proofs.Laws.PartsHold.{length_part}
use Rattle.time.specs.Time.{horizon}
use Rattle.time.specs.declared.Specified.{Specified}
use Rattle.plan.specs.Plan.{past_node, nodes_of}
use Rattle.plan.specs.declared.Kind.{Kind}
use Rattle.plan.specs.declared.Node.{Node}
use Rattle.plan.specs.declared.Activity.{Activity}
use Rattle.plan.specs.declared.Input.{Input}
use Rattle.times.specs.declared.Progress.{Progress}
use Rattle.times.specs.declared.Schedule.{Schedule}
use Rattle.times.specs.declared.Advanced.{Advanced}
use Rattle.times.specs.Times.{specified, at, unscheduled, schedule_of, order_of}
use Rattle.times.specs.Queues.{pending_of, processed_of, floor_of, queued_of}
use Rattle.times.specs.Engine.{last_position, raised_of, held_of, left_by, left_of, beyond_of, moved_of, closed_of, emits_of, timed_of, advance_of}
use Rattle.times.specs.Limits.{InputFits, StepFits}
use Rattle.times.specs.Inner.Times.{Timeable, Leaving}
use Rattle.times.proofs.Laws.Rounds.{at_set_le, rounds_sound, unscheduled_sound}

pub input_fits : {E : ℕ} (i : Input) → E ≤ 16 → InputFits E i → InputFits 16 i
input_fits Input.Nothing l h = h
input_fits (Input.Outcome e o) l h = omega arith

-- ---- what the processed instance leaves alone

pub by_test : {A : Type 0} (P : A → Type 0) (b : Bool) {x y : A} → (b ≡ true → P x) → P y → P (cond b x y)
by_test P true f h = f refl
by_test P false f h = h

pub processed_available : (i : Input) (g : Progress) → (processed_of i g).available ≡ g.available
unfolding processed_of
processed_available Input.Nothing g = refl
processed_available (Input.Outcome e o) g = by_test (λ (h : Progress). h.available ≡ g.available) (ltb 0 (pending_of g e)) (λ b. refl) refl

pub processed_latest : (i : Input) (g : Progress) → (processed_of i g).latest ≡ g.latest
unfolding processed_of
processed_latest Input.Nothing g = refl
processed_latest (Input.Outcome e o) g = by_test (λ (h : Progress). h.latest ≡ g.latest) (ltb 0 (pending_of g e)) (λ b. refl) refl

pub processed_position : (i : Input) (g : Progress) → (processed_of i g).position ≡ g.position
unfolding processed_of
processed_position Input.Nothing g = refl
processed_position (Input.Outcome e o) g = by_test (λ (h : Progress). h.position ≡ g.position) (ltb 0 (pending_of g e)) (λ b. refl) refl

-- ---- the nodes do not change the position

pub left_position_by : (n t : ℕ) (k : Kind) (g : Progress) → (left_by n t k g).position ≡ g.position
unfolding left_by queued_of
left_position_by n t (Kind.Action a p) g = refl
left_position_by n t (Kind.Claim r) g = refl
left_position_by n t (Kind.Release r) g = refl
left_position_by n t (Kind.Event e) g = by_test (λ (h : Progress). h.position ≡ g.position) (ltb (pending_of g e) 8) (λ b. refl) refl

pub left_position : (a : List Node) (end : List Specified) (ns : List ℕ) (g : Progress) → (left_of a end ns g).position ≡ g.position
unfolding left_of
left_position a end [] g = refl
left_position a end (n ∷ ns) g =
    left_position a end ns (left_by n (at end n) (get_or a n past_node).kind g)
    ∙ left_position_by n (at end n) (get_or a n past_node).kind g

-- ---- availabilities stay within 10^15 when they are raised

raised_le : (c b R k i : ℕ) (l : List Specified) → i + k ≤ R → c ≤ b → ((r : ℕ) → r < R → at l r ≤ b) → (r : ℕ) → r < R → at (raised_of c i k l) r ≤ b
unfolding raised_of
raised_le c b R zero i l h d f r q = f r q
raised_le c b R (suc k) i l h d f r q =
    raised_le c b R k (i + 1) (set l i (specified (max (at l i) c))) (omega arith) d
    (λ s p. let u = f i (omega arith) in at_set_le l i (max (at l i) c) s b (f s p) (omega arith))
    r q

-- ---- one transition

module _ (R : ℕ) (a : Activity) (i : Input) (g : Progress) (fits : StepFits R a i g) where
  floor_le : (j : Input) → InputFits fits.events j → floor_of j g ≤ horizon
  unfolding floor_of
  floor_le Input.Nothing h = omega arith
  floor_le (Input.Outcome e o) h =
      by_test (λ (c : ℕ). c ≤ horizon) (ltb 0 (pending_of g e)) (λ b. (fits.progress.pending e 0 h (ltb-true 0 (pending_of g e) b)).end) (omega arith)

  pub timeable : Timeable a (held_of R (floor_of i g) (processed_of i g)).available (held_of R (floor_of i g) (processed_of i g)).latest
  unfolding held_of
  timeable = record {
    resources = R;
    events = fits.events;
    few_resources = fits.few_resources;
    few_events = fits.few_events;
    activity = fits.activity;
    available =
        raised_le (floor_of i g) horizon R R 0 (processed_of i g).available (omega arith) (floor_le i fits.input)
        (λ r l. subst (λ (ts : List Specified). at ts r ≤ horizon) (sym (processed_available i g)) (fits.progress.available r l));
    latest = λ e l. subst (λ (ts : List Specified). at ts e ≤ horizon) (sym (processed_latest i g)) (fits.progress.latest e l);
  }

  pub position_le : (held_of R (floor_of i g) (processed_of i g)).position ≤ last_position + 1
  unfolding held_of
  position_le = let u = processed_position i g in let v = fits.progress.position in omega arith

pub leaving : (a : Activity) (available latest : List Specified) → Timeable a available latest → Leaving a (schedule_of available latest (nodes_of a))
leaving a available latest h =
    let s = rounds_sound a available latest h (length (nodes_of a)) unscheduled (unscheduled_sound a.count) in
    record {
      resources = h.resources;
      events = h.events;
      few_resources = h.few_resources;
      few_events = h.few_events;
      activity = h.activity;
      done = let u = s.tally in omega arith;
      within = s.within;
    }

pub held_as : (R : ℕ) (i : Input) (g : Progress) {c : Specified} {p h : Progress} → c ≡ specified (floor_of i g) → p ≡ processed_of i g → h ≡ held_of R c.0 p → h ≡ held_of R (floor_of i g) (processed_of i g)
held_as R i g e1 e2 e3 = rw (e3, e2, e1)

-- the progress with these availabilities
abbrev pub with_available : Progress → List Specified → Progress
with_available g ts = record {
  available = ts;
  latest = g.latest;
  lengths = g.lengths;
  pending = g.pending;
  position = g.position;
  state = g.state;
}

pub held_parts : (R c : ℕ) (p : Progress) {ts : List Specified} → ts ≡ raised_of c 0 R p.available → with_available p ts ≡ held_of R c p
unfolding held_of
held_parts R c p e = ap (with_available p) e

pub closed_parts : (R size to : ℕ) (t : Schedule) (g : Progress) {b : Bool} → b ≡ beyond_of R size t.end g → record { beyond = b; schedule = t; progress = moved_of to g } ≡ closed_of R size to t g
unfolding closed_of
closed_parts R size to t g e = ap (λ (x : Bool). record { beyond = x; schedule = t; progress = moved_of to g }) e

pub assembled : (R to : ℕ) (a : Activity) (i : Input) (g : Progress) {c : Specified} {p h q : Progress} {t : Schedule} {r : Advanced} → c ≡ specified (floor_of i g) → p ≡ processed_of i g → h ≡ held_of R c.0 p → t ≡ schedule_of h.available h.latest (nodes_of a) → q ≡ left_of (nodes_of a) t.end (order_of t) h → r ≡ closed_of R a.count to t q → r ≡ advance_of R (nodes_of a) i to g
unfolding timed_of emits_of
assembled R to a i g e1 e2 e3 e4 e5 e6 =
    rw (e6, e5, e4, e3, e2, e1)
    (ap (λ (k : ℕ). closed_of R k to (schedule_of (held_of R (floor_of i g) (processed_of i g)).available (held_of R (floor_of i g) (processed_of i g)).latest (nodes_of a)) (left_of (nodes_of a) (schedule_of (held_of R (floor_of i g) (processed_of i g)).available (held_of R (floor_of i g) (processed_of i g)).latest (nodes_of a)).end (order_of (schedule_of (held_of R (floor_of i g) (processed_of i g)).available (held_of R (floor_of i g) (processed_of i g)).latest (nodes_of a))) (held_of R (floor_of i g) (processed_of i g)))) (sym (length_part past_node a.nodes 0 a.count)))
