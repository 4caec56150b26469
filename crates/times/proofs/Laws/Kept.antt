-- A transition that does not pass the limits of number 44 leaves what is stored within the limits of number 50.
-- Assumes nothing.
use Rattle.std.specs.Prelude.{◌≡◌, refl, Bool, true, false, cond, ◌⊎◌, ℕ, zero, suc, ◌+◌, ◌-◌, ◌*◌, ◌≤◌, ◌<◌, max, length, ltb}
use Rattle.std.proofs.Common.{sym, ◌∙◌, arith, ltb-true, ltb-false}
use Rattle.std.proofs.Math.Path.{ap, subst}
use mathlib.Core.List.{List, [], ◌∷◌}
use Rattle.std.proofs.Math.Logic.{inl, inr}
use Rattle.std.proofs.Math.Decide.{ℕ_discrete, dec_lt}
use Rattle.std.proofs.Math.ListN.{get_or, set}
use Rattle.std.proofs.Math.Seq.{get_or-set_other}
use Rattle.basis.specs.Lists.{Among}
use Rattle.basis.proofs.Laws.Bools.{clash}
use Rattle.basis.proofs.Laws.PartsHold.{among_part, length_part}
use Rattle.time.specs.Time.{horizon}
use Rattle.time.specs.declared.Specified.{Specified}
use Rattle.plan.specs.Plan.{past_node, nodes_of}
use Rattle.plan.specs.declared.Kind.{Kind}
use Rattle.plan.specs.declared.Node.{Node}
use Rattle.plan.specs.declared.Activity.{Activity}
use Rattle.plan.specs.declared.Input.{Input}
use Rattle.times.specs.declared.Instance.{Instance}
use Rattle.times.specs.declared.Progress.{Progress}
use Rattle.times.specs.declared.Schedule.{Schedule}
use Rattle.times.specs.Times.{specified, at, schedule_of, order_of}
use Rattle.times.specs.Queues.{no_instance, pending_of, instance_of, oldest_gone, processed_of, floor_of, emission, queued_of}
use Rattle.times.specs.Engine.{last_position, held_of, completed_of, left_by, left_of, above_of, beyond_of, closed_of, emits_of, timed_of, advance_of}
use Rattle.times.specs.Limits.{InstanceInLimits, ProgressInLimits, StepFits}
use Rattle.times.proofs.Laws.Rounds.{at_set_le}
use Rattle.times.proofs.Laws.Fits.{by_test, timeable, leaving, left_position_by, left_position}
use Rattle.times.proofs.Laws.Places.{here, shifted_outside, shifted_inside}

-- no time above 10^15
pub above_none : (k i : ℕ) (ts : List Specified) → above_of ts i k ≡ false → (j : ℕ) → i ≤ j → j < i + k → at ts j ≤ horizon
unfolding above_of
above_none zero i ts e j h l = absurd (omega arith)
above_none (suc k) i ts e j h l = go (ltb horizon (at ts i)) refl e (ℕ_discrete j i) (λ f m. above_none k (i + 1) ts f j m (omega arith))
  where
    go : (b : Bool) → ltb horizon (at ts i) ≡ b → cond b true (above_of ts (i + 1) k) ≡ false → Dec (j ≡ i) → (above_of ts (i + 1) k ≡ false → i + 1 ≤ j → at ts j ≤ horizon) → at ts j ≤ horizon
    go true f e d rest = clash e
    go false f e (yes q) rest = subst (λ (n : ℕ). at ts n ≤ horizon) (sym q) (ltb-false horizon (at ts i) f)
    go false f e (no q) rest = rest e (omega arith)

-- ---- what the nodes that are done, and the processed instance, do to the events and the queues

module _ (E : ℕ) (outcomes : List ℕ) where
  record Stored (g : Progress) : Type 0 where
    latest : (e : ℕ) → e < E → at g.latest e ≤ horizon
    lengths : (e : ℕ) → e < E → pending_of g e ≤ 8
    pending : (e i : ℕ) → e < E → i < pending_of g e → InstanceInLimits (get_or outcomes e 0) (instance_of g e i)

  none_in_limits : (o : ℕ) → InstanceInLimits o no_instance
  none_in_limits o = record { position = omega arith; node = omega arith; end = omega arith; told = tt }

  -- the oldest instance of e leaves
  gone_stored : (e : ℕ) (g : Progress) → 0 < pending_of g e → Stored g → Stored (oldest_gone e g)
  gone_stored e g p s = record { latest = s.latest; lengths = fewer_of; pending = moved }
    where
      -- how many are pending then
      length_of_lem : (f : ℕ) → ((f ≡ e) × (pending_of (oldest_gone e g) f ≤ pending_of g e - 1)) ⊎ ((f ≡ e → ⊥) × (pending_of (oldest_gone e g) f ≡ pending_of g f))
      length_of_lem f = elim (ℕ_discrete f e) [
        | yes q ↦ inl (q, subst (λ (n : ℕ). get_or (set g.lengths e (pending_of g e - 1)) n 0 ≤ pending_of g e - 1) (sym q) (here (λ (n : ℕ). n ≤ pending_of g e - 1) g.lengths e (pending_of g e - 1) 0 (omega arith) (omega arith)))
        | no q ↦ inr (q, get_or-set_other g.lengths e f (pending_of g e - 1) 0 q)
      ]

      fewer_of : (f : ℕ) → f < E → pending_of (oldest_gone e g) f ≤ 8
      fewer_of f l = elim (length_of_lem f) [
        | inl h ↦ (let u = h.1 in let v = s.lengths f l in let w = ap (pending_of g) h.0 in omega arith)
        | inr h ↦ (let u = h.1 in let v = s.lengths f l in omega arith)
      ]

      moved : (f i : ℕ) → f < E → i < pending_of (oldest_gone e g) f → InstanceInLimits (get_or outcomes f 0) (instance_of (oldest_gone e g) f i)
      moved f i l k = elim (length_of_lem f) [
        | inl h ↦
            (let u = h.1 in
            let w = ap (pending_of g) h.0 in
            let v = s.lengths f l in
            let z : 8 * f + i + 1 ≡ 8 * f + (i + 1) = omega arith in
            subst (InstanceInLimits (get_or outcomes f 0))
            (sym (shifted_inside 7 (8 * e) g.pending (8 * f + i) (let q = h.0 in omega arith) (let q = h.0 in omega arith) ∙ ap (λ (n : ℕ). get_or g.pending n no_instance) z))
            (s.pending f (i + 1) l (omega arith)))
        | inr h ↦
            (let u = h.1 in
            let v = s.lengths f l in
            subst (InstanceInLimits (get_or outcomes f 0))
            (sym (shifted_outside 7 (8 * e) g.pending (8 * f + i) (apart f i h.0 (omega arith))))
            (s.pending f i l (omega arith)))
      ]
        where
          apart : (f i : ℕ) → (f ≡ e → ⊥) → i < 8 → (8 * f + i < 8 * e) ⊎ (8 * e + 7 < 8 * f + i)
          apart f i d l = elim (dec_lt f e) [ yes q ↦ inl (omega arith) | no q ↦ inr (omega arith) ]

  processed_stored : (i : Input) (g : Progress) → Stored g → Stored (processed_of i g)
  unfolding processed_of
  processed_stored Input.Nothing g s = s
  processed_stored (Input.Outcome e o) g s = by_test Stored (ltb 0 (pending_of g e)) (λ b. gone_stored e g (ltb-true 0 (pending_of g e) b) s) s

  -- an instance joins the queue of e
  queued_stored : (e : ℕ) (x : Instance) (g : Progress) → ((o : ℕ) → InstanceInLimits o x) → Stored g → Stored (queued_of e x g)
  unfolding queued_of
  queued_stored e x g ok s = by_test Stored (ltb (pending_of g e) 8) (λ b. joins (ltb-true (pending_of g e) 8 b)) s
    where
      joins : pending_of g e < 8 → Stored (record { available = g.available; latest = g.latest; lengths = set g.lengths e (pending_of g e + 1); pending = set g.pending (8 * e + pending_of g e) x; position = g.position; state = g.state })
      joins p = record { latest = s.latest; lengths = few; pending = stands }
        where
          -- how many are pending then
          length_of_lem : (f : ℕ) → ((f ≡ e) × (get_or (set g.lengths e (pending_of g e + 1)) f 0 ≤ pending_of g e + 1)) ⊎ ((f ≡ e → ⊥) × (get_or (set g.lengths e (pending_of g e + 1)) f 0 ≡ pending_of g f))
          length_of_lem f = elim (ℕ_discrete f e) [
            | yes q ↦ inl (q, subst (λ (n : ℕ). get_or (set g.lengths e (pending_of g e + 1)) n 0 ≤ pending_of g e + 1) (sym q) (here (λ (n : ℕ). n ≤ pending_of g e + 1) g.lengths e (pending_of g e + 1) 0 (omega arith) (omega arith)))
            | no q ↦ inr (q, get_or-set_other g.lengths e f (pending_of g e + 1) 0 q)
          ]

          few : (f : ℕ) → f < E → get_or (set g.lengths e (pending_of g e + 1)) f 0 ≤ 8
          few f l = elim (length_of_lem f) [ inl h ↦ (let u = h.1 in omega arith) | inr h ↦ (let u = h.1 in let v = s.lengths f l in omega arith) ]

          stands : (f i : ℕ) → f < E → i < get_or (set g.lengths e (pending_of g e + 1)) f 0 → InstanceInLimits (get_or outcomes f 0) (get_or (set g.pending (8 * e + pending_of g e) x) (8 * f + i) no_instance)
          stands f i l k = go (ℕ_discrete (8 * f + i) (8 * e + pending_of g e)) (length_of_lem f)
            where
              go : Dec (8 * f + i ≡ 8 * e + pending_of g e) → ((f ≡ e) × (get_or (set g.lengths e (pending_of g e + 1)) f 0 ≤ pending_of g e + 1)) ⊎ ((f ≡ e → ⊥) × (get_or (set g.lengths e (pending_of g e + 1)) f 0 ≡ pending_of g f)) → InstanceInLimits (get_or outcomes f 0) (get_or (set g.pending (8 * e + pending_of g e) x) (8 * f + i) no_instance)
              go (yes q) h =
                  subst (λ (n : ℕ). InstanceInLimits (get_or outcomes f 0) (get_or (set g.pending (8 * e + pending_of g e) x) n no_instance)) (sym q)
                  (here (InstanceInLimits (get_or outcomes f 0)) g.pending (8 * e + pending_of g e) x no_instance (ok (get_or outcomes f 0)) (none_in_limits (get_or outcomes f 0)))
              go (no q) (inl h) =
                  subst (InstanceInLimits (get_or outcomes f 0)) (sym (get_or-set_other g.pending (8 * e + pending_of g e) (8 * f + i) x no_instance q))
                  (s.pending f i l (let u = h.1 in let w = ap (pending_of g) h.0 in let v = h.0 in omega arith))
              go (no q) (inr h) =
                  subst (InstanceInLimits (get_or outcomes f 0)) (sym (get_or-set_other g.pending (8 * e + pending_of g e) (8 * f + i) x no_instance q))
                  (s.pending f i l (let u = h.1 in omega arith))

  left_stored_by : (n t : ℕ) (k : Kind) (g : Progress) → n < 64 → t ≤ horizon → g.position ≤ last_position → Stored g → Stored (left_by n t k g)
  unfolding left_by
  left_stored_by n t (Kind.Action a p) g h l q s = s
  left_stored_by n t (Kind.Claim r) g h l q s = s
  left_stored_by n t (Kind.Release r) g h l q s = record { latest = s.latest; lengths = s.lengths; pending = s.pending }
  left_stored_by n t (Kind.Event e) g h l q s =
      queued_stored e (emission g.position n t) (completed_of e t g) (λ o. record { position = q; node = h; end = l; told = tt })
      (record { latest = λ f m. raised f m (ℕ_discrete f e); lengths = s.lengths; pending = s.pending })
    where
      raised : (f : ℕ) → f < E → Dec (f ≡ e) → at (set g.latest e (specified (max (at g.latest e) t))) f ≤ horizon
      raised f m (yes d) = let u = s.latest f m in let v = ap (at g.latest) d in at_set_le g.latest e (max (at g.latest e) t) f horizon u (omega arith)
      raised f m (no d) = subst (λ (z : Specified). z.0 ≤ horizon) (sym (get_or-set_other g.latest e f (specified (max (at g.latest e) t)) (specified 0) d)) (s.latest f m)

  left_stored : (a : List Node) (end : List Specified) (ns : List ℕ) (g : Progress) → ((n : ℕ) → Among n ns → (n < 64) × (at end n ≤ horizon)) → g.position ≤ last_position → Stored g → Stored (left_of a end ns g)
  unfolding left_of
  left_stored a end [] g h q s = s
  left_stored a end (n ∷ ns) g h q s =
      left_stored a end ns (left_by n (at end n) (get_or a n past_node).kind g) (λ m i. h m (inr i))
      (subst (λ (z : ℕ). z ≤ last_position) (sym (left_position_by n (at end n) (get_or a n past_node).kind g)) q)
      (left_stored_by n (at end n) (get_or a n past_node).kind g (h n (inl refl)).0 (h n (inl refl)).1 q s)

-- ---- one transition

pub beyond_told : (R size : ℕ) (end : List Specified) (g : Progress) → beyond_of R size end g ≡ false → (g.position ≤ last_position) × (above_of end 0 size ≡ false) × (above_of g.available 0 R ≡ false)
unfolding beyond_of
beyond_told R size end g e = go (ltb last_position g.position) refl (above_of end 0 size) refl e
  where
    go : (b : Bool) → ltb last_position g.position ≡ b → (d : Bool) → above_of end 0 size ≡ d → cond b true (cond d true (above_of g.available 0 R)) ≡ false → (g.position ≤ last_position) × (above_of end 0 size ≡ false) × (above_of g.available 0 R ≡ false)
    go true p d q e = clash e
    go false p true q e = clash e
    go false p false q e = (ltb-false last_position g.position p, q, e)

module _ (R : ℕ) (a : Activity) (i : Input) (to : ℕ) (g : Progress) (fits : StepFits R a i g) where
  pub kept : to < fits.states → (advance_of R (nodes_of a) i to g).beyond ≡ false → ProgressInLimits R fits.events fits.states fits.outcomes (advance_of R (nodes_of a) i to g).progress
  unfolding timed_of emits_of closed_of held_of
  kept l e = record {
    available = λ r m. above_none R 0 h.available told.2 r (omega arith) (omega arith);
    latest = stored.latest;
    lengths = stored.lengths;
    pending = stored.pending;
    position = let u = told.0 in omega arith;
    state = l;
  }
    where
      before : Progress
      before = held_of R (floor_of i g) (processed_of i g)

      t : Schedule
      t = schedule_of before.available before.latest (nodes_of a)

      h : Progress
      h = left_of (nodes_of a) t.end (order_of t) before

      told : (h.position ≤ last_position) × (above_of t.end 0 (length (nodes_of a)) ≡ false) × (above_of h.available 0 R ≡ false)
      told = beyond_told R (length (nodes_of a)) t.end h e

      within : (n : ℕ) → Among n (order_of t) → n < a.count
      within n m =
          let c = among_part 0 t.order 0 t.count n m in
          let o = (leaving a before.available before.latest (timeable R a i g fits)).within c.0 c.1 in
          let z : 0 + c.0 ≡ c.0 = omega arith in
          subst (λ (k : ℕ). k < a.count) (sym (c.2 ∙ ap (λ (k : ℕ). get_or t.order k 0) z)) o

      stored : Stored fits.events fits.outcomes h
      stored =
          left_stored fits.events fits.outcomes (nodes_of a) t.end (order_of t) before
          (λ n m. let u = within n m in let v = fits.activity.count in (omega arith, above_none (length (nodes_of a)) 0 t.end told.1 n (omega arith) (let w = length_part past_node a.nodes 0 a.count in omega arith)))
          (let u = left_position (nodes_of a) t.end (order_of t) before in let v = told.0 in omega arith)
          (let s = processed_stored fits.events fits.outcomes i g (record { latest = fits.progress.latest; lengths = fits.progress.lengths; pending = fits.progress.pending }) in
          record { latest = s.latest; lengths = s.lengths; pending = s.pending })
