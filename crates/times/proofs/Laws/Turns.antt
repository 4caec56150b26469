-- Rounds in one loop: a node's turn, the end of a round, and a round that changes nothing. Assumes nothing.
use Rattle.std.specs.Prelude.{◌≡◌, Bool, ◌⊎◌, ℕ, ◌+◌, ◌-◌, ◌≤◌, ◌<◌, get_or}
use Rattle.std.proofs.Math.Path.{refl, sym, ap}
use Rattle.std.proofs.Common.{◌∙◌, subst}
use Rattle.std.proofs.Math.Bool.{true, false}
use mathlib.Core.List.{List, [], ◌∷◌}
use Rattle.std.proofs.Math.Logic.{inl, inr}
use native.Mathlib.Omega.{arith}
use Rattle.std.proofs.Math.Nat.{sub-zero}
use Rattle.basis.specs.Parts.{part}
use Rattle.basis.specs.Tests.{flag}
use Rattle.time.specs.declared.Specified.{Specified}
use Rattle.plan.specs.Plan.{past_node, predecessors, nodes_of}
use Rattle.plan.specs.declared.Kind.{Kind}
use Rattle.plan.specs.declared.Node.{Node}
use Rattle.plan.specs.declared.Activity.{Activity}
use Rattle.times.specs.declared.Schedule.{Schedule}
use Rattle.times.specs.Times.{ready_of, largest_of, start_by, start_of, placed_of, visit_of, round_of, rounds_of, unscheduled, schedule_of}
use Rattle.times.specs.Inner.Times.{Sound, Rounding}
use Rattle.times.proofs.Laws.Rounds.{turn, round_end, visit_done, visit_waits, visit_placed, rounds_stop, rounds_on, schedule_begins, unscheduled_sound}

-- ---- what a start looks up

pub start_found :
    (available latest end : List Specified) (x : Node) {m : ℕ} {k : Kind} → x.kind ≡ k → m ≡ largest_of end (predecessors x)
    → start_by available latest m k ≡ start_of available latest end x
unfolding start_of
start_found available latest end x p q = rw (q, sym p)

-- ---- a round that changes nothing

module _ (available latest : List Specified) where
  visit_or : (x : Node) (n : ℕ) (t : Schedule) → (visit_of available latest x n t ≡ t) ⊎ ((visit_of available latest x n t).count ≡ t.count + 1)
  unfolding placed_of
  visit_or x n t = go (flag t.done n) refl (ready_of t.done (predecessors x)) refl
    where
      go : (b : Bool) → flag t.done n ≡ b → (d : Bool) → ready_of t.done (predecessors x) ≡ d → (visit_of available latest x n t ≡ t) ⊎ ((visit_of available latest x n t).count ≡ t.count + 1)
      go true e d f = inl (visit_done available latest x n t e)
      go false e false f = inl (visit_waits available latest x n t e f)
      go false e true f = inr (ap (λ (z : Schedule). z.count) (visit_placed available latest x n t e f))

  round_grows : (xs : List Node) (n : ℕ) (t : Schedule) → t.count ≤ (round_of available latest n xs t).count
  unfolding round_of
  round_grows [] n t = omega arith
  round_grows (x ∷ xs) n t =
      let u = round_grows xs (n + 1) (visit_of available latest x n t) in
      elim (visit_or x n t) [
        | inl e ↦ omega (arith, ap (λ (z : Schedule). z.count) e)
        | inr e ↦ omega arith
      ]

  pub round_same : (xs : List Node) (n : ℕ) (t : Schedule) → (round_of available latest n xs t).count ≡ t.count → round_of available latest n xs t ≡ t
  unfolding round_of
  round_same [] n t e = refl
  round_same (x ∷ xs) n t e =
      elim (visit_or x n t) [
        | inl f ↦
            let g = ap (round_of available latest (n + 1) xs) f in
            g ∙ round_same xs (n + 1) t (sym (ap (λ (z : Schedule). z.count) g) ∙ e)
        | inr f ↦ absurd (omega (arith, round_grows xs (n + 1) (visit_of available latest x n t)))
      ]

-- ---- the loop

module _ (a : Activity) (available latest : List Specified) where
  pub rounding_starts : (t : Schedule) → t ≡ unscheduled → Rounding a available latest (a.count - 0) t.count 0 t
  rounding_starts t e = record {
    start = t;
    all = schedule_begins available latest a t e ∙ ap (λ (k : ℕ). rounds_of available latest (nodes_of a) k t) (sym (sub-zero a.count));
    here = ap (λ (k : ℕ). round_of available latest 0 (part past_node a.nodes 0 k) t) (sym (sub-zero a.count));
    same = refl;
    fresh = λ z. refl;
    sound = subst (Sound a.count) (sym e) (unscheduled_sound a.count);
  }

  module _ (left from n : ℕ) (u : Schedule) (h : 0 < left) (r : Rounding a available latest left from n u) where
    pub rounding_turn : (w : Schedule) → n < a.count → visit_of available latest (get_or a.nodes n past_node) n u ≡ w → Sound a.count w → Rounding a available latest left from (n + 1) w
    rounding_turn w l e ok = record {
      start = r.start;
      all = r.all;
      here = turn available latest a.nodes n a.count u l r.here e;
      same = r.same;
      fresh = λ z. absurd (omega arith);
      sound = ok;
    }

    ended : a.count ≤ n → round_of available latest 0 (nodes_of a) r.start ≡ u
    ended l = r.here ∙ round_end available latest a.nodes n a.count u l

    pub rounding_stops : a.count ≤ n → u.count ≡ from → u ≡ schedule_of available latest (nodes_of a)
    rounding_stops l e =
        let f = ended l in
        let c = ap (λ (z : Schedule). z.count) f ∙ e ∙ sym r.same in
        sym f ∙ round_same available latest (nodes_of a) 0 r.start c ∙ sym (rounds_stop available latest (nodes_of a) r.start left h c) ∙ sym r.all

    pub rounding_next : a.count ≤ n → (u.count ≡ from → ⊥) → Rounding a available latest (left - 1) u.count 0 u
    rounding_next l ne =
        let f = ended l in
        record {
          start = u;
          all =
              r.all ∙ rounds_on available latest (nodes_of a) r.start left h (λ c. ne (sym (ap (λ (z : Schedule). z.count) f) ∙ c ∙ r.same))
              ∙ ap (rounds_of available latest (nodes_of a) (left - 1)) f;
          here = ap (λ (k : ℕ). round_of available latest 0 (part past_node a.nodes 0 k) u) (sym (sub-zero a.count));
          same = refl;
          fresh = λ z. refl;
          sound = r.sound;
        }

  pub rounding_done : (from n : ℕ) (u : Schedule) → Rounding a available latest 0 from n u → u ≡ schedule_of available latest (nodes_of a)
  unfolding rounds_of
  rounding_done from n u r = r.fresh refl ∙ sym r.all
