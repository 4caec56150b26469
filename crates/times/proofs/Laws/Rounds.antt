-- One turn of a round, and why it stays within the numbers: at most 64 nodes are done, each at most `longest` later than
-- what it waits for. Assumes nothing.
use Rattle.std.specs.Prelude.{◌≡◌, refl, Bool, cond, set, replicate, eqb}
use Rattle.std.proofs.Common.{sym, ◌∙◌, eq-eqb, ne_eqb, get_or-set_other}
use Rattle.std.proofs.Math.Path.{ap, subst}
use Rattle.std.proofs.Math.Bool.{true, false}
use mathlib.Core.List.{List, [], ◌∷◌}
use Prim.Native.Nat.{ℕ, zero, suc, ◌+◌, ◌-◌, ◌*◌, ◌≤◌, ◌<◌}
use native.Mathlib.Omega.{arith}
use Rattle.std.proofs.Math.Decide.{ℕ_discrete}
use Rattle.std.proofs.Math.ListN.{get_or, length-set}
use Rattle.basis.specs.Lists.{Among}
use Rattle.basis.specs.Parts.{part}
use Rattle.basis.proofs.Laws.Flags.{falses_set}
use Rattle.basis.proofs.Laws.PartsHold.{part_among, length_part}
use Rattle.basis.specs.Tests.{flag, falses}
use Rattle.basis.proofs.Laws.Parts.{part_step, part_end}
use Rattle.time.specs.Time.{horizon}
use Rattle.time.specs.declared.Specified.{Specified}
use Rattle.plan.specs.Plan.{past_node, predecessors, nodes_of}
use Rattle.plan.specs.Limits.{longest}
use Rattle.plan.specs.declared.Kind.{Kind}
use Rattle.plan.specs.declared.Node.{Node}
use Rattle.plan.specs.declared.Activity.{Activity}
use Rattle.times.specs.declared.Schedule.{Schedule}
use Rattle.times.specs.Times.{specified, at, ready_of, largest_of, start_by, start_of, placed_of, visit_of, round_of, rounds_of, unscheduled, schedule_of}
use Rattle.times.specs.Limits.{KindFits, NodeFits}
use Rattle.times.specs.Inner.Times.{ArrowsFit, Timeable, Sound}

-- ---- numbers that name something

pub arrows_fit : {R E size : ℕ} {x : Node} → NodeFits R E size x → size ≤ 64 → ArrowsFit x
arrows_fit {x} h l = record {
  few = h.few;
  within = λ j k.
      let z : 0 + j ≡ j = omega arith in
      let u = h.arrows (get_or x.preds j 0) (subst (λ (i : ℕ). Among (get_or x.preds i 0) (predecessors x)) z (part_among 0 x.preds 0 x.count j k)) in
      omega arith;
}

pub kind_fits : {R E : ℕ} (k : Kind) → R ≤ 16 → E ≤ 16 → KindFits R E k → KindFits 16 16 k
kind_fits (Kind.Action a p) r e h = h
kind_fits (Kind.Claim x) r e h = omega arith
kind_fits (Kind.Release x) r e h = omega arith
kind_fits (Kind.Event x) r e h = omega arith

-- ---- the turn

module _ (available latest : List Specified) (l : List Node) (n size : ℕ) (t : Schedule) where
  round_on : n < size → round_of available latest n (part past_node l n (size - n)) t ≡ round_of available latest (n + 1) (part past_node l (n + 1) (size - (n + 1))) (visit_of available latest (get_or l n past_node) n t)
  unfolding round_of
  round_on h = ap (λ (xs : List Node). round_of available latest n xs t) (part_step past_node l n size h)

  pub turn : {w u : Schedule} → n < size → w ≡ round_of available latest n (part past_node l n (size - n)) t → visit_of available latest (get_or l n past_node) n t ≡ u → w ≡ round_of available latest (n + 1) (part past_node l (n + 1) (size - (n + 1))) u
  turn h e f = e ∙ round_on h ∙ ap (round_of available latest (n + 1) (part past_node l (n + 1) (size - (n + 1)))) f

  pub round_end : size ≤ n → round_of available latest n (part past_node l n (size - n)) t ≡ t
  unfolding round_of
  round_end h = ap (λ (xs : List Node). round_of available latest n xs t) (part_end past_node l n size h)

module _ (available latest : List Specified) (x : Node) (n : ℕ) (t : Schedule) where
  pub visit_done : flag t.done n ≡ true → visit_of available latest x n t ≡ t
  unfolding visit_of
  visit_done e = rw e

  pub visit_waits : flag t.done n ≡ false → ready_of t.done (predecessors x) ≡ false → visit_of available latest x n t ≡ t
  unfolding visit_of
  visit_waits e f = rw (e, f)

  pub visit_placed : flag t.done n ≡ false → ready_of t.done (predecessors x) ≡ true → visit_of available latest x n t ≡ placed_of n x.duration (start_of available latest t.end x) t
  unfolding visit_of
  visit_placed e f = rw (e, f)

-- what the code stores: node n starts at s, lasts d and is entered at place w of the order
abbrev pub stored : ℕ → Specified → ℕ → ℕ → Schedule → Schedule
stored n s d w t = record {
  start = set t.start n s;
  end = set t.end n (specified (s.0 + d));
  done = set t.done n true;
  order = set t.order w n;
  count = t.count + 1;
}

pub stored_placed : (n : ℕ) {s : Specified} {b d e w : ℕ} (t : Schedule) → s ≡ specified b → e ≡ d → w ≡ t.count → placed_of n d b t ≡ stored n s e w t
unfolding placed_of
stored_placed n t p q r = rw (p, q, r)

-- ---- how many are done

-- ---- how late they end

pub at_set_le : (l : List Specified) (n v m b : ℕ) → at l m ≤ b → v ≤ b → at (set l n (specified v)) m ≤ b
at_set_le [] n v m b h k = h
at_set_le (x ∷ l) zero v zero b h k = k
at_set_le (x ∷ l) zero v (suc m) b h k = h
at_set_le (x ∷ l) (suc n) v zero b h k = h
at_set_le (x ∷ l) (suc n) v (suc m) b h k = at_set_le l n v m b h k

set_here_lt : (l : List ℕ) (i v b : ℕ) → v < b → get_or (set l i v) i 0 < b
set_here_lt [] i v b h = omega arith
set_here_lt (x ∷ l) zero v b h = h
set_here_lt (x ∷ l) (suc i) v b h = set_here_lt l i v b h

pub largest_le : (end : List Specified) (ms : List ℕ) (b : ℕ) → ((n : ℕ) → at end n ≤ b) → largest_of end ms ≤ b
unfolding largest_of
largest_le end [] b h = omega arith
largest_le end (m ∷ ms) b h = let u = largest_le end ms b h in let v = h m in omega arith

start_le : {R E : ℕ} (available latest : List Specified) (m b : ℕ) (k : Kind) → KindFits R E k → ((r : ℕ) → r < R → at available r ≤ horizon) → ((e : ℕ) → e < E → at latest e ≤ horizon) → horizon ≤ b → m ≤ b → start_by available latest m k ≤ b
start_le available latest m b (Kind.Action a p) f av la h l = l
start_le available latest m b (Kind.Claim r) f av la h l = let u = av r f in omega arith
start_le available latest m b (Kind.Release r) f av la h l = l
start_le available latest m b (Kind.Event e) f av la h l = let u = la e f in omega arith

module _ (a : Activity) (available latest : List Specified) (given : Timeable a available latest) (n : ℕ) (l : n < a.count) (t : Schedule) (ok : Sound a.count t) where
  pub start_small : start_of available latest t.end (get_or a.nodes n past_node) ≤ horizon + longest * t.count
  unfolding start_of
  start_small =
      start_le available latest (largest_of t.end (predecessors (get_or a.nodes n past_node))) (horizon + longest * t.count) (get_or a.nodes n past_node).kind
      (given.activity.nodes n l).names
      given.available
      given.latest
      (omega arith)
      (largest_le t.end (predecessors (get_or a.nodes n past_node)) (horizon + longest * t.count) ok.small)

  pub room : flag t.done n ≡ false → t.count < 64
  room e =
      let u = falses_set t.done n (let v = ok.long in let w = given.activity.count in omega arith) e in
      let v = ok.tally in
      omega arith

  pub placed_sound : flag t.done n ≡ false → Sound a.count (placed_of n (get_or a.nodes n past_node).duration (start_of available latest t.end (get_or a.nodes n past_node)) t)
  unfolding placed_of
  placed_sound e = record {
    long = length-set t.done n true ∙ ok.long;
    tally =
        let u = falses_set t.done n (let v = ok.long in let w = given.activity.count in omega arith) e in
        let v = ok.tally in
        omega arith;
    small = λ m.
        let u = start_small in
        let v = (given.activity.nodes n l).duration in
        let w = ok.small m in
        at_set_le t.end n (start_of available latest t.end (get_or a.nodes n past_node) + (get_or a.nodes n past_node).duration) m (horizon + longest * (t.count + 1)) (omega arith) (omega arith);
    within = λ j k.
        elim (ℕ_discrete j t.count) [
          | yes q ↦ subst (λ (z : ℕ). get_or (set t.order t.count n) z 0 < a.count) (sym q) (set_here_lt t.order t.count n a.count l)
          | no q ↦ subst (λ (z : ℕ). z < a.count) (sym (get_or-set_other t.order t.count j n 0 q)) (ok.within j (omega arith))
        ];
  }

-- ---- a whole round, and all rounds

module _ (a : Activity) (available latest : List Specified) (given : Timeable a available latest) where
  visit_sound : (n : ℕ) → n < a.count → (t : Schedule) → Sound a.count t → Sound a.count (visit_of available latest (get_or a.nodes n past_node) n t)
  visit_sound n l t ok = go (flag t.done n) refl (ready_of t.done (predecessors (get_or a.nodes n past_node))) refl
    where
      go : (b : Bool) → flag t.done n ≡ b → (d : Bool) → ready_of t.done (predecessors (get_or a.nodes n past_node)) ≡ d → Sound a.count (visit_of available latest (get_or a.nodes n past_node) n t)
      go true e d f = subst (Sound a.count) (sym (visit_done available latest (get_or a.nodes n past_node) n t e)) ok
      go false e false f = subst (Sound a.count) (sym (visit_waits available latest (get_or a.nodes n past_node) n t e f)) ok
      go false e true f = subst (Sound a.count) (sym (visit_placed available latest (get_or a.nodes n past_node) n t e f)) (placed_sound a available latest given n l t ok e)

  turns_sound : (k n : ℕ) → n + k ≤ a.count → (t : Schedule) → Sound a.count t → Sound a.count (round_of available latest n (part past_node a.nodes n k) t)
  unfolding round_of
  turns_sound zero n l t ok = ok
  turns_sound (suc k) n l t ok = turns_sound k (n + 1) (omega arith) (visit_of available latest (get_or a.nodes n past_node) n t) (visit_sound n (omega arith) t ok)

  pub round_sound : (t : Schedule) → Sound a.count t → Sound a.count (round_of available latest 0 (nodes_of a) t)
  round_sound t ok = turns_sound a.count 0 (omega arith) t ok

  pub rounds_sound : (k : ℕ) (t : Schedule) → Sound a.count t → Sound a.count (rounds_of available latest (nodes_of a) k t)
  unfolding rounds_of
  rounds_sound zero t ok = ok
  rounds_sound (suc k) t ok = go (eqb (round_of available latest 0 (nodes_of a) t).count t.count) (rounds_sound k (round_of available latest 0 (nodes_of a) t) (round_sound t ok))
    where
      go : (b : Bool) → Sound a.count (rounds_of available latest (nodes_of a) k (round_of available latest 0 (nodes_of a) t)) → Sound a.count (cond b t (rounds_of available latest (nodes_of a) k (round_of available latest 0 (nodes_of a) t)))
      go true h = ok
      go false h = h

pub unscheduled_sound : (size : ℕ) → Sound size unscheduled
unfolding falses
unscheduled_sound size = record { long = refl; tally = refl; small = λ n. let u = zeros 64 n in omega arith; within = λ j l. absurd (omega arith) }
  where
    zeros : (k n : ℕ) → at (replicate k (specified 0)) n ≡ 0
    zeros zero n = refl
    zeros (suc k) zero = refl
    zeros (suc k) (suc n) = zeros k n

module _ (available latest : List Specified) (ns : List Node) (t : Schedule) where
  pub rounds_stop : (k : ℕ) → 0 < k → (round_of available latest 0 ns t).count ≡ t.count → rounds_of available latest ns k t ≡ t
  unfolding rounds_of
  rounds_stop zero h e = absurd (omega arith)
  rounds_stop (suc k) h e = rw (eq-eqb (round_of available latest 0 ns t).count t.count e)

  pub rounds_on : (k : ℕ) → 0 < k → ((round_of available latest 0 ns t).count ≡ t.count → ⊥) → rounds_of available latest ns k t ≡ rounds_of available latest ns (k - 1) (round_of available latest 0 ns t)
  unfolding rounds_of
  rounds_on zero h e = absurd (omega arith)
  rounds_on (suc k) h e =
      let z : k ≡ suc k - 1 = omega arith in
      rw (ne_eqb (round_of available latest 0 ns t).count t.count e) (ap (λ (j : ℕ). rounds_of available latest ns j (round_of available latest 0 ns t)) z)

pub schedule_begins : (available latest : List Specified) (a : Activity) (t : Schedule) → t ≡ unscheduled → schedule_of available latest (nodes_of a) ≡ rounds_of available latest (nodes_of a) a.count t
schedule_begins available latest a t e =
    ap (λ (k : ℕ). rounds_of available latest (nodes_of a) k unscheduled) (length_part past_node a.nodes 0 a.count)
    ∙ ap (rounds_of available latest (nodes_of a) a.count) (sym e)
