-- An activity without a cycle can be ranked: the rank of a node is the length of a longest chain to it.
use Rattle.std.specs.Prelude.{◌≡◌, length}
use Rattle.std.proofs.Math.Path.{refl, subst}
use Rattle.std.proofs.Common.{sym, ap, ap₂, inl, inr}
use mathlib.Core.List.{List, [], ◌∷◌}
use Prim.Native.Nat.{ℕ, zero, suc, ◌<◌, max}
use native.Mathlib.Omega.{arith}
use Rattle.std.proofs.Math.Decide.{ℕ_discrete}
use Rattle.basis.specs.Lists.{Among, Distinct, one, more}
use Rattle.basis.proofs.Laws.Lists.{fewer, upto, among_upto, length_upto}
use Rattle.plan.specs.declared.Node.{Node}
use Rattle.plan.specs.Plan.{predecessors}
use Rattle.activity.specs.Rules.{node, Arrow, Before}
use Rattle.times_combined.proofs.Laws.Accepted.{Good}
use Rattle.times_combined.proofs.Laws.Engine.{latest}
use Rattle.times_combined.proofs.Laws.Exec.{depth, rank_of}
use Rattle.times_combined.proofs.Laws.OneActivity.{latest_bound}

differ_pred : (C D : ℕ → ℕ) (ms : List ℕ) → (latest C ms ≡ latest D ms → ⊥) → (m : ℕ) × Among m ms × (C m ≡ D m → ⊥)
differ_pred C D [] h = absurd (h refl)
differ_pred C D (m ∷ ms) h =
    elim (ℕ_discrete (C m) (D m)) [
      | no d ↦ (m, inl refl, d)
      | yes e ↦ let c = differ_pred C D ms (λ q. h (ap₂ max e q)) in (c.0, inr c.1, c.2)
    ]

module _ (a : List Node) (inside : (m n : ℕ) → Arrow a m n → m < length a) (no_cycle_lem : (n : ℕ) → Before a n n → ⊥) where
  -- j different nodes are before n
  record Trail (n j : ℕ) : Type 0 where
    list : List ℕ
    distinct : Distinct list
    long : length list ≡ j
    each : (m : ℕ) → Among m list → Before a m n × (m < length a)

  longer : (m n j : ℕ) → Arrow a m n → Trail m j → Trail n (suc j)
  longer m n j h t = record {
    list = m ∷ t.list;
    distinct = (λ i. no_cycle_lem m (t.each m i).0, t.distinct);
    long = ap suc t.long;
    each = λ k i. elim i [
      | inl e ↦ subst (λ (z : ℕ). Before a z n × (z < length a)) (sym e) (one h, inside m n h)
      | inr q ↦ (more (t.each k q).0 h, (t.each k q).1)
    ];
  }

  trail : (k n : ℕ) → n < length a → (depth a (suc k) n ≡ depth a k n → ⊥) → Trail n (suc k)
  unfolding depth
  trail zero n l h = go (predecessors (node a n)) refl
    where
      go : (ms : List ℕ) → predecessors (node a n) ≡ ms → Trail n 1
      go [] e = absurd (h (ap (latest (λ m. 1)) e))
      go (m ∷ ms) e = longer m n 0 (record { within = l; from = subst (Among m) (sym e) (inl refl) }) (record { list = []; distinct = tt; long = refl; each = λ k i. absurd i })
  trail (suc k) n l h =
      let c = differ_pred (λ m. suc (depth a (suc k) m)) (λ m. suc (depth a k m)) (predecessors (node a n)) h in
      let arrow : Arrow a c.0 n = record { within = l; from = c.1 } in
      longer c.0 n (suc k) arrow (trail k c.0 (inside c.0 n arrow) (λ e. c.2 (ap suc e)))

  -- there are no more nodes than nodes
  enough : (n : ℕ) → n < length a → depth a (suc (length a)) n ≡ depth a (length a) n
  enough n l =
      elim (ℕ_discrete (depth a (suc (length a)) n) (depth a (length a) n)) [
        | yes e ↦ e
        | no h ↦
            let t = trail (length a) n l h in
            let u = fewer t.list (upto (length a)) t.distinct (λ m i. among_upto (length a) m (t.each m i).1) in
            let v = length_upto (length a) in
            let w = t.long in
            absurd (omega arith)
      ]

  pub ranked : (m n : ℕ) → Arrow a m n → rank_of a m < rank_of a n
  unfolding depth
  ranked m n h =
      let e = enough n h.within in
      let u = latest_bound (λ m. suc (depth a (length a) m)) m (predecessors (node a n)) h.from in
      omega arith

pub rises : {R : ℕ} {belongs : ℕ → ℕ} {a : List Node} → Good R belongs a → (m n : ℕ) → Arrow a m n → rank_of a m < rank_of a n
rises {a} ok = ranked a ok.inside ok.meets.no_cycle_lem
