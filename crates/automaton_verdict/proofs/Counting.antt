-- The table of what the activities emit, filled activity by activity and node by node: the nodes before place i are looked at.
use mathlib.Core.Path.{◌≡◌, refl, sym, ap, ◌∙◌, subst}
use mathlib.Core.List.{List}
use Prim.Native.Nat.{ℕ, zero, suc, ◌+◌, ◌-◌, ◌*◌, ◌≤◌, ◌<◌, min}
use native.Mathlib.Omega.{arith}
use native.Mathlib.Decide.{ℕ_discrete}
use borrow.Author.Tests.{eq-eqb, ne_eqb}
use lib.ListN.{length, get_or, set, replicate, length-set}
use lib.Seq.{get_or-set_same, get_or-set_other}
use Rattle.basis.specs.Parts.{part}
use Rattle.plan.specs.declared.Kind.{Kind}
use Rattle.plan.specs.declared.Node.{Node}
use Rattle.plan.specs.declared.Plan.{Plan}
use Rattle.plan.specs.Plan.{past_node, size_of, is_event, events_in}
use Rattle.plan.specs.Limits.{KindNames, InLimits, node_at}
use Rattle.automaton.specs.Tests.{at}
use Rattle.automaton.specs.Inner.Counts.{one}
use Rattle.automaton.proofs.Laws.Bounds.{events_le}
use Rattle.automaton_verdict.specs.Inner.Table.{Table}

-- how many nodes of event e activity k has among the nodes looked at
abbrev seen : Plan → ℕ → ℕ → ℕ → ℕ
seen p i k e = events_in e (part past_node p.nodes (64 * k) (min (size_of p k) (i - 64 * k)))

pub record Counting (p : Plan) (i : ℕ) (em : List ℕ) : Type 0 where
  pub cells : length em ≡ 512
  pub counts : (k e : ℕ) → k < p.activities → e < 16 → at em (16 * k + e) ≡ seen p i k e
  pub few : (j : ℕ) → at em j ≤ 64

-- an event node counts for its event alone
not_event : (k : Kind) → ((e : ℕ) → k ≡ Kind.Event e → ⊥) → (e : ℕ) → one (is_event e k) ≡ 0
not_event (Kind.Action n x) h e = refl
not_event (Kind.Claim r) h e = refl
not_event (Kind.Release r) h e = refl
not_event (Kind.Event f) h e = absurd (h f refl)

-- one node more
events_more : (e : ℕ) (d : Node) (l : List Node) (i m : ℕ) → events_in e (part d l i (suc m)) ≡ events_in e (part d l i m) + one (is_event e (get_or l (i + m) d).kind)
events_more e d l i zero = let z : i + 0 ≡ i = omega arith in omega (arith, ap (λ (n : ℕ). one (is_event e (get_or l n d).kind)) z)
events_more e d l i (suc m) =
    let z : i + 1 + m ≡ i + suc m = omega arith in
    omega (arith, events_more e d l (i + 1) m, ap (λ (n : ℕ). one (is_event e (get_or l n d).kind)) z)

module _ (p : Plan) (h : InLimits p) where
  pub counting_starts : Counting p 0 (replicate 512 0)
  counting_starts = record {
    cells = refl;
    counts = λ k e l n. let z : 0 ≡ min (size_of p k) (0 - 64 * k) = omega arith in zeros 512 (16 * k + e) ∙ ap (λ (m : ℕ). events_in e (part past_node p.nodes (64 * k) m)) z;
    few = λ j. omega (arith, zeros 512 j);
  }
    where
      zeros : (n k : ℕ) → at (replicate n 0) k ≡ 0
      zeros zero k = refl
      zeros (suc n) zero = refl
      zeros (suc n) (suc k) = zeros n k

  -- its events are those of the plan
  pub event_low : (k n f : ℕ) → k < p.activities → n < size_of p k → (node_at p k n).kind ≡ Kind.Event f → f < 16
  event_low k n f l m e = omega (arith, subst (KindNames p) e (h.nodes k n l m).names, h.events)

  module _ (k : ℕ) (low : k < p.activities) where
    size : size_of p k ≤ 64
    size = (h.sizes k low).1

    -- the counts of the other activities stay
    others : (i m j e : ℕ) → 64 * k ≤ i → i ≤ m → m ≤ 64 * (k + 1) → j < p.activities → (j ≡ k → ⊥) → seen p i j e ≡ seen p m j e
    others i m j e a b z l ne =
        let same : min (size_of p j) (i - 64 * j) ≡ min (size_of p j) (m - 64 * j) = omega (arith, (h.sizes j l).1, ne) in
        ap (λ (q : ℕ). events_in e (part past_node p.nodes (64 * j) q)) same

    -- past the activity's nodes
    pub counting_past : (em : List ℕ) → Counting p (64 * k + size_of p k) em → Counting p (64 * (k + 1)) em
    counting_past em c = record {
      cells = c.cells;
      counts = λ j e l n. c.counts j e l n ∙ elim (ℕ_discrete j k) [
        | yes z ↦
            let same : min (size_of p j) (64 * k + size_of p k - 64 * j) ≡ min (size_of p j) (64 * (k + 1) - 64 * j) = omega (arith, size, ap (size_of p) z) in
            ap (λ (q : ℕ). events_in e (part past_node p.nodes (64 * j) q)) same
        | no z ↦ others (64 * k + size_of p k) (64 * (k + 1)) j e (omega arith) (omega (arith, size)) (omega arith) l z
      ];
      few = c.few;
    }

    module _ (n : ℕ) (here : n < size_of p k) (em : List ℕ) (c : Counting p (64 * k + n) em) where
      abbrev kind : Kind
      kind = (node_at p k n).kind

      -- one node more of this activity
      more : (e : ℕ) → seen p (64 * k + (n + 1)) k e ≡ seen p (64 * k + n) k e + one (is_event e kind)
      more e =
          let x : min (size_of p k) (64 * k + n - 64 * k) ≡ n = omega arith in
          let y : min (size_of p k) (64 * k + (n + 1) - 64 * k) ≡ suc n = omega arith in
          let at_x = ap (λ (m : ℕ). events_in e (part past_node p.nodes (64 * k) m)) x in
          let at_y = ap (λ (m : ℕ). events_in e (part past_node p.nodes (64 * k) m)) y in
          omega (arith, events_more e past_node p.nodes (64 * k) n)

      apart : (j e : ℕ) → j < p.activities → (j ≡ k → ⊥) → seen p (64 * k + n) j e ≡ seen p (64 * k + (n + 1)) j e
      apart j e l z = others (64 * k + n) (64 * k + (n + 1)) j e (omega arith) (omega arith) (omega (arith, size)) l z

      pub counting_none : ((f : ℕ) → kind ≡ Kind.Event f → ⊥) → Counting p (64 * k + (n + 1)) em
      counting_none g = record {
        cells = c.cells;
        counts = λ j e l m. c.counts j e l m ∙ elim (ℕ_discrete j k) [
          | yes z ↦ subst (λ (q : ℕ). seen p (64 * k + n) q e ≡ seen p (64 * k + (n + 1)) q e) (sym z) (omega (arith, more e, not_event kind g e))
          | no z ↦ apart j e l z
        ];
        few = c.few;
      }

      pub counting_one : (f : ℕ) → kind ≡ Kind.Event f → Counting p (64 * k + (n + 1)) (set em (16 * k + f) (at em (16 * k + f) + 1))
      counting_one f g = record {
        cells = simp length-set c.cells;
        counts = count;
        few = λ j. elim (ℕ_discrete j cell) [
          | yes z ↦ omega (arith, ap (at next) z, stored, small)
          | no z ↦ omega (arith, get_or-set_other em cell j (at em cell + 1) 0 z, c.few j)
        ];
      }
        where
          cell : ℕ
          cell = 16 * k + f

          next : List ℕ
          next = set em cell (at em cell + 1)

          low_event : f < 16
          low_event = event_low k n f low here g

          small : at em cell < 64
          small = omega (arith, c.counts k f low low_event, events_le f past_node p.nodes (64 * k) (min (size_of p k) (64 * k + n - 64 * k)), size)

          stored : at next cell ≡ at em cell + 1
          stored = get_or-set_same em cell (at em cell + 1) 0 (omega (arith, c.cells, h.activities, low_event))

          mine : (e : ℕ) → e < 16 → at next (16 * k + e) ≡ seen p (64 * k + (n + 1)) k e
          mine e m = elim (ℕ_discrete e f) [
            | yes z ↦
                let hit = ap (λ (q : Kind). one (is_event e q)) g ∙ ap one (eq-eqb f e (sym z)) in
                let y : 16 * k + e ≡ cell = omega arith in
                omega (arith, ap (at next) y, stored, ap (at em) y, c.counts k e low m, more e)
            | no z ↦
                let miss = ap (λ (q : Kind). one (is_event e q)) g ∙ ap one (ne_eqb f e (λ q. z (sym q))) in
                omega (arith, get_or-set_other em cell (16 * k + e) (at em cell + 1) 0 (λ q. z (omega arith)), c.counts k e low m, more e)
          ]

          count : (j e : ℕ) → j < p.activities → e < 16 → at next (16 * j + e) ≡ seen p (64 * k + (n + 1)) j e
          count j e l m = elim (ℕ_discrete j k) [
            | yes z ↦ subst (λ (q : ℕ). at next (16 * q + e) ≡ seen p (64 * k + (n + 1)) q e) (sym z) (mine e m)
            | no z ↦ get_or-set_other em cell (16 * j + e) (at em cell + 1) 0 (λ q. z (omega (arith, low_event))) ∙ c.counts j e l m ∙ apart j e l z
          ]

  pub counting_ends : (em : List ℕ) → Counting p (64 * p.activities) em → Table p em
  counting_ends em c = record {
    counts = λ k e m n. let z : min (size_of p k) (64 * p.activities - 64 * k) ≡ size_of p k = omega (arith, (h.sizes k m).1) in c.counts k e m n ∙ ap (λ (j : ℕ). events_in e (part past_node p.nodes (64 * k) j)) z;
    few = c.few;
  }
