-- After the rounds every node of an activity without a cycle is done. Assumes nothing.
use Rattle.std.specs.Prelude.{◌≡◌, Bool, cond, ◌⊎◌, get_or}
use Rattle.std.proofs.Math.Path.{refl, ap}
use Rattle.std.proofs.Common.{sym, ◌∙◌, subst, inl, inr}
use Rattle.std.proofs.Math.Bool.{true, false}
use mathlib.Core.List.{List, [], ◌∷◌}
use Prim.Native.Nat.{ℕ, zero, suc, ◌+◌, ◌≤◌, ◌<◌}
use native.Mathlib.Omega.{arith}
use Rattle.std.proofs.Math.Decide.{ℕ_discrete}
use Rattle.std.proofs.Math.ListN.{length}
use Rattle.std.proofs.Math.Dec.{eqb}
use borrow.Author.Tests.{eqb-true, eqb-false}
use Rattle.basis.proofs.Laws.Bools.{clash}
use Rattle.basis.specs.Tests.{flag}
use Rattle.time.specs.declared.Specified.{Specified}
use Rattle.plan.specs.Plan.{past_node, predecessors}
use Rattle.plan.specs.declared.Node.{Node}
use Rattle.activity.specs.Rules.{node, Arrow, Before}
use Rattle.times_combined.proofs.Laws.Exec.{rank_of}
use Rattle.times_combined.proofs.Laws.Ranks.{ranked}
use Rattle.times.specs.declared.Schedule.{Schedule}
use Rattle.times.specs.Times.{ready_of, start_of, placed_of, visit_of, round_of, rounds_of, unscheduled, schedule_of}
use Rattle.times.proofs.Laws.Rounds.{visit_done, visit_waits, visit_placed}
use Rattle.times_equal.proofs.Laws.Order.{all_ready, Laid, unscheduled_laid, fits, placed_laid}

module _ (available latest : List Specified) (a : List Node) (few : length a ≤ 64) where
  -- node n has nothing to do in its turn
  abbrev Waits : Schedule → ℕ → Type 0
  Waits t n = (flag t.done n ≡ true) ⊎ (ready_of t.done (predecessors (node a n)) ≡ false)

  -- ---- one turn

  record Visited (n : ℕ) (t u : Schedule) : Type 0 where
    laid : Laid available latest a u
    grows : t.count ≤ u.count
    still : u.count ≡ t.count → (u ≡ t) × Waits t n

  same : (n : ℕ) (t u : Schedule) → u ≡ t → Laid available latest a t → Waits t n → Visited n t u
  same n t u e ok w = record { laid = subst (Laid available latest a) (sym e) ok; grows = let v = ap (λ (z : Schedule). z.count) e in omega arith; still = λ q. (e, w) }

  one_more : (n d s : ℕ) (t : Schedule) → (placed_of n d s t).count ≡ t.count + 1
  unfolding placed_of
  one_more n d s t = refl

  visited : (n : ℕ) → n < length a → (t : Schedule) → Laid available latest a t → Visited n t (visit_of available latest (node a n) n t)
  visited n l t ok = go (flag t.done n) refl (ready_of t.done (predecessors (node a n))) refl
    where
      go : (b : Bool) → flag t.done n ≡ b → (d : Bool) → ready_of t.done (predecessors (node a n)) ≡ d → Visited n t (visit_of available latest (node a n) n t)
      go true e d f = same n t (visit_of available latest (node a n) n t) (visit_done available latest (node a n) n t e) ok (inl e)
      go false e false f = same n t (visit_of available latest (node a n) n t) (visit_waits available latest (node a n) n t e f) ok (inr f)
      go false e true f =
          subst (Visited n t) (sym (visit_placed available latest (node a n) n t e f))
          (record {
            laid = placed_laid available latest a few t ok n l e f;
            grows = let v = one_more n (node a n).duration (start_of available latest t.end (node a n)) t in omega arith;
            still = λ q. absurd (let v = one_more n (node a n).duration (start_of available latest t.end (node a n)) t in omega arith);
          })

  -- ---- one round: the nodes xs are those from number n on

  record From (n : ℕ) (xs : List Node) : Type 0 where
    whole : n + length xs ≡ length a
    each : (j : ℕ) → j < length xs → get_or xs j past_node ≡ node a (n + j)

  record Turned (n : ℕ) (t u : Schedule) : Type 0 where
    laid : Laid available latest a u
    grows : t.count ≤ u.count
    still : u.count ≡ t.count → (u ≡ t) × ((m : ℕ) → n ≤ m → m < length a → Waits t m)

  turned : (n : ℕ) (xs : List Node) → From n xs → (t : Schedule) → Laid available latest a t → Turned n t (round_of available latest n xs t)
  unfolding round_of
  turned n [] f t ok = record { laid = ok; grows = omega arith; still = λ q. (refl, λ m h l. absurd (let u = f.whole in omega arith)) }
  turned n (x ∷ xs) f t ok =
      joined (subst (λ (y : Node). Visited n t (visit_of available latest y n t)) (sym first) (visited n (let u = f.whole in omega arith) t ok))
      (λ ok'. turned (n + 1) xs (record { whole = let u = f.whole in omega arith; each = λ j l. f.each (suc j) (omega arith) ∙ (let z : n + suc j ≡ n + 1 + j = omega arith in ap (node a) z) }) (visit_of available latest x n t) ok')
    where
      first : x ≡ node a n
      first = f.each 0 (omega arith) ∙ (let z : n + 0 ≡ n = omega arith in ap (node a) z)

      joined : Visited n t (visit_of available latest x n t) → (Laid available latest a (visit_of available latest x n t) → Turned (n + 1) (visit_of available latest x n t) (round_of available latest (n + 1) xs (visit_of available latest x n t))) → Turned n t (round_of available latest (n + 1) xs (visit_of available latest x n t))
      joined v k =
          let r = k v.laid in
          record {
            laid = r.laid;
            grows = let y = v.grows in let z = r.grows in omega arith;
            still = λ q.
                let y = v.grows in
                let z = r.grows in
                let p = v.still (omega arith) in
                let s = r.still (omega arith) in (
                  s.0 ∙ p.0,
                  λ m h l. elim (ℕ_discrete m n) [
                    | yes d ↦ subst (Waits t) (sym d) p.1
                    | no d ↦ subst (λ (w : Schedule). Waits w m) p.0 (s.1 m (omega arith) l)
                  ],
                );
          }

  round : (t : Schedule) → Laid available latest a t → Turned 0 t (round_of available latest 0 a t)
  round t ok = turned 0 a (record { whole = omega arith; each = λ j l. let z : j ≡ 0 + j = omega arith in ap (node a) z }) t ok

  -- ---- all rounds

  module _ (inside : (m n : ℕ) → Arrow a m n → m < length a) (no_cycle_lem : (n : ℕ) → Before a n n → ⊥) where
    -- where no node has anything to do, all are done, by rank
    by_rank : (t : Schedule) → ((m : ℕ) → m < length a → Waits t m) → (k n : ℕ) → n < length a → rank_of a n < k → flag t.done n ≡ true
    by_rank t w zero n l h = absurd (omega arith)
    by_rank t w (suc k) n l h =
        go (w n l)
        (all_ready t.done (predecessors (node a n))
        (λ m i. let arrow : Arrow a m n = record { within = l; from = i } in
        let r = ranked a inside no_cycle_lem m n arrow in
        by_rank t w k m (inside m n arrow) (omega arith)))
      where
        go : Waits t n → ready_of t.done (predecessors (node a n)) ≡ true → flag t.done n ≡ true
        go (inl e) r = e
        go (inr f) r = clash (sym r ∙ f)

    -- where as many are done as there are nodes, all are done
    by_count : (t : Schedule) → Laid available latest a t → length a ≤ t.count → (n : ℕ) → n < length a → flag t.done n ≡ true
    by_count t ok h n l = go (flag t.done n) refl
      where
        go : (b : Bool) → flag t.done n ≡ b → flag t.done n ≡ true
        go true e = e
        go false e = absurd (let u = fits available latest a few t ok n l e in omega arith)

    pub record Finished (t : Schedule) : Type 0 where
      pub laid : Laid available latest a t
      pub all : (n : ℕ) → n < length a → flag t.done n ≡ true

    rounds : (k : ℕ) (t : Schedule) → Laid available latest a t → length a ≤ t.count + k → Finished (rounds_of available latest a k t)
    unfolding rounds_of
    rounds zero t ok h = record { laid = ok; all = by_count t ok (omega arith) }
    rounds (suc k) t ok h =
        go (eqb (round_of available latest 0 a t).count t.count) refl (round t ok) (rounds k (round_of available latest 0 a t))
      where
        go : (b : Bool) → eqb (round_of available latest 0 a t).count t.count ≡ b → Turned 0 t (round_of available latest 0 a t) → (Laid available latest a (round_of available latest 0 a t) → length a ≤ (round_of available latest 0 a t).count + k → Finished (rounds_of available latest a k (round_of available latest 0 a t))) → Finished (cond b t (rounds_of available latest a k (round_of available latest 0 a t)))
        go true e r rest =
            let s = r.still (eqb-true (round_of available latest 0 a t).count t.count e) in
            record { laid = ok; all = λ n l. by_rank t (λ m i. s.1 m (omega arith) i) (suc (rank_of a n)) n l (omega arith) }
        go false e r rest =
            let d = eqb-false (round_of available latest 0 a t).count t.count e in
            let u = r.grows in
            rest r.laid (more d)
          where
            more : ((round_of available latest 0 a t).count ≡ t.count → ⊥) → length a ≤ (round_of available latest 0 a t).count + k
            more d = elim (ℕ_discrete (round_of available latest 0 a t).count t.count) [ yes q ↦ absurd (d q) | no q ↦ (let u = r.grows in omega arith) ]

    pub finished : Finished (schedule_of available latest a)
    finished = rounds (length a) unscheduled (unscheduled_laid available latest a) (omega arith)
