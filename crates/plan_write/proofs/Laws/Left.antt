-- What a run of puts has left to put: `rest` from `off` on makes of the buffer what `whole` at `at` makes of it.
use Rattle.std.specs.Prelude.{◌≡◌, refl, length, get_or}
use Rattle.std.proofs.Common.{sym, ◌∙◌, ap₂, subst, length-append}
use Rattle.std.proofs.Math.Path.{ap}
use mathlib.Core.List.{List, [], ◌∷◌, ◌++◌, append_assoc}
use Prim.Native.Nat.{ℕ, suc, ◌+◌, ◌*◌, ◌-◌, ◌%◌, ◌≤◌, ◌<◌}
use native.Mathlib.Omega.{arith}
use Rattle.std.proofs.lemmas.List.Edits.{sets}
use Rattle.basis.specs.Parts.{part}
use Rattle.wire.specs.Number.{bytes_of}
use Rattle.wire.specs.Puts.{Puts}
use Rattle.wire.proofs.Laws.Puts.{sets_append}
use Rattle.format.specs.Format.{print}
use Rattle.format.specs.Inner.Flat.{flat}
use Rattle.format.proofs.Laws.Format.{print_each}
use Rattle.plan.specs.declared.Node.{Node}
use Rattle.plan.specs.declared.Transition.{Transition}
use Rattle.plan.specs.declared.Plan.{Plan}
use Rattle.plan.specs.Plan.{past_node, past_move, size_of}
use Rattle.plan_file.specs.PlanFile.{activity}
use Rattle.plan_write.specs.Inner.Bytes.{node_bytes, move_bytes, activity_bytes}
use Rattle.plan_write.proofs.Laws.Printed.{nodes_print}

pub puts_as : {l m : List ℕ} {at next : ℕ} {xs ys : List ℕ} → xs ≡ ys → Puts l at xs m next → Puts l at ys m next
puts_as {l} {m} {at} {next} e p = subst (λ (zs : List ℕ). Puts l at zs m next) e p

pub record Left (start : List ℕ) (at : ℕ) (whole now : List ℕ) (off : ℕ) (rest : List ℕ) : Type 0 where
  pub past : at + length whole ≡ off + length rest
  pub same : sets start at whole ≡ sets now off rest

pub left_begin : (start : List ℕ) (at : ℕ) (whole rest : List ℕ) → rest ≡ whole → Left start at whole start at rest
left_begin start at whole rest e = rw e (record { past = refl; same = refl })

pub left_next : (start : List ℕ) (at : ℕ) (whole now now' : List ℕ) (off off' : ℕ) (rest xs ys : List ℕ) → rest ≡ xs ++ ys
    → Left start at whole now off rest → Puts now off xs now' off' → Left start at whole now' off' ys
left_next start at whole now now' off off' rest xs ys e l p =
    let k : length rest ≡ length xs + length ys = ap length e ∙ length-append xs ys in
    record {
      past = omega (arith, l.past, p.past);
      same =
          l.same ∙ ap (sets now off) e ∙ sets_append xs now ys off
          ∙ ap₂ (λ (m : List ℕ) (j : ℕ). sets m j ys) (sym p.left) (sym p.past);
    }

pub left_done : (start : List ℕ) (at : ℕ) (whole now : List ℕ) (off : ℕ) (rest : List ℕ) → rest ≡ [] → Left start at whole now off rest → Puts start at whole now off
left_done start at whole now off rest e l =
    let k : length rest ≡ 0 = ap length e in
    record { past = omega (arith, l.past); left = sym (l.same ∙ ap (sets now off) e) }

-- the transitions from i on
module _ (moves : List Transition) (n i : ℕ) where
  pub moves_turn : i < n → flat move_bytes (part past_move moves i (n - i)) ≡ move_bytes (get_or moves i past_move) ++ flat move_bytes (part past_move moves (i + 1) (n - (i + 1)))
  moves_turn h = let e : n - i ≡ suc (n - (i + 1)) = omega arith in rw e

  pub moves_end : n ≤ i → flat move_bytes (part past_move moves i (n - i)) ≡ []
  moves_end h = let e : n - i ≡ 0 = omega arith in rw e

-- `left` nodes from place i on, and the activities from a on
module _ (p : Plan) where
  abbrev pub to_put : ℕ → ℕ → ℕ → List ℕ
  to_put a i left = flat node_bytes (part past_node p.nodes i left) ++ activity_bytes p a (p.activities - a)

  module _ (a i left : ℕ) where
    pub node_turn : (k : ℕ) → left ≡ suc k → to_put a i left ≡ node_bytes (get_or p.nodes i past_node) ++ to_put a (i + 1) k
    node_turn k e = rw (e, append_assoc)

    pub activity_turn : left ≡ 0 → a < p.activities → to_put a i left ≡ bytes_of 1 (size_of p a) ++ to_put (a + 1) (64 * a) (size_of p a)
    unfolding print
    activity_turn z h =
        let e : p.activities - a ≡ suc (p.activities - (a + 1)) = omega arith in
        rw (z, e)
        (print_each (activity p.peripherals p.resources p.events) p a (p.activities - (a + 1))
        ∙ ap (λ (l : List ℕ). size_of p a % 256 ∷ (l ++ activity_bytes p (a + 1) (p.activities - (a + 1)))) (nodes_print p p.peripherals p.resources p.events a (size_of p a) (size_of p a)))

    pub activity_end : left ≡ 0 → p.activities ≤ a → to_put a i left ≡ []
    unfolding print
    activity_end z h = let e : p.activities - a ≡ 0 = omega arith in rw (z, e)

-- the nodes that are left have at most 8 predecessors each
module _ (nodes : List Node) (i left : ℕ) where
  pub few_here : 0 < left → ((j : ℕ) → j < left → (get_or nodes (i + j) past_node).count ≤ 8) → (get_or nodes i past_node).count ≤ 8
  few_here h f = let z : i + 0 ≡ i = omega arith in subst (λ (k : ℕ). (get_or nodes k past_node).count ≤ 8) z (f 0 h)

  pub few_next : (k : ℕ) → left ≡ suc k → ((j : ℕ) → j < left → (get_or nodes (i + j) past_node).count ≤ 8) → (j : ℕ) → j < k → (get_or nodes (i + 1 + j) past_node).count ≤ 8
  few_next k e f j h = subst (λ (q : ℕ). (get_or nodes q past_node).count ≤ 8) (omega arith) (f (suc j) (omega arith))
