-- One activity, copied out of a plan: its nodes, and zeros in the spare room.
use Rattle.std.specs.Prelude.{◌≡◌, refl, List, ◌++◌, ℕ, suc, ◌+◌, ◌-◌, ◌*◌, ◌<◌, ◌≤◌, length, get_or, take, drop, set, replicate}
use Rattle.std.proofs.Common.{sym, ap, ◌∙◌, subst, arith, ext_get_or}
use Rattle.std.proofs.Math.ListN.{get_or-append}
use Rattle.std.proofs.lemmas.List.{get_or-take, length-take-le, get_or-drop, length-drop, drop-replicate, set_at}
use Rattle.std.proofs.Math.Seq.{append_snoc}
use Rattle.basis.specs.Parts.{part}
use Rattle.basis.proofs.Laws.Parts.{part-more}
use Rattle.basis.proofs.Laws.PartsHold.{length_part, get_d_part}
use Rattle.plan.specs.Plan.{past_node, size_of, nodes_of, activity_of}
use Rattle.plan.specs.Limits.{InLimits, node_at}
use Rattle.plan.specs.declared.Node.{Node}
use Rattle.plan.specs.declared.Plan.{Plan}
use Rattle.activity.specs.Inner.Fits.{NodeFits, Fits}
use Rattle.activity.specs.Inner.Copied.{copied, filled}
use Rattle.plan.specs.Nodes.{zero_node}

-- a part of a list that starts with it
part_front : {A : Type 0} (d : A) (l m : List A) → part d (l ++ m) 0 (length l) ≡ l
part_front d l m =
    ext_get_or d (part d (l ++ m) 0 (length l)) l (length_part d (l ++ m) 0 (length l)) (λ i h. at i (same i h))
  where
    same : (i : ℕ) → i < length (part d (l ++ m) 0 (length l)) → i < length l
    same i h = omega (arith, length_part d (l ++ m) 0 (length l))

    at : (i : ℕ) → i < length l → get_or (part d (l ++ m) 0 (length l)) i d ≡ get_or l i d
    at i h =
        let z : 0 + i ≡ i = omega arith in
        get_d_part d (l ++ m) 0 (length l) i h ∙ ap (λ (j : ℕ). get_or (l ++ m) j d) z ∙ get_or-append l m d i h

-- a part that ends within the list
pub part_taken : {A : Type 0} (d : A) (l : List A) (i k : ℕ) → i + k ≤ length l → take k (drop i l) ≡ part d l i k
part_taken d l i k h =
    let few : k ≤ length (drop i l) = omega (arith, length-drop i l) in
    let long = length-take-le k (drop i l) few in
    ext_get_or d (take k (drop i l)) (part d l i k) (long ∙ sym (length_part d l i k)) (λ j m. at j (omega arith))
  where
    at : (j : ℕ) → j < k → get_or (take k (drop i l)) j d ≡ get_or (part d l i k) j d
    at j m = get_or-take k (drop i l) j d m ∙ get_or-drop i l j d ∙ sym (get_d_part d l i k j m)

-- the nodes taken out of the plan, and zeros behind them
pub filled_taken : (p : Plan) (a n : ℕ) → 64 * a + n ≤ length p.nodes → take n (drop (64 * a) p.nodes) ++ drop n (replicate 64 zero_node) ≡ filled p a n
filled_taken p a n h = rw (part_taken past_node p.nodes (64 * a) n h, drop-replicate n 64 zero_node) refl

-- one node more of the copy
pub filled_more : (p : Plan) (a n : ℕ) → n < 64 → set (filled p a n) n (get_or p.nodes (64 * a + n) past_node) ≡ filled p a (n + 1)
filled_more p a n h =
    let l = part past_node p.nodes (64 * a) n in
    let v = get_or p.nodes (64 * a + n) past_node in
    let z : 64 - n ≡ suc (64 - (n + 1)) = omega arith in
    ap (λ (k : ℕ). set (l ++ replicate k zero_node) n v) z
    ∙ set_at l zero_node (replicate (64 - (n + 1)) zero_node) v n (length_part past_node p.nodes (64 * a) n)
    ∙ sym (append_snoc l v (replicate (64 - (n + 1)) zero_node))
    ∙ ap (λ (m : List Node). m ++ replicate (64 - (n + 1)) zero_node) (sym (part-more past_node p.nodes n (64 * a)))

-- the copy has the activity's nodes
pub nodes_copied : (p : Plan) (a : ℕ) → nodes_of (copied p a) ≡ activity_of p a
unfolding copied
nodes_copied p a =
    let e = length_part past_node p.nodes (64 * a) (size_of p a) in
    ap (part past_node (filled p a (size_of p a)) 0) (sym e)
    ∙ part_front past_node (activity_of p a) (replicate (64 - size_of p a) zero_node)

-- a node of the copy is the plan's
node_copied : (p : Plan) (a n : ℕ) → n < size_of p a → get_or (filled p a (size_of p a)) n past_node ≡ node_at p a n
node_copied p a n h =
    let l = part past_node p.nodes (64 * a) (size_of p a) in
    let k : n < length l = omega (arith, length_part past_node p.nodes (64 * a) (size_of p a)) in
    get_or-append l (replicate (64 - size_of p a) zero_node) past_node n k ∙ get_d_part past_node p.nodes (64 * a) (size_of p a) n h

-- the copy fits wherever its plan is in its limits
pub fits_copied : (p : Plan) → InLimits p → (a : ℕ) → a < p.activities → Fits (copied p a)
unfolding copied
fits_copied p h a l =
    let small = (h.sizes a l).1 in
    record {
      small = small;
      nodes = λ n k.
          let i = h.nodes a n l k in
          subst NodeFits (sym (node_copied p a n k)) (record { few = i.few; arrows = λ m q. omega (arith, i.arrows m q) });
    }
