-- Members and nodes of the used part of an array, by their places. Assumes nothing.
use mathlib.Core.Path.{◌≡◌, sym, ap, ◌∙◌, subst}
use mathlib.Core.List.{List}
use mathlib.Core.Logic.{◌↔◌}
use Prim.Native.Nat.{ℕ, ◌<◌, ◌≤◌}
use native.Mathlib.Nat.{zero-add}
use native.Mathlib.Omega.{arith}
use lib.ListN.{length, take, get_or}
use Rattle.std.proofs.lemmas.List.{get_or-take, length-take-le}
use Rattle.basis.specs.Lists.{Among}
use Rattle.basis.specs.Parts.{part}
use Rattle.basis.proofs.Laws.PartsHold.{among_part, part_among, length_part}
use Rattle.plan.specs.Plan.{past_node, nodes_of}
use Rattle.plan.specs.declared.Activity.{Activity}
use Rattle.activity.proofs.Laws.Copied.{part_taken}

-- a loop over the first k elements is at one of them
pub front : {A : Type 0} (l : List A) (k i : ℕ) (d : A) → k ≤ length l → i < length (take k l) → (i < k) × (get_or (take k l) i d ≡ get_or l i d)
front l k i d few h = let below : i < k = omega (arith, length-take-le k l few) in (below, get_or-take k l i d below)

-- the members of the first k are what stands at the places below k
pub listed : (l : List ℕ) (k m : ℕ) → Among m (part 0 l 0 k) ↔ ((i : ℕ) × (i < k) × (get_or l i 0 ≡ m))
listed l k m = (
  λ h. let w = among_part 0 l 0 k m h in (w.0, w.1, ap (λ (i : ℕ). get_or l i 0) (sym (zero-add w.0)) ∙ sym w.2),
  λ w. subst (λ (x : ℕ). Among x (part 0 l 0 k)) (ap (λ (i : ℕ). get_or l i 0) (zero-add w.0) ∙ w.2) (part_among 0 l 0 k w.0 w.1),
)

pub count_of : (a : Activity) → length (nodes_of a) ≡ a.count
count_of a = length_part past_node a.nodes 0 a.count

-- the nodes as a slice of the array
pub front_nodes : (a : Activity) (k : ℕ) → k ≡ a.count → k ≤ length a.nodes → take k a.nodes ≡ nodes_of a
front_nodes a k e h = part_taken past_node a.nodes 0 k (omega arith) ∙ ap (part past_node a.nodes 0) e
