-- What one node leaves, kind by kind, and one turn of the loop over the nodes that are done. Assumes nothing.
use Rattle.std.specs.Prelude.{◌≡◌, ℕ, ◌+◌, ◌-◌, ◌*◌, ◌≤◌, ◌<◌, max, get_or, set}
use Rattle.std.proofs.Common.{sym, ◌∙◌, arith, lt-ltb, le-ltb}
use Rattle.std.proofs.Math.Path.{ap}
use mathlib.Core.List.{List}
use Rattle.basis.specs.Parts.{part}
use Rattle.basis.proofs.Laws.PartsHold.{get_d_part}
use Rattle.basis.proofs.Laws.Parts.{part_step, part_end}
use Rattle.time.specs.declared.Specified.{Specified}
use Rattle.plan.specs.Plan.{past_node, nodes_of}
use Rattle.plan.specs.declared.Kind.{Kind}
use Rattle.plan.specs.declared.Node.{Node}
use Rattle.plan.specs.declared.Activity.{Activity}
use Rattle.times.specs.declared.Instance.{Instance}
use Rattle.times.specs.declared.Progress.{Progress}
use Rattle.times.specs.declared.Schedule.{Schedule}
use Rattle.times.specs.Times.{specified, at}
use Rattle.times.specs.Queues.{pending_of, emission, queued_of}
use Rattle.times.specs.Engine.{released_of, completed_of, left_by, left_of}

-- ---- the turn

module _ (a : Activity) (t : Schedule) (j n : ℕ) (g : Progress) (p : n ≡ get_or t.order j 0) (q : n < a.count) where
  same_kind : (get_or (nodes_of a) n past_node).kind ≡ (get_or a.nodes n past_node).kind
  same_kind = ap (λ (x : Node). x.kind) (get_d_part past_node a.nodes 0 a.count n q) ∙ (let z : 0 + n ≡ n = omega arith in ap (λ (i : ℕ). (get_or a.nodes i past_node).kind) z)

  pub leaves : {w u : Progress} → j < t.count → w ≡ left_of (nodes_of a) t.end (part 0 t.order j (t.count - j)) g → left_by n (at t.end n) (get_or a.nodes n past_node).kind g ≡ u → w ≡ left_of (nodes_of a) t.end (part 0 t.order (j + 1) (t.count - (j + 1))) u
  unfolding left_of
  leaves l e f =
      e
      ∙ ap (λ (ms : List ℕ). left_of (nodes_of a) t.end ms g) (part_step 0 t.order j t.count l)
      ∙ ap (λ (m : ℕ). left_of (nodes_of a) t.end (part 0 t.order (j + 1) (t.count - (j + 1))) (left_by m (at t.end m) (get_or (nodes_of a) m past_node).kind g)) (sym p)
      ∙ ap (λ (k : Kind). left_of (nodes_of a) t.end (part 0 t.order (j + 1) (t.count - (j + 1))) (left_by n (at t.end n) k g)) same_kind
      ∙ ap (left_of (nodes_of a) t.end (part 0 t.order (j + 1) (t.count - (j + 1)))) f

pub leaves_end : (ns : List Node) (end : List Specified) (ms : List ℕ) (j n : ℕ) (g : Progress) → n ≤ j → left_of ns end (part 0 ms j (n - j)) g ≡ g
unfolding left_of
leaves_end ns end ms j n g l = ap (λ (is : List ℕ). left_of ns end is g) (part_end 0 ms j n l)

-- ---- kind by kind

module _ (n t : ℕ) (k : Kind) (g : Progress) where
  pub leaves_action : (x y : ℕ) → k ≡ Kind.Action x y → left_by n t k g ≡ g
  unfolding left_by
  leaves_action x y e = ap (λ (z : Kind). left_by n t z g) e

  pub leaves_claim : (r : ℕ) → k ≡ Kind.Claim r → left_by n t k g ≡ g
  unfolding left_by
  leaves_claim r e = ap (λ (z : Kind). left_by n t z g) e

  pub leaves_release : (r i : ℕ) → k ≡ Kind.Release r → i ≡ r → left_by n t k g ≡ released_of i t g
  unfolding left_by
  leaves_release r i e f = ap (λ (z : Kind). left_by n t z g) e ∙ ap (λ (z : ℕ). released_of z t g) (sym f)

  leaves_event : (r i : ℕ) → k ≡ Kind.Event r → i ≡ r → left_by n t k g ≡ queued_of i (emission g.position n t) (completed_of i t g)
  unfolding left_by
  leaves_event r i e f = ap (λ (z : Kind). left_by n t z g) e ∙ ap (λ (z : ℕ). queued_of z (emission g.position n t) (completed_of z t g)) (sym f)

  -- the code's record: v is the latest completion, x the instance, w the place in the queue
  abbrev pub joined : ℕ → Specified → ℕ → Instance → Progress
  joined i v w x = record {
    available = g.available;
    latest = set g.latest i v;
    lengths = set g.lengths i (pending_of g i + 1);
    pending = set g.pending (8 * i + w) x;
    position = g.position;
    state = g.state;
  }

  abbrev pub dropped : ℕ → Specified → Progress
  dropped i v = record {
    available = g.available;
    latest = set g.latest i v;
    lengths = g.lengths;
    pending = g.pending;
    position = g.position;
    state = g.state;
  }

  pub leaves_joined : (r i w m : ℕ) (v : Specified) → k ≡ Kind.Event r → i ≡ r → v ≡ specified (max (at g.latest i) t) → w ≡ pending_of g i → n ≡ m → pending_of g i < 8 → left_by n t k g ≡ joined i v w (emission g.position m t)
  unfolding queued_of
  leaves_joined r i w m v e f p q s l = leaves_event r i e f ∙ rw (lt-ltb (pending_of g i) 8 l, p, q, s)

  pub leaves_dropped : (r i : ℕ) (v : Specified) → k ≡ Kind.Event r → i ≡ r → v ≡ specified (max (at g.latest i) t) → 8 ≤ pending_of g i → left_by n t k g ≡ dropped i v
  unfolding queued_of
  leaves_dropped r i v e f p l = leaves_event r i e f ∙ rw (le-ltb (pending_of g i) 8 l, p)
