-- The test `file_rules` tells exactly the plans that hold what the file's description asks. Assumes nothing.
use Rattle.std.specs.Prelude.{◌≡◌, refl, Bool, true, false, ◌&&◌, List, ◌↔◌, ℕ, ◌+◌, ◌-◌, ◌<◌, ◌≤◌, get_or}
use Rattle.std.proofs.Common.{sym, arith}
use Rattle.basis.specs.Inner.Tells.{Tells, holds, fails}
use Rattle.basis.proofs.Laws.Tells.{tells_iff, tells_and, tells_eqb, tells_ltb, tells_leb, tells_then}
use Rattle.basis.proofs.Laws.Every.{tells_every}
use Rattle.format.specs.Format.{Holds, keeps}
use Rattle.format.proofs.Laws.Format.{keeps_iff}
use Rattle.plan.specs.Plan.{past_node, size_of}
use Rattle.plan.specs.Limits.{node_at, Brief, ByteAction, NodeWritten, FileRules}
use Rattle.plan.specs.declared.Kind.{Kind}
use Rattle.plan.specs.declared.Node.{Node}
use Rattle.plan.specs.declared.Plan.{Plan}
use Rattle.plan_file.specs.PlanFile.{fault_order, plan_file}
use Rattle.plan_file.proofs.Laws.HoldsPlan.{plan_iff}
use Rattle.plan_limits.specs.Limits.{is_rising, is_brief, slot_written, nodes_written, file_rules}
use Rattle.plan_limits.proofs.Laws.Tells.{tells_used, tells_places}
use Rattle.plan_limits.proofs.Laws.Plans.{tells_in_limits}

tells_rising : (count : ℕ) (xs : List ℕ) → Tells (is_rising count xs) ((i : ℕ) → i + 1 < count → get_or xs i 0 < get_or xs (i + 1) 0)
unfolding is_rising
tells_rising count xs =
    tells_iff (λ f i l. f i (omega arith), λ f i l. f i (omega arith))
    (tells_every _ (λ i. get_or xs i 0 < get_or xs (i + 1) 0) (count - 1) (λ i l. tells_ltb (get_or xs i 0) (get_or xs (i + 1) 0)))

tells_brief : (k : Kind) (d : ℕ) → Tells (is_brief k d) (Brief k d × ByteAction k)
tells_brief (Kind.Action a x) d = tells_iff (λ l. (tt, omega arith), λ q. omega (arith, q.1)) (tells_leb a 255)
tells_brief (Kind.Claim r) d = tells_iff (λ e. (e, tt), λ q. q.0) (tells_eqb d 0)
tells_brief (Kind.Release r) d = tells_iff (λ e. (e, tt), λ q. q.0) (tells_eqb d 0)
tells_brief (Kind.Event e) d = holds (tt, tt)

module _ (p : Plan) where
  tells_written : ((a : ℕ) → a < p.activities → size_of p a ≤ 64) → Tells (nodes_written p.activities p.sizes p.nodes) ((a n : ℕ) → a < p.activities → n < size_of p a → NodeWritten (node_at p a n))
  unfolding nodes_written slot_written
  tells_written fits =
      tells_places 64 p.activities (omega arith) (size_of p) fits
      (λ a n i. slot_written (size_of p a) n (get_or p.nodes i past_node))
      (λ a n. NodeWritten (node_at p a n))
      (λ a n. tells_used (size_of p a) n (one (node_at p a n)))
    where
      one : (x : Node) → Tells (is_rising x.count x.preds && is_brief x.kind x.duration) (NodeWritten x)
      one x =
          tells_iff (λ q. record { rising = q.0; brief = q.1.0; action = q.1.1 }, λ r. (r.rising, (r.brief, r.action)))
          (tells_and (tells_rising x.count x.preds) (tells_brief x.kind x.duration))

  tells_file_rules : Tells (file_rules p) (FileRules p)
  unfolding file_rules
  tells_file_rules =
      tells_iff (λ q. record { limits = q.0; nodes = q.1 }, λ r. (r.limits, r.nodes))
      (tells_then (tells_in_limits p) (λ h. tells_written (λ a l. (h.sizes a l).1)))

  pub tells_holds : Tells (file_rules p) (Holds fault_order plan_file p)
  tells_holds = tells_iff ((plan_iff p).1, (plan_iff p).0) tells_file_rules

  -- so it is the description's own test
  pub rules_are : file_rules p ≡ keeps fault_order plan_file p
  rules_are = by (file_rules p) tells_holds (keeps fault_order plan_file p) (keeps_iff fault_order plan_file p)
    where
      by : (b : Bool) → Tells b (Holds fault_order plan_file p) → (c : Bool) → (c ≡ true) ↔ Holds fault_order plan_file p → b ≡ c
      by true (holds h) c f = sym (f.1 h)
      by false (fails n) true f = absurd (n (f.0 refl))
      by false (fails n) false f = refl
