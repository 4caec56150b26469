-- A node: the reader's answer is the description's.
use Rattle.std.specs.Prelude.{◌≡◌, List, ℕ, ◌+◌, replicate, ltb}
use Rattle.std.proofs.Math.Path.{refl}
use Rattle.std.proofs.Math.Bool.{not}
use Rattle.std.proofs.Common.{arith}
use Rattle.wire.specs.Map.{bit}
use Rattle.format.specs.Format.{◌when◌, ◌>>=◌, part_of, Answer, refused, parse}
use Rattle.format.specs.Writing.{Bytes}
use Rattle.plan.specs.declared.Fault.{Fault}
use Rattle.plan.specs.declared.Node.{Node}
use Rattle.plan.specs.Fields.{found, faulty, and_then, optional_count}
use Rattle.plan.specs.Nodes.{asks_of, kind_by, duration_at, preds_loop, preds_at, node_with}
use Rattle.plan.specs.Nodes as nodes
use Rattle.plan_file.proofs.Laws.Basis.{eight}
use Rattle.plan_file.proofs.Laws.Link.{told, on_optional, on_optional_count, on_any, on_kind_lem, on_rising}
use Rattle.plan_file.proofs.Laws.Stages.{node_last, counted, timed, kinded}
use Rattle.plan_file.specs.PlanFile.{node_map, fault_order, count, node_rule, kind, node}

module _ (b : List ℕ) (bytes : Bytes b) where
  abbrev W : Answer Node → Answer Node
  W r = r

  abbrev still : (n p : ℕ) → W (refused n p) ≡ refused n p
  still n p = refl

  -- a node: the reader's answer is the description's
  pub node_link : (peripherals resources events size at : ℕ) → parse 1 fault_order b (node peripherals resources events size) at ≡ told (nodes.node_at peripherals resources events size b at)
  unfolding nodes.node_at node_with asks_of duration_at preds_at optional_count parse
  node_link peripherals resources events size at =
      on_any b bytes W still (λ r. told (and_then r (λ m next. and_then (kind_by (asks_of m) peripherals resources events b at next) (λ k after. node_with m k size b after))))
      (λ f p. refl) node_map (λ m. 2 when not (node_rule m))
      (λ m. part_of (λ n. n.kind) (kind peripherals resources events (bit 0 m) (bit 1 m) (bit 2 m)) >>= kinded size m) at
      (λ m.
      on_kind_lem b bytes W still peripherals resources events (kinded size m) (λ r. told (and_then r (λ k after. node_with m k size b after))) (λ f p. refl)
      (λ k end.
      on_optional b bytes W still found faulty
      (λ r. told (and_then r (λ d next. and_then (preds_at m size b next) (λ p end. found (record { kind = k; duration = d; count = p.count; preds = p.preds }) end)))) (λ f p. refl) 8 Fault.Duration refl eight 4 1
      60_000_001 (λ n. n.duration) (timed size m k) (bit 4 m) end (omega arith)
      (λ d next h.
      on_optional_count b bytes W still
      (λ r. told (and_then (and_then r (λ c mid. preds_loop size b c c mid 0 0 (replicate 8 0))) (λ p end. found (record { kind = k; duration = d; count = p.count; preds = p.preds }) end))) (λ f p. refl) 8 (λ n. n.count)
      (counted size k d) (bit 5 m) next
      (λ c mid h.
      on_rising b bytes W still size c (λ r. told (and_then r (λ p end. found (record { kind = k; duration = d; count = p.count; preds = p.preds }) end))) (λ f p. refl) c 0 0 (replicate 8 0) (node_last k d c) mid
      (λ xs end. refl))))
      (ltb m 64) (bit 0 m) (bit 1 m) (bit 2 m) (bit 3 m) (bit 4 m) at (at + 1))
