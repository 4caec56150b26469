-- What is sought is held, and the order of ties among it is an order.
use Rattle.std.specs.Prelude.{◌≡◌, refl, Bool, true, false, ◌||◌, List, ℕ}
use Rattle.std.proofs.Common.{ap}
use Rattle.plan.specs.declared.Node.{Node}
use Rattle.time.specs.declared.Clock.{Clock}
use Rattle.run_window.specs.declared.Entry.{Entry}
use Rattle.run_window.specs.declared.Sought.{Sought}
use Rattle.run_window.specs.Window.{is_held, is_overdue, is_late}
use Rattle.run_window.specs.Inner.Search.{is_sought, sooner, is_noticed}
use Rattle.run_window.proofs.Laws.Tests.{overdue_tells, late_tells, due_tells, node_tells}
use Rattle.run_window.proofs.Laws.Order.{Order, starts_order, ends_order, report_order}

pub sought_held : (s : Sought) (e : Entry) → is_sought s e ≡ true → is_held e.phase ≡ true
sought_held (Sought.Overdue psi t) e q = ap is_held ((overdue_tells psi t e).0 q).0
sought_held (Sought.Late psi slack t) e q = ap is_held ((late_tells psi t e slack).0 q).0
sought_held (Sought.Due psi t) e q = ap is_held ((due_tells psi t e).0 q).0
sought_held (Sought.Node position node) e q = ((node_tells position node e).0 q).0

pub noticed_held : (psi : Clock) (slack : ℕ) (t : Clock) (s : Sought) (e : Entry) → is_noticed psi slack t s e ≡ true → is_held e.phase ≡ true
noticed_held psi slack t s e q =
    either (is_overdue psi t e) _ (sought_held (Sought.Overdue psi t) e) (either (is_late psi slack t e) _ (sought_held (Sought.Late psi slack t) e) (sought_held s e)) q
  where
    either : {A : Type 0} (a b : Bool) → (a ≡ true → A) → (b ≡ true → A) → a || b ≡ true → A
    either true b f g q = f refl
    either false b f g q = g q

pub sought_order : (nodes : List Node) (s : Sought) → Order (sooner nodes s)
sought_order nodes (Sought.Overdue psi t) = ends_order
sought_order nodes (Sought.Late psi slack t) = starts_order nodes
sought_order nodes (Sought.Due psi t) = starts_order nodes
sought_order nodes (Sought.Node position node) = report_order
