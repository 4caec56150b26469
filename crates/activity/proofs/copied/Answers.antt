-- `copied` meets its contract: the activity's nodes, and zeros behind them. Assumes nothing.
use mathlib.Core.Path.{◌≡◌, ap, ap₂, ◌∙◌}
use mathlib.Core.List.{List, ◌++◌}
use Prim.Native.Nat.{ℕ, ◌*◌, ◌+◌, ◌-◌, ◌≤◌}
use native.Mathlib.Omega.{arith}
use lib.ListN.{length, drop, get_or, replicate}
use Rattle.plan.specs.Plan.{size_of}
use Rattle.plan.specs.Nodes.{zero_node}
use Rattle.plan.specs.declared.Node.{Node}
use Rattle.activity.specs.Inner.Copied.{filled, copied}
use Rattle.activity.proofs.Laws.Copied.{filled_taken}
use Rattle.activity.proofs.copied.Goals as goal

pub returns : goal.returns
unfolding copied
returns c =
    let p = c.args.plan.now in
    let a = c.args.a in
    let i : c.from-i.result ≡ a = c.from-i.ensures in
    let size : c.from-size.result ≡ size_of p a = c.from-size.ensures ∙ ap (λ (j : ℕ). get_or p.sizes j 0) i in
    let room : 64 * a + size_of p a ≤ length p.nodes = omega (arith, c.requires) in
    let past : (64 * a + size_of p a) - 64 * a ≡ size_of p a = omega arith in
    let nodes : c.copy_from_slice.new.self ++ drop c.from-size.result (replicate 64 zero_node) ≡ filled p a (size_of p a) =
    rw (c.copy_from_slice.ensures.after, size, i, past) (filled_taken p a (size_of p a) room) in
    ap₂ (λ (n : ℕ) (l : List Node). record { count = n; nodes = l }) (ap (λ (j : ℕ). get_or p.sizes j 0) i) nodes
