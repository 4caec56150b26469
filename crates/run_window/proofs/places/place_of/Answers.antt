use Rattle.std.proofs.Common.{◌≡◌, arith, length}
use Rattle.basis.proofs.Laws.Lists.{unmapped}
use Rattle.run_window.proofs.Laws.Scans.{where_past, where_here, where_nowhere}
use Rattle.run_window.proofs.places.place_of.Goals as goal

pub returns-then-is_node : goal.returns-then-is_node
returns-then-is_node c =
    let long : length c.args.window ≡ 512 = search unmapped in
    where_here c.args.position c.args.node c.args.window _ c.loop-lowest.lowest (omega (arith, long)) c.loop-lowest.invariant c.is_node.ensures c.if-is_node.true

pub loop-lowest-preserved : goal.loop-lowest-preserved
loop-lowest-preserved c =
    let long : length c.args.window ≡ 512 = search unmapped in
    where_past c.args.position c.args.node c.args.window _ c.loop-lowest.lowest (omega (arith, long)) c.loop-lowest.invariant c.is_node.ensures c.if-is_node.false

pub returns : goal.returns
returns c =
    let long : length c.args.window ≡ 512 = search unmapped in
    where_nowhere c.args.position c.args.node c.args.window 512 (omega (arith, long)) (let z : c.loop-lowest.lowest ≡ 512 = omega arith in rw z at c.loop-lowest.invariant)
