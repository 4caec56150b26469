use Rattle.std.specs.Prelude.{None}
use mathlib.Core.Path.{◌≡◌, sym, ◌∙◌, ap}
use Prim.Native.Nat.{ℕ, ◌-◌, ◌<◌}
use native.Mathlib.Omega.{arith}
use lib.ListN.{length, get_or}
use Rattle.plan.specs.Plan.{past_node}
use Rattle.run_window.specs.declared.Sought.{Sought}
use Rattle.run_window.specs.Window.{rank}
use Rattle.run_window.specs.Inner.Search.{ranked}
use Rattle.run_window.proofs.Laws.Sought.{noticed_held}
use Rattle.basis.proofs.Laws.Bools.{or-false}
use Rattle.basis.proofs.Laws.Lists.{unmapped}
use Rattle.run_window.proofs.Laws.Scans.{ranked_from, ranked_none, ranked_turn, ranked_passed, ranked_found}
use borrow.Author.Tests.{not-true, not-false}
use mathlib.Core.Bool.{not}
use Rattle.run_window.proofs.search.look_by_rank.Goals as goal

pub loop-i-init : goal.loop-i-init
loop-i-init c =
    let long : length c.args.window ≡ 512 = search unmapped in
    let none : (s : Sought) → ranked None 0 ≡ ranked_from c.args.nodes s c.args.window 512 = (λ s. ranked_none c.args.nodes s c.args.window 512 (omega (arith, long))) in
    let a = c.args in (none (Sought.Overdue a.psi a.t), none (Sought.Late a.psi a.slack a.t), none a.sought)

pub is_noticed-requires : goal.is_noticed-requires
is_noticed-requires c = let p = c.requires in (p.0, p.1, p.2, p.3 _)

-- the entry is none of the three, so what was found behind it stays
pub loop-i-preserved-then-not-is_noticed : goal.loop-i-preserved-then-not-is_noticed
loop-i-preserved-then-not-is_noticed c =
    let long : length c.args.window ≡ 512 = search unmapped in
    let l = c.loop-i in
    let n = long in
    let more = c.loop-i-test.true in
    let none = or-false _ _ (sym c.is_noticed.ensures ∙ not-true _ (ap not c.if-not-is_noticed.true)) in
    let rest = or-false _ _ none.1 in (
      l.invariant.0 ∙ ranked_passed c.args.nodes (Sought.Overdue c.args.psi c.args.t) c.args.window _ l.i more (omega (arith, n)) none.0,
      l.invariant.1 ∙ ranked_passed c.args.nodes (Sought.Late c.args.psi c.args.slack c.args.t) c.args.window _ l.i more (omega (arith, n)) rest.0,
      l.invariant.2 ∙ ranked_passed c.args.nodes c.args.sought c.args.window _ l.i more (omega (arith, n)) rest.1,
    )

pub offset_bounds-nodes-k : goal.offset_bounds-nodes-k
offset_bounds-nodes-k c =
    let below : c.node_place-k.result < 2048 = let held = noticed_held c.args.psi c.args.slack c.args.t c.args.sought _ (sym c.is_noticed.ensures ∙ not-false _ (ap not c.if-not-is_noticed.false)) in
    let n = c.requires.4 (c.loop-i.i - 1) held in
    omega (arith, c.node_place-k.ensures) in
    let l = below in omega arith

pub bounds-nodes-k : goal.bounds-nodes-k
bounds-nodes-k c =
    let many : length c.args.nodes ≡ 2048 = search unmapped in
    let below : c.node_place-k.result < 2048 = let held = noticed_held c.args.psi c.args.slack c.args.t c.args.sought _ (sym c.is_noticed.ensures ∙ not-false _ (ap not c.if-not-is_noticed.false)) in
    let n = c.requires.4 (c.loop-i.i - 1) held in
    omega (arith, c.node_place-k.ensures) in
    let l = below in let m = many in omega arith

pub kept-overdue-requires : goal.kept-overdue-requires
kept-overdue-requires c = let p = c.requires in (p.0, p.3 _)

pub kept-late-requires : goal.kept-late-requires
kept-late-requires c = let p = c.requires in ((p.0, p.1), p.3 _)

pub kept-best-requires : goal.kept-best-requires
kept-best-requires c = let p = c.requires in (p.2, p.3 _)

pub loop-i-preserved : goal.loop-i-preserved
loop-i-preserved c =
    let long : length c.args.window ≡ 512 = search unmapped in
    let l = c.loop-i in
    let n = long in
    let more = c.loop-i-test.true in
    let r = c.rank-r.ensures ∙ ap (λ (k : ℕ). rank (get_or c.args.nodes k past_node).kind) c.node_place-k.ensures in (
      c.kept-overdue.ensures ∙ ranked_turn c.args.nodes (Sought.Overdue c.args.psi c.args.t) c.args.window _ l.i more (omega (arith, n)) r l.invariant.0,
      c.kept-late.ensures ∙ ranked_turn c.args.nodes (Sought.Late c.args.psi c.args.slack c.args.t) c.args.window _ l.i more (omega (arith, n)) r l.invariant.1,
      c.kept-best.ensures ∙ ranked_turn c.args.nodes c.args.sought c.args.window _ l.i more (omega (arith, n)) r l.invariant.2,
    )

pub returns : goal.returns
returns c =
    let l = c.loop-i in
    let z : l.i ≡ 0 = omega arith in
    c.seen.ensures ∙ simp (l.invariant.0, l.invariant.1, l.invariant.2, z, ranked_found c.args.nodes)
