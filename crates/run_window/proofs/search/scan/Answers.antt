use mathlib.Core.Path.{◌≡◌, sym, ◌∙◌, ap}
use native.Mathlib.Omega.{arith}
use lib.ListN.{length}
use Rattle.run_window.specs.declared.Ranked.{Ranked}
use Rattle.run_window.specs.declared.Sought.{Sought}
use Rattle.basis.proofs.Laws.Bools.{or-false}
use Rattle.basis.proofs.Laws.Lists.{unmapped}
use Rattle.run_window.proofs.Laws.Scans.{scan_none, scan_passed, scan_turn, overdue_agrees, untied_agrees}
use borrow.Author.Tests.{not-true}
use mathlib.Core.Bool.{not}
use Rattle.run_window.proofs.search.scan.Goals as goal

pub loop-i-init : goal.loop-i-init
loop-i-init c =
    let long : length c.args.window ≡ 512 = search unmapped in
    let n = long in (
      scan_none (Sought.Overdue c.args.psi c.args.t) c.args.window 512 (omega arith),
      scan_none (Sought.Late c.args.psi c.args.slack c.args.t) c.args.window 512 (omega arith),
      scan_none c.args.sought c.args.window 512 (omega arith),
    )

pub is_noticed-requires : goal.is_noticed-requires
is_noticed-requires c = let p = c.requires in (p.0, p.1, p.2, p.3 _)

-- the entry is none of the three, so what was found behind it stays
pub loop-i-preserved-then-not-is_noticed : goal.loop-i-preserved-then-not-is_noticed
loop-i-preserved-then-not-is_noticed c =
    let long : length c.args.window ≡ 512 = search unmapped in
    let l = c.loop-i in
    let n = long in
    let more = c.loop-i-test.true in
    let none = or-false _ _ (sym c.is_noticed.ensures ∙ not-true _ (ap not c.if-not-is_noticed.true)) in
    let rest = or-false _ _ none.1 in (
      scan_passed (Sought.Overdue c.args.psi c.args.t) c.args.window _ l.i more (omega (arith, n)) none.0 l.overdue l.invariant.0,
      scan_passed (Sought.Late c.args.psi c.args.slack c.args.t) c.args.window _ l.i more (omega (arith, n)) rest.0 l.late l.invariant.1,
      scan_passed c.args.sought c.args.window _ l.i more (omega (arith, n)) rest.1 l.best l.invariant.2,
    )

pub ties_either-requires : goal.ties_either-requires
ties_either-requires c = let p = c.requires in (p.0, p.1, p.2, p.3 _)

pub kept-overdue-requires : goal.kept-overdue-requires
kept-overdue-requires c = let p = c.requires in (p.0, p.3 _)

pub kept-late-requires : goal.kept-late-requires
kept-late-requires c = let p = c.requires in ((p.0, p.1), p.3 _)

pub kept-best-requires : goal.kept-best-requires
kept-best-requires c = let p = c.requires in (p.2, p.3 _)

pub loop-i-preserved : goal.loop-i-preserved
loop-i-preserved c =
    let long : length c.args.window ≡ 512 = search unmapped in
    let l = c.loop-i in
    let n = long in
    let more = c.loop-i-test.true in
    let untied = or-false _ _ (sym c.ties_either.ensures ∙ c.if-ties_either.false) in (
      λ nodes. ap (λ (r : Ranked). r.found) c.kept-overdue.ensures ∙ scan_turn (Sought.Overdue c.args.psi c.args.t) c.args.window _ l.i more (omega (arith, n)) l.overdue (overdue_agrees c.args.psi c.args.t _ l.overdue) l.invariant.0 nodes,
      λ nodes. ap (λ (r : Ranked). r.found) c.kept-late.ensures ∙ scan_turn (Sought.Late c.args.psi c.args.slack c.args.t) c.args.window _ l.i more (omega (arith, n)) l.late (untied_agrees (Sought.Late c.args.psi c.args.slack c.args.t) _ l.late untied.0) l.invariant.1 nodes,
      λ nodes. ap (λ (r : Ranked). r.found) c.kept-best.ensures ∙ scan_turn c.args.sought c.args.window _ l.i more (omega (arith, n)) l.best (untied_agrees c.args.sought _ l.best untied.1) l.invariant.2 nodes,
    )

pub returns : goal.returns
returns c =
    λ nodes.
    let l = c.loop-i in
    let z : l.i ≡ 0 = omega arith in
    c.seen.ensures ∙ simp (l.invariant.0 nodes, l.invariant.1 nodes, l.invariant.2 nodes, z)

pub returns-then-ties_either : goal.returns-then-ties_either
returns-then-ties_either c = tt
