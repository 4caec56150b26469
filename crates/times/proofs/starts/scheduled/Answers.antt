use mathlib.Core.Path.{◌≡◌, sym, ap, ◌∙◌, subst}
use Prim.Native.Nat.{ℕ, ◌+◌, ◌-◌, ◌<◌, max}
use native.Mathlib.Omega.{arith}
use borrow.Author.Tests.{not-true, not-false}
use lib.ListN.{get_or}
use Rattle.time.specs.declared.Specified.{Specified}
use Rattle.plan.specs.Plan.{past_node}
use Rattle.plan.specs.declared.Kind.{Kind}
use Rattle.times.specs.Times.{specified, at, start_of}
use Rattle.times.specs.Inner.Times.{Sound, Rounding}
use Rattle.times.proofs.Laws.Rounds.{stored_placed, arrows_fit, visit_done, visit_waits, visit_placed, start_small, room, placed_sound}
use Rattle.times.proofs.Laws.Turns.{start_found, rounding_starts, rounding_turn, rounding_stops, rounding_next, rounding_done}
use mathlib.Core.Bool.{not}
use Rattle.times.proofs.starts.scheduled.Goals as goal
use Rattle.times.proofs.starts.scheduled.Goals.{then-u-n-via-then-u-n, then-u-n-via-else-u-n+then-not-ready, in-Action, in-Claim, in-Release, in-Event}

pub loop-init : goal.loop-init
loop-init c = let a = c.args in rounding_starts a.a a.available a.latest c.unstarted-u.result c.unstarted-u.ensures

pub ready-requires : goal.ready-requires
ready-requires c =
    let p = c.requires in
    arrows_fit (p.activity.nodes c.loop-n.n (omega arith)) p.activity.count

pub loop-n-preserved-then-u-n : goal.loop-n-preserved-then-u-n
loop-n-preserved-then-u-n c =
    let l = c.loop-n in
    let turn = rounding_turn _ _ _ _ _ l.n l.u (omega arith) l.invariant l.u (omega arith) in
    elim c.then-u-n.branch [
      | then-u-n-via-then-u-n w ↦ turn (visit_done _ _ _ _ _ w.if-u-n.true) l.invariant.sound
      | then-u-n-via-else-u-n+then-not-ready w ↦
          turn (visit_waits _ _ _ _ _ w.if-u-n.false (sym w.ready.ensures ∙ not-true _ (ap not w.if-not-ready.true))) l.invariant.sound
    ]

pub largest-m-requires : goal.largest-m-requires
largest-m-requires c =
    let p = c.requires in
    arrows_fit (p.activity.nodes c.loop-n.n (omega arith)) p.activity.count

pub overflow_add-end : goal.overflow_add-end
overflow_add-end c =
    let l = c.loop-n in
    let low : l.n < c.args.a.count = omega arith in
    let x = get_or c.args.a.nodes l.n past_node in
    let found = λ (k : Kind) (p : x.kind ≡ k). ap specified (start_found c.args.available c.args.latest l.u.end x p c.largest-m.ensures) in
    let start : c.match-x.s ≡ specified (start_of c.args.available c.args.latest l.u.end x) =
    elim c.match-x.branch [
      | in-Action w ↦ w.s-is ∙ found _ w.in-Action.is
      | in-Claim w ↦ w.s-is ∙ ap (λ (i : ℕ). specified (at c.args.available i)) w.from.ensures ∙ found _ w.in-Claim.is
      | in-Release w ↦ w.s-is ∙ found _ w.in-Release.is
      | in-Event w ↦ w.s-is ∙ w.later-s.ensures ∙ ap (λ (i : ℕ). specified (max c.largest-m.result (at c.args.latest i))) w.from-in-Event.ensures ∙ found _ w.in-Event.is
    ] in
    omega (arith, ap (λ (z : Specified). z.0) start, start_small _ _ _ c.requires l.n low l.u l.invariant.sound, (c.requires.activity.nodes l.n low).duration, room _ _ _ c.requires l.n low l.u l.invariant.sound c.if-u-n.false)

pub bounds-u-from : goal.bounds-u-from
bounds-u-from c =
    let l = c.loop-n in
    omega (arith, room _ _ _ c.requires l.n (omega arith) l.u l.invariant.sound c.if-u-n.false)

pub loop-n-preserved : goal.loop-n-preserved
loop-n-preserved c =
    let l = c.loop-n in
    let low : l.n < c.args.a.count = omega arith in
    let x = get_or c.args.a.nodes l.n past_node in
    let found = λ (k : Kind) (p : x.kind ≡ k). ap specified (start_found c.args.available c.args.latest l.u.end x p c.largest-m.ensures) in
    let start : c.match-x.s ≡ specified (start_of c.args.available c.args.latest l.u.end x) =
    elim c.match-x.branch [
      | in-Action w ↦ w.s-is ∙ found _ w.in-Action.is
      | in-Claim w ↦ w.s-is ∙ ap (λ (i : ℕ). specified (at c.args.available i)) w.from.ensures ∙ found _ w.in-Claim.is
      | in-Release w ↦ w.s-is ∙ found _ w.in-Release.is
      | in-Event w ↦ w.s-is ∙ w.later-s.ensures ∙ ap (λ (i : ℕ). specified (max c.largest-m.result (at c.args.latest i))) w.from-in-Event.ensures ∙ found _ w.in-Event.is
    ] in
    let e = stored_placed l.n l.u start c.from-in-loop-n.ensures c.from-in-loop-n-2.ensures in
    rounding_turn _ _ _ _ _ l.n l.u (omega arith) l.invariant _ low
    (visit_placed _ _ _ _ _ c.if-u-n.false (sym c.ready.ensures ∙ not-false _ (ap not c.if-not-ready.false)) ∙ e)
    (subst (Sound c.args.a.count) e (placed_sound _ _ _ c.requires l.n low l.u l.invariant.sound c.if-u-n.false))

pub returns-then-u-from : goal.returns-then-u-from
returns-then-u-from c =
    let l = c.loop-n in
    rounding_stops _ _ _ _ _ l.n l.u (omega arith) l.invariant (omega arith) c.if-u-from.true

pub loop-preserved : goal.loop-preserved
loop-preserved c =
    let l = c.loop-n in
    let e : c.args.a.count - c.loop.counter - 1 ≡ c.args.a.count - (c.loop.counter + 1) = omega arith in
    subst (λ (k : ℕ). Rounding c.args.a c.args.available c.args.latest k l.u.count 0 l.u) e
    (rounding_next _ _ _ _ _ l.n l.u (omega arith) l.invariant (omega arith) c.if-u-from.false)

pub returns : goal.returns
returns c =
    let l = c.loop in
    let z : c.args.a.count - l.counter ≡ 0 = omega arith in
    rounding_done c.args.a c.args.available c.args.latest _ _ l.u (subst (λ (k : ℕ). Rounding c.args.a c.args.available c.args.latest k l.u.count 0 l.u) z l.invariant)
