use mathlib.Core.Path.{◌≡◌, ap, ◌∙◌}
use mathlib.Core.List.{List, ◌++◌}
use Prim.Native.Nat.{ℕ, ◌+◌, ◌-◌, ◌<◌, ◌≤◌}
use native.Mathlib.Omega.{arith}
use lib.ListN.{length, take, drop, get_or, get_or-append}
use Rattle.std.proofs.lemmas.List.{get_or-take, length-take-le, get_or-drop, get_or-append_right}
use Rattle.plan.specs.Plan.{nodes_of}
use Rattle.activity.specs.Inner.Closure.{Through}
use Rattle.activity.proofs.Laws.Closure.{opening, passing, shut}
use Rattle.activity.proofs.Places.{front_nodes, count_of}
use Rattle.activity.proofs.before.closure.Goals as goal

-- a pass over the first words, the others behind them
front_passed : (t r : List ℕ) (k count : ℕ) → k < count → length r ≡ count → Through (take count t) k count r → Through t k count (r ++ drop count t)
front_passed t r k count lt long h =
    record {
      passed = λ n l.
          rw (get_or-append r (drop count t) 0 n (omega arith), ← get_or-take count t n 0 l, ← get_or-take count t k 0 lt) (h.passed n l);
      rest = λ n le.
          let e : count + (n - count) ≡ n = omega arith in
          get_or-append_right r (drop count t) count n 0 long le ∙ get_or-drop count t (n - count) 0 ∙ ap (λ (i : ℕ). get_or t i 0) e;
    }

pub loop-k-preserved : goal.loop-k-preserved
loop-k-preserved c a e h =
    let l = c.loop-k in
    let count = c.from-count.result in
    let few : count ≤ length l.r = omega (arith, c.requires.small) in
    let all = length-take-le count l.r few in
    let s = front_passed l.r c.through.new.r l.k count (omega arith) (c.through.auto.r ∙ all) (rw all at c.through.ensures) in
    passing a l.k l.r _ (l.invariant a e h) (rw e s)

pub returns : goal.returns
returns c =
    let x = c.args.activity in
    let a = nodes_of x in
    let r = c.arrows-r in
    let same = front_nodes x c.from-count.result c.from-count.ensures (omega (arith, c.requires.small)) in
    let e : c.loop-k.k ≡ length a = omega (arith, count_of x) in
    let done = c.loop-k.invariant a (omega (arith, count_of x)) (opening a r.result (rw same at r.ensures)) in
    shut (rw e at done)
