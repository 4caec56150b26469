use Prim.Native.Nat.{ℕ}
use mathlib.Core.Path.{refl, ap, ◌∙◌}
use native.Mathlib.Omega.{arith}
use lib.ListN.{length, take, get_or}
use Rattle.std.proofs.lemmas.List.{length-take-le}
use Rattle.activity.specs.Rules.{Is}
use Rattle.activity.specs.Number.{fault_of}
use Rattle.activity.specs.Inner.Closure.{Closure}
use Rattle.activity.specs.Inner.Sight.{Seen}
use Rattle.activity.proofs.Judging.{more_nodes, all_nodes}
use Rattle.activity.proofs.Places.{front_nodes}
use Rattle.activity.proofs.Seeing.{front_closure, front_labels}
use Rattle.activity.proofs.fault.Goals as goal

pub loop-n-preserved : goal.loop-n-preserved
loop-n-preserved c =
    let l = c.loop-n in
    let x = c.args.activity in
    let k = c.from.result in
    let a = take k x.nodes in
    let belongs : ℕ → ℕ = λ p. get_or c.args.belongs.now p 0 in
    let same = front_nodes x k c.from.ensures (omega (arith, c.requires.0.small)) in
    let closed : Closure a c.closure-words.result = rw same c.closure-words.ensures in
    let words = front_closure a c.closure-words.result (length a) (omega arith) closed in
    let named = front_labels a c.labels-names.result (length a) (omega arith) c.labels-names.ensures in
    let long = length-take-le k x.nodes (omega (arith, c.requires.0.small)) in
    let all = length-take-le (length a) c.labels-names.result (omega (arith, c.requires.0.small)) in
    let seen : Seen belongs a l.n _ = c.look-sight.ensures belongs a (omega (arith, all)) words named refl c.held.ensures in
    let is : Is a l.n _ = record { within = c.loop-n-test.true; kind = refl } in
    more_nodes belongs a l.n l.first _ _ c.earlier-first.ensures l.invariant (c.fault.ensures belongs a l.n is seen)

pub returns : goal.returns
returns c =
    let l = c.loop-n in
    let x = c.args.activity in
    let belongs : ℕ → ℕ = λ p. get_or c.args.belongs.now p 0 in
    let same = front_nodes x c.from.result c.from.ensures (omega (arith, c.requires.0.small)) in
    all_nodes belongs (take c.from.result x.nodes) l.n l.first (omega arith) l.invariant ∙ ap (fault_of belongs) same
