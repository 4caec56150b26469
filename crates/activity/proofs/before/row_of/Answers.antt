use mathlib.Core.Path.{◌≡◌, refl}
use native.Mathlib.Omega.{arith}
use lib.ListN.{get_or}
use Rattle.std.proofs.lemmas.List.{length-take-le}
use Rattle.activity.proofs.Places.{front, listed}
use Rattle.activity.proofs.before.row_of.Goals as goal

pub with-w-requires : goal.with-w-requires
with-w-requires c =
    let n = c.args.node in
    let i = c.loop-m.m-index in
    let at = front n.preds c.from.result i 0 (omega (arith, c.requires.few)) c.loop-m-test.true in
    let m = get_or n.preds i 0 in
    omega (arith, at.1, c.requires.arrows m ((listed n.preds n.count m).1 (i, omega (arith, at.0), refl)))

pub returns : goal.returns
returns c m =
    let l = c.loop-m in
    let s = c.args.node in
    let i = l.invariant m in
    let e = listed s.preds s.count m in
    let all : l.m-index ≡ s.count = omega (arith, length-take-le c.from.result s.preds (omega (arith, c.requires.few))) in
    (λ b. let o = i.0 b in e.1 (o.0, omega arith, o.2), λ a. let o = e.0 a in i.1 (o.0, omega (arith, o.1), o.2))
