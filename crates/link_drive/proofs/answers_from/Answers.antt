use mathlib.Core.Path.{◌≡◌, refl, sym, ◌∙◌}
use native.Mathlib.Omega.{arith}
use Prim.Native.Nat.{◌+◌, ◌-◌}
use Rattle.wire.proofs.Laws.Puts.{puts_none, puts_join, puts_length}
use Rattle.link_drive.proofs.Turns.{Found, found, none_left, answers_one, answers_length, over}
use borrow.Author.Rules.{rules}
use Rattle.link_drive.proofs.answers_from.Goals as goal

pub loop-init : goal.loop-init
loop-init c =
    let z : c.args.messages - 0 ≡ c.args.messages = omega arith in
    rw z (c.requires.0, c.requires.1, refl, (λ after next p. p))

pub returns-in_default : goal.returns-in_default
returns-in_default c = let l = c.loop in
    let a = c.args in
    let z = none_left a.input.now l.at (sym c.next_of.ensures ∙ c.in_default.is) (a.messages - l.counter) in
    l.invariant.3 _ _ (rw z (puts_none _ _))

pub slice_bounds-receive-count : goal.slice_bounds-receive-count
slice_bounds-receive-count c =
    let here : Found c.args.input.now c.loop.at c.in-Some.next = found _ _ _ (sym c.next_of.ensures ∙ c.in-Some.is) in
    here.ahead

pub slice_bounds-receive-start : goal.slice_bounds-receive-start
slice_bounds-receive-start c =
    let here : Found c.args.input.now c.loop.at c.in-Some.next = found _ _ _ (sym c.next_of.ensures ∙ c.in-Some.is) in
    let h = here.ahead in search rules

pub slice_bounds-receive-end : goal.slice_bounds-receive-end
slice_bounds-receive-end c =
    let here : Found c.args.input.now c.loop.at c.in-Some.next = found _ _ _ (sym c.next_of.ensures ∙ c.in-Some.is) in
    let h = here.fits in search rules

pub put_answer-end-requires : goal.put_answer-end-requires
put_answer-end-requires c = let l = c.loop in
    let a = c.args in
    let v = c.receive-answer in
    let e = sym c.next_of.ensures ∙ c.in-Some.is in
    omega (arith, l.invariant.1, answers_length a.input.now l.at _ e (a.messages - l.counter) (a.messages - (l.counter + 1)) (omega (arith, c.loop-test.true)) l.run v.result v.ensures)

pub loop-preserved : goal.loop-preserved
loop-preserved c = let l = c.loop in
    let a = c.args in
    let p = c.put_answer-end.ensures in
    let v = c.receive-answer in
    let e = sym c.next_of.ensures ∙ c.in-Some.is in
    let one = answers_one a.input.now l.at _ e (a.messages - l.counter) (a.messages - (l.counter + 1)) (omega (arith, c.loop-test.true)) l.run v.result v.ensures in
    let len = answers_length a.input.now l.at _ e (a.messages - l.counter) (a.messages - (l.counter + 1)) (omega (arith, c.loop-test.true)) l.run v.result v.ensures in (
      (found a.input.now l.at _ e).fits,
      omega (arith, l.invariant.1, len, p.past, puts_length p),
      puts_length p ∙ l.invariant.2,
      (λ after next q. l.invariant.3 after next (rw one (puts_join p q))),
    )

pub returns : goal.returns
returns c = let l = c.loop in
    let a = c.args in
    let z = over a.input.now l.at (a.messages - l.counter) (omega arith) in
    l.invariant.3 _ _ (rw z (puts_none _ _))
