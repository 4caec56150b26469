use mathlib.Core.Path.{◌≡◌, refl, sym, ◌∙◌, ap}
use mathlib.Core.List.{List}
use native.Mathlib.Omega.{arith}
use Prim.Native.Nat.{ℕ, ◌+◌, ◌-◌}
use lib.ListN.{length}
use borrow.Author.Tests.{le-leb, lt-leb}
use Rattle.link_drive.specs.LinkDrive.{replies_from, answer_bytes}
use Rattle.link_drive.specs.Inner.Answers.{answers_from}
use Rattle.link_drive.proofs.Turns.{Found, found, none_left, answers_length, over}
use borrow.Author.Rules.{rules}
use Rattle.link_drive.proofs.fit_from.Goals as goal

pub loop-init : goal.loop-init
loop-init c =
    let z : c.args.messages - 0 ≡ c.args.messages = omega arith in
    rw z (c.requires, refl)

pub returns-in_default : goal.returns-in_default
returns-in_default c = let l = c.loop in
    let a = c.args in
    let z = ap (λ (ms : List (List ℕ)). length (answer_bytes (replies_from l.run ms))) (none_left a.input.now l.at (sym c.next_of.ensures ∙ c.in_default.is) (a.messages - l.counter)) in
    sym (le-leb (length (answers_from a.messages a.first a.input.now a.from)) a.room (omega (arith, l.invariant.1, z)))

pub slice_bounds-receive-count : goal.slice_bounds-receive-count
slice_bounds-receive-count c =
    let here : Found c.args.input.now c.loop.at c.in-Some.next = found _ _ _ (sym c.next_of.ensures ∙ c.in-Some.is) in
    here.ahead

pub slice_bounds-receive-start : goal.slice_bounds-receive-start
slice_bounds-receive-start c =
    let here : Found c.args.input.now c.loop.at c.in-Some.next = found _ _ _ (sym c.next_of.ensures ∙ c.in-Some.is) in
    let h = here.ahead in search rules

pub slice_bounds-receive-end : goal.slice_bounds-receive-end
slice_bounds-receive-end c =
    let here : Found c.args.input.now c.loop.at c.in-Some.next = found _ _ _ (sym c.next_of.ensures ∙ c.in-Some.is) in
    let h = here.fits in search rules

pub returns-then-free-size : goal.returns-then-free-size
returns-then-free-size c = let l = c.loop in
    let a = c.args in
    let v = c.receive-answer in
    let e = sym c.next_of.ensures ∙ c.in-Some.is in
    let one = answers_length a.input.now l.at _ e (a.messages - l.counter) (a.messages - (l.counter + 1)) (omega (arith, c.loop-test.true)) l.run v.result v.ensures in
    sym (lt-leb (length (answers_from a.messages a.first a.input.now a.from)) a.room (omega (arith, l.invariant.1, one, c.size_of-size.ensures, c.if-free-size.true)))

pub loop-preserved : goal.loop-preserved
loop-preserved c = let l = c.loop in
    let a = c.args in
    let v = c.receive-answer in
    let e = sym c.next_of.ensures ∙ c.in-Some.is in
    let one = answers_length a.input.now l.at _ e (a.messages - l.counter) (a.messages - (l.counter + 1)) (omega (arith, c.loop-test.true)) l.run v.result v.ensures in
    ((found a.input.now l.at _ e).fits, omega (arith, l.invariant.1, one, c.size_of-size.ensures, c.if-free-size.false))

pub returns : goal.returns
returns c = let l = c.loop in
    let a = c.args in
    let z = ap (λ (ms : List (List ℕ)). length (answer_bytes (replies_from l.run ms))) (over a.input.now l.at (a.messages - l.counter) (omega arith)) in
    sym (le-leb (length (answers_from a.messages a.first a.input.now a.from)) a.room (omega (arith, l.invariant.1, z)))
