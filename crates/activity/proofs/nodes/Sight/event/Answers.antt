-- `nodes::Sight::event` meets its contract: at each return, what holds and the first thing that does not. Assumes nothing.
use Prim.Native.Nat.{ℕ}
use Rattle.basis.proofs.Laws.Tells.{granted, refuted}
use Rattle.activity.specs.Rules.{Before}
use Rattle.activity.proofs.Numbering.{event_first, event_unordered, event_good}
use mathlib.Core.Path.{ap}
use mathlib.Core.Bool.{not}
use Rattle.activity.proofs.nodes.Sight.event.Goals as goal

pub returns-then-not-any : goal.returns-then-not-any
returns-then-not-any c v belongs a n i h free =
    let no_bit = refuted c.any.ensures (ap not c.if-not-any.true) in
    event_first belongs a n free v i (λ b. no_bit (b.0, (h.before b.0).1 b.1))

pub returns-then-not-in_line : goal.returns-then-not-in_line
returns-then-not-in_line c v belongs a n i h free =
    let w = granted c.any.ensures (ap not c.if-not-any.false) in
    let b : (m : ℕ) × Before a m n = (w.0, (h.before w.0).0 w.1) in
    event_unordered belongs a n free v i b (refuted (c.in_line.ensures belongs a n h) (ap not c.if-not-in_line.true))

pub returns : goal.returns
returns c v belongs a n i h free =
    let w = granted c.any.ensures (ap not c.if-not-any.false) in
    let b : (m : ℕ) × Before a m n = (w.0, (h.before w.0).0 w.1) in
    event_good belongs a n free v i b (granted (c.in_line.ensures belongs a n h) (ap not c.if-not-in_line.false))
