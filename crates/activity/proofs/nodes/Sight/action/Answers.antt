-- `nodes::Sight::action` meets its contract: at each return, what holds and the first thing that does not. Assumes nothing.
use Rattle.basis.proofs.Laws.Tells.{granted, refuted}
use Rattle.activity.proofs.Numbering.{action_unordered, action_unheld, action_good}
use mathlib.Core.Path.{ap}
use mathlib.Core.Bool.{not}
use Rattle.activity.proofs.nodes.Sight.action.Goals as goal
use Rattle.activity.proofs.nodes.Sight.action.Goals.{then-not-claimed-via-then-not-claimed, then-not-claimed-via-else-not-claimed+then-not-released}

pub returns-then-not-in_line : goal.returns-then-not-in_line
returns-then-not-in_line c x p belongs a n i h free = action_unordered belongs a n free x p i (refuted (c.in_line.ensures belongs a n h) (ap not c.if-not-in_line.true))

pub returns-then-not-claimed : goal.returns-then-not-claimed
returns-then-not-claimed c x p belongs a n i h free =
    let line = granted (c.in_line.ensures belongs a n h) (ap not c.if-not-in_line.false) in
    action_unheld belongs a n free x p i line (λ b. elim c.then-not-claimed.branch [
      | then-not-claimed-via-then-not-claimed w ↦ refuted (c.claimed.ensures belongs a n h) (ap not w.if-not-claimed.true) b.0
      | then-not-claimed-via-else-not-claimed+then-not-released w ↦ refuted (w.released.ensures belongs a n h) (ap not w.if-not-released.true) b.1
    ])

pub returns : goal.returns
returns c x p belongs a n i h free =
    let line = granted (c.in_line.ensures belongs a n h) (ap not c.if-not-in_line.false) in
    let claim = granted (c.claimed.ensures belongs a n h) (ap not c.if-not-claimed.false) in
    let release = granted (c.released.ensures belongs a n h) (ap not c.if-not-released.false) in
    action_good belongs a n free x p i line (claim, release)
