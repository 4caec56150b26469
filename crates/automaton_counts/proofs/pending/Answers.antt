-- `pending` judges by the counts: a transition that does not fit, something left, more than 8.
use Rattle.basis.proofs.Laws.Tells.{told_true, told_false}
use Rattle.automaton_counts.proofs.Laws.Emits.{gives_bounded}
use Rattle.automaton.specs.Inner.OnPaths.{broken25, broken26, neither}
use Rattle.automaton.proofs.Laws.Counts.{clash_25, left_25, crowd_26, crowd_of, not_25}
use Rattle.automaton_counts.proofs.pending.Goals.{then-not-keeps-via-then-not-keeps, then-not-keeps-via-else-not-keeps+then-left}
use Rattle.automaton_counts.proofs.pending.Goals as goal

pub returns-then-not-keeps : goal.returns-then-not-keeps
returns-then-not-keeps c =
    let ok = c.requires in
    λ ways. rw c.at.ensures (broken25 (elim c.then-not-keeps.branch [
      | then-not-keeps-via-then-not-keeps w ↦ clash_25 _ _ _ _ ok c.explore-x.ensures ways (rw w.if-not-keeps.true at c.keeps.ensures)
      | then-not-keeps-via-else-not-keeps+then-left w ↦ left_25 _ _ _ _ ok c.explore-x.ensures (told_true w.left.ensures w.if-left.true)
    ]))

pub returns-then-crowded : goal.returns-then-crowded
returns-then-crowded c =
    let k = c.explore-x.ensures in
    let y = rw c.if-not-keeps.false at c.keeps.ensures in
    λ ways. rw c.at-then-crowded.ensures (broken26 (not_25 _ _ _ _ c.requires k y (gives_bounded c.args.a.now c.args.emits.now.table) (told_false c.left.ensures c.if-left.false)) (crowd_26 _ _ _ _ c.requires k (told_true c.crowded.ensures c.if-crowded.true)))

pub returns : goal.returns
returns c =
    let k = c.explore-x.ensures in
    let y = rw c.if-not-keeps.false at c.keeps.ensures in
    λ ways. neither (not_25 _ _ _ _ c.requires k y (gives_bounded c.args.a.now c.args.emits.now.table) (told_false c.left.ensures c.if-left.false))
    (λ x. told_false c.crowded.ensures c.if-crowded.false (crowd_of _ _ _ _ c.requires k y (gives_bounded c.args.a.now c.args.emits.now.table) x))
