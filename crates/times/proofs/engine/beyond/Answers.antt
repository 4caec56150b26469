-- `beyond` meets its contract, test by test. Assumes nothing.
use mathlib.Core.Path.{sym, ap, ◌∙◌}
use borrow.Author.Tests.{lt-ltb, le-ltb}
use Rattle.basis.proofs.Laws.Bools.{clash}
use Rattle.times.specs.Engine.{above_of, beyond_of}
use Rattle.times.proofs.Laws.Loops.{above_any}
use Rattle.times.proofs.engine.beyond.Goals as goal
use Rattle.times.proofs.engine.beyond.Goals.{then-g-gt-LAST_POSITION, else-g-gt-LAST_POSITION}

pub returns-then-above : goal.returns-then-above
unfolding beyond_of
returns-then-above c =
    elim c.if-g-gt-LAST_POSITION.branch [
      | then-g-gt-LAST_POSITION w ↦ simp (c.if-above.true, lt-ltb _ _ w.if-g-gt-LAST_POSITION.true)
      | else-g-gt-LAST_POSITION w ↦
          (let e = sym (above_any _ _ ∙ ap (above_of c.args.end 0) w.from.ensures) ∙ sym w.above.ensures ∙ sym w.value-is ∙ c.if-above.true in
          simp (c.if-above.true, le-ltb _ _ w.if-g-gt-LAST_POSITION.false, e))
    ]

pub returns-else-above : goal.returns-else-above
unfolding beyond_of
returns-else-above c =
    elim c.if-g-gt-LAST_POSITION.branch [
      | then-g-gt-LAST_POSITION w ↦ clash (sym (lt-ltb _ _ w.if-g-gt-LAST_POSITION.true) ∙ sym w.value-is ∙ c.if-above.false)
      | else-g-gt-LAST_POSITION w ↦
          (let e = sym (above_any _ _ ∙ ap (above_of c.args.end 0) w.from.ensures) ∙ sym w.above.ensures ∙ sym w.value-is ∙ c.if-above.false in
          let d = c.above-else-above.ensures ∙ above_any _ _ ∙ ap (above_of c.args.g.available 0) c.from-else-above.ensures in
          simp (d, le-ltb _ _ w.if-g-gt-LAST_POSITION.false, e))
    ]
