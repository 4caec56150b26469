-- Without a turn where there is room for answers of 8 bytes each.
use mathlib.Core.Path.{sym}
use native.Mathlib.Omega.{arith}
use Prim.Native.Nat.{◌+◌}
use lib.ListN.{length}
use borrow.Author.Tests.{le-leb, lt-leb}
use Rattle.link_drive.specs.Inner.Answers.{answers_from}
use Rattle.link_drive.proofs.Laws.Replies.{answers_most}
use Rattle.link_drive.proofs.Fitting.{behind_record}
use Rattle.link_drive.proofs.fit.Goals as goal

pub returns-then-room-lt16 : goal.returns-then-room-lt16
returns-then-room-lt16 c = let a = c.args in sym (lt-leb (16 + length (answers_from a.messages a.run a.input.now a.from)) a.room (omega (arith, c.if-room-lt16.true)))

pub returns-then-messages-free : goal.returns-then-messages-free
returns-then-messages-free c =
    let a = c.args in
    sym (le-leb (16 + length (answers_from a.messages a.run a.input.now a.from)) a.room (omega (arith, c.if-messages-free.true, c.if-room-lt16.false, answers_most a.messages a.run a.input.now a.from)))

pub returns : goal.returns
returns c =
    let a = c.args in
    behind_record _ (length (answers_from a.messages a.run a.input.now a.from)) a.room (omega (arith, c.if-room-lt16.false)) c.fit_from.ensures
