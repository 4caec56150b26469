-- The three answers: 61, a buffer too short, the bytes.
use mathlib.Core.Path.{sym, ◌∙◌}
use native.Mathlib.Omega.{arith}
use borrow.Author.Tests.{not-true, not-false}
use Rattle.link_messages.specs.Inner.Bytes.{message_bytes}
use Rattle.link_messages.proofs.Laws.Lengths.{bytes_length}
use Rattle.link_messages.proofs.Answers.{unlisted, too_short, wrote}
use mathlib.Core.Path.{ap}
use mathlib.Core.Bool.{not}
use Rattle.link_messages.proofs.write.Goals as goal

pub returns-then-not-good : goal.returns-then-not-good
returns-then-not-good c = let a = c.args in unlisted (message_bytes a.m) a.good a.out.now (not-true a.good (ap not c.if-not-good.true))

pub returns-then-length_of-out : goal.returns-then-length_of-out
returns-then-length_of-out c = let a = c.args in wrote (message_bytes a.m) a.good a.out.now (not-false a.good (ap not c.if-not-good.false)) _ (c.length_of.ensures ∙ sym (bytes_length a.m)) (omega (arith, c.if-length_of-out.true)) _ _ c.put_message.ensures

pub returns : goal.returns
returns c = let a = c.args in too_short (message_bytes a.m) a.good a.out.now (not-false a.good (ap not c.if-not-good.false)) _ (c.length_of.ensures ∙ sym (bytes_length a.m)) (omega (arith, c.if-length_of-out.false))
