-- The writer of the host's direction.
use Rattle.link_messages.proofs.Laws.Written.{writes_as}
use Rattle.link_calls.specs.Replies.{to_host}
use Rattle.link_calls.proofs.replies.write_answer.Goals as goal

pub returns : goal.returns
returns c =
    let a = c.args in
    writes_as to_host a.m c.is_answer-good.ensures a.out.now c.write.ensures
