-- No call has a number.
use mathlib.Core.Path.{sym, ◌∙◌}
use Rattle.link_messages.proofs.Laws.Written.{writes_as}
use Rattle.link_calls.specs.Calls.{to_board}
use Rattle.link_calls.proofs.Laws.Listed.{board_permits}
use Rattle.link_calls.proofs.calls.write_call.Goals as goal

pub returns : goal.returns
returns c =
    let a = c.args in
    writes_as to_board a.m (c.is_call-good.ensures ∙ sym (board_permits a.m.map a.m.number)) a.out.now c.write.ensures
