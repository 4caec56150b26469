use Rattle.std.proofs.Common.{◌∙◌}
use Rattle.wire.proofs.Laws.Options.{field_get}
use Rattle.wire.proofs.byte_at.Goals as goal

pub returns : goal.returns
returns c = c.copied.ensures ∙ field_get c.get.result c.args.bytes.now c.args.at c.get.ensures.lookup
