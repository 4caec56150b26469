use mathlib.Core.Path.{ap, ◌∙◌}
use Rattle.exports.specs.Codes.{recorded_code}
use Rattle.exports.proofs.jidlekuvo_drive.Goals as goal

pub returns : goal.returns
returns c = let d = c.drive in (c.recorded_code.ensures ∙ ap recorded_code d.ensures.0, d.ensures.1)
