-- A number of w bytes: the first w of its eight.
use Rattle.std.proofs.Common.{sym}
use Rattle.wire.proofs.Laws.Bytes.{first_bytes}
use Rattle.wire.proofs.puts.put_number.Goals as goal

pub returns : goal.returns
returns c = let a = c.args in rw (sym (first_bytes a.x a.w c.requires.1), sym c.to_le_bytes.ensures) c.put_list.ensures
