-- The first k numbers are bytes, and put as they are.
use Rattle.std.proofs.Common.{sym, arith}
use Rattle.wire.proofs.Laws.Fields.{numbers_take}
use Rattle.wire.proofs.puts.put_list.Goals as goal

pub returns : goal.returns
returns c = let a = c.args in rw (sym (numbers_take a.xs.now (λ j. omega (arith, c.type_inv.xs j)) a.k 0 (omega arith)), sym c.from.ensures) c.put_bytes.ensures
