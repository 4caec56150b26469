-- The automaton: its states, its final-state bits, its transitions.
use native.Mathlib.Omega.{arith}
use Rattle.wire.proofs.Laws.Fields.{length_bytes}
use Rattle.wire.proofs.Laws.Puts.{puts_join, puts_byte}
use mathlib.Core.List.{[]}
use Rattle.plan_write.proofs.Laws.Printed.{automaton_print}
use borrow.Author.Rules.{rules}
use Rattle.plan_write.proofs.bytes.put_automaton.Goals as goal

pub put_number-d-requires : goal.put_number-d-requires
put_number-d-requires c = (omega (arith, length_bytes 8 c.args.t.finals), search rules)

pub put_moves-requires : goal.put_moves-requires
put_moves-requires c = (omega (arith, length_bytes 8 c.args.t.finals, length_bytes 2 c.args.t.count), search rules)

pub returns : goal.returns
returns c =
    let t = c.args.t in
    let d = rw c.from.ensures at c.put_number-d.ensures in
    rw (automaton_print 0 [] 0 t) (puts_join (puts_byte (omega arith) c.put_byte-a.ensures) (puts_join (puts_byte (omega arith) c.put_byte-b.ensures) (puts_join c.put_number-c.ensures (puts_join d c.put_moves.ensures))))
