-- A transition: its map, its states, its input, its output.
use native.Mathlib.Omega.{arith}
use mathlib.Core.Path.{ap}
use mathlib.Core.List.{[]}
use Rattle.plan_write.proofs.Laws.Printed.{move_print, input_length}
use Rattle.wire.specs.Number.{bytes_of}
use Rattle.wire.proofs.Laws.Puts.{puts_join, puts_byte}
use Rattle.plan_write.proofs.Laws.Left.{puts_as}
use Rattle.plan_write.proofs.bytes.put_move.Goals as goal

pub put_output-requires : goal.put_output-requires
put_output-requires c = omega (arith, input_length c.args.t.input)

pub returns : goal.returns
returns c =
    let t = c.args.t in
    rw (move_print 0 [] 0 0 t) (puts_join (puts_as (ap (bytes_of 1) c.move_map-map.ensures) (puts_byte (omega arith) c.put_byte-a.ensures)) (puts_join (puts_byte (omega arith) c.put_byte-b.ensures) (puts_join (puts_byte (omega arith) c.put_byte-c.ensures) (puts_join c.put_input-d.ensures c.put_output.ensures))))
