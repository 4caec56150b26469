-- A transition's map is the sum of its bits.
use native.Mathlib.Omega.{arith}
use Rattle.plan_write.proofs.Laws.Sums.{move_sum}
use Rattle.plan_file.specs.PlanFile.{move_map, input_bit, output_bit}
use Rattle.plan_write.proofs.bytes.move_map.Goals as goal

pub returns : goal.returns
unfolding move_map
returns c = let t = c.args.t in omega (arith, move_sum (input_bit t.input) (output_bit t.output))
