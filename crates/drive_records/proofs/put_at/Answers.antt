-- A record put at the front of a part of the buffer stands at the part's start.
use mathlib.Core.Path.{refl}
use native.Mathlib.Omega.{arith}
use Prim.Native.Nat.{◌+◌, ◌-◌}
use Rattle.drive_records.specs.Records.{record_bytes}
use Rattle.drive_records.proofs.Laws.Records.{record_length}
use Rattle.drive_records.proofs.Laws.Placed.{placed}
use Rattle.drive_records.proofs.put_at.Goals as goal

pub returns : goal.returns
returns c = let a = c.args in placed a.out.now a.at (a.at + 16) (a.at + 16 - a.at) (record_bytes a.r) refl (omega (arith, record_length a.r)) (omega arith) (omega arith) _ _ c.put_first.ensures
