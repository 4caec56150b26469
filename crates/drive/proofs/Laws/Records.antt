-- Every part has one record.
use Rattle.std.specs.Prelude.{◌≡◌, refl, List, [], ◌∷◌, suc, length}
use Rattle.std.proofs.Common.{ap}
use Rattle.run.specs.declared.Run.{Run}
use Rattle.drive_input.specs.declared.Part.{Part}
use Rattle.drive.specs.Drive.{run_after, records_from}

pub records_length : (run : Run) (ps : List Part) → length (records_from run ps) ≡ length ps
records_length run [] = refl
records_length run (p ∷ ps) = ap suc (records_length (run_after run p) ps)
