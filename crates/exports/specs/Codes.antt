-- Answers as numbers, for callers in another language.
use Rattle.std.specs.Prelude.{List, ℕ, ◌*◌, Result, Ok, Err}
use Rattle.plan.specs.Verdict.{Verdict}
use Rattle.plan.specs.declared.FaultAt.{FaultAt}
use Rattle.plan.specs.declared.Plan.{Plan}
use Rattle.activity.specs.Number.{activities_verdict}
use Rattle.numbers.specs.Codes.{code_of}
use Rattle.plan_write.specs.Writing.{written_of, buffer_of, number_of as number_of_writer}
use Rattle.plan_write.specs.declared.NotWritten.{NotWritten}
use Rattle.drive.specs.declared.NotRecorded.{NotRecorded}
use Rattle.drive.specs.Drive.{number_of as number_of_drive}

-- reading alone: a plan that was read is accepted
unfoldable pub read_verdict : Result Plan FaultAt → Verdict
read_verdict (Ok p) = Ok tt
read_verdict (Err e) = Err e

-- reading, and the rules of the activities
unfoldable pub activities_code : Result Plan FaultAt → ℕ
activities_code (Ok p) = code_of (activities_verdict p)
activities_code (Err e) = code_of (Err e)

-- what the writer answers: how many bytes it wrote, or its number times 2^32
unfoldable pub written_code : Result ℕ NotWritten → ℕ
written_code (Ok n) = n
written_code (Err w) = number_of_writer w * 4_294_967_296

-- the plan that was read is written back; a refused one writes nothing
unfoldable pub back_code : Result Plan FaultAt → List ℕ → ℕ
back_code (Ok p) out = written_code (written_of p out)
back_code (Err e) out = code_of (Err e)

unfoldable pub back_buffer : Result Plan FaultAt → List ℕ → List ℕ
back_buffer (Ok p) out = buffer_of p out
back_buffer (Err e) out = out

-- what a drive answers: how many bytes of records it wrote, or its number times 2^32
unfoldable pub recorded_code : Result ℕ NotRecorded → ℕ
recorded_code (Ok n) = n
recorded_code (Err w) = number_of_drive w * 4_294_967_296
