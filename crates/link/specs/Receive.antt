-- "a bad message never reaches the run": 62 and 61 come "before 01's call order", so before 50 and before a kept stop.
use Rattle.std.specs.Prelude.{List, ℕ, Result, Ok, Err}
use Rattle.run.specs.declared.Run.{Run}
use Rattle.run.specs.declared.Call.{Call}
use Rattle.run.specs.declared.Answer.{Answer}
use Rattle.run_checks.specs.declared.Refusal.{Refusal}
use Rattle.run.specs.Calls.{refuse, call_of}
use Rattle.link_calls.specs.Calls.{read_call}

abbrev pub on_call : {A : Type 0} → Result Call Refusal → (Call → A) → (Refusal → A) → A
on_call (Ok c) call refused = call c
on_call (Err f) call refused = refused f

-- a good message is the call that it says; a bad one hands back the run exactly as it came in
unfoldable pub receive_of : Run → List ℕ → Answer
receive_of run b = on_call (read_call b) (call_of run) (refuse run)
