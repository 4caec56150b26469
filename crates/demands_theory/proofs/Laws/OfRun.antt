-- The run of document 01 as the machine that demand 3 speaks of: its calls are those of the definitions that the contracts cite.
use Rattle.run_window.specs.Places.{Holds}
use Rattle.run.specs.declared.Run.{Run}
use Rattle.run.specs.Calls.{call_of}
use Rattle.demands_theory.proofs.Laws.Machine.{Machine}

abbrev pub machine : Machine
machine = record {
  Run = Run;
  reply = λ run c. (call_of run c).reply;
  next = λ run c. (call_of run c).run;
  last = λ run. run.last.0;
  halt = λ run. run.halt;
  holds = λ run i e. Holds run.window i e;
}
