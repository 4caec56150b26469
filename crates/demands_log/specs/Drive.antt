-- A run driven by a list of calls, "each given the run that the call before it returned".
use Rattle.std.specs.Prelude.{List, [], ◌∷◌}
use Rattle.run.specs.Calls.{call_of}
use Rattle.run.specs.declared.Run.{Run}
use Rattle.run.specs.declared.Call.{Call}
use Rattle.demands_log.specs.Log.{Log, said}

pub record Driven : Type 0 where
  pub log : Log
  pub run : Run

abbrev pub drive : Log → Run → List Call → Driven
drive log run [] = record { log = log; run = run }
drive log run (c ∷ cs) = drive (said c (call_of run c).reply ∷ log) (call_of run c).run cs
