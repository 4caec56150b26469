-- The loop over the messages. What is free has fallen by the bytes of the answers before.
use mathlib.Core.Path.{◌≡◌}
use Prim.Native.Nat.{◌+◌, ◌-◌, ◌≤◌}
use lib.ListN.{length}
use Rattle.link_drive.specs.Inner.Answers.{answers_from}
use Rattle.link_drive.proofs.fit_from.Given as goal

abbrev pub invariant-loop : goal.invariant-loop
invariant-loop l = (l.at ≤ length l.input) × (length (answers_from l.messages l.initial.run l.input l.from) + l.free ≡ length (answers_from (l.messages - l.counter) l.run l.input l.at) + l.room)
