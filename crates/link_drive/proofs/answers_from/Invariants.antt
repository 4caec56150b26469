-- The loop over the messages. Its invariant: what puts the answers to the messages that are left puts all of them.
use mathlib.Core.Path.{◌≡◌}
use Prim.Native.Nat.{◌+◌, ◌-◌, ◌≤◌}
use lib.ListN.{length}
use Rattle.link_drive.specs.Inner.Answers.{answers_from}
use Rattle.link_drive.proofs.Turns.{Leads}
use Rattle.link_drive.proofs.answers_from.Given as goal

abbrev pub invariant-loop : goal.invariant-loop
invariant-loop l = (l.at ≤ length l.input) × (l.end + length (answers_from (l.messages - l.counter) l.run l.input l.at) ≤ length l.out) × (length l.out ≡ length l.initial.out)
    × Leads l.initial.out l.written (answers_from l.messages l.initial.run l.input l.from) l.out l.end (answers_from (l.messages - l.counter) l.run l.input l.at)
