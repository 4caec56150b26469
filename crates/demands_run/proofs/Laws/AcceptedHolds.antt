-- Bytes that are accepted as a plan: the plan meets the file's rules, those of each activity, and those of the automaton.
use Rattle.std.specs.Prelude.{List, ℕ}
use Rattle.judge.proofs.Laws.Judge.{passed}
use Rattle.activity.proofs.Laws.Activities as Activities
use Rattle.automaton.proofs.Laws.Decides as Automaton
use Rattle.format.specs.Writing.{Bytes}
use Rattle.plan_file.proofs.Laws.Accepted.{accepted_rules}
use Rattle.demands_run.proofs.Laws.Opening.{AcceptedLaws}

pub accepted_laws : (bytes : List ℕ) → Bytes bytes → AcceptedLaws bytes
accepted_laws bytes b p e =
    let q = passed p bytes e in
    let h = accepted_rules bytes b p q.read in
    record {
      file = h;
      activities = (Activities.accepted_iff p).0 q.activities;
      automaton = (Automaton.accepted_iff p h.limits).0 q.automaton;
    }
