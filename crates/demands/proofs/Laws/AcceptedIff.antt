-- `accepted_iff`: judging accepts bytes as a plan iff the plan meets the definitions and the bytes are its writing.
-- `longest`: no accepted plan exceeds 34,433 bytes. `written_back`: writing an accepted plan gives back its bytes. From the
-- file's description (planfile), the activities (activity) and the automaton (automaton).
use Rattle.std.specs.Prelude.{List, ℕ}
use Rattle.plan.specs.declared.Plan.{Plan}
use Rattle.plan_file.proofs.Laws.Accepted as F
use Rattle.plan_file.proofs.Laws.HoldsPlan.{plan_iff}
use Rattle.activity.proofs.Laws.Activities as A
use Rattle.automaton.proofs.Laws.Decides as D
use Rattle.plan_write.proofs.Laws.Back as B
use Rattle.judge.proofs.Laws.Judge.{Passes, passed, passing}
use Rattle.demands.specs.Accepted.{Bytes, Accepts, StatementAcceptedIff, StatementLongest, StatementWrittenBack}

from_passes : (b : List ℕ) (p : Plan) → Bytes b → Passes b p → Accepts b p
from_passes b p bytes h =
    let r = (F.accepted_iff b bytes p).0 h.read in
    record {
      holds = r.holds;
      printed = r.written;
      same = r.same;
      activities = (A.accepted_iff p).0 h.activities;
      automaton = (D.accepted_iff p ((plan_iff p).0 r.holds).limits).0 h.automaton;
    }

to_passes : (b : List ℕ) (p : Plan) → Bytes b → Accepts b p → Passes b p
to_passes b p bytes h = record {
  read = (F.accepted_iff b bytes p).1 (record { holds = h.holds; written = h.printed; same = h.same });
  activities = (A.accepted_iff p).1 h.activities;
  automaton = (D.accepted_iff p ((plan_iff p).0 h.holds).limits).1 h.automaton;
}

pub accepted_iff : StatementAcceptedIff
accepted_iff b p bytes = (λ e. from_passes b p bytes (passed p b e), λ h. passing p b (to_passes b p bytes h))

pub longest : StatementLongest
longest b p bytes e = F.longest_file b bytes p (passed p b e).read

pub written_back : StatementWrittenBack
written_back b out p bytes e room = B.written_back b out p bytes (passed p b e).read room
