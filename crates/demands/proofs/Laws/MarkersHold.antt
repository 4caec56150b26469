-- `waiting_iff`, `marker_taken`: request (d) holds.
use Rattle.std.proofs.Common.{sym, ap, ◌∙◌, arith}
use Rattle.std.specs.Prelude.{set, Option}
use Rattle.run_checks.specs.declared.Stop.{Stop}
use Rattle.run.specs.declared.Reply.{Reply}
use Rattle.run.specs.Calls.{answer, heard}
use Rattle.run_window.specs.Window.{vacant}
use Rattle.demands_run.proofs.Laws.AcceptedHolds.{accepted_laws}
use Rattle.demands.specs.Markers.{StatementWaiting, StatementMarkerTaken}
use Rattle.demands.proofs.Laws.Leaving.{by_ways_out}
use Rattle.demands.proofs.Laws.ConditionsGive.{marker_call}

pub waiting_iff : StatementWaiting
waiting_iff bytes p are judged s low = let a = accepted_laws bytes are p judged in by_ways_out p a.file.limits a.automaton s low

-- the run was going, and goes on
pub marker_taken : StatementMarkerTaken
marker_taken run t p n i e r event one =
    marker_call run t p n 0 i e (record { reports = r; event = event; has = omega arith }) one
    ∙ ap (λ (h : Option Stop). answer Reply.Taken (heard run t h run.progress (set run.window i vacant))) (sym r.timely.not_overdue.rises.going.going)
