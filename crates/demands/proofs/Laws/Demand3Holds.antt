-- `demand_3`: after an accepted opening of a file of bytes and any list of calls, the single claim of demand 3 holds.
use Rattle.std.proofs.Common.{subst}
use Rattle.plan.specs.declared.Plan.{Plan}
use Rattle.demands_log.proofs.Laws.Kept.{plan_kept}
use Rattle.demands_run.proofs.Laws.Theorem.{kept, the_word, one, times, of_the_log}
use Rattle.demands.specs.Demand3.{driven_by, Demand3Of, StatementDemand3}

pub demand_3 : StatementDemand3
demand_3 bytes are psi slack ts opened cs = subst (λ (p : Plan). Demand3Of p psi slack ts (driven_by bytes psi slack ts cs)) (plan_kept bytes psi slack ts opened).keeps.same_plan record {
  keeps = kept bytes are psi slack ts opened cs;
  word = the_word bytes are psi slack ts opened cs;
  one = one bytes are psi slack ts opened cs;
  times = times bytes are psi slack ts opened cs;
  claim = of_the_log bytes are psi slack ts opened cs;
}
