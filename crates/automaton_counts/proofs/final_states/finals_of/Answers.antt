use Rattle.std.specs.Prelude.{false}
use Rattle.std.proofs.Common.{rules}
use Rattle.plan.specs.Plan.{final_bit}
use Rattle.automaton_counts.proofs.Tools.{from_fn_gives}
use Rattle.automaton_counts.proofs.final_states.finals_of.Goals as goal

pub returns : goal.returns
returns c =
    let m = c.from_fn.ensures.items in
    record { long = m.long; bits = λ s l. from_fn_gives m (final_bit c.args.finals) (λ i y q k. (search rules, search rules)) s l false }
