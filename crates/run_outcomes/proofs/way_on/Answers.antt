-- `way_on` is the way on.
use mathlib.Core.Path.{sym, ◌∙◌, ap}
use Rattle.times.specs.declared.Told.{Told}
use Rattle.run_outcomes.specs.Way.{by_told}
use Rattle.run_outcomes.proofs.Onward.{way_ended, way_goes, way_waits}
use Rattle.run_outcomes.proofs.way_on.Goals as goal

pub next_of-next-requires : goal.next_of-next-requires
next_of-next-requires c = c.requires.few

pub returns-in-Ended : goal.returns-in-Ended
returns-in-Ended c = let a = c.args in way_ended a.a a.g _ (sym c.next_of-next.ensures ∙ c.in-Ended.is)

pub returns-in-Goes : goal.returns-in-Goes
returns-in-Goes c = let a = c.args in way_goes a.a a.g _ _ (sym c.next_of-next.ensures ∙ c.in-Goes.is)

pub oldest_told-told-requires : goal.oldest_told-told-requires
oldest_told-told-requires c = c.requires.queued c.args.g.state _ (sym c.next_of-next.ensures ∙ c.in-Waits.is)

pub returns-in-Waits : goal.returns-in-Waits
returns-in-Waits c = let a = c.args in c.by_told.ensures ∙ (ap (λ (t : Told). by_told a.a a.g.state c.in-Waits.e t) c.oldest_told-told.ensures ∙ way_waits a.a a.g _ _ (sym c.next_of-next.ensures ∙ c.in-Waits.is))
