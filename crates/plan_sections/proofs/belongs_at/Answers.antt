-- The numbers, each a resource.
use lib.ListN.{replicate}
use mathlib.Core.Path.{sym, ◌∙◌}
use Rattle.plan.specs.Fields.{found}
use Rattle.plan.specs.Sections.{belongs_at}
use Rattle.plan.specs.declared.Fault.{Fault}
use Rattle.plan.specs.declared.fields.Peripherals.{Peripherals}
use Rattle.plan_sections.proofs.Loops.{numbers_named}
use Rattle.plan_sections.proofs.belongs_at.Goals as goal

pub returns : goal.returns
unfolding belongs_at
returns c =
    let e = sym c.numbers.ensures ∙ c.in_ok-belongs.was in
    rw (numbers_named 0 c.args.resources Fault.Names c.args.bytes.now (λ next belongs. found {A = Peripherals} (record { count = c.args.count; belongs = belongs }) next) c.args.count c.args.at 0 (replicate 64 0), ← c.from.ensures, e)
