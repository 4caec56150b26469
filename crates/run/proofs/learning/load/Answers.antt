-- `load` stores the outcome and loads the next paths.
use mathlib.Core.Path.{◌∙◌, ap}
use native.Mathlib.Omega.{arith}
use Rattle.times.specs.declared.Progress.{Progress}
use Rattle.run_loading.specs.Loading.{further, most_pending}
use Rattle.run.proofs.Telling.{told_loads}
use Rattle.run.proofs.learning.load.Goals as goal

pub told_of-told-requires : goal.told_of-told-requires
told_of-told-requires c = (omega (arith, c.requires.0.plan.events, c.requires.1), c.requires.0.progress.lengths _ c.requires.1)

pub further-requires : goal.further-requires
further-requires c = told_loads c.args.plan c.args.before c.requires.0 _ c.requires.1 _ c.requires.2 c.args.x _ c.told_of-told.ensures

pub returns : goal.returns
returns c =
    let a = c.args in
    c.further.ensures ∙ ap (λ (y : Progress). further a.plan most_pending y a.window) c.told_of-told.ensures
