-- `emitted` meets its contract. Assumes nothing.
use mathlib.Core.Path.{sym, ap, ◌∙◌, subst}
use native.Mathlib.Omega.{arith}
use Rattle.plan.specs.Limits.{OutputNames}
use Rattle.run_path.specs.Inner.Path.{emitted_of}
use Rattle.run_path.proofs.emitted.Goals as goal

pub returns-in-Empty : goal.returns-in-Empty
unfolding emitted_of
returns-in-Empty c = sym (ap (emitted_of c.args.plan) c.in-Empty.is)

pub activity_of-requires : goal.activity_of-requires
activity_of-requires c =
    let l = subst (OutputNames c.args.plan) c.in-Activity.is c.requires.1 in
    (omega (arith, c.requires.0.activities, l), (c.requires.0.sizes _ l).1)

pub returns-in-Activity : goal.returns-in-Activity
unfolding emitted_of
returns-in-Activity c = c.activity_of.ensures ∙ sym (ap (emitted_of c.args.plan) c.in-Activity.is)
