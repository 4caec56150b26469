-- `is_empty` tells whether every place is free.
use Rattle.std.proofs.Common.{rules, refl}
use Rattle.std.proofs.lemmas.List.Recursion.{and_is}
use Rattle.run_window.specs.Window.{vacant, is_free, is_empty}
use Rattle.run_window.proofs.places.is_empty.Goals as goal

pub returns : goal.returns
unfolding is_empty
returns c = and_is is_empty (λ e. is_free e.phase) refl (λ e es. refl) c.args.window vacant _ (search rules) (search rules)
