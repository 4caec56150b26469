-- The message of each stop.
use mathlib.Core.Path.{◌∙◌, ap}
use mathlib.Core.Logic.{inl, inr}
use Rattle.run.specs.Numbers.{stop_number}
use Rattle.link_calls.specs.Replies.{plain, named}
use Rattle.link_calls.proofs.replies.of_stop.Goals as goal

pub returns-in-Late : goal.returns-in-Late
returns-in-Late c =
    elim c.in-Late.is [
      | inl e ↦ rw e (c.named.ensures ∙ ap (named _ _) (c.stop_number-x.ensures ∙ ap stop_number e))
      | inr e ↦ rw e (c.named.ensures ∙ ap (named _ _) (c.stop_number-x.ensures ∙ ap stop_number e))
    ]

pub returns-in-Full : goal.returns-in-Full
returns-in-Full c =
    elim c.in-Full.is [
      | inl e ↦ rw e (c.plain.ensures ∙ ap (plain 0x20) (c.stop_number-x.ensures ∙ ap stop_number e))
      | inr e ↦ rw e (c.plain.ensures ∙ ap (plain 0x20) (c.stop_number-x.ensures ∙ ap stop_number e))
    ]
