-- The maps of answers, and of those with a number the numbers that they have.
use Rattle.std.specs.Prelude.{is_ok}
use mathlib.Core.Path.{◌∙◌, ap}
use mathlib.Core.Logic.{inl, inr, ⊎_elim}
use borrow.Author.Tests.{ne_eqb}
use Rattle.link_calls.proofs.replies.is_answer.Goals as goal

pub returns-in-22 : goal.returns-in-22
returns-in-22 c = ⊎_elim (λ e. rw e) (⊎_elim (λ e. rw e) (⊎_elim (λ e. rw e) (λ e. rw e))) c.in-22.is

pub returns-in-32 : goal.returns-in-32
returns-in-32 c = rw c.in-32.is (c.is_ok.ensures.value ∙ ap is_ok c.with_number.ensures)

pub returns-in-38 : goal.returns-in-38
returns-in-38 c = rw c.in-38.is (c.is_ok-in-38.ensures.value ∙ ap is_ok c.with_node.ensures)

pub returns-in_default : goal.returns-in_default
returns-in_default c = let r = c.in_default.in_default-own.rest in let s = r.0.0.1 in rw (ne_eqb _ 0x16 (λ e. s (inr (inl e))), ne_eqb _ 0x00 (λ e. s (inl e)), ne_eqb _ 0x40 (λ e. s (inr (inr (inl e)))), ne_eqb _ 0x80 (λ e. s (inr (inr (inr e)))), ne_eqb _ 0x20 r.0.1, ne_eqb _ 0x26 r.1)
