-- The maps of calls, and no other.
use mathlib.Core.Logic.{inl, inr, ⊎_elim}
use borrow.Author.Tests.{ne_eqb}
use Rattle.link_calls.proofs.calls.is_call.Goals as goal

pub returns-in-1 : goal.returns-in-1
returns-in-1 c = ⊎_elim (λ e. rw e) (⊎_elim (λ e. rw e) (λ e. rw e)) c.in-1.is

pub returns-in_default : goal.returns-in_default
returns-in_default c = let r = c.in_default.in_default-own.rest.1 in rw (ne_eqb _ 0x01 (λ e. r (inl e)), ne_eqb _ 0x07 (λ e. r (inr (inl e))), ne_eqb _ 0x0F (λ e. r (inr (inr e))))
