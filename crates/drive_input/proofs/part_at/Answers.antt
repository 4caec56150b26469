-- Which part it is, by its kind.
use mathlib.Core.Path.{◌∙◌}
use native.Mathlib.Omega.{arith}
use Rattle.drive_input.proofs.Offsets.{no_part, is_ask, is_completion, is_outcome, is_place, no_kind}
use Rattle.drive_input.proofs.part_at.Goals as goal

pub returns-then-at-input : goal.returns-then-at-input
returns-then-at-input c = let a = c.args in no_part a.input.now a.at (omega arith)

pub returns-in-0 : goal.returns-in-0
returns-in-0 c = let a = c.args in c.ask_at.ensures ∙ is_ask a.input.now a.at (omega arith) c.in-0.is

pub returns-in-1 : goal.returns-in-1
returns-in-1 c = let a = c.args in c.completion_at.ensures ∙ is_completion a.input.now a.at (omega arith) c.in-1.is

pub returns-in-2 : goal.returns-in-2
returns-in-2 c = let a = c.args in c.outcome_at.ensures ∙ is_outcome a.input.now a.at (omega arith) c.in-2.is

pub returns-in-3 : goal.returns-in-3
returns-in-3 c = let a = c.args in c.place_at.ensures ∙ is_place a.input.now a.at (omega arith) c.in-3.is

pub returns-in_default : goal.returns-in_default
returns-in_default c = let a = c.args in no_kind a.input.now a.at (omega arith) (λ e. omega arith) (λ e. omega arith) (λ e. omega arith) (λ e. omega arith)
