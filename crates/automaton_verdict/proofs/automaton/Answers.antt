-- `automaton` answers the first of the numbers 21 to 26 that is broken.
use mathlib.Core.Path.{sym, ap, ◌∙◌}
use Rattle.std.proofs.lemmas.Result.{err_from_is_err_and}
use Rattle.plan.specs.Verdict.{Verdict}
use Rattle.automaton.specs.Tests.{at}
use Rattle.automaton.specs.Number.{way_verdict}
use Rattle.automaton_counts.specs.Inner.Emits.{gives}
use Rattle.automaton_verdict.proofs.Tools.{and_then, state_then}
use Rattle.automaton_verdict.proofs.automaton.Goals as goal

pub returns-in_err-state_verdict : goal.returns-in_err-state_verdict
returns-in_err-state_verdict c =
    let s = c.args in
    let after = way_verdict s.a (gives s.emits.now) in
    let p = err_from_is_err_and c.from_residual.result c.from_residual.ensures.1 in
    rw (p.1, p.2) (sym (state_then s.a (at s.outcomes) after ∙ ap (λ (v : Verdict). and_then v after) (sym c.state_verdict.ensures ∙ c.in_err-state_verdict.was)))

pub returns : goal.returns
returns c =
    let s = c.args in
    let after = way_verdict s.a (gives s.emits.now) in
    c.ways.ensures ∙ sym (state_then s.a (at s.outcomes) after ∙ ap (λ (v : Verdict). and_then v after) (sym c.state_verdict.ensures ∙ c.in_ok-state_verdict.was))
