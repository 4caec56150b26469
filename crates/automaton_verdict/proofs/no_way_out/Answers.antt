-- `no_way_out` looks at a final state alone.
use Rattle.std.specs.Prelude.{Bool, true, not, cond}
use Rattle.std.proofs.Common.{ap, sym, ◌∙◌}
use Rattle.plan.specs.Plan.{is_final}
use Rattle.automaton.specs.Next.{first_of}
use Rattle.automaton.specs.Number.{is_ended, no_way_out}
use Rattle.automaton_verdict.proofs.Tools.{not_ended}
use Rattle.automaton_verdict.proofs.no_way_out.Goals as goal

pub returns-then-not-is_final : goal.returns-then-not-is_final
unfolding no_way_out
returns-then-not-is_final c =
    let x = c.args in
    let f = ap (is_final x.a.now) (sym c.from.ensures) ∙ sym c.is_final.ensures ∙ c.if-not-is_final.true in
    ap not c.if-not-is_final.true ∙ sym (ap (λ (b : Bool). cond b (is_ended (first_of x.a.now x.s)) true) f)

pub returns-in-Ended : goal.returns-in-Ended
unfolding no_way_out
returns-in-Ended c =
    let x = c.args in
    let f = ap (is_final x.a.now) (sym c.from.ensures) ∙ sym c.is_final.ensures ∙ c.if-not-is_final.false in
    sym (ap (λ (b : Bool). cond b (is_ended (first_of x.a.now x.s)) true) f ∙ ap is_ended (sym c.first_of.ensures ∙ c.in-Ended.is))

pub returns-in_default : goal.returns-in_default
unfolding no_way_out
returns-in_default c =
    let x = c.args in
    let f = ap (is_final x.a.now) (sym c.from.ensures) ∙ sym c.is_final.ensures ∙ c.if-not-is_final.false in
    sym (ap (λ (b : Bool). cond b (is_ended (first_of x.a.now x.s)) true) f ∙ not_ended (first_of x.a.now x.s) (λ e. c.in_default.not-Ended (c.first_of.ensures ∙ e)))
