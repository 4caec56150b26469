-- `serves` answers by what the state does next.
use Rattle.std.specs.Prelude.{ℕ}
use Rattle.std.specs.Option.{is_some}
use Rattle.std.proofs.Common.{ap, sym, ◌∙◌, arith}
use Rattle.automaton.specs.Tests.{at, all}
use Rattle.automaton.specs.Next.{first_of, chosen_of}
use Rattle.automaton.specs.Number.{serves_next, serves}
use Rattle.automaton_verdict.proofs.Tools.{awaited_low, no_event}
use Rattle.automaton_verdict.proofs.serves.Goals as goal

pub bounds-outcomes-from : goal.bounds-outcomes-from
bounds-outcomes-from c =
    omega (arith, c.from.ensures, awaited_low c.args.a.now c.requires c.args.s c.in-Waits.e (sym c.first_of.ensures ∙ c.in-Waits.is))

pub returns-in-Waits : goal.returns-in-Waits
unfolding serves
returns-in-Waits c =
    let a = c.args.a.now in
    let o = at c.args.outcomes.now in
    c.serves_all.ensures ∙ ap (λ (k : ℕ). all (o k) (λ q. is_some (chosen_of a c.args.s c.in-Waits.e q))) c.from.ensures ∙ sym (ap (serves_next a o c.args.s) (sym c.first_of.ensures ∙ c.in-Waits.is))

pub returns-in_default : goal.returns-in_default
unfolding serves
returns-in_default c =
    let a = c.args.a.now in
    sym (no_event a (at c.args.outcomes.now) c.args.s (first_of a c.args.s) (λ e h. c.in_default.not-Waits e (c.first_of.ensures ∙ h)))
