-- `ready` answers by the case of the input.
use Rattle.std.specs.Prelude.{◌≡◌, ℕ, ◌+◌, ◌*◌, ◌<◌, ltb}
use Rattle.std.proofs.Common.{sym, subst, arith}
use Rattle.basis.specs.Inner.Tells.{holds, Tells}
use Rattle.basis.proofs.Laws.Tells.{tells_ltb}
use Rattle.plan.specs.declared.Input.{Input}
use Rattle.automaton.specs.Tests.{at}
use Rattle.automaton.specs.Inner.Counts.{Ready}
use Rattle.automaton_counts.proofs.counting.ready.Goals as goal

pub returns-in-Nothing : goal.returns-in-Nothing
returns-in-Nothing c = holds (subst (λ (n : Input). Ready c.args.counts.now c.args.t.now.from n) (sym c.in-Nothing.is) tt)

pub returns-in-Outcome : goal.returns-in-Outcome
returns-in-Outcome c =
    let C = c.args.counts.now in
    let w = 16 * c.from.result + c.from-in-Outcome.result in
    let e : w ≡ 16 * c.args.t.now.from + c.in-Outcome.f = omega arith in
    rw c.in-Outcome.is (subst (λ (k : ℕ). Tells (ltb 0 (at C w)) (0 < at C k)) e (tells_ltb 0 (at C w)))
