-- What the activities of a plan emit, as a table.
use Rattle.std.specs.Prelude.{◌≡◌, refl, List, ℕ, ◌<◌}
use Rattle.std.proofs.Common.{sym, ap, ◌∙◌, arith}
use Rattle.std.proofs.Math.Decide.{dec_lt}
use Rattle.plan.specs.declared.Output.{Output}
use Rattle.plan.specs.declared.Plan.{Plan}
use Rattle.plan.specs.Plan.{move, outcomes_of}
use Rattle.plan.specs.Limits.{OutputNames, InLimits}
use Rattle.automaton.specs.Rules.{emits}
use Rattle.automaton.proofs.Laws.Bounds.{in_range, emits_bounded, emits_small}
use Rattle.automaton.specs.Number.{state_verdict, way_verdict, automaton_verdict}
use Rattle.automaton.proofs.Laws.Decides.{way_same}
use Rattle.automaton_counts.specs.Inner.Emits.{gives}
use Rattle.automaton_counts.proofs.Laws.Emits.{gives_at, gives_small, gives_bounded}
use Rattle.automaton_verdict.specs.Inner.Table.{Table}

-- the table says what the plan's transitions emit
pub table_gives : (p : Plan) → InLimits p → (em : List ℕ) → Table p em → (i e : ℕ) → i < p.automaton.count
    → gives em (move p.automaton i).output e ≡ emits p (move p.automaton i).output e
table_gives p h em t i e l = elim (dec_lt e 16) [
  | yes n ↦ go n (move p.automaton i).output (h.moves i l).output
  | no n ↦ gives_bounded p.automaton em i e l (omega arith) ∙ sym (emits_bounded p h i e l (omega arith))
]
  where
    go : e < 16 → (o : Output) → OutputNames p o → gives em o e ≡ emits p o e
    go n Output.Empty x = refl
    go n (Output.Activity k) x = gives_at em k e n ∙ t.counts k e x n

-- the verdict by the table is the verdict on the plan's automaton
pub table_verdict : (p : Plan) → InLimits p → (em : List ℕ) → Table p em
    → state_verdict p.automaton (outcomes_of p) (way_verdict p.automaton (gives em)) ≡ automaton_verdict p
unfolding automaton_verdict
table_verdict p h em t =
    let a = p.automaton in
    ap (state_verdict a (outcomes_of p))
    (way_same a (gives em) (emits p) (in_range p h) (gives_small a em t.few) (gives_bounded a em) (emits_small p h) (emits_bounded p h) (table_gives p h em t))
