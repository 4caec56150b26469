-- What the contracts behind `Laws/Emits` cite.
use Rattle.std.specs.Prelude.{◌≡◌, Bool, true, cond, List, ℕ, ◌+◌, ◌*◌, ◌≤◌, ◌<◌, ltb, length}
use Rattle.basis.specs.Tests.{flag}
use Rattle.plan.specs.declared.Output.{Output}
use Rattle.plan.specs.declared.Transition.{Transition}
use Rattle.plan.specs.declared.Automaton.{Automaton}
use Rattle.plan.specs.Verdict.{Verdict}
use Rattle.plan.specs.Plan.{final_bit}
use Rattle.automaton.specs.Tests.{at}
use Rattle.automaton.specs.Rules.{ToFinal, EveryState}
use Rattle.automaton.specs.Inner.Counts.{Kept}
use Rattle.automaton.specs.Inner.OnPaths.{OnPaths}

-- how many of event e the output emits, by the table
abbrev pub gives : List ℕ → Output → ℕ → ℕ
gives em Output.Empty e = 0
gives em (Output.Activity k) e = cond (ltb e 16) (at em (16 * k + e)) 0

-- no activity has more than 64 nodes
abbrev pub Few : List ℕ → Type 0
Few em = (k : ℕ) → at em k ≤ 64

-- of the flags only the first `states` may stand
abbrev pub Within : ℕ → List Bool → Type 0
Within states R = (s : ℕ) → flag R s ≡ true → s < states

-- the final-state bits as flags
pub record Finals (finals : ℕ) (D : List Bool) : Type 0 where
  pub long : length D ≡ 64
  pub bits : (s : ℕ) → s < 64 → flag D s ≡ final_bit finals s

-- an event of which the transition does not bring the counts of one state to those of the other
pub record Unkept (gives : Output → ℕ → ℕ) (C : List ℕ) (t : Transition) : Type 0 where
  pub event : ℕ
  pub named : event < 16
  pub clash : Kept gives C t event → ⊥

-- where every state has a path to a final one, the verdict on numbers 25 and 26
abbrev pub Judged : Automaton → List ℕ → Verdict → Type 0
Judged a em v = EveryState a (ToFinal a) → OnPaths a (gives em) v
