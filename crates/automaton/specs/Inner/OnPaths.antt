-- What the contracts behind `Laws/OnPaths` cite.
use Rattle.std.specs.Prelude.{ℕ, Ok}
use Rattle.plan.specs.declared.Output.{Output}
use Rattle.plan.specs.declared.Automaton.{Automaton}
use Rattle.plan.specs.declared.Fault.{Fault}
use Rattle.plan.specs.Verdict.{Verdict, faulty}
use Rattle.automaton.specs.Rules.{Breaks25, Breaks26}

pub data OnPaths (a : Automaton) (gives : Output → ℕ → ℕ) : Verdict → Type 0 where
  broken25 : Breaks25 a gives → OnPaths a gives (faulty Fault.Unbalanced 0)
  broken26 : (Breaks25 a gives → ⊥) → Breaks26 a gives → OnPaths a gives (faulty Fault.TooManyPending 0)
  neither : (Breaks25 a gives → ⊥) → (Breaks26 a gives → ⊥) → OnPaths a gives (Ok tt)
