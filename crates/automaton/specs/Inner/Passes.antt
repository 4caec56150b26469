-- What the contracts behind `Laws/Passes` cite.
use Rattle.std.specs.Prelude.{◌≡◌, Bool, true, false, List, ℕ, ◌+◌, ◌*◌, ◌≤◌, ◌<◌, length}
use Rattle.basis.specs.Tests.{flag, falses}
use Rattle.plan.specs.declared.Input.{Input}
use Rattle.plan.specs.declared.Output.{Output}
use Rattle.plan.specs.declared.Automaton.{Automaton}
use Rattle.plan.specs.Plan.{move, is_final}
use Rattle.automaton.specs.Tests.{at}
use Rattle.automaton.specs.Rules.{ToFinal, takes}
use Rattle.automaton.specs.Inner.Counts.{Witness, Ready}

-- ---- back from the final states

-- states known to lead to a final one: D before the pass, E now, i transitions looked at; ch: E is not D
pub record Backing (a : Automaton) (D : List Bool) (i : ℕ) (E : List Bool) (ch : Bool) : Type 0 where
  pub long : length E ≡ 64
  pub sound : (s : ℕ) → s < 64 → flag E s ≡ true → ToFinal a s
  pub finals : (s : ℕ) → s < 64 → is_final a s ≡ true → flag E s ≡ true
  pub no_more : falses E ≤ falses D
  pub fewer : ch ≡ true → falses E < falses D
  pub closed : ch ≡ false → (j : ℕ) → j < i → flag E (move a j).to ≡ true → flag E (move a j).from ≡ true

-- ---- the counts of one state

-- D is C with the first i counts of the state `to` set
pub record Advanced (gives : Output → ℕ → ℕ) (C : List ℕ) (from to : ℕ) (n : Input) (o : Output) (i : ℕ) (D : List ℕ) : Type 0 where
  pub cells : length D ≡ 1024
  pub there : (e : ℕ) → e < i → at D (16 * to + e) + takes n e ≡ at C (16 * from + e) + gives o e
  pub others : (k : ℕ) → ((e : ℕ) → e < i → k ≡ 16 * to + e → ⊥) → at D k ≡ at C k
  pub small : (b : ℕ) → ((k : ℕ) → at C k ≤ b) → (k : ℕ) → at D k ≤ b + 64

-- ---- on from the initial state

-- reached states with their counts: D those before the pass, R and C now, i transitions looked at; ch: R is not D
pub record Going (a : Automaton) (gives : Output → ℕ → ℕ) (D : List Bool) (i : ℕ) (R : List Bool) (C : List ℕ) (ch : Bool) : Type 0 where
  pub long : length R ≡ 64
  pub cells : length C ≡ 1024
  pub known : (s : ℕ) → flag R s ≡ true → (s < a.states) × Witness a gives C s
  pub small : (k : ℕ) → at C k + 64 * falses R ≤ 4096
  pub root : flag R a.initial ≡ true
  pub zero_there : (e : ℕ) → e < 16 → at C (16 * a.initial + e) ≡ 0
  pub no_more : falses R ≤ falses D
  pub fewer : ch ≡ true → falses R < falses D
  pub closed : ch ≡ false → (j : ℕ) → j < i → flag R (move a j).from ≡ true → Ready C (move a j).from (move a j).input → flag R (move a j).to ≡ true
