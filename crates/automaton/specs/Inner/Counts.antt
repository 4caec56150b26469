-- What the contracts behind `Laws/Counts` cite.
use Rattle.std.specs.Prelude.{◌≡◌, Bool, true, cond, List, ℕ, ◌+◌, ◌*◌, ◌≤◌, ◌<◌}
use Rattle.basis.specs.Tests.{flag}
use Rattle.plan.specs.declared.Input.{Input}
use Rattle.plan.specs.declared.Output.{Output}
use Rattle.plan.specs.declared.Transition.{Transition}
use Rattle.plan.specs.declared.Automaton.{Automaton}
use Rattle.plan.specs.Plan.{move, is_final}
use Rattle.automaton.specs.Tests.{at}
use Rattle.automaton.specs.Rules.{Path, takes, processed, emitted}

abbrev pub one : Bool → ℕ
one b = cond b 1 0

-- ---- what the limits of a plan say of its automaton

abbrev pub InputOk : Input → Type 0
InputOk Input.Nothing = Unit {0}
InputOk (Input.Outcome e o) = e < 16

abbrev pub OutputOk : Output → Type 0
OutputOk Output.Empty = Unit {0}
OutputOk (Output.Activity k) = k < 32

pub record MoveOk (states : ℕ) (t : Transition) : Type 0 where
  pub from : t.from < states
  pub to : t.to < states
  pub input : InputOk t.input
  pub output : OutputOk t.output

pub record InRange (a : Automaton) : Type 0 where
  pub states : a.states ≤ 64
  pub count : a.count ≤ 256
  pub initial : a.initial < a.states
  pub moves : (i : ℕ) → i < a.count → MoveOk a.states (move a i)

-- ---- counts at states: those of event e at state s stand at 16 * s + e

-- a path to s whose counts are those of C at s
pub record Witness (a : Automaton) (gives : Output → ℕ → ℕ) (C : List ℕ) (s : ℕ) : Type 0 where
  pub path : Path a a.initial s
  pub counts : (e : ℕ) → e < 16 → emitted a gives e path ≡ at C (16 * s + e) + processed a e path

-- what the input processes is pending in C at s
abbrev pub Ready : List ℕ → ℕ → Input → Type 0
Ready C s Input.Nothing = Unit {0}
Ready C s (Input.Outcome e o) = 0 < at C (16 * s + e)

-- from C at one state to C at another, as to event e
pub record Fitting (gives : Output → ℕ → ℕ) (C : List ℕ) (from to : ℕ) (n : Input) (o : Output) (e : ℕ) : Type 0 where
  pub enough : takes n e ≤ at C (16 * from + e)
  pub same : at C (16 * to + e) + takes n e ≡ at C (16 * from + e) + gives o e

abbrev pub Kept : (Output → ℕ → ℕ) → List ℕ → Transition → ℕ → Type 0
Kept gives C t e = Fitting gives C t.from t.to t.input t.output e

-- the reached states R with their counts C: each has a path with just these counts, and no transition that can be taken leads out of R
pub record Known (a : Automaton) (gives : Output → ℕ → ℕ) (R : List Bool) (C : List ℕ) : Type 0 where
  pub known : (s : ℕ) → flag R s ≡ true → (s < a.states) × Witness a gives C s
  pub small : (k : ℕ) → at C k ≤ 4096
  pub root : flag R a.initial ≡ true
  pub zero_there : (e : ℕ) → e < 16 → at C (16 * a.initial + e) ≡ 0
  pub closed : (j : ℕ) → j < a.count → flag R (move a j).from ≡ true → Ready C (move a j).from (move a j).input → flag R (move a j).to ≡ true

-- all transitions from reached states fit C, or one does not
abbrev pub Keeps : Automaton → (Output → ℕ → ℕ) → List Bool → List ℕ → Type 0
Keeps a gives R C = (i e : ℕ) → i < a.count → e < 16 → flag R (move a i).from ≡ true → Kept gives C (move a i) e

pub record Clash (a : Automaton) (gives : Output → ℕ → ℕ) (R : List Bool) (C : List ℕ) : Type 0 where
  pub index : ℕ
  pub event : ℕ
  pub low : index < a.count
  pub named : event < 16
  pub reached : flag R (move a index).from ≡ true
  pub clash : Kept gives C (move a index) event → ⊥

-- a reached final state with something left
pub record Left (a : Automaton) (R : List Bool) (C : List ℕ) : Type 0 where
  pub state : ℕ
  pub low : state < 64
  pub event : ℕ
  pub named : event < 16
  pub reached : flag R state ≡ true
  pub final : is_final a state ≡ true
  pub some : 0 < at C (16 * state + event)

-- a reached state with more than 8 of an event
pub record Crowd (R : List Bool) (C : List ℕ) : Type 0 where
  pub state : ℕ
  pub low : state < 64
  pub event : ℕ
  pub named : event < 16
  pub reached : flag R state ≡ true
  pub many : 8 < at C (16 * state + event)
