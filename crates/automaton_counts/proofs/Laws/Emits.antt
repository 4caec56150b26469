-- What the activities emit, as a table: at 16 * activity + event stands how many of the event the activity emits.
use Rattle.std.specs.Prelude.{◌≡◌, refl, Bool, true, false, cond, List, ℕ, ◌+◌, ◌*◌, ◌≤◌, ◌<◌, ltb}
use Rattle.std.proofs.Common.{ap, arith, lt-ltb, le-ltb}
use Rattle.plan.specs.declared.Output.{Output}
use Rattle.plan.specs.declared.Automaton.{Automaton}
use Rattle.automaton.specs.Tests.{at}
use Rattle.plan.specs.Plan.{move}
use Rattle.automaton.proofs.Laws.Works.{Small}
use Rattle.automaton.proofs.Laws.Counts.{Bounded}
use Rattle.automaton_counts.specs.Inner.Emits.{gives, Few}

-- ---- the table

-- one of the events 0 to 15
pub gives_at : (em : List ℕ) (k e : ℕ) → e < 16 → gives em (Output.Activity k) e ≡ at em (16 * k + e)
gives_at em k e l = ap (λ (b : Bool). cond b (at em (16 * k + e)) 0) (lt-ltb e 16 l)

pub gives_few : (em : List ℕ) (o : Output) (e : ℕ) → Few em → gives em o e ≤ 64
gives_few em Output.Empty e h = omega arith
gives_few em (Output.Activity k) e h = go (ltb e 16)
  where
    go : (b : Bool) → cond b (at em (16 * k + e)) 0 ≤ 64
    go true = h (16 * k + e)
    go false = omega arith

pub gives_small : (a : Automaton) (em : List ℕ) → Few em → Small a (gives em)
gives_small a em h i e l = gives_few em (move a i).output e h

pub gives_bounded : (a : Automaton) (em : List ℕ) → Bounded a (gives em)
gives_bounded a em i e l m = go (move a i).output
  where
    go : (o : Output) → gives em o e ≡ 0
    go Output.Empty = refl
    go (Output.Activity k) = ap (λ (b : Bool). cond b (at em (16 * k + e)) 0) (le-ltb e 16 m)
