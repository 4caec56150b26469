-- What a state does next, and the transition that an outcome takes, are of its own transitions; an awaited event is one of the
-- plan's. Assumes nothing.
use Rattle.std.specs.Prelude.{◌≡◌, ℕ, ◌<◌, Some}
use Rattle.std.proofs.Common.{subst}
use Rattle.plan.specs.declared.Input.{Input}
use Rattle.plan.specs.declared.Automaton.{Automaton}
use Rattle.plan.specs.declared.Plan.{Plan}
use Rattle.plan.specs.Plan.{move}
use Rattle.plan.specs.Limits.{InputNames, InLimits}
use Rattle.automaton.specs.declared.Next.{Next}
use Rattle.automaton.specs.Rules.{Leaves, Processes}
use Rattle.automaton.specs.Next.{next_of, chosen_of}
use Rattle.automaton.proofs.Laws.States.{ChosenIs, moves, chosen_is}
use Rattle.automaton.proofs.Laws.Ways.{NextIs, alone, silent, waits, next_is}

-- the transition of a state that goes on
pub next_leaves : (a : Automaton) (s t : ℕ) → next_of a s ≡ Next.Goes t → Leaves a s t
next_leaves a s t e = by (subst (NextIs a s) e (next_is a s))
  where
    by : NextIs a s (Next.Goes t) → Leaves a s t
    by (alone l h) = l
    by (silent l h x) = l

-- the transition that an outcome chooses
pub chosen_leaves : (a : Automaton) (s e o t : ℕ) → chosen_of a s e o ≡ Some t → Leaves a s t × ((move a t).input ≡ Input.Outcome e o)
chosen_leaves a s e o t h = by (subst (ChosenIs a s e o) h (chosen_is a s e o))
  where
    by : ChosenIs a s e o (Some t) → Leaves a s t × ((move a t).input ≡ Input.Outcome e o)
    by (moves l i) = (l, i)

-- a state that awaits an event has a transition that processes it
pub awaited : (a : Automaton) (s e : ℕ) → next_of a s ≡ Next.Waits e → (o : ℕ) × Processes a s e o
awaited a s e h = by (subst (NextIs a s) h (next_is a s))
  where
    by : NextIs a s (Next.Waits e) → (o : ℕ) × Processes a s e o
    by (waits o x y) = (o, x)

pub awaited_below : (p : Plan) → InLimits p → (s e : ℕ) → next_of p.automaton s ≡ Next.Waits e → e < p.events
awaited_below p limits s e h =
    let x = (awaited p.automaton s e h).1 in
    (subst (InputNames p) x.input (limits.moves x.index x.leaves.low).input).0
