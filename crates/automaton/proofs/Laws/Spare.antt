-- Of an automaton's transitions only those that it has are read: with others in the spare room each state has the same ways out, does
-- the same next, and takes the same transition for an outcome. Assumes nothing.
use Rattle.std.specs.Prelude.{◌≡◌, refl, List, [], ◌∷◌, ℕ, ◌+◌, ◌<◌, get_or}
use Rattle.std.proofs.Common.{sym, ap, ◌∙◌, arith}
use Rattle.basis.proofs.Laws.Parts.{part_same}
use Rattle.plan.specs.declared.Transition.{Transition}
use Rattle.plan.specs.declared.Automaton.{Automaton}
use Rattle.plan.specs.Plan.{past_move, move, moves_of}
use Rattle.automaton.specs.Next.{ways_from, ways_out, on_input, next_by, next_of, chosen_from, chosen_of}
use Rattle.automaton.proofs.Laws.Ways.{Ways, more, ways_out_lem}

-- the automaton with other transitions
abbrev pub with_moves : Automaton → List Transition → Automaton
with_moves a ms = record { states = a.states; initial = a.initial; finals = a.finals; count = a.count; moves = ms }

module _ (a : Automaton) (ms : List Transition) (same : (i : ℕ) → i < a.count → move a i ≡ get_or ms i past_move) where
  moves_same : moves_of (with_moves a ms) ≡ moves_of a
  moves_same = part_same past_move ms a.moves a.count 0 0 (λ n l. sym (same (0 + n) (omega arith)))

  pub ways_same : (s : ℕ) → ways_out (with_moves a ms) s ≡ ways_out a s
  ways_same s = ap (λ (ts : List Transition). ways_from ts s 0) moves_same

  pub chosen_same : (s e o : ℕ) → chosen_of (with_moves a ms) s e o ≡ chosen_of a s e o
  chosen_same s e o = ap (λ (ts : List Transition). chosen_from ts s e o 0) moves_same

  -- what the ways out say, of which each is a transition of the automaton
  by_same : (s : ℕ) (ts : List ℕ) → Ways a s 0 ts → next_by (with_moves a ms) ts ≡ next_by a ts
  by_same s [] w = refl
  by_same s (t ∷ []) w = refl
  by_same s (t ∷ u ∷ ts) (more l m h w) = ap (λ (x : Transition). on_input x.input t) (sym (same t l.low))

  pub next_same : (s : ℕ) → next_of (with_moves a ms) s ≡ next_of a s
  next_same s = ap (next_by (with_moves a ms)) (ways_same s) ∙ by_same s (ways_out a s) (ways_out_lem a s)
