-- What the limits of a plan say of its automaton and of what its activities emit.
use Rattle.std.specs.Prelude.{◌≡◌, refl, List, ℕ, zero, suc, ◌+◌, ◌*◌, ◌≤◌, ◌<◌, get_or}
use Rattle.std.proofs.Common.{ap, subst, arith, ne_eqb}
use Rattle.basis.specs.Parts.{part}
use Rattle.plan.specs.declared.Kind.{Kind}
use Rattle.plan.specs.declared.Node.{Node}
use Rattle.plan.specs.declared.Input.{Input}
use Rattle.plan.specs.declared.Output.{Output}
use Rattle.plan.specs.declared.Plan.{Plan}
use Rattle.plan.specs.Plan.{past_node, size_of, is_event, events_in, move}
use Rattle.plan.specs.Limits.{KindNames, InputNames, OutputNames, InLimits, node_at}
use Rattle.automaton.specs.Rules.{emits}
use Rattle.automaton.proofs.Laws.Counts.{one-le}
use Rattle.automaton.proofs.Laws.Works.{Small}
use Rattle.automaton.specs.Inner.Counts.{one, InputOk, OutputOk, InRange}
use Rattle.automaton.proofs.Laws.Counts.{Bounded}

input_ok : (p : Plan) → p.events ≤ 16 → (n : Input) → InputNames p n → InputOk n
input_ok p h Input.Nothing l = tt
input_ok p h (Input.Outcome e o) l = omega (arith, l.0)

output_ok : (p : Plan) → p.activities ≤ 32 → (o : Output) → OutputNames p o → OutputOk o
output_ok p h Output.Empty l = tt
output_ok p h (Output.Activity k) l = omega arith

pub in_range : (p : Plan) → InLimits p → InRange p.automaton
in_range p h = record {
  states = h.states.1;
  count = h.transitions;
  initial = h.initial;
  moves = λ i l.
      let m = h.moves i l in
      record { from = m.from; to = m.to; input = input_ok p h.events (move p.automaton i).input m.input; output = output_ok p h.activities (move p.automaton i).output m.output };
}

pub events_le : (e : ℕ) (d : Node) (l : List Node) (i k : ℕ) → events_in e (part d l i k) ≤ k
events_le e d l i zero = omega arith
events_le e d l i (suc k) = omega (arith, one-le (is_event e (get_or l i d).kind), events_le e d l (i + 1) k)

events_none : (e : ℕ) (d : Node) (l : List Node) (i k : ℕ) → ((j : ℕ) → j < k → one (is_event e (get_or l (i + j) d).kind) ≡ 0) → events_in e (part d l i k) ≡ 0
events_none e d l i zero h = refl
events_none e d l i (suc k) h =
    let z : i + 0 ≡ i = omega arith in
    let here = subst (λ (n : ℕ). one (is_event e (get_or l n d).kind) ≡ 0) z (h 0 (omega arith)) in
    let rest = events_none e d l (i + 1) k (λ j m. let y : i + (j + 1) ≡ i + 1 + j = omega arith in subst (λ (n : ℕ). one (is_event e (get_or l n d).kind) ≡ 0) y (h (j + 1) (omega arith))) in
    omega arith

other_event : (p : Plan) (e : ℕ) (k : Kind) → p.events ≤ e → KindNames p k → one (is_event e k) ≡ 0
other_event p e (Kind.Action n x) h l = refl
other_event p e (Kind.Claim r) h l = refl
other_event p e (Kind.Release r) h l = refl
other_event p e (Kind.Event f) h l = ap one (ne_eqb f e (λ z. omega arith))

module _ (p : Plan) (h : InLimits p) where
  pub emits_bounded : Bounded p.automaton (emits p)
  emits_bounded i e l m = go (move p.automaton i).output (h.moves i l).output
    where
      go : (o : Output) → OutputNames p o → emits p o e ≡ 0
      go Output.Empty x = refl
      go (Output.Activity k) x = events_none e past_node p.nodes (64 * k) (size_of p k) (λ j y. other_event p e (node_at p k j).kind (omega (arith, h.events)) (h.nodes k j x y).names)

  pub emits_small : Small p.automaton (emits p)
  emits_small i e l = go (move p.automaton i).output (h.moves i l).output
    where
      go : (o : Output) → OutputNames p o → emits p o e ≤ 64
      go Output.Empty x = omega arith
      go (Output.Activity k) x = omega (arith, events_le e past_node p.nodes (64 * k) (size_of p k), (h.sizes k x).1)
