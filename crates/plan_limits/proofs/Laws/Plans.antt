-- The test `in_limits` tells exactly the plans that are in limits. Assumes nothing.
use Rattle.std.specs.Prelude.{◌≡◌, true, ℕ, ◌<◌, ◌≤◌, get_or}
use native.Mathlib.Omega.{arith}
use Rattle.basis.specs.Inner.Tells.{Tells, holds}
use Rattle.basis.proofs.Laws.Tells.{tells_iff, tells_and, tells_ltb, tells_leb, tells_then}
use Rattle.basis.proofs.Laws.Every.{tells_every}
use Rattle.plan_file.proofs.Laws.Basis.{below_among, among_below}
use Rattle.plan.specs.Plan.{past_node, size_of, outcomes_of, move, is_final}
use Rattle.plan.specs.Limits.{longest, KindNames, NodeInLimits, InputNames, OutputNames, MoveInLimits, node_at, InLimits}
use Rattle.plan.specs.declared.Kind.{Kind}
use Rattle.plan.specs.declared.Node.{Node}
use Rattle.plan.specs.declared.Input.{Input}
use Rattle.plan.specs.declared.Output.{Output}
use Rattle.plan.specs.declared.Transition.{Transition}
use Rattle.plan.specs.declared.Plan.{Plan}
use Rattle.plan_limits.specs.Limits.{kind_names, node_in_limits, slot_in_limits, nodes_in_limits, input_names, output_names, move_in_limits, moves_in_limits, automaton_in_limits, parts_in_limits, in_limits}
use Rattle.plan_limits.proofs.Laws.Tells.{tells_used, tells_within, tells_places}
use Rattle.plan_limits.proofs.Laws.Shift.{tells_finals}

module _ (p : Plan) where
  tells_kind : (k : Kind) → Tells (kind_names p.resources p.peripherals p.events k) (KindNames p k)
  tells_kind (Kind.Action a x) = tells_ltb x p.peripherals
  tells_kind (Kind.Claim r) = tells_ltb r p.resources
  tells_kind (Kind.Release r) = tells_ltb r p.resources
  tells_kind (Kind.Event e) = tells_ltb e p.events

  pub tells_node : (size : ℕ) (n : Node) → Tells (node_in_limits p.resources p.peripherals p.events size n) (NodeInLimits p size n)
  unfolding node_in_limits
  tells_node size n =
      tells_iff (
        λ q. record {
          names = q.0;
          duration = q.1.0;
          few = q.1.1.0;
          arrows = below_among size n.count n.preds (λ i l. (q.1.1.1 i l).1);
        },
        λ r. (r.names, (r.duration, (r.few, λ i l. (omega arith, among_below size n.count n.preds r.arrows i l)))),
      )
      (tells_and (tells_kind n.kind)
      (tells_and (tells_leb n.duration longest)
      (tells_and (tells_leb n.count 8) (tells_within 0 size n.count n.preds))))

  tells_nodes : ((a : ℕ) → a < p.activities → size_of p a ≤ 64) → Tells (nodes_in_limits p.resources p.peripherals p.events p.activities p.sizes p.nodes) ((a n : ℕ) → a < p.activities → n < size_of p a → NodeInLimits p (size_of p a) (node_at p a n))
  unfolding nodes_in_limits slot_in_limits
  tells_nodes fits =
      tells_places 64 p.activities (omega arith) (size_of p) fits
      (λ a n i. slot_in_limits p.resources p.peripherals p.events (size_of p a) n (get_or p.nodes i past_node))
      (λ a n. NodeInLimits p (size_of p a) (node_at p a n))
      (λ a n. tells_used (size_of p a) n (tells_node (size_of p a) (node_at p a n)))

  tells_input : (i : Input) → Tells (input_names p.events p.outcomes i) (InputNames p i)
  tells_input Input.Nothing = holds tt
  tells_input (Input.Outcome e o) = tells_and (tells_ltb e p.events) (tells_ltb o (outcomes_of p e))

  tells_output : (o : Output) → Tells (output_names p.activities o) (OutputNames p o)
  tells_output Output.Empty = holds tt
  tells_output (Output.Activity a) = tells_ltb a p.activities

  pub tells_move : (t : Transition) → Tells (move_in_limits p.automaton.states p.activities p.events p.outcomes t) (MoveInLimits p t)
  unfolding move_in_limits
  tells_move t =
      tells_iff (
        λ q. record { from = q.0; to = q.1.0; input = q.1.1.0; output = q.1.1.1 },
        λ r. (r.from, (r.to, (r.input, r.output))),
      )
      (tells_and (tells_ltb t.from p.automaton.states)
      (tells_and (tells_ltb t.to p.automaton.states) (tells_and (tells_input t.input) (tells_output t.output))))

  abbrev Moves : Type 0
  Moves = (i : ℕ) → i < p.automaton.count → MoveInLimits p (move p.automaton i)

  tells_moves : Tells (moves_in_limits p.automaton.states p.activities p.events p.outcomes p.automaton.count p.automaton.moves) Moves
  unfolding moves_in_limits
  tells_moves =
      tells_every _ (λ i. MoveInLimits p (move p.automaton i)) p.automaton.count
      (λ i l. tells_move (move p.automaton i))

  -- the automaton's part of the record
  pub record Automatic : Type 0 where
    pub states : (1 ≤ p.automaton.states) × (p.automaton.states ≤ 64)
    pub initial : p.automaton.initial < p.automaton.states
    pub finals : (s : ℕ) → is_final p.automaton s ≡ true → s < p.automaton.states
    pub transitions : p.automaton.count ≤ 256
    pub moves : Moves

  tells_automaton : Tells (automaton_in_limits p.activities p.events p.outcomes p.automaton) Automatic
  unfolding automaton_in_limits
  tells_automaton =
      let a = p.automaton in
      tells_iff (
        λ q. record {
          states = (q.0.0, q.0.1.0);
          initial = q.0.1.1.0;
          finals = q.0.1.1.1;
          transitions = q.1.0;
          moves = q.1.1;
        },
        λ r. ((r.states.0, (r.states.1, (r.initial, r.finals))), (r.transitions, r.moves)),
      )
      (tells_and
      (tells_and (tells_leb 1 a.states)
      (tells_and (tells_leb a.states 64)
      (tells_and (tells_ltb a.initial a.states) (tells_finals a.finals a.states))))
      (tells_and (tells_leb a.count 256) tells_moves))

  pub tells_in_limits : Tells (in_limits p) (InLimits p)
  unfolding in_limits parts_in_limits
  tells_in_limits =
      tells_iff (
        λ q. record {
          resources = q.0;
          peripherals = q.1.0;
          belongs = λ x l. (q.1.1.1.1.0 x l).1;
          events = q.1.1.0;
          outcomes = λ e l. let h = q.1.1.1.1.1.0 e l in (h.0, omega arith);
          activities = q.1.1.1.0;
          sizes = λ a l. let h = q.1.1.1.1.1.1.0 a l in (h.0, omega arith);
          nodes = q.1.1.1.1.1.1.1.0;
          states = q.1.1.1.1.1.1.1.1.states;
          initial = q.1.1.1.1.1.1.1.1.initial;
          finals = q.1.1.1.1.1.1.1.1.finals;
          transitions = q.1.1.1.1.1.1.1.1.transitions;
          moves = q.1.1.1.1.1.1.1.1.moves;
        },
        λ r. (
          r.resources,
          (
            r.peripherals,
            (
              r.events,
              (
                r.activities,
                (
                  λ x l. (omega arith, r.belongs x l),
                  (
                    λ e l. let h = r.outcomes e l in (h.0, omega arith),
                    (
                      λ a l. let h = r.sizes a l in (h.0, omega arith),
                      (
                        r.nodes,
                        record {
                          states = r.states;
                          initial = r.initial;
                          finals = r.finals;
                          transitions = r.transitions;
                          moves = r.moves;
                        },
                      ),
                    ),
                  ),
                ),
              ),
            ),
          ),
        ),
      )
      (tells_and (tells_leb p.resources 16)
      (tells_and (tells_leb p.peripherals 64)
      (tells_and (tells_leb p.events 16)
      (tells_and (tells_leb p.activities 32)
      (tells_and (tells_within 0 p.resources p.peripherals p.belongs)
      (tells_and (tells_within 1 9 p.events p.outcomes)
      (tells_then (tells_within 1 65 p.activities p.sizes)
      (λ h. tells_and (tells_nodes (λ a l. let s = (h a l).1 in omega arith)) tells_automaton))))))))
