-- Loading reads of a plan's transitions only those that it has: with others in the spare room it loads the same.
use Rattle.std.specs.Prelude.{◌≡◌, List, get_or, Option}
use Rattle.std.proofs.Math.Path.{refl, ap}
use Rattle.std.proofs.Common.{sym, ◌∙◌, subst}
use Prim.Native.Nat.{ℕ, zero, suc, ◌*◌, ◌<◌}
use Rattle.plan.specs.Plan.{past_node, past_move, size_of, emitted_by, move}
use Rattle.plan.specs.Limits.{MoveInLimits, InLimits, node_at}
use Rattle.plan.specs.declared.Node.{Node}
use Rattle.plan.specs.declared.Output.{Output}
use Rattle.plan.specs.declared.Transition.{Transition}
use Rattle.plan.specs.declared.Plan.{Plan}
use Rattle.automaton.specs.Next.{next_of}
use Rattle.automaton.proofs.Laws.Spare.{next_same, chosen_same}
use Rattle.automaton.specs.declared.Next.{Next}
use Rattle.times.specs.declared.Told.{Told}
use Rattle.times.specs.declared.Progress.{Progress}
use Rattle.run_window.specs.declared.Entry.{Entry}
use Rattle.run_path.specs.Path.{Path, path_from, longest_path}
use Rattle.run_path.specs.Pathed.{Leads}
use Rattle.run_path.proofs.Laws.Stepping.{next_leads}
use Rattle.run_outcomes.specs.Told.{oldest_told}
use Rattle.run_outcomes.specs.Way.{by_choice, by_told, way_on}
use Rattle.run_loading.specs.Loading.{load_path, load, further}
use Rattle.run_loading.specs.Inner.Loading.{Loads}
use Rattle.run_loading.proofs.Laws.Loading.{way_from}
use Rattle.run_loading.proofs.Laws.Spare.{with_nodes, loads_same, further_same}
use Rattle.run_loading.proofs.Laws.Alike.{having, node_alike, move_alike, starting, starting_alike, further_alike}

-- the plan with other transitions
abbrev pub with_moves : Plan → List Transition → Plan
with_moves p ms = having p p.nodes ms

-- a transition emits the same nodes
emitted_same : (p : Plan) (ms : List Transition) (o : Output) → emitted_by (with_moves p ms) o ≡ emitted_by p o
emitted_same p ms Output.Empty = refl
emitted_same p ms (Output.Activity a) = refl

module _ (p : Plan) (ms : List Transition) (same : (i : ℕ) → i < p.automaton.count → move p.automaton i ≡ get_or ms i past_move) where
  moves_limits_same : InLimits p → InLimits (with_moves p ms)
  moves_limits_same good = record {
    resources = good.resources;
    peripherals = good.peripherals;
    belongs = good.belongs;
    events = good.events;
    outcomes = good.outcomes;
    activities = good.activities;
    sizes = good.sizes;
    nodes = λ a n l m. node_alike p p.nodes ms (size_of p a) (node_at p a n) (good.nodes a n l m);
    states = good.states;
    initial = good.initial;
    finals = good.finals;
    transitions = good.transitions;
    moves = λ i l. subst (MoveInLimits (with_moves p ms)) (same i l) (move_alike p p.nodes ms (move p.automaton i) (good.moves i l));
  }

  moves_loads_same : (g : Progress) → Loads p g → Loads (with_moves p ms) g
  moves_loads_same g h = record { plan = moves_limits_same h.plan; progress = h.progress }

  -- ---- one path

  path_same : (k : ℕ) (next : Next) → Leads p.automaton.count next → (g : Progress) → path_from (with_moves p ms) k next g ≡ path_from p k next g
  unfolding path_from
  path_same zero next l g = refl
  path_same (suc k) Next.Ended l g = refl
  path_same (suc k) (Next.Waits e) l g = refl
  path_same (suc k) (Next.Goes t) l g =
      let m = move p.automaton t in
      let old : Progress → Path = λ h. path_from p k (next_of p.automaton h.state) h in
      let new : Progress → Path = λ h. path_from (with_moves p ms) k (next_of (with_moves p ms).automaton h.state) h in
      ap (λ (x : Transition). starting p.resources x g new (emitted_by (with_moves p ms) x.output)) (sym (same t l))
      ∙ ap (starting p.resources m g new) (emitted_same p ms m.output)
      ∙ starting_alike p.resources m g (emitted_by p m.output) new old
      (λ h. ap (λ (n : Next). path_from (with_moves p ms) k n h) (next_same p.automaton ms same h.state) ∙ path_same k (next_of p.automaton h.state) (next_leads p.automaton h.state) h)

  load_same : (next : Next) → Leads p.automaton.count next → (g : Progress) (w : List Entry) → load (with_moves p ms) next g w ≡ load p next g w
  unfolding load
  load_same next l g w = ap (load_path g w) (path_same longest_path next l g)

  -- ---- further paths

  -- the way on by what was reported, and by what the state does next
  told_same : (s e : ℕ) (t : Told) → by_told (with_moves p ms).automaton s e t ≡ by_told p.automaton s e t
  told_same s e Told.Nothing = refl
  told_same s e (Told.Outcome o) = ap (λ (c : Option ℕ). by_choice c e) (chosen_same p.automaton ms same s e o)

  on_same : (g : Progress) (n : Next) → way_on (with_moves p ms).automaton g n ≡ way_on p.automaton g n
  unfolding way_on
  on_same g Next.Ended = refl
  on_same g (Next.Goes t) = refl
  on_same g (Next.Waits e) = told_same g.state e (oldest_told g e)

  way_same : (g : Progress) → way_from (with_moves p ms) g ≡ way_from p g
  way_same g = ap (way_on (with_moves p ms).automaton g) (next_same p.automaton ms same g.state) ∙ on_same g (next_of p.automaton g.state)

  moves_further_same : (k : ℕ) (g : Progress) (w : List Entry) → further (with_moves p ms) k g w ≡ further p k g w
  moves_further_same = further_alike p (with_moves p ms) (λ t. load_same (Next.Goes t)) way_same

-- ---- other nodes and transitions in the spare room

module _ (p : Plan) (ns : List Node) (ms : List Transition) (good : InLimits p) (nodes : (i : ℕ) → i < 64 * p.activities → get_or p.nodes i past_node ≡ get_or ns i past_node) (moves : (i : ℕ) → i < p.automaton.count → move p.automaton i ≡ get_or ms i past_move) where
  pub room_loads : (g : Progress) → Loads p g → Loads (having p ns ms) g
  room_loads g h = moves_loads_same (with_nodes p ns) ms moves g (loads_same p ns good nodes g h)

  pub room_further : (k : ℕ) (g : Progress) (w : List Entry) → further (having p ns ms) k g w ≡ further p k g w
  room_further k g w = moves_further_same (with_nodes p ns) ms moves k g w ∙ further_same p ns good nodes k g w
