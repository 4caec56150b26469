-- Loading reads of a plan's nodes only those of its activities: with other nodes in the spare room it loads the same.
use Rattle.std.specs.Prelude.{◌≡◌, List, get_or}
use Rattle.std.proofs.Math.Path.{refl, ap}
use Rattle.std.proofs.Common.{sym, ◌∙◌, subst, arith}
use Prim.Native.Nat.{ℕ, zero, suc, ◌+◌, ◌*◌, ◌<◌}
use Rattle.basis.proofs.Laws.Parts.{part_same}
use Rattle.plan.specs.Plan.{past_node, size_of, emitted_by, move}
use Rattle.plan.specs.Limits.{NodeInLimits, OutputNames, InLimits, node_at}
use Rattle.plan.specs.declared.Node.{Node}
use Rattle.plan.specs.declared.Output.{Output}
use Rattle.plan.specs.declared.Plan.{Plan}
use Rattle.automaton.specs.Next.{next_of}
use Rattle.automaton.specs.declared.Next.{Next}
use Rattle.times.specs.declared.Progress.{Progress}
use Rattle.run_window.specs.declared.Entry.{Entry}
use Rattle.run_path.specs.Path.{Path, path_from, longest_path}
use Rattle.run_path.specs.Pathed.{Leads}
use Rattle.run_path.proofs.Laws.Stepping.{next_leads}
use Rattle.run_loading.specs.Loading.{load_path, load, further}
use Rattle.run_loading.specs.Inner.Loading.{Loads}
use Rattle.run_loading.proofs.Laws.Alike.{having, node_alike, move_alike, starting, starting_alike, further_alike}

-- the plan with other nodes
abbrev pub with_nodes : Plan → List Node → Plan
with_nodes p ns = having p ns p.automaton.moves

module _ (p : Plan) (ns : List Node) (good : InLimits p) (same : (i : ℕ) → i < 64 * p.activities → get_or p.nodes i past_node ≡ get_or ns i past_node) where
  -- the places of an activity's nodes are among those that are the same
  inside : (a n : ℕ) → a < p.activities → n < size_of p a → 64 * a + n < 64 * p.activities
  inside a n l m = let u = (good.sizes a l).1 in omega arith

  pub limits_same : InLimits (with_nodes p ns)
  limits_same = record {
    resources = good.resources;
    peripherals = good.peripherals;
    belongs = good.belongs;
    events = good.events;
    outcomes = good.outcomes;
    activities = good.activities;
    sizes = good.sizes;
    nodes = λ a n l m. subst (NodeInLimits (with_nodes p ns) (size_of p a)) (same (64 * a + n) (inside a n l m)) (node_alike p ns p.automaton.moves (size_of p a) (node_at p a n) (good.nodes a n l m));
    states = good.states;
    initial = good.initial;
    finals = good.finals;
    transitions = good.transitions;
    moves = λ i l. move_alike p ns p.automaton.moves (move p.automaton i) (good.moves i l);
  }

  pub loads_same : (g : Progress) → Loads p g → Loads (with_nodes p ns) g
  loads_same g h = record { plan = limits_same; progress = h.progress }

  -- ---- one path

  emitted_same : (o : Output) → OutputNames p o → emitted_by (with_nodes p ns) o ≡ emitted_by p o
  emitted_same Output.Empty l = refl
  emitted_same (Output.Activity a) l = part_same past_node ns p.nodes (size_of p a) (64 * a) (64 * a) (λ n m. sym (same (64 * a + n) (inside a n l m)))

  path_same : (k : ℕ) (next : Next) → Leads p.automaton.count next → (g : Progress) → path_from (with_nodes p ns) k next g ≡ path_from p k next g
  unfolding path_from
  path_same zero next l g = refl
  path_same (suc k) Next.Ended l g = refl
  path_same (suc k) (Next.Waits e) l g = refl
  path_same (suc k) (Next.Goes t) l g =
      let m = move p.automaton t in
      let old : Progress → Path = λ h. path_from p k (next_of p.automaton h.state) h in
      let new : Progress → Path = λ h. path_from (with_nodes p ns) k (next_of p.automaton h.state) h in
      ap (starting p.resources m g new) (emitted_same m.output (good.moves t l).output)
      ∙ starting_alike p.resources m g (emitted_by p m.output) new old (λ h. path_same k (next_of p.automaton h.state) (next_leads p.automaton h.state) h)

  load_same : (next : Next) → Leads p.automaton.count next → (g : Progress) (w : List Entry) → load (with_nodes p ns) next g w ≡ load p next g w
  unfolding load
  load_same next l g w = ap (load_path g w) (path_same longest_path next l g)

  -- ---- further paths

  pub further_same : (k : ℕ) (g : Progress) (w : List Entry) → further (with_nodes p ns) k g w ≡ further p k g w
  further_same = further_alike p (with_nodes p ns) (λ t. load_same (Next.Goes t)) (λ g. refl)
