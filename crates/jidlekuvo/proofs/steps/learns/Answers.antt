-- `learns` loads into the window that the numbers stand for, from a plan that differs from theirs in its spare room alone.
use Rattle.std.specs.Prelude.{None}
use native.Mathlib.Omega.{arith}
use mathlib.Core.Path.{◌≡◌, refl, sym, ◌∙◌, ap, subst}
use mathlib.Core.List.{List, map}
use Prim.Native.Nat.{ℕ, ◌*◌, ◌<◌}
use lib.ListN.{length, get_or, set, replicate, drop}
use Rattle.basis.proofs.Laws.Lists.{unmapped}
use Rattle.plan.specs.Plan.{past_node, past_move, move, outcomes_of}
use Rattle.plan.specs.Nodes.{zero_node}
use Rattle.plan.specs.declared.Node.{Node}
use Rattle.plan.specs.declared.Transition.{Transition}
use Rattle.plan.specs.declared.Plan.{Plan}
use Rattle.run_window.specs.declared.Entry.{Entry}
use Rattle.run_window.specs.Window.{vacant}
use Rattle.run_outcomes.specs.Told.{told_of}
use Rattle.run_loading.specs.Loading.{further, most_pending}
use Rattle.run_loading.specs.Inner.Loading.{Loads}
use Rattle.run_loading.proofs.Laws.SpareMoves.{room_loads, room_further}
use Rattle.run.specs.Inner.Effects.{run_at}
use Rattle.run.proofs.Laws.Loaded.{loaded_as_lem}
use Rattle.held.specs.Held.{node_of, move_of, entry_of, plan_of}
use Rattle.held.specs.Inner.Plans.{nodes_upto, moves_upto, plan_upto}
use Rattle.held.proofs.Laws.Upto.{upto_at}
use Rattle.jidlekuvo.specs.Inner.Steps.{stepped_of}
use Rattle.jidlekuvo.proofs.steps.learns.Goals as goal

-- ---- what the plan that was made has

-- ---- what is loaded

pub load-loading-requires : goal.load-loading-requires
load-loading-requires c =
    let read : List Node = nodes_upto (64 * c.args.held.activities) c.args.held.nodes in
    let gone : List Transition = moves_upto c.args.held.count c.args.held.moves in
    let long : length c.args.held.nodes ≡ 2048 = search (unmapped, c.well_formed.1.0) in
    let nodes-same : (i : ℕ) → i < 64 * c.args.held.activities → get_or (plan_of c.args.held).nodes i past_node ≡ get_or (read) i past_node = (λ i l. let h = c.args.held in
    let few = c.requires.0.plan.activities in
    upto_at node_of (64 * h.activities) h.nodes (drop (64 * h.activities) (replicate 2048 zero_node)) past_node i l (omega (arith, long, few))) in
    let wide : length c.args.held.moves ≡ 256 = search (unmapped, c.well_formed.1.0) in
    let moves_same : (i : ℕ) → i < c.args.held.count → move (plan_of c.args.held).automaton i ≡ get_or (gone) i past_move = (λ i l. let h = c.args.held in
    let few = c.requires.0.plan.transitions in
    upto_at move_of h.count h.moves (drop h.count (replicate 256 past_move)) past_move i l (omega (arith, wide, few))) in
    let a = c.args in
    subst (λ (p : Plan). Loads p a.progress × (a.e < p.events) × (a.o < outcomes_of p a.e)) (sym c.plan_upto-plan.ensures)
    (room_loads (plan_of a.held) (read) (gone) c.requires.0.plan (nodes-same) (moves_same) a.progress c.requires.0, c.requires.2, c.requires.3)

pub returns : goal.returns
returns c =
    let read : List Node = nodes_upto (64 * c.args.held.activities) c.args.held.nodes in
    let gone : List Transition = moves_upto c.args.held.count c.args.held.moves in
    let long : length c.args.held.nodes ≡ 2048 = search (unmapped, c.well_formed.1.0) in
    let nodes-same : (i : ℕ) → i < 64 * c.args.held.activities → get_or (plan_of c.args.held).nodes i past_node ≡ get_or (read) i past_node = (λ i l. let h = c.args.held in
    let few = c.requires.0.plan.activities in
    upto_at node_of (64 * h.activities) h.nodes (drop (64 * h.activities) (replicate 2048 zero_node)) past_node i l (omega (arith, long, few))) in
    let wide : length c.args.held.moves ≡ 256 = search (unmapped, c.well_formed.1.0) in
    let moves_same : (i : ℕ) → i < c.args.held.count → move (plan_of c.args.held).automaton i ≡ get_or (gone) i past_move = (λ i l. let h = c.args.held in
    let few = c.requires.0.plan.transitions in
    upto_at move_of h.count h.moves (drop h.count (replicate 256 past_move)) past_move i l (omega (arith, wide, few))) in
    let loaded : let a = c.args in c.load-loading.result ≡ further (plan_of a.held) most_pending (told_of a.progress a.e a.x a.o) (set (map entry_of a.rest.window) a.i vacant) = let a = c.args in
    let g = told_of a.progress a.e a.x a.o in
    let w = c.window_of-window in
    let v = c.vacant-free in
    c.load-loading.ensures
    ∙ ap (λ (p : Plan). further p most_pending g (set w.result a.i v.result)) c.plan_upto-plan.ensures
    ∙ ap (λ (x : List Entry). further (plan_upto a.held) most_pending g (set x a.i v.result)) w.ensures
    ∙ ap (λ (x : Entry). further (plan_upto a.held) most_pending g (set (map entry_of a.rest.window) a.i x)) v.ensures
    ∙ room_further (plan_of a.held) (read) (gone) c.requires.0.plan (nodes-same) (moves_same) most_pending g (set (map entry_of a.rest.window) a.i vacant) in
    let a = c.args in
    c.learnt.ensures
    ∙ ap stepped_of (sym (loaded_as_lem (run_at (plan_of a.held) a.progress (map entry_of a.rest.window) a.m None) refl a.m.t a.i (told_of a.progress a.e a.x a.o) c.load-loading.result (loaded)))
