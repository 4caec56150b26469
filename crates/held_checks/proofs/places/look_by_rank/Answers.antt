use Rattle.std.specs.Prelude.{None}
use mathlib.Core.Path.{◌≡◌, sym, ◌∙◌, ap, subst}
use mathlib.Core.Bool.{false}
use mathlib.Core.List.{List, map}
use Prim.Native.Nat.{ℕ, ◌-◌, ◌≤◌, ◌<◌}
use native.Mathlib.Omega.{arith}
use lib.ListN.{length, get_or, length-map}
use Rattle.basis.proofs.Laws.Bools.{or-false}
use Rattle.basis.proofs.Laws.Lists.{unmapped}
use Rattle.plan.specs.declared.Node.{Node}
use Rattle.plan.specs.Plan.{past_node}
use Rattle.run_window.specs.declared.Entry.{Entry}
use Rattle.run_window.specs.declared.Ranked.{Ranked}
use Rattle.run_window.specs.declared.Sought.{Sought}
use Rattle.run_window.specs.Window.{vacant, rank, rank_at}
use Rattle.run_window.specs.Inner.Times.{Named}
use Rattle.run_window.specs.Inner.Search.{is_sought, ranked, kept_by}
use Rattle.run_window.proofs.Laws.Sought.{noticed_held}
use Rattle.run_window.proofs.Laws.Scans.{ranked_from, ranked_none, ranked_turn, ranked_passed, ranked_found}
use Rattle.held.specs.declared.HeldNode.{HeldNode}
use Rattle.held.specs.Held.{entry_of, node_of}
use Rattle.held_checks.proofs.Mapped.{mapped_at}
use Rattle.held_checks.proofs.MappedPlaces.{place_read, time_read}
use Rattle.held_checks.proofs.places.look_by_rank.Goals as goal

-- a turn of the loop, told of the entry that it read
module _ (nodes : List Node) (s : Sought) (w : List Entry) (i : ℕ) (more : 0 < i) (within : i ≤ length w) {e : Entry} (same : e ≡ get_or w (i - 1) vacant) {best : Ranked} (inv : best ≡ ranked_from nodes s w i) where
  passed : is_sought s e ≡ false → best ≡ ranked_from nodes s w (i - 1)
  passed fails = inv ∙ ranked_passed nodes s w vacant i more within (sym (ap (is_sought s) same) ∙ fails)

  turned : {r : ℕ} → r ≡ rank_at nodes e → {k : Ranked} → k ≡ kept_by s (i - 1) e r best → k ≡ ranked_from nodes s w (i - 1)
  turned {r} q kept = kept ∙ ap (λ (x : Entry). kept_by s (i - 1) x r best) same ∙ ranked_turn nodes s w vacant i more within (q ∙ ap (rank_at nodes) same) inv

pub loop-i-init : goal.loop-i-init
loop-i-init c =
    let long : length (map entry_of c.args.rest.window) ≡ 512 = length-map c.args.rest.window entry_of ∙ search unmapped in
    let none : (s : Sought) → ranked None 0 ≡ ranked_from (map node_of c.args.plan.nodes) s (map entry_of c.args.rest.window) 512 = (λ s. ranked_none (map node_of c.args.plan.nodes) s (map entry_of c.args.rest.window) 512 (omega (arith, long))) in
    let a = c.args in
    (omega arith, none (Sought.Overdue a.psi a.t), none (Sought.Late a.psi a.slack a.t), none a.sought)

pub is_noticed-requires : goal.is_noticed-requires
is_noticed-requires c =
    let in-time = time_read c.args.rest.window (c.loop-i.i - 1) c.from-e.ensures c.requires.3 in
    let p = c.requires in (p.0, p.1, p.2, in-time)

-- the entry is none of the three, so what was found behind it stays
pub loop-i-preserved-then-not-is_noticed : goal.loop-i-preserved-then-not-is_noticed
loop-i-preserved-then-not-is_noticed c =
    let long : length (map entry_of c.args.rest.window) ≡ 512 = length-map c.args.rest.window entry_of ∙ search unmapped in
    let read : c.from-e.result ≡ get_or (map entry_of c.args.rest.window) (c.loop-i.i - 1) vacant = place_read c.args.rest.window (c.loop-i.i - 1) c.from-e.ensures in
    let a = c.args in
    let nodes = map node_of a.plan.nodes in
    let w = map entry_of a.rest.window in
    let l = c.loop-i in
    let more = c.loop-i-test.true in
    let within : l.i ≤ length w = omega (arith, long) in
    let none = or-false _ _ (sym c.is_noticed.ensures ∙ c.if-not-is_noticed.true) in
    let rest = or-false _ _ none.1 in (
      omega arith,
      passed nodes (Sought.Overdue a.psi a.t) w l.i more within (read) l.invariant.1 none.0,
      passed nodes (Sought.Late a.psi a.slack a.t) w l.i more within (read) l.invariant.2 rest.0,
      passed nodes a.sought w l.i more within (read) l.invariant.3 rest.1,
    )

pub offset_bounds-held_nodes-k : goal.offset_bounds-held_nodes-k
offset_bounds-held_nodes-k c =
    let read : c.from-e.result ≡ get_or (map entry_of c.args.rest.window) (c.loop-i.i - 1) vacant = place_read c.args.rest.window (c.loop-i.i - 1) c.from-e.ensures in
    let below : c.node_place-k.result < 2048 = let a = c.args in
    let held = noticed_held a.psi a.slack a.t a.sought c.from-e.result (sym c.is_noticed.ensures ∙ c.if-not-is_noticed.false) in
    let n = subst Named (sym (read)) (c.requires.4 (c.loop-i.i - 1)) held in
    omega (arith, c.node_place-k.ensures) in
    let l = below in omega arith

pub bounds-held_nodes-k : goal.bounds-held_nodes-k
bounds-held_nodes-k c =
    let many : length c.args.plan.nodes ≡ 2048 = search unmapped in
    let read : c.from-e.result ≡ get_or (map entry_of c.args.rest.window) (c.loop-i.i - 1) vacant = place_read c.args.rest.window (c.loop-i.i - 1) c.from-e.ensures in
    let below : c.node_place-k.result < 2048 = let a = c.args in
    let held = noticed_held a.psi a.slack a.t a.sought c.from-e.result (sym c.is_noticed.ensures ∙ c.if-not-is_noticed.false) in
    let n = subst Named (sym (read)) (c.requires.4 (c.loop-i.i - 1)) held in
    omega (arith, c.node_place-k.ensures) in
    let l = below in
    let m = many in
    omega arith

pub kept-overdue-requires : goal.kept-overdue-requires
kept-overdue-requires c =
    let in-time = time_read c.args.rest.window (c.loop-i.i - 1) c.from-e.ensures c.requires.3 in
    let p = c.requires in
    (p.0, in-time)

pub kept-late-requires : goal.kept-late-requires
kept-late-requires c =
    let in-time = time_read c.args.rest.window (c.loop-i.i - 1) c.from-e.ensures c.requires.3 in
    let p = c.requires in
    ((p.0, p.1), in-time)

pub kept-best-requires : goal.kept-best-requires
kept-best-requires c =
    let in-time = time_read c.args.rest.window (c.loop-i.i - 1) c.from-e.ensures c.requires.3 in
    let p = c.requires in
    (p.2, in-time)

pub loop-i-preserved : goal.loop-i-preserved
loop-i-preserved c =
    let long : length (map entry_of c.args.rest.window) ≡ 512 = length-map c.args.rest.window entry_of ∙ search (unmapped, c.well_formed) in
    let read : c.from-e.result ≡ get_or (map entry_of c.args.rest.window) (c.loop-i.i - 1) vacant = place_read c.args.rest.window (c.loop-i.i - 1) c.from-e.ensures in
    let many : length c.args.plan.nodes ≡ 2048 = search (unmapped, c.well_formed) in
    let read : c.from-e.result ≡ get_or (map entry_of c.args.rest.window) (c.loop-i.i - 1) vacant = place_read c.args.rest.window (c.loop-i.i - 1) c.from-e.ensures in
    let below : c.node_place-k.result < 2048 = let a = c.args in
    let held = noticed_held a.psi a.slack a.t a.sought c.from-e.result (sym c.is_noticed.ensures ∙ c.if-not-is_noticed.false) in
    let n = subst Named (sym (read)) (c.requires.4 (c.loop-i.i - 1)) held in
    omega (arith, c.node_place-k.ensures) in
    let placed : c.rank-r.result ≡ rank_at (map node_of c.args.plan.nodes) c.from-e.result = let nodes = c.args.plan.nodes in
    let l = below in
    c.rank-r.ensures
    ∙ ap (λ (n : Node). rank n.kind) (c.from-node.ensures ∙ sym (mapped_at HeldNode Node node_of nodes past_node _ c.node_place-k.result (omega (arith, many))))
    ∙ ap (λ (j : ℕ). rank (get_or (map node_of nodes) j past_node).kind) c.node_place-k.ensures in
    let a = c.args in
    let nodes = map node_of a.plan.nodes in
    let w = map entry_of a.rest.window in
    let l = c.loop-i in
    let more = c.loop-i-test.true in
    let within : l.i ≤ length w = omega (arith, long) in
    let r = placed in (
      omega arith,
      turned nodes (Sought.Overdue a.psi a.t) w l.i more within (read) l.invariant.1 r c.kept-overdue.ensures,
      turned nodes (Sought.Late a.psi a.slack a.t) w l.i more within (read) l.invariant.2 r c.kept-late.ensures,
      turned nodes a.sought w l.i more within (read) l.invariant.3 r c.kept-best.ensures,
    )

pub returns : goal.returns
returns c =
    let l = c.loop-i in
    let z : l.i ≡ 0 = omega arith in
    c.seen.ensures ∙ simp (l.invariant.1, l.invariant.2, l.invariant.3, z, ranked_found (map node_of c.args.plan.nodes))
