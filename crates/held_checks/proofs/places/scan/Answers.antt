use mathlib.Core.Path.{◌≡◌, sym, ◌∙◌, ap, subst}
use mathlib.Core.Bool.{false}
use mathlib.Core.List.{List, map}
use Prim.Native.Nat.{ℕ, ◌-◌, ◌≤◌, ◌<◌}
use native.Mathlib.Omega.{arith}
use lib.ListN.{length, get_or, length-map}
use Rattle.basis.proofs.Laws.Bools.{or-false}
use Rattle.basis.proofs.Laws.Lists.{unmapped}
use Rattle.run_window.specs.declared.Entry.{Entry}
use Rattle.run_window.specs.declared.Ranked.{Ranked}
use Rattle.run_window.specs.declared.Sought.{Sought}
use Rattle.run_window.specs.Window.{vacant}
use Rattle.run_window.specs.Inner.Search.{is_sought, kept_by}
use Rattle.run_window.proofs.Laws.Scans.{Agrees, FirstFrom, scan_none, scan_passed, scan_turn, overdue_agrees, untied_agrees}
use Rattle.held.specs.Held.{entry_of}
use Rattle.held_checks.proofs.MappedPlaces.{place_read, time_read}
use Rattle.held_checks.proofs.places.scan.Goals as goal

-- a turn of the loop, told of the entry that it read
module _ (s : Sought) (w : List Entry) (i : ℕ) (more : 0 < i) (within : i ≤ length w) {e : Entry} (same : e ≡ get_or w (i - 1) vacant) where
  passed : is_sought s e ≡ false → (r : Ranked) → FirstFrom s w i r → FirstFrom s w (i - 1) r
  passed fails = scan_passed s w vacant i more within (sym (ap (is_sought s) same) ∙ fails)

  turned : (r : Ranked) → Agrees s e r → FirstFrom s w i r → {k : Ranked} → k ≡ kept_by s (i - 1) e 0 r → FirstFrom s w (i - 1) k
  turned r agrees inv q nodes =
      ap (λ (k : Ranked). k.found) (q ∙ ap (λ (x : Entry). kept_by s (i - 1) x 0 r) same)
      ∙ scan_turn s w vacant i more within r (subst (λ (x : Entry). Agrees s x r) same agrees) inv nodes

pub loop-i-init : goal.loop-i-init
loop-i-init c =
    let long : length (map entry_of c.args.rest.window) ≡ 512 = length-map c.args.rest.window entry_of ∙ search unmapped in
    let a = c.args in
    let w = map entry_of a.rest.window in
    let n = long in (
      omega arith,
      scan_none (Sought.Overdue a.psi a.t) w 512 (omega arith),
      scan_none (Sought.Late a.psi a.slack a.t) w 512 (omega arith),
      scan_none a.sought w 512 (omega arith),
    )

pub is_noticed-requires : goal.is_noticed-requires
is_noticed-requires c =
    let in-time = time_read c.args.rest.window (c.loop-i.i - 1) c.from-e.ensures c.requires.3 in
    let p = c.requires in (p.0, p.1, p.2, in-time)

-- the entry is none of the three, so what was found behind it stays
pub loop-i-preserved-then-not-is_noticed : goal.loop-i-preserved-then-not-is_noticed
loop-i-preserved-then-not-is_noticed c =
    let long : length (map entry_of c.args.rest.window) ≡ 512 = length-map c.args.rest.window entry_of ∙ search unmapped in
    let read : c.from-e.result ≡ get_or (map entry_of c.args.rest.window) (c.loop-i.i - 1) vacant = place_read c.args.rest.window (c.loop-i.i - 1) c.from-e.ensures in
    let a = c.args in
    let w = map entry_of a.rest.window in
    let l = c.loop-i in
    let more = c.loop-i-test.true in
    let within : l.i ≤ length w = omega (arith, long) in
    let none = or-false _ _ (sym c.is_noticed.ensures ∙ c.if-not-is_noticed.true) in
    let rest = or-false _ _ none.1 in (
      omega arith,
      passed (Sought.Overdue a.psi a.t) w l.i more within (read) none.0 l.overdue l.invariant.1,
      passed (Sought.Late a.psi a.slack a.t) w l.i more within (read) rest.0 l.late l.invariant.2,
      passed a.sought w l.i more within (read) rest.1 l.best l.invariant.3,
    )

pub ties_either-requires : goal.ties_either-requires
ties_either-requires c =
    let in-time = time_read c.args.rest.window (c.loop-i.i - 1) c.from-e.ensures c.requires.3 in
    let p = c.requires in
    (p.0, p.1, p.2, in-time)

pub kept-overdue-requires : goal.kept-overdue-requires
kept-overdue-requires c =
    let in-time = time_read c.args.rest.window (c.loop-i.i - 1) c.from-e.ensures c.requires.3 in
    let p = c.requires in
    (p.0, in-time)

pub kept-late-requires : goal.kept-late-requires
kept-late-requires c =
    let in-time = time_read c.args.rest.window (c.loop-i.i - 1) c.from-e.ensures c.requires.3 in
    let p = c.requires in
    ((p.0, p.1), in-time)

pub kept-best-requires : goal.kept-best-requires
kept-best-requires c =
    let in-time = time_read c.args.rest.window (c.loop-i.i - 1) c.from-e.ensures c.requires.3 in
    let p = c.requires in
    (p.2, in-time)

pub loop-i-preserved : goal.loop-i-preserved
loop-i-preserved c =
    let long : length (map entry_of c.args.rest.window) ≡ 512 = length-map c.args.rest.window entry_of ∙ search (unmapped, c.well_formed) in
    let read : c.from-e.result ≡ get_or (map entry_of c.args.rest.window) (c.loop-i.i - 1) vacant = place_read c.args.rest.window (c.loop-i.i - 1) c.from-e.ensures in
    let a = c.args in
    let w = map entry_of a.rest.window in
    let l = c.loop-i in
    let more = c.loop-i-test.true in
    let within : l.i ≤ length w = omega (arith, long) in
    let untied = or-false _ _ (sym c.ties_either.ensures ∙ c.if-ties_either.false) in
    let overdue = overdue_agrees a.psi a.t c.from-e.result l.overdue in
    let late = untied_agrees (Sought.Late a.psi a.slack a.t) c.from-e.result l.late untied.0 in
    let best = untied_agrees a.sought c.from-e.result l.best untied.1 in (
      omega arith,
      turned (Sought.Overdue a.psi a.t) w l.i more within (read) l.overdue overdue l.invariant.1 c.kept-overdue.ensures,
      turned (Sought.Late a.psi a.slack a.t) w l.i more within (read) l.late late l.invariant.2 c.kept-late.ensures,
      turned a.sought w l.i more within (read) l.best best l.invariant.3 c.kept-best.ensures,
    )

pub returns : goal.returns
returns c =
    λ nodes.
    let l = c.loop-i in
    let z : l.i ≡ 0 = omega arith in
    c.seen.ensures ∙ simp (l.invariant.1 nodes, l.invariant.2 nodes, l.invariant.3 nodes, z)

pub returns-then-ties_either : goal.returns-then-ties_either
returns-then-ties_either c = tt
