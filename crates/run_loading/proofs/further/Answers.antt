use mathlib.Core.Path.{◌≡◌, sym, ap, ◌∙◌}
use mathlib.Core.List.{List}
use Rattle.std.proofs.Math.Decide.{dec_lt}
use Prim.Native.Nat.{ℕ, ◌+◌, ◌-◌, ◌≤◌, ◌<◌}
use native.Mathlib.Omega.{arith}
use lib.ListN.{length, length-set}
use Rattle.basis.proofs.Laws.Lists.{next_entry}
use Rattle.run_window.specs.declared.Entry.{Entry}
use Rattle.run_window.specs.Window.{vacant}
use Rattle.run_window.proofs.Laws.Placed.{vacancies_length}
use Rattle.run_window.proofs.Laws.Placing.{Placing, placing_starts, placing_within, placing_held, placing_free, placing_done}
use Rattle.run_path.proofs.Laws.Collecting.{pathed_long}
use Rattle.run_outcomes.proofs.Laws.Outcomes.{plan_awaits}
use Rattle.run_loading.specs.declared.Loading.{Loading}
use Rattle.run_loading.specs.Loading.{loading, load}
use Rattle.run_loading.specs.Inner.Loading.{failure_by}
use Rattle.run_loading.proofs.Laws.Loading.{load_failed, load_fits, load_placed, loaded_keeps, way_loads, further_over, turn_rests, turn_fails, turn_goes}
use Rattle.run_loading.proofs.further.Invariants.{entries_of, whole}
use borrow.Enum.Refused.{opened}
use Rattle.run_loading.proofs.further.Goals.{then-is_free, else-is_free, else-loop-at-test, then-loop-at-test+then-next-found}
use Rattle.run_loading.proofs.further.Goals as goal

-- past the last place every entry is placed
placed_all : (v es w : List Entry) (at next : ℕ) → Placing v es w at next → length w ≤ at → length es ≤ next
placed_all v es w at next p h = elim (dec_lt next (length es)) [ yes l ↦ absurd (omega (arith, placing_within v es w at next p l)) | no l ↦ omega arith ]

pub way_on-way-requires : goal.way_on-way-requires
way_on-way-requires c = plan_awaits _ c.requires.plan

pub returns-in_default : goal.returns-in_default
returns-in_default c =
    let l = c.loop in
    c.ended.ensures ∙ sym (l.invariant.2 ∙ turn_rests _ l.progress l.window (128 - l.counter) _ c.way_on-way.ensures (opened c.in_default.in_default-own.keys2) (128 - (l.counter + 1)) (omega arith))

pub path-found-requires-clause-leads : goal.path-found-requires-clause-leads
path-found-requires-clause-leads c = (way_loads _ _ c.loop.invariant.0 _ c.way_on-way.ensures).leads

pub returns-then-is_some : goal.returns-then-is_some
returns-then-is_some c =
    let l = c.loop in
    let able = way_loads _ _ l.invariant.0 _ c.way_on-way.ensures in
    let ending = c.failure_of-failure.ensures ∙ ap (failure_by c.path-found.result.beyond c.path-found.result.count) c.vacancies.ensures in
    let h = sym c.is_some.ensures ∙ c.if-is_some.true in
    let failed = load_failed _ _ l.progress l.window able _ c.path-found.ensures _ ending h in
    c.ended-then-is_some.ensures ∙ sym (l.invariant.2 ∙ turn_fails _ l.progress l.window (128 - l.counter) _ c.way_on-way.ensures _ c.in-Goes.is (128 - (l.counter + 1)) (omega arith) _ failed h)

pub loop-at-init : goal.loop-at-init
loop-at-init c =
    let l = c.loop in
    let r = c.path-found in
    let able = way_loads _ _ l.invariant.0 _ c.way_on-way.ensures in
    let ending = c.failure_of-failure.ensures ∙ ap (failure_by r.result.beyond r.result.count) c.vacancies.ensures in
    let fits = load_fits _ _ l.progress l.window able _ r.ensures _ ending (sym c.is_some.ensures ∙ c.if-is_some.false) in
    let m : length r.result.entries ≡ 512 = pathed_long _ _ r.ensures in
    let n : r.result.count ≤ 512 = omega (arith, fits, vacancies_length l.window, l.invariant.1) in
    (l.invariant.1, m, n, omega arith, placing_starts l.window (entries_of r.result) (omega (arith, fits, whole r.result m n)))

pub offset_bounds-found-next : goal.offset_bounds-found-next
offset_bounds-found-next c = let i = c.loop-at.invariant in omega (arith, i.2, i.3)

pub bounds-found-next : goal.bounds-found-next
bounds-found-next c = let i = c.loop-at.invariant in omega (arith, i.2, i.3)

pub overflow_add-next : goal.overflow_add-next
overflow_add-next c = let i = c.loop-at.invariant in omega (arith, i.2, i.3)

pub loop-at-preserved : goal.loop-at-preserved
loop-at-preserved c =
    let l = c.loop-at in
    let i = l.invariant in
    let r = c.path-found.result in
    let es = entries_of r in
    let few : l.next < r.count = omega (arith, i.3) in
    let within : l.next < length es = omega (arith, few, whole r i.1 i.2) in
    elim c.if-is_free.branch [
      | then-is_free w ↦
          rw (w.window-is, w.next-is) (
            length-set l.window l.at _ ∙ i.0,
            i.1,
            i.2,
            omega arith,
            placing_free _ es l.window l.at l.next i.4 vacant _ within (next_entry r.entries vacant l.next r.count few (omega (arith, i.1, i.2))) c.is_free.ensures w.if-is_free.true,
          )
      | else-is_free w ↦
          rw (w.window-is, w.next-is)
          (i.0, i.1, i.2, i.3, placing_held _ es l.window l.at l.next i.4 vacant within c.is_free.ensures w.if-is_free.false)
    ]

pub loop-preserved : goal.loop-preserved
loop-preserved c =
    let l = c.loop in
    let k = c.loop-at in
    let r = c.path-found in
    let able = way_loads _ _ l.invariant.0 _ c.way_on-way.ensures in
    let ending = c.failure_of-failure.ensures ∙ ap (failure_by r.result.beyond r.result.count) c.vacancies.ensures in
    let h = sym c.is_some.ensures ∙ c.if-is_some.false in
    let all : length (entries_of r.result) ≤ k.next =
    elim c.loop-at-test.branch [
      | else-loop-at-test v ↦ placed_all l.window _ k.window k.at k.next k.invariant.4 (omega arith)
      | then-loop-at-test+then-next-found v ↦ omega (arith, whole r.result k.invariant.1 k.invariant.2)
    ] in
    let w = placing_done l.window (entries_of r.result) k.window k.at k.next k.invariant.4 all in
    let went : ◌≡◌ {A = Loading} (loading c.failure_of-failure.result r.result.progress k.window) (load c.args.plan c.way_on-way.result l.progress l.window) =
    ap (loading c.failure_of-failure.result r.result.progress) w ∙ load_placed _ _ l.progress l.window able r.result r.ensures _ ending l.invariant.1 h in
    (loaded_keeps _ _ l.progress l.window able _ went h, k.invariant.0, l.invariant.2 ∙ turn_goes _ l.progress l.window (128 - l.counter) _ c.way_on-way.ensures _ c.in-Goes.is (128 - (l.counter + 1)) (omega arith) _ went h)

pub returns : goal.returns
returns c =
    let l = c.loop in
    c.ended-2.ensures ∙ sym (l.invariant.2 ∙ further_over _ l.progress l.window (128 - l.counter) (omega arith))
