-- `advance` meets its contract: each callee is given what it asks for, and the answers put together are the definition's. Assumes nothing.
use mathlib.Core.Path.{◌≡◌, sym, ap, ◌∙◌, subst}
use native.Mathlib.Omega.{arith}
use Rattle.plan.specs.Plan.{nodes_of}
use Rattle.times.proofs.Laws.Fits.{input_fits, left_position, timeable, position_le, leaving, held_as, with_available, held_parts, closed_parts, assembled}
use Rattle.times.specs.Inner.Times.{Timeable, Leaving}
use Rattle.times.specs.Engine.{held_of}
use Rattle.times.specs.Queues.{processed_of, floor_of}
use Rattle.times.specs.declared.Progress.{Progress}
use Rattle.times.proofs.engine.advance.Goals as goal

pub floor-c-requires : goal.floor-c-requires
floor-c-requires c = input_fits {E = c.requires.events} c.args.input c.requires.few_events c.requires.input

pub processed-h-requires : goal.processed-h-requires
processed-h-requires c = input_fits {E = c.requires.events} c.args.input c.requires.few_events c.requires.input

pub scheduled-schedule-requires : goal.scheduled-schedule-requires
scheduled-schedule-requires c =
    let held : with_available c.processed-h.result c.raised-h.result ≡ held_of c.args.resources (floor_of c.args.input c.args.progress) (processed_of c.args.input c.args.progress) = held_as _ _ _ c.floor-c.ensures c.processed-h.ensures (held_parts _ _ c.processed-h.result c.raised-h.ensures) in
    subst (λ (h : Progress). Timeable c.args.activity h.available h.latest) (sym (held)) (timeable _ _ _ _ c.requires)

pub left-progress-requires : goal.left-progress-requires
left-progress-requires c =
    let held : with_available c.processed-h.result c.raised-h.result ≡ held_of c.args.resources (floor_of c.args.input c.args.progress) (processed_of c.args.input c.args.progress) = held_as _ _ _ c.floor-c.ensures c.processed-h.ensures (held_parts _ _ c.processed-h.result c.raised-h.ensures) in
    let a = c.args in
    subst (Leaving a.activity) (sym c.scheduled-schedule.ensures)
    (leaving a.activity _ _ (subst (λ (h : Progress). Timeable a.activity h.available h.latest) (sym (held)) (timeable _ _ _ _ c.requires)))

pub overflow_add-progress : goal.overflow_add-progress
overflow_add-progress c =
    let held : with_available c.processed-h.result c.raised-h.result ≡ held_of c.args.resources (floor_of c.args.input c.args.progress) (processed_of c.args.input c.args.progress) = held_as _ _ _ c.floor-c.ensures c.processed-h.ensures (held_parts _ _ c.processed-h.result c.raised-h.ensures) in
    let a = c.args in
    let e = ap (λ (h : Progress). h.position) c.left-progress.ensures ∙ left_position (nodes_of a.activity) _ _ _ ∙ ap (λ (h : Progress). h.position) (held) in
    omega (arith, e, position_le a.resources a.activity a.input a.progress c.requires)

pub returns : goal.returns
returns c =
    assembled _ _ _ _ _ c.floor-c.ensures c.processed-h.ensures (held_parts _ _ c.processed-h.result c.raised-h.ensures) c.scheduled-schedule.ensures c.left-progress.ensures
    (closed_parts _ _ _ _ _ c.beyond-beyond.ensures)
