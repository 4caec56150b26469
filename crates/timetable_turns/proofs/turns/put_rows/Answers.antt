use mathlib.Core.Path.{sym, ◌∙◌}
use native.Mathlib.Omega.{arith}
use Rattle.timetable_turns.proofs.Rows.{putting_row, putting_none, putting_ends}
use Rattle.timetable_turns.proofs.turns.put_rows.Goals as goal
use Rattle.timetable_turns.proofs.turns.put_rows.Goals.{then-is_work, else-is_work}

pub loop-node-preserved : goal.loop-node-preserved
loop-node-preserved c =
    let a = c.args in
    let l = c.loop-node in
    let less = c.loop-node-test.true in
    elim c.if-is_work.branch [
      | then-is_work w ↦
          let e = w.entry_of-entry in
          rw (w.out-is, w.next-is) (
            w.put_row-next.auto.out ∙ l.invariant.0,
            putting_row a.position a.number a.times a.activity.nodes a.activity.count _ a.at l.out l.next l.node (omega arith) l.invariant.1 _ _ (omega arith) (omega arith) (omega arith)
                (sym c.is_work.ensures ∙ w.if-is_work.true) e.result e.ensures w.put_row-next.ensures,
          )
      | else-is_work w ↦
          rw (w.out-is, w.next-is) (
            l.invariant.0,
            putting_none a.position a.number a.times a.activity.nodes a.activity.count _ a.at l.out l.next l.node (omega arith) l.invariant.1 (sym c.is_work.ensures ∙ w.if-is_work.false),
          )
    ]

pub returns : goal.returns
returns c =
    let a = c.args in
    let l = c.loop-node in
    putting_ends a.position a.number a.times a.activity.nodes a.activity.count _ a.at l.out l.next l.node (omega arith) l.invariant.1
