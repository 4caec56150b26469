-- The line fits the buffer, and all of it is handed on.
use Rattle.std.proofs.Common.{arith}
use Rattle.timetable_lines.proofs.Laws.Lines.{refused_length}
use Rattle.timetable_text.proofs.Laws.Lent.{lent_puts}
use Rattle.timetable_output.proofs.Printing.{first_went}
use Rattle.timetable_output.proofs.print_cut.Goals as goal

pub hand_on-requires : goal.hand_on-requires
hand_on-requires g c =
    let u = refused_length 1 c.args.present in
    let p = (lent_puts _ 0 _ (omega arith) _ _ c.cut-put.ensures).past in
    (omega (arith, c.past-gathered.ensures, c.cut-put.auto.out), omega (arith, c.past-gathered.ensures))

pub returns-clause-handed : goal.returns-clause-handed
returns-clause-handed g c =
    let u = refused_length 1 c.args.present in
    (first_went _ _ _ _ _ _ _ _ (omega arith) c.cut-put.ensures c.past-gathered.ensures c.hand_on.ensures.hands.0 c.hand_on.ensures.hands.1 c.hand_on.ensures.went).0

pub returns-clause-went : goal.returns-clause-went
returns-clause-went g c =
    let u = refused_length 1 c.args.present in
    (first_went _ _ _ _ _ _ _ _ (omega arith) c.cut-put.ensures c.past-gathered.ensures c.hand_on.ensures.hands.0 c.hand_on.ensures.hands.1 c.hand_on.ensures.went).1
