-- What was read and what is printed are the input and its table.
use Rattle.std.specs.Prelude.{◌≡◌, List, ℕ, length, take, ◌++◌}
use Rattle.std.proofs.Common.{ap, ◌∙◌, subst, arith, length-take, length-take-le, take_all}
use Rattle.std.specs.Io.KnownBytes.{Consumes}
use Rattle.std.proofs.KnownBytes.{Consumes-trans}
use Rattle.timetable_turns.specs.Timetable.{text_of_plan, timetable_of}
use Rattle.timetable_output.proofs.Input.{length_cut, plan_cut, plan_whole, file_is, delivers_line, delivers_after}
use Rattle.timetable_output.proofs.print_timetable.Goals as goal

pub returns-then-given-lt2 : goal.returns-then-given-lt2
returns-then-given-lt2 g c =
    let k = c.read_full-given in
    let short = length-take-le k.result k.new.buffer k.ensures.bound in
    delivers_line (take k.result k.new.buffer) _ timetable_of _ _ _ _ _ (length_cut _ (omega arith)) k.ensures.taken c.print_cut.ensures.handed c.print_cut.ensures.went

pub returns-then-present-n : goal.returns-then-present-n
returns-then-present-n g c =
    let k = c.read_full-given in
    let l = c.read_full-present in
    let two : length k.new.buffer ≡ 2 = k.auto.buffer in
    let size = subst (Consumes _ _) (take_all k.result k.new.buffer (omega (arith, c.if-given-lt2.false))) k.ensures.taken in
    let present = length-take-le l.result l.new.buffer l.ensures.bound in
    let cut = plan_cut k.new.buffer (take l.result l.new.buffer) l.result two present (omega (arith, c.plan_length-n.ensures, c.if-present-n.true)) in
    let h = c.print_cut-then-present-n.ensures in
    delivers_line (k.new.buffer ++ take l.result l.new.buffer) _ timetable_of _ _ _ _ _ cut (Consumes-trans _ _ _ _ _ size l.ensures.taken) h.handed h.went

pub returns : goal.returns
returns g c =
    let k = c.read_full-given in
    let l = c.read_full-present in
    let two : length k.new.buffer ≡ 2 = k.auto.buffer in
    let size = subst (Consumes _ _) (take_all k.result k.new.buffer (omega (arith, c.if-given-lt2.false))) k.ensures.taken in
    let n = c.plan_length-n.result in
    let whole : length l.new.buffer ≡ n = omega (arith, l.auto.buffer, length-take {A = ℕ}, c.plan_length-n.ensures) in
    let present : length (take l.result l.new.buffer) ≡ n = omega (arith, length-take-le l.result l.new.buffer l.ensures.bound, l.ensures.bound, c.if-present-n.false) in
    delivers_after (k.new.buffer ++ take l.result l.new.buffer) _ timetable_of _ _ _ _ _ _
    (λ os. ap (λ (f : List ℕ). text_of_plan f os) (file_is _ _ _ _ whole c.if-present-n.false) ∙ plan_whole k.new.buffer (take l.result l.new.buffer) os two (omega (arith, present, c.plan_length-n.ensures)))
    (Consumes-trans _ _ _ _ _ size l.ensures.taken)
    c.print_table.ensures.delivers
