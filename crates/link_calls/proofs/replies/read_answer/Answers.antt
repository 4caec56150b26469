-- Each answer by its map, at its offsets.
use Rattle.std.specs.Prelude.{Ok}
use mathlib.Core.Path.{◌≡◌, sym, ◌∙◌, ap}
use mathlib.Core.Bool.{true}
use Prim.Native.Nat.{ℕ}
use native.Mathlib.Omega.{arith}
use lib.ListN.{get_or}
use borrow.Author.Tests.{ne_eqb}
use Rattle.run.specs.declared.Reply.{Reply}
use Rattle.link_messages.specs.Message.{has_length}
use Rattle.link_calls.specs.Replies.{naming, with_number}
use Rattle.link_calls.proofs.Laws.Reads.{answer_length, answer_unlisted, reads_start, reads_wait, reads_done, reads_taken, reads_number, reads_node}
use Rattle.link_calls.proofs.Offsets.{short, long, one_byte, start_long, number_long, node_long}
use mathlib.Core.Bool.{not}
use Rattle.link_calls.proofs.replies.read_answer.Goals as goal

pub returns-then-not-has_length : goal.returns-then-not-has_length
returns-then-not-has_length c = sym (answer_length c.args.bytes.now (short c.args.bytes.now _ c.has_length.ensures (ap not c.if-not-has_length.true)))

pub bounds-bytes-0 : goal.bounds-bytes-0
bounds-bytes-0 c =
    let is-long : has_length c.args.bytes.now ≡ true = long c.args.bytes.now _ c.has_length.ensures (ap not c.if-not-has_length.false) in
    omega (arith, one_byte c.args.bytes.now (is-long))

pub four-position-requires : goal.four-position-requires
four-position-requires c =
    let is-long : has_length c.args.bytes.now ≡ true = long c.args.bytes.now _ c.has_length.ensures (ap not c.if-not-has_length.false) in
    omega (arith, start_long c.args.bytes.now (is-long) c.in-22.is)

pub bounds-bytes-6 : goal.bounds-bytes-6
bounds-bytes-6 c =
    let is-long : has_length c.args.bytes.now ≡ true = long c.args.bytes.now _ c.has_length.ensures (ap not c.if-not-has_length.false) in
    omega (arith, start_long c.args.bytes.now (is-long) c.in-22.is)

pub bounds-bytes-5 : goal.bounds-bytes-5
bounds-bytes-5 c =
    let is-long : has_length c.args.bytes.now ≡ true = long c.args.bytes.now _ c.has_length.ensures (ap not c.if-not-has_length.false) in
    omega (arith, start_long c.args.bytes.now (is-long) c.in-22.is)

pub returns-in-22 : goal.returns-in-22
returns-in-22 c =
    let is-long : has_length c.args.bytes.now ≡ true = long c.args.bytes.now _ c.has_length.ensures (ap not c.if-not-has_length.false) in
    ap (λ (p : ℕ). Ok (Reply.Start p (get_or c.args.bytes.now 6 0) (get_or c.args.bytes.now 5 0))) c.four-position.ensures.0 ∙ sym (reads_start c.args.bytes.now (is-long) c.in-22.is)

pub returns-in-0 : goal.returns-in-0
returns-in-0 c =
    let is-long : has_length c.args.bytes.now ≡ true = long c.args.bytes.now _ c.has_length.ensures (ap not c.if-not-has_length.false) in
    sym (reads_wait c.args.bytes.now (is-long) c.in-0.is)

pub returns-in-64 : goal.returns-in-64
returns-in-64 c =
    let is-long : has_length c.args.bytes.now ≡ true = long c.args.bytes.now _ c.has_length.ensures (ap not c.if-not-has_length.false) in
    sym (reads_done c.args.bytes.now (is-long) c.in-64.is)

pub returns-in-128 : goal.returns-in-128
returns-in-128 c =
    let is-long : has_length c.args.bytes.now ≡ true = long c.args.bytes.now _ c.has_length.ensures (ap not c.if-not-has_length.false) in
    sym (reads_taken c.args.bytes.now (is-long) c.in-128.is)

pub bounds-bytes-1 : goal.bounds-bytes-1
bounds-bytes-1 c =
    let is-long : has_length c.args.bytes.now ≡ true = long c.args.bytes.now _ c.has_length.ensures (ap not c.if-not-has_length.false) in
    omega (arith, number_long c.args.bytes.now (is-long) c.in-32.is)

pub returns-in-32 : goal.returns-in-32
returns-in-32 c =
    let is-long : has_length c.args.bytes.now ≡ true = long c.args.bytes.now _ c.has_length.ensures (ap not c.if-not-has_length.false) in
    c.with_number.ensures ∙ sym (reads_number c.args.bytes.now (is-long) c.in-32.is)

pub four-position-requires-in-38 : goal.four-position-requires-in-38
four-position-requires-in-38 c =
    let is-long : has_length c.args.bytes.now ≡ true = long c.args.bytes.now _ c.has_length.ensures (ap not c.if-not-has_length.false) in
    omega (arith, node_long c.args.bytes.now (is-long) c.in-38.is)

pub bounds-bytes-5-in-38 : goal.bounds-bytes-5-in-38
bounds-bytes-5-in-38 c =
    let is-long : has_length c.args.bytes.now ≡ true = long c.args.bytes.now _ c.has_length.ensures (ap not c.if-not-has_length.false) in
    omega (arith, node_long c.args.bytes.now (is-long) c.in-38.is)

pub bounds-bytes-6-in-38 : goal.bounds-bytes-6-in-38
bounds-bytes-6-in-38 c =
    let is-long : has_length c.args.bytes.now ≡ true = long c.args.bytes.now _ c.has_length.ensures (ap not c.if-not-has_length.false) in
    omega (arith, node_long c.args.bytes.now (is-long) c.in-38.is)

pub returns-in-38 : goal.returns-in-38
returns-in-38 c =
    let is-long : has_length c.args.bytes.now ≡ true = long c.args.bytes.now _ c.has_length.ensures (ap not c.if-not-has_length.false) in
    c.with_node.ensures ∙ ap (λ (p : ℕ). with_number (get_or c.args.bytes.now 6 0) (naming p (get_or c.args.bytes.now 5 0))) c.four-position-in-38.ensures.0 ∙ sym (reads_node c.args.bytes.now (is-long) c.in-38.is)

pub returns-in_default : goal.returns-in_default
returns-in_default c =
    let is-long : has_length c.args.bytes.now ≡ true = long c.args.bytes.now _ c.has_length.ensures (ap not c.if-not-has_length.false) in
    let r = c.in_default.in_default-own.rest in sym (answer_unlisted c.args.bytes.now (is-long) (rw (ne_eqb _ 0x16 r.0.0.0.0.0.1, ne_eqb _ 0x00 r.0.0.0.0.1, ne_eqb _ 0x40 r.0.0.0.1, ne_eqb _ 0x80 r.0.0.1, ne_eqb _ 0x20 r.0.1, ne_eqb _ 0x26 r.1)))
