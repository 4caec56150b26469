-- Each call by its map, at its offsets.
use Rattle.std.specs.Prelude.{Ok}
use mathlib.Core.Path.{◌≡◌, sym, ◌∙◌, ap, ap₂}
use mathlib.Core.Bool.{true}
use Prim.Native.Nat.{ℕ}
use native.Mathlib.Omega.{arith}
use lib.ListN.{get_or}
use borrow.Author.Tests.{ne_eqb}
use Rattle.run.specs.declared.Call.{Call}
use Rattle.link_messages.specs.Message.{has_length}
use Rattle.link_calls.specs.Calls.{clock}
use Rattle.link_calls.proofs.Laws.Reads.{call_length, call_unlisted, reads_ask, reads_completion, reads_outcome}
use Rattle.link_calls.proofs.Offsets.{short, long, one_byte, ask_long, completion_long, outcome_long}
use mathlib.Core.Bool.{not}
use Rattle.link_calls.proofs.calls.read_call.Goals as goal

pub returns-then-not-has_length : goal.returns-then-not-has_length
returns-then-not-has_length c = sym (call_length c.args.bytes.now (short c.args.bytes.now _ c.has_length.ensures (ap not c.if-not-has_length.true)))

pub bounds-bytes-0 : goal.bounds-bytes-0
bounds-bytes-0 c =
    let is-long : has_length c.args.bytes.now ≡ true = long c.args.bytes.now _ c.has_length.ensures (ap not c.if-not-has_length.false) in
    omega (arith, one_byte c.args.bytes.now (is-long))

pub eight-requires : goal.eight-requires
eight-requires c =
    let is-long : has_length c.args.bytes.now ≡ true = long c.args.bytes.now _ c.has_length.ensures (ap not c.if-not-has_length.false) in
    omega (arith, ask_long c.args.bytes.now (is-long) c.in-1.is)

pub returns-in-1 : goal.returns-in-1
returns-in-1 c =
    let is-long : has_length c.args.bytes.now ≡ true = long c.args.bytes.now _ c.has_length.ensures (ap not c.if-not-has_length.false) in
    ap (λ (t : ℕ). Ok (Call.Ask (clock t))) c.eight.ensures ∙ sym (reads_ask c.args.bytes.now (is-long) c.in-1.is)

pub eight-requires-in-7 : goal.eight-requires-in-7
eight-requires-in-7 c =
    let is-long : has_length c.args.bytes.now ≡ true = long c.args.bytes.now _ c.has_length.ensures (ap not c.if-not-has_length.false) in
    omega (arith, completion_long c.args.bytes.now (is-long) c.in-7.is)

pub four-position-requires : goal.four-position-requires
four-position-requires c =
    let is-long : has_length c.args.bytes.now ≡ true = long c.args.bytes.now _ c.has_length.ensures (ap not c.if-not-has_length.false) in
    omega (arith, completion_long c.args.bytes.now (is-long) c.in-7.is)

pub bounds-bytes-13 : goal.bounds-bytes-13
bounds-bytes-13 c =
    let is-long : has_length c.args.bytes.now ≡ true = long c.args.bytes.now _ c.has_length.ensures (ap not c.if-not-has_length.false) in
    omega (arith, completion_long c.args.bytes.now (is-long) c.in-7.is)

pub returns-in-7 : goal.returns-in-7
returns-in-7 c =
    let is-long : has_length c.args.bytes.now ≡ true = long c.args.bytes.now _ c.has_length.ensures (ap not c.if-not-has_length.false) in
    ap₂ (λ (t p : ℕ). Ok (Call.Completion (clock t) p (get_or c.args.bytes.now 13 0))) c.eight-in-7.ensures c.four-position.ensures.0 ∙ sym (reads_completion c.args.bytes.now (is-long) c.in-7.is)

pub eight-requires-in-15 : goal.eight-requires-in-15
eight-requires-in-15 c =
    let is-long : has_length c.args.bytes.now ≡ true = long c.args.bytes.now _ c.has_length.ensures (ap not c.if-not-has_length.false) in
    omega (arith, outcome_long c.args.bytes.now (is-long) c.in-15.is)

pub four-position-requires-in-15 : goal.four-position-requires-in-15
four-position-requires-in-15 c =
    let is-long : has_length c.args.bytes.now ≡ true = long c.args.bytes.now _ c.has_length.ensures (ap not c.if-not-has_length.false) in
    omega (arith, outcome_long c.args.bytes.now (is-long) c.in-15.is)

pub bounds-bytes-13-in-15 : goal.bounds-bytes-13-in-15
bounds-bytes-13-in-15 c =
    let is-long : has_length c.args.bytes.now ≡ true = long c.args.bytes.now _ c.has_length.ensures (ap not c.if-not-has_length.false) in
    omega (arith, outcome_long c.args.bytes.now (is-long) c.in-15.is)

pub bounds-bytes-14 : goal.bounds-bytes-14
bounds-bytes-14 c =
    let is-long : has_length c.args.bytes.now ≡ true = long c.args.bytes.now _ c.has_length.ensures (ap not c.if-not-has_length.false) in
    omega (arith, outcome_long c.args.bytes.now (is-long) c.in-15.is)

pub returns-in-15 : goal.returns-in-15
returns-in-15 c =
    let is-long : has_length c.args.bytes.now ≡ true = long c.args.bytes.now _ c.has_length.ensures (ap not c.if-not-has_length.false) in
    ap₂ (λ (t p : ℕ). Ok (Call.Outcome (clock t) p (get_or c.args.bytes.now 13 0) (get_or c.args.bytes.now 14 0))) c.eight-in-15.ensures c.four-position-in-15.ensures.0 ∙ sym (reads_outcome c.args.bytes.now (is-long) c.in-15.is)

pub returns-in_default : goal.returns-in_default
returns-in_default c =
    let is-long : has_length c.args.bytes.now ≡ true = long c.args.bytes.now _ c.has_length.ensures (ap not c.if-not-has_length.false) in
    let r = c.in_default.in_default-own.rest in sym (call_unlisted c.args.bytes.now (is-long) (rw (ne_eqb _ 0x01 r.0.0.1, ne_eqb _ 0x07 r.0.1, ne_eqb _ 0x0F r.1)))
