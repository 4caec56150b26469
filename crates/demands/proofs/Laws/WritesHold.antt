-- `writing_iff`: writing answers 50, 36 or the bytes, each in its condition. `not_written`, `buffer`: what the buffer then holds.
-- `read_back`: what was written is read as the same plan. `writing_numbers`: the same by number and place.
use Rattle.std.specs.Prelude.{◌≡◌, refl, Bool, true, false, cond, List, ◌++◌, ◌↔◌, ℕ, ◌≤◌, ◌<◌, length, take, drop, leb, Result, Ok, Err, IsOkAnd}
use Rattle.std.proofs.Common.{sym, subst, arith, length-append, length-drop, leb-true, leb-false}
use Rattle.std.proofs.Math.Seq.{take-append_seam, drop-append_seam}
use Rattle.plan.specs.declared.FaultAt.{FaultAt}
use Rattle.plan.specs.declared.Plan.{Plan}
use Rattle.format.specs.Format.{Holds, print, keeps}
use Rattle.format.proofs.Laws.Format.{keeps_iff}
use Rattle.format.proofs.Laws.Writing.{printed_bytes}
use Rattle.plan_file.specs.PlanFile.{fault_order, plan_file}
use Rattle.plan_file.proofs.Laws.Accepted.{read_printed}
use Rattle.plan_write.specs.Writing.{number_of, written_of, buffer_of}
use Rattle.plan_write.specs.declared.NotWritten.{NotWritten}
use Rattle.demands.specs.Accepted.{Bytes}
use Rattle.demands.specs.Alike.{SamePlan}
use Rattle.demands.proofs.Laws.ReadAlike.{read_alike}
use Rattle.demands.specs.Writes.{Writes, StatementWriting, StatementNotWritten, StatementBuffer, StatementReadBack, StatementWritingNumbers}

abbrev Writing : Result ℕ NotWritten → Type 0
Writing (Ok n) = Unit {0}
Writing (Err r) = ⊥

apart : {r : NotWritten} {n : ℕ} → Err r ≡ Ok n → ⊥
apart e = subst Writing (sym e) tt

-- an answer with the buffer that goes with it
record Leaves (p : Plan) (out : List ℕ) (w : Result ℕ NotWritten) (x : List ℕ) : Type 0 where
  case : Writes p out w
  refused : (r : NotWritten) → w ≡ Err r → x ≡ out
  whole : (n : ℕ) → w ≡ Ok n → (n ≡ length (print plan_file p)) × (x ≡ print plan_file p ++ drop (length (print plan_file p)) out)

module _ (p : Plan) (out : List ℕ) where
  breaks : (Holds fault_order plan_file p → ⊥) → Leaves p out (Err NotWritten.BreaksRule) out
  breaks n = record { case = Writes.breaks n; refused = λ r e. refl; whole = λ k e. absurd (apart e) }

  by_room : Holds fault_order plan_file p → (b : Bool) → leb (length (print plan_file p)) (length out) ≡ b
      → Leaves p out (cond b (Ok (length (print plan_file p))) (Err NotWritten.TooShort)) (cond b (print plan_file p ++ drop (length (print plan_file p)) out) out)
  by_room h true e = record {
    case = Writes.written h (leb-true (length (print plan_file p)) (length out) e);
    refused = λ r e. absurd (apart (sym e));
    whole = λ k e. (cc, refl);
  }
  by_room h false e = record {
    case = Writes.short h (omega (arith, leb-false (length (print plan_file p)) (length out) e));
    refused = λ r e. refl;
    whole = λ k e. absurd (apart e);
  }

  by_rules : (b : Bool) → (b ≡ true) ↔ Holds fault_order plan_file p
      → Leaves p out
      (cond b (cond (leb (length (print plan_file p)) (length out)) (Ok (length (print plan_file p))) (Err NotWritten.TooShort)) (Err NotWritten.BreaksRule))
      (cond b (cond (leb (length (print plan_file p)) (length out)) (print plan_file p ++ drop (length (print plan_file p)) out) out) out)
  by_rules true f = by_room (f.0 refl) (leb (length (print plan_file p)) (length out)) refl
  by_rules false f = breaks (λ h. let e = f.1 h in absurd (let z : ◌≡◌ {A = ℕ} 0 1 = cc in omega arith))

  leaves : Leaves p out (written_of p out) (buffer_of p out)
  unfolding written_of buffer_of
  leaves = by_rules (keeps fault_order plan_file p) (keeps_iff fault_order plan_file p)

  only : (v w : Result ℕ NotWritten) → Writes p out v → Writes p out w → v ≡ w
  only v w (Writes.breaks n) (Writes.breaks m) = refl
  only v w (Writes.breaks n) (Writes.short h l) = absurd (n h)
  only v w (Writes.breaks n) (Writes.written h l) = absurd (n h)
  only v w (Writes.short h l) (Writes.breaks n) = absurd (n h)
  only v w (Writes.short h l) (Writes.short k m) = refl
  only v w (Writes.short h l) (Writes.written k m) = absurd (omega arith)
  only v w (Writes.written h l) (Writes.breaks n) = absurd (n h)
  only v w (Writes.written h l) (Writes.short k m) = absurd (omega arith)
  only v w (Writes.written h l) (Writes.written k m) = refl

pub writing_iff : StatementWriting
writing_iff p out w = (λ e. subst (Writes p out) e (leaves p out).case, λ h. only p out (written_of p out) w (leaves p out).case h)

pub not_written : StatementNotWritten
not_written p out r e = (leaves p out).refused r e

room : (p : Plan) (out : List ℕ) (w : Result ℕ NotWritten) (n : ℕ) → Writes p out w → w ≡ Ok n → length (print plan_file p) ≤ length out
room p out w n (Writes.breaks x) e = absurd (apart e)
room p out w n (Writes.short h l) e = absurd (apart e)
room p out w n (Writes.written h l) e = l

pub buffer : StatementBuffer
buffer p out n e =
    let w = (leaves p out).whole n e in
    let l = room p out (written_of p out) n (leaves p out).case e in
    let k = length-append (print plan_file p) (drop (length (print plan_file p)) out) in
    let d = length-drop (length (print plan_file p)) out in
    rw (w.0, w.1) (take-append_seam (print plan_file p) (drop (length (print plan_file p)) out), drop-append_seam (print plan_file p) (drop (length (print plan_file p)) out), omega arith)

rules : (p : Plan) (out : List ℕ) (w : Result ℕ NotWritten) (n : ℕ) → Writes p out w → w ≡ Ok n → Holds fault_order plan_file p
rules p out w n (Writes.breaks x) e = absurd (apart e)
rules p out w n (Writes.short h l) e = h
rules p out w n (Writes.written h l) e = h

pub read_back : StatementReadBack
read_back p out n e =
    let h = rules p out (written_of p out) n (leaves p out).case e in
    let b = take n (buffer_of p out) in
    let w : print plan_file p ≡ b = sym (buffer p out n e).0 in
    let r = read_printed b (subst Bytes w (printed_bytes plan_file p)) p h w in
    subst (λ (x : Result Plan FaultAt). IsOkAnd x (SamePlan p)) (sym r) (read_alike p h)

-- ---- by number and place

of_50 : (p : Plan) (out : List ℕ) (r : NotWritten) → number_of r ≡ 50 → Writes p out (Err r) → Holds fault_order plan_file p → ⊥
of_50 p out NotWritten.BreaksRule e (Writes.breaks n) = n
of_50 p out NotWritten.TooShort e w = absurd (omega arith)

of_36 : (p : Plan) (out : List ℕ) (r : NotWritten) → number_of r ≡ 36 → Writes p out (Err r) → Holds fault_order plan_file p × (length out < length (print plan_file p))
of_36 p out NotWritten.BreaksRule e w = absurd (omega arith)
of_36 p out NotWritten.TooShort e (Writes.short h l) = (h, l)

either : (r : NotWritten) (n : ℕ) → number_of r ≡ n → (n ≡ 50 → ⊥) → n ≡ 36
either NotWritten.BreaksRule n e x = absurd (x (sym e))
either NotWritten.TooShort n e x = sym e

pub writing_numbers : StatementWritingNumbers
writing_numbers p out = record {
  number50 = (
    λ r. of_50 p out r.refusal r.numbered ((writing_iff p out (Err r.refusal)).0 r.answered),
    λ n. record { refusal = NotWritten.BreaksRule; answered = (writing_iff p out (Err NotWritten.BreaksRule)).1 (Writes.breaks n); numbered = refl; placed = refl },
  );
  number36 = (
    λ r. of_36 p out r.refusal r.numbered ((writing_iff p out (Err r.refusal)).0 r.answered),
    λ h. record { refusal = NotWritten.TooShort; answered = (writing_iff p out (Err NotWritten.TooShort)).1 (Writes.short h.0 h.1); numbered = refl; placed = refl },
  );
  none = λ n place r x. either r.refusal n r.numbered x;
}
