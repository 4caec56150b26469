-- `timetable_times`: the table of an accepted plan is its header, the rows of the word's actions and events with the times of
-- Def. 11, and the closing lines, each in its condition. `timetable`: the same of the whole input. From the engine along a
-- word (Laws/Along) and the table along the word of the outcomes (Laws/Printed).
use Rattle.std.specs.Prelude.{◌≡◌, Bool, true, false, cond, ℕ, suc, ◌+◌, ◌-◌, ◌*◌, leb, length, take, drop, Ok, Err}
use Rattle.std.proofs.Math.Path.{refl, sym, ap}
use Rattle.std.proofs.Common.{◌∙◌, subst, arith, leb-true, leb-false, le-leb, length-append, take-append-drop, length-take-le}
use mathlib.Core.List.{List, [], ◌∷◌, ◌++◌}
use Rattle.std.proofs.Math.Decide.{dec_lt}
use Rattle.std.proofs.lemmas.Bool.{lt-leb}
use Rattle.std.proofs.Math.ListN.{get_or-append, get_or-eq_default}
use Rattle.std.proofs.Math.Seq.{take-append_seam, drop-append_seam}
use Rattle.plan.specs.Fault.{number_of}
use Rattle.plan.specs.declared.Fault.{Fault}
use Rattle.plan.specs.declared.Plan.{Plan}
use Rattle.plan.specs.Verdict.{Verdict}
use Rattle.automaton.specs.Rules.{MeetsAutomaton}
use Rattle.judge.specs.Judge.{judge_of}
use Rattle.times_combined.specs.Word.{size}
use Rattle.times_combined.specs.Paths.{word_of, Lawful}
use Rattle.times_equal.proofs.Laws.Plans.{AtMostEight}
use Rattle.demands_theory.proofs.Laws.Along.{lawful, few_pending}
use Rattle.timetable_lines.specs.Lines.{header, refused}
use Rattle.timetable_turns.specs.Timetable.{positions, table_of, judged_text, text_of_plan, timetable_of}
use Rattle.demands_theory.proofs.Laws.Longest.{within_none}
use Rattle.demands.specs.Accepted.{Bytes}
use Rattle.plan_file.proofs.Laws.HoldsPlan.{plan_iff}
use Rattle.demands.proofs.Laws.AcceptedIff.{accepted_iff}
use Rattle.demands.proofs.Laws.Along as Along
use Rattle.demands.proofs.Laws.Printed as P
use Rattle.demands.specs.Timetables.{Walk, Prints, Printed, StatementTimetableTimes, StatementTimetable}

-- ---- an accepted plan

module _ (p : Plan) (l : Lawful p) (eight : AtMostEight p) (m : MeetsAutomaton p) (os : List ℕ) where
  forth : Prints p os (table_of p os)
  unfolding P.text
  forth =
      let f = P.found p l eight m os positions [] 0 Walk.none (within_none p (λ r. 0)) refl in
      let path = P.walk_path p l eight m os f.walk in
      let s = Along.solved (P.set p l eight m os) f.word path in
      record {
        word = f.word;
        heard = f.heard;
        walk = f.walk;
        within = f.within;
        S = s.0;
        E = s.1;
        timing = s.2;
        closing = f.closing;
        closes = f.closes s.0 s.1 s.2;
        printed =
            ap (λ (x : List ℕ). header ++ x)
            (f.printed ∙ ap (λ (x : List ℕ). x ++ f.closing) (sym (Along.rows_are (P.set p l eight m os) f.word path s.0 s.1 s.2)));
      }

  back : (text : List ℕ) → Prints p os text → table_of p os ≡ text
  unfolding P.text
  back text h =
      let path = P.walk_path p l eight m os h.walk in
      let k = positions - size (word_of p h.word) in
      let room = P.fits p l eight m os h.word path h.within in
      let w = P.walk_text p l eight m os h.walk h.within k (omega arith) in
      let c = P.closing_is p l eight m os k h.word h.heard path h.within h.S h.E h.timing h.closing h.closes in
      let r = Along.rows_are (P.set p l eight m os) h.word path h.S h.E h.timing in
      ap (λ (x : List ℕ). header ++ x) (w ∙ ap (λ (x : List ℕ). P.engine_rows p l eight m os h.word ++ x) c ∙ ap (λ (x : List ℕ). x ++ h.closing) (sym r))
      ∙ sym h.printed

pub timetable_times : StatementTimetableTimes
timetable_times b p os text bytes e =
    let a = (accepted_iff b p bytes).0 e in
    let l = lawful p ((plan_iff p).0 a.holds) a.activities a.automaton.first in
    let eight : AtMostEight p = λ js q ev f. few_pending p a.automaton.few js q ev f in
    (λ z. subst (Prints p os) z (forth p l eight a.automaton os), back p l eight a.automaton os text)

-- ---- the whole input

bytes_of : (a b : ℕ) (bs os : List ℕ) → Bytes (a ∷ b ∷ (bs ++ os)) → Bytes bs
bytes_of a b bs os h k = elim (dec_lt k (length bs)) [
  | yes l ↦ let u = h (suc (suc k)) in let e = get_or-append bs os 0 k l in omega arith
  | no n ↦ let e = get_or-eq_default bs 0 {n = k} (omega arith) in omega arith
]

-- a plan that is refused, or the table of an accepted one
by_verdict : (a b : ℕ) (bs os : List ℕ) → Bytes bs → length bs ≡ a + 256 * b → (v : Verdict) → (judge_of bs).verdict ≡ v → Printed (a ∷ b ∷ (bs ++ os)) (judged_text v (judge_of bs).plan os)
by_verdict a b bs os h n (Ok u) e =
    Printed.table bs os n e ((timetable_times bs (judge_of bs).plan os (table_of (judge_of bs).plan os) h (λ i. record { verdict = e i; plan = (judge_of bs).plan })).0 refl)
by_verdict a b bs os h n (Err x) e = Printed.faulty bs os n e

by_length : (a b : ℕ) (rest : List ℕ) → Bytes (a ∷ b ∷ rest) → (t : Bool) → leb (a + 256 * b) (length rest) ≡ t
    → Printed (a ∷ b ∷ rest) (cond t (text_of_plan (take (a + 256 * b) rest) (drop (a + 256 * b) rest)) (refused (number_of Fault.Ends) (length rest)))
by_length a b rest h false e = Printed.cut (leb-false (a + 256 * b) (length rest) e)
by_length a b rest h true e =
    let n = a + 256 * b in
    let s : take n rest ++ drop n rest ≡ rest = take-append-drop n rest in
    let long = leb-true n (length rest) e in
    subst (λ (x : List ℕ). Printed (a ∷ b ∷ x) (text_of_plan (take n rest) (drop n rest))) s
    (by_verdict a b (take n rest) (drop n rest) (bytes_of a b (take n rest) (drop n rest) (rw s h)) (length-take-le n rest long) (judge_of (take n rest)).verdict refl)

input_forth : (input : List ℕ) → Bytes input → Printed input (timetable_of input)
unfolding timetable_of
input_forth [] h = Printed.short {input = []} (omega arith)
input_forth (a ∷ []) h = Printed.short {input = a ∷ []} (omega arith)
input_forth (a ∷ b ∷ rest) h = by_length a b rest h (leb (a + 256 * b) (length rest)) refl

whole_plan : (a b : ℕ) (bs os : List ℕ) → length bs ≡ a + 256 * b → timetable_of (a ∷ b ∷ (bs ++ os)) ≡ text_of_plan bs os
unfolding timetable_of
whole_plan a b bs os n =
    let long = length-append bs os in
    rw (← n, le-leb (length bs) (length (bs ++ os)) (omega arith), take-append_seam bs os, drop-append_seam bs os)

input_back : (input text : List ℕ) → Bytes input → Printed input text → timetable_of input ≡ text
unfolding timetable_of
input_back [] text h (Printed.short l) = refl
input_back (a ∷ []) text h (Printed.short l) = refl
input_back (a ∷ b ∷ rest) text h (Printed.short l) = absurd (omega arith)
input_back input text h (Printed.cut {a} {b} {rest} l) = rw (lt-leb (a + 256 * b) (length rest) l)
input_back input text h (Printed.faulty {a} {b} bs os n e) = whole_plan a b bs os n ∙ rw e
input_back input text h (Printed.table {a} {b} bs os n e x) =
    whole_plan a b bs os n
    ∙ ap (λ (v : Verdict). judged_text v (judge_of bs).plan os) e
    ∙ (timetable_times bs (judge_of bs).plan os text (bytes_of a b bs os h) (λ i. record { verdict = e i; plan = (judge_of bs).plan })).1 x

pub timetable : StatementTimetable
timetable input text h = (λ e. subst (Printed input) e (input_forth input h), input_back input text h)
