-- What is read is the input of the table: its length, the plan, and the outcome bytes that were taken.
use Rattle.std.specs.Prelude.{◌≡◌, refl, false, Option, List, [], ◌∷◌, ◌++◌, ℕ, ◌+◌, ◌*◌, ◌≤◌, ◌<◌, length, take, get_or}
use Rattle.std.specs.Io.KnownBytes.{Appends, Consumes}
use Rattle.std.proofs.Common.{sym, ap, ◌∙◌, subst, arith, le-leb, length-append, append_assoc, take_all}
use Rattle.std.proofs.lemmas.Bool.{lt-leb}
use Rattle.std.proofs.KnownBytes.{Consumes-trans}
use Rattle.std.proofs.lemmas.List.{take_at}
use Rattle.std.proofs.Math.Seq.{take-append_seam, drop-append_seam}
use Rattle.plan.specs.Fault.{number_of}
use Rattle.plan.specs.declared.Fault.{Fault}
use Rattle.timetable_lines.specs.Lines.{refused}
use Rattle.timetable_turns.specs.Timetable.{text_of_plan, after_length, timetable_of}
use Rattle.timetable_streams.specs.declared.Output.{Output}
use Rattle.timetable_output.specs.Inner.Between.{Delivers}

-- ---- the text

-- the length that two bytes name
abbrev pub named : List ℕ → ℕ
named size = get_or size 0 0 + 256 * get_or size 1 0

pub length_cut : (size : List ℕ) → length size < 2 → refused (number_of Fault.Ends) 0 ≡ timetable_of size
unfolding timetable_of
length_cut [] h = refl
length_cut (a ∷ []) h = refl
length_cut (a ∷ b ∷ rest) h = absurd (omega arith)

timetable_is : (size rest : List ℕ) → length size ≡ 2 → timetable_of (size ++ rest) ≡ after_length (named size) rest
unfolding timetable_of
timetable_is [] rest h = absurd (omega arith)
timetable_is (a ∷ []) rest h = absurd (omega arith)
timetable_is (a ∷ b ∷ []) rest h = refl
timetable_is (a ∷ b ∷ c ∷ more) rest h = absurd (omega arith)

pub plan_cut : (size rest : List ℕ) (present : ℕ) → length size ≡ 2 → length rest ≡ present → present < named size → refused (number_of Fault.Ends) present ≡ timetable_of (size ++ rest)
plan_cut size rest present h e k =
    ap (refused (number_of Fault.Ends)) (sym e)
    ∙ sym (timetable_is size rest h ∙ rw (lt-leb (named size) (length rest) (omega arith)))

pub plan_whole : (size file os : List ℕ) → length size ≡ 2 → length file ≡ named size → text_of_plan file os ≡ timetable_of ((size ++ file) ++ os)
plan_whole size file os h k =
    sym
    (ap timetable_of (append_assoc size file os)
    ∙ timetable_is size (file ++ os) h
    ∙ ap (λ (n : ℕ). after_length n (file ++ os)) (sym k)
    ∙ rw (le-leb (length file) (length (file ++ os)) (omega (arith, length-append file os)), take-append_seam file os, drop-append_seam file os))

-- the plan's place in a buffer, where so many bytes were read
pub file_is : (buffer past : List ℕ) (n present : ℕ) → length buffer ≡ n → n ≤ present → take n (buffer ++ past) ≡ take present buffer
file_is buffer past n present e h = take_at buffer past n e ∙ sym (take_all present buffer (omega arith))

-- ---- what is printed of it

pub delivers_line : (before line : List ℕ) (text_of : List ℕ → List ℕ) (input rest written writes : Option (List ℕ)) (r : Output) → line ≡ text_of before → Consumes input rest before → r.handed ≡ length line → (r.lost ≡ false → Appends written writes line) → Delivers text_of input rest written writes r
delivers_line before line text_of input rest written writes r e c h a = record {
  all = λ k. (before, c, subst (Appends written writes) e (a k), h ∙ ap length e);
}

pub delivers_after : (before : List ℕ) (text_of whole_of : List ℕ → List ℕ) (input middle rest written writes : Option (List ℕ)) (r : Output) → ((os : List ℕ) → text_of os ≡ whole_of (before ++ os)) → Consumes input middle before → Delivers text_of middle rest written writes r → Delivers whole_of input rest written writes r
delivers_after before text_of whole_of input middle rest written writes r e c h = record {
  all = λ k.
      let d = h.all k in
      (before ++ d.0, Consumes-trans input middle rest before d.0 c d.1, subst (Appends written writes) (e d.0) d.2, d.3 ∙ ap length (e d.0));
}
