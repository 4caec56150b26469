-- Answers that are a length, as numbers for callers in another language.
use Rattle.std.specs.Prelude.{ℕ, ◌*◌, Result, Ok, Err}
use Rattle.timetable_text.specs.declared.NotPut.{NotPut}
use Rattle.timetable_text.specs.Lent.{number_of}

-- the length of a text at the front of a buffer, or the number times 2^32 of one that is too short
abbrev pub length_code : Result ℕ NotPut → ℕ
length_code (Ok n) = n
length_code (Err NotPut.TooShort) = number_of NotPut.TooShort * 4_294_967_296
