-- "Number 36 and the unchanged bytes after hold for every writer into a lent buffer."
use Rattle.std.specs.Prelude.{◌≡◌, cond, List, ◌++◌, ℕ, ◌+◌, leb, length, take, drop, Result, Ok, Err}
use Rattle.timetable_text.specs.declared.NotPut.{NotPut}

-- the number of each refusal; its place is 0
abbrev pub number_of : NotPut → ℕ
number_of NotPut.TooShort = 36

abbrev pub place_of : NotPut → ℕ
place_of n = 0

-- what a writer answers that is to put `text` from `at` on: the offset past it
unfoldable pub put_of : List ℕ → ℕ → List ℕ → Result ℕ NotPut
put_of out at text = cond (leb (at + length text) (length out)) (Ok (at + length text)) (Err NotPut.TooShort)

-- the buffer that it leaves: the text, and everything else unchanged; one that is too short, as it was
unfoldable pub buffer_of : List ℕ → ℕ → List ℕ → List ℕ
buffer_of out at text = cond (leb (at + length text) (length out)) (take at out ++ text ++ drop (at + length text) out) out

pub record Lends (before : List ℕ) (at : ℕ) (text after : List ℕ) (r : Result ℕ NotPut) : Type 0 where
  pub put : r ≡ put_of before at text
  pub left : after ≡ buffer_of before at text

-- the offset past what was put, `at` where nothing was
abbrev pub past_of : ℕ → Result ℕ NotPut → ℕ
past_of at (Ok next) = next
past_of at (Err n) = at
