-- The line of availabilities taken apart, and what is left to put of a text.
use Rattle.std.specs.Prelude.{List, [], ◌∷◌, ◌++◌, ℕ}
use Rattle.time.specs.declared.Specified.{Specified}
use Rattle.wire.specs.Puts.{Puts}
use Rattle.timetable_text.specs.Text.{decimal, space, newline}

-- each time behind a space, then the newline
abbrev pub spaced : List Specified → List ℕ
spaced [] = newline ∷ []
spaced (t ∷ ts) = space ∷ (decimal t.0 ++ spaced ts)

-- `rest` is left to put at `off` of what the whole is at `at`
abbrev pub Remains : List ℕ → ℕ → List ℕ → List ℕ → ℕ → List ℕ → Type 0
Remains start at whole now off rest = (after : List ℕ) (next : ℕ) → Puts now off rest after next → Puts start at whole after next
