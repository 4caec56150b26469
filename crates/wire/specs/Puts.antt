-- Bytes put into a lent buffer: past its end nothing is put, and bytes after those put are unchanged.
use Rattle.std.specs.Prelude.{◌≡◌, cond, List, ◌++◌, ℕ, ◌+◌, leb, length, drop}
use Rattle.std.proofs.lemmas.List.Edits.{sets}

-- the bytes xs are put at `at`; `next` is the offset past them
pub record Puts (before : List ℕ) (at : ℕ) (xs after : List ℕ) (next : ℕ) : Type 0 where
  pub past : next ≡ at + length xs
  pub left : after ≡ sets before at xs

-- "Number 36 and the unchanged bytes after hold for every writer into a lent buffer": what is left of it is all of a text, and everything
-- after it unchanged; one that is too short is left as it was
abbrev pub left_by : List ℕ → List ℕ → List ℕ
left_by text out = cond (leb (length text) (length out)) (text ++ drop (length text) out) out
