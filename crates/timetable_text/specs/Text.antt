-- Words and numbers as bytes of text.
use Rattle.std.specs.Prelude.{cond, List, [], ◌∷◌, ◌++◌, ℕ, zero, suc, ◌+◌, ◌/◌, ◌%◌, ltb}

-- the decimal digits of a number below 10^k
unfoldable pub digits : ℕ → ℕ → List ℕ
digits zero n = []
digits (suc k) n = cond (ltb n 10) ((48 + n) ∷ []) (digits k (n / 10) ++ ((48 + n % 10) ∷ []))

-- every number of a line is below 10^20
abbrev pub decimal : ℕ → List ℕ
decimal n = digits 20 n

abbrev pub space : ℕ
space = 32

abbrev pub newline : ℕ
newline = 10

-- a line: words with one space between, and a newline
unfoldable pub line : List (List ℕ) → List ℕ
line [] = newline ∷ []
line (w ∷ []) = w ++ (newline ∷ [])
line (w ∷ v ∷ ws) = w ++ (space ∷ line (v ∷ ws))

-- "position", "activity", "node", "start", "end", "free", "waits", "refused"
abbrev pub word_position : List ℕ
word_position = 112 ∷ 111 ∷ 115 ∷ 105 ∷ 116 ∷ 105 ∷ 111 ∷ 110 ∷ []

abbrev pub word_activity : List ℕ
word_activity = 97 ∷ 99 ∷ 116 ∷ 105 ∷ 118 ∷ 105 ∷ 116 ∷ 121 ∷ []

abbrev pub word_node : List ℕ
word_node = 110 ∷ 111 ∷ 100 ∷ 101 ∷ []

abbrev pub word_start : List ℕ
word_start = 115 ∷ 116 ∷ 97 ∷ 114 ∷ 116 ∷ []

abbrev pub word_end : List ℕ
word_end = 101 ∷ 110 ∷ 100 ∷ []

abbrev pub word_free : List ℕ
word_free = 102 ∷ 114 ∷ 101 ∷ 101 ∷ []

abbrev pub word_waits : List ℕ
word_waits = 119 ∷ 97 ∷ 105 ∷ 116 ∷ 115 ∷ []

abbrev pub word_refused : List ℕ
word_refused = 114 ∷ 101 ∷ 102 ∷ 117 ∷ 115 ∷ 101 ∷ 100 ∷ []
