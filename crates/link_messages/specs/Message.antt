-- Request (a) of document 02: "A message is a map byte and the fields whose bits stand, in bit order, little-endian".
use Rattle.std.specs.Prelude.{Bool, cond, not, ◌&&◌, List, [], ◌∷◌, ℕ, ◌+◌, ◌^◌, length, get_or, leb, eqb}
use Rattle.wire.specs.Map.{bit}
use Rattle.format.specs.Format.{Rule, ◌when◌, Format, done, number, ◌>>=◌, optional, on_answer, parse_all}
use Rattle.link_messages.specs.declared.Message.{Message}

-- ---- the map

-- "bit 0 reading (8 bytes), bit 1 position (4), bit 2 node (1), bit 3 outcome (1), bit 4 activity (1), bit 5 number (1); bit 6 means
-- done and bit 7 taken, both without a field"
abbrev pub widths : List ℕ
widths = 8 ∷ 4 ∷ 1 ∷ 1 ∷ 1 ∷ 1 ∷ []

-- the map in which these bits stand
abbrev pub bits : List ℕ → ℕ
bits [] = 0
bits (i ∷ more) = 2 ^ i + bits more

-- the bytes of the fields that stand, of bits i on
abbrev pub length_from : List ℕ → ℕ → ℕ → ℕ
length_from [] i m = 0
length_from (w ∷ more) i m = cond (bit i m) w 0 + length_from more (i + 1) m

-- the map's length: every map has one, listed or not
unfoldable pub length_of : ℕ → ℕ
length_of m = 1 + length_from widths 0 m

-- ---- a message

-- what a direction takes: the maps that are listed for it, and the numbers that a message with a map has
pub record Direction : Type 0 where
  pub listed : ℕ → Bool
  pub answers : ℕ → ℕ → Bool

-- the field of bit i, if it stands
abbrev pub standing : ℕ → ℕ → (Message → ℕ) → (ℕ → List Rule) → Format Message ℕ
standing m i get rules = optional (bit i m) 0 (number (get_or widths i 0) get rules)

-- the fields after the map m; 61 "a number no such answer has"
abbrev pub fields : Direction → ℕ → Format Message Message
fields d m = do
  reading ← standing m 0 (λ s. s.reading) (λ x. [])
  position ← standing m 1 (λ s. s.position) (λ x. [])
  node ← standing m 2 (λ s. s.node) (λ x. [])
  outcome ← standing m 3 (λ s. s.outcome) (λ x. [])
  activity ← standing m 4 (λ s. s.activity) (λ x. [])
  n ← standing m 5 (λ s. s.number) (λ x. 61 when not (d.answers m x))
  done (record { map = m; reading = reading; position = position; node = node; outcome = outcome; activity = activity; number = n })

-- 61 "a map not listed for its direction"
abbrev pub message : Direction → Format Message Message
message d = number 1 (λ s. s.map) (λ m. 61 when not (d.listed m)) >>= fields d

-- ---- reading

-- 62 is no fault of a field: it is looked for first
abbrev pub fault_order : List ℕ
fault_order = 61 ∷ []

-- "62, an empty message or a length other than the map's"
abbrev pub has_length : List ℕ → Bool
has_length b = leb 1 (length b) && eqb (length b) (length_of (get_or b 0 0))

-- 62, "then 61": what the message says, or the number of its refusal
unfoldable pub read_by : {A : Type 0} → Direction → List ℕ → (Message → A) → (ℕ → A) → A
read_by d b value refused =
    cond (has_length b) (on_answer (parse_all 62 fault_order b 62 (message d)) (λ s next. value s) (λ n place. refused n)) (refused 62)
