-- The fields of a message, one by one: what follows each, and what is read and written of it.
use Rattle.std.specs.Prelude.{◌≡◌, refl, Bool, true, false, cond, not, List, [], ℕ, get_or}
use Rattle.std.proofs.Common.{append-nil}
use Rattle.wire.specs.Map.{bit}
use Rattle.wire.specs.Number.{bytes_of}
use Rattle.format.specs.Format.{Rule, ◌when◌, Format, done, number, ◌>>=◌, optional, print}
use Rattle.link_messages.specs.declared.Message.{Message}
use Rattle.link_messages.specs.Message.{Direction, widths, standing}

abbrev pub free : ℕ → List Rule
free x = []

module _ (d : Direction) (m : ℕ) where
  abbrev pub ended : ℕ → ℕ → ℕ → ℕ → ℕ → ℕ → Format Message Message
  ended r p n o a x = done (record { map = m; reading = r; position = p; node = n; outcome = o; activity = a; number = x })

  abbrev pub from_number : ℕ → ℕ → ℕ → ℕ → ℕ → Format Message Message
  from_number r p n o a = standing m 5 (λ s. s.number) (λ x. 61 when not (d.answers m x)) >>= ended r p n o a

  abbrev pub from_activity : ℕ → ℕ → ℕ → ℕ → Format Message Message
  from_activity r p n o = standing m 4 (λ s. s.activity) free >>= from_number r p n o

  abbrev pub from_outcome : ℕ → ℕ → ℕ → Format Message Message
  from_outcome r p n = standing m 3 (λ s. s.outcome) free >>= from_activity r p n

  abbrev pub from_node : ℕ → ℕ → Format Message Message
  from_node r p = standing m 2 (λ s. s.node) free >>= from_outcome r p

  abbrev pub from_position : ℕ → Format Message Message
  from_position r = standing m 1 (λ s. s.position) free >>= from_node r

-- a field that stands has its bytes, another none
pub standing_print : (m i : ℕ) (get : Message → ℕ) (rules : ℕ → List Rule) (s : Message)
    → print (standing m i get rules) s ≡ cond (bit i m) (bytes_of (get_or widths i 0) (get s)) []
unfolding print
standing_print m i get rules s = go (bit i m)
  where
    go : (t : Bool) → print (optional t 0 (number (get_or widths i 0) get rules)) s ≡ cond t (bytes_of (get_or widths i 0) (get s)) []
    go true = append-nil (bytes_of (get_or widths i 0) (get s))
    go false = refl
