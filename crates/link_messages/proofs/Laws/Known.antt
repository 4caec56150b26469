-- A message is read exactly where the bytes are its writing, for any list of maps and numbers.
use Rattle.std.specs.Prelude.{◌≡◌, refl, List, ◌↔◌, ℕ, length, get_or}
use Rattle.std.proofs.Math.Bool.{not}
use Rattle.wire.specs.Map.{bit}
use Rattle.format.specs.Format.{Rule, ◌when◌, number, read, parse_all}
use Rattle.format.specs.Writing.{Bytes}
use Rattle.format.proofs.Laws.Writing.{Held}
use Rattle.format.proofs.Laws.Knowing.{Knows, Part, the_number, the_optional, accepted_exactly}
use Rattle.link_messages.specs.declared.Message.{Message}
use Rattle.link_messages.specs.Message.{widths, Direction, standing, message, fault_order}
use Rattle.link_messages.proofs.Laws.Parts.{free, ended, from_number, from_activity, from_outcome, from_node, from_position}

abbrev pub itself : Message → Message
itself s = s

abbrev Nothing : ℕ → Type 0
Nothing x = Unit {0}

field_is : (rules : ℕ → List Rule) (m i : ℕ) (get : Message → ℕ) → Part fault_order {B = Message} itself Nothing (λ x s. get s ≡ x) (standing m i get rules)
field_is rules m i get =
    the_optional fault_order itself Nothing (λ x s. get s ≡ x) (bit i m) 0 (number (get_or widths i 0) get rules)
    (λ e. the_number fault_order itself Nothing (get_or widths i 0) get rules (λ x l g. tt)) (λ e. tt)

module _ (d : Direction) where
  module _ (m : ℕ) where
    abbrev K1 : Message → Type 0
    K1 s = Unit {0} × (s.map ≡ m)

    abbrev K2 : ℕ → Message → Type 0
    K2 r s = K1 s × (s.reading ≡ r)

    abbrev K3 : ℕ → ℕ → Message → Type 0
    K3 r p s = K2 r s × (s.position ≡ p)

    abbrev K4 : ℕ → ℕ → ℕ → Message → Type 0
    K4 r p n s = K3 r p s × (s.node ≡ n)

    abbrev K5 : ℕ → ℕ → ℕ → ℕ → Message → Type 0
    K5 r p n o s = K4 r p n s × (s.outcome ≡ o)

    abbrev K6 : ℕ → ℕ → ℕ → ℕ → ℕ → Message → Type 0
    K6 r p n o a s = K5 r p n o s × (s.activity ≡ a)

  knows : Knows fault_order itself (λ s. Unit {0}) (message d)
  unfolding Knows
  knows = λ m i g.
      (field_is free m 0 (λ s. s.reading)).go_on (K1 m) (from_position d m) (λ r u.
      (field_is free m 1 (λ s. s.position)).go_on (K2 m r) (from_node d m r) (λ p u.
      (field_is free m 2 (λ s. s.node)).go_on (K3 m r p) (from_outcome d m r p) (λ n u.
      (field_is free m 3 (λ s. s.outcome)).go_on (K4 m r p n) (from_activity d m r p n) (λ o u.
      (field_is free m 4 (λ s. s.activity)).go_on (K5 m r p n o) (from_number d m r p n o) (λ a u.
      (field_is (λ x. 61 when not (d.answers m x)) m 5 (λ s. s.number)).go_on (K6 m r p n o a) (ended d m r p n o a) (λ x u.
      (((((((tt, refl), refl), refl), refl), refl), refl), refl)))))))

  pub message_read : (b : List ℕ) → Bytes b → (s : Message) → (parse_all 62 fault_order b 62 (message d) ≡ read s (length b)) ↔ Held 62 fault_order b itself (message d) s
  message_read b bytes s = accepted_exactly 62 fault_order b bytes itself 62 (message d) knows s
