-- In every direction the bytes of a message are those of its fields.
use Rattle.std.specs.Prelude.{◌≡◌, ℕ}
use Rattle.std.proofs.Math.Path.{refl, ap}
use Rattle.std.proofs.Common.{◌∙◌}
use Rattle.std.proofs.Math.Bool.{not}
use mathlib.Core.List.{List, ◌++◌}
use Rattle.wire.specs.Number.{bytes_of}
use Rattle.format.specs.Format.{Rule, ◌when◌, Format, ◌>>=◌, print, result}
use Rattle.format.proofs.Laws.Format.{print_step, print_last}
use Rattle.link_messages.specs.declared.Message.{Message}
use Rattle.link_messages.specs.Message.{Direction, standing, message}
use Rattle.link_messages.specs.Inner.Bytes.{field_bytes, message_bytes}
use Rattle.link_messages.proofs.Laws.Parts.{free, ended, from_number, from_activity, from_outcome, from_node, from_position, standing_print}

module _ (d : Direction) (s : Message) where
  -- one field, and what is written after it
  then : (i : ℕ) (get : Message → ℕ) (rules : ℕ → List Rule) (follow : ℕ → Format Message Message) (ys : List ℕ)
      → print (follow (result (standing s.map i get rules) s)) s ≡ ys → print (standing s.map i get rules >>= follow) s ≡ field_bytes s.map i (get s) ++ ys
  then i get rules follow ys e = print_step (standing s.map i get rules) follow s _ (field_bytes s.map i (get s)) ys refl (standing_print s.map i get rules s) e

  pub message_print : print (message d) s ≡ message_bytes s
  unfolding print
  message_print =
      ap (λ (l : List ℕ). bytes_of 1 s.map ++ l)
      (then 0 (λ u. u.reading) free (from_position d s.map) _
      (then 1 (λ u. u.position) free (from_node d s.map _) _
      (then 2 (λ u. u.node) free (from_outcome d s.map _ _) _
      (then 3 (λ u. u.outcome) free (from_activity d s.map _ _ _) _
      (then 4 (λ u. u.activity) free (from_number d s.map _ _ _ _) _
      (print_last (standing s.map 5 (λ u. u.number) (λ x. 61 when not (d.answers s.map x))) (ended d s.map _ _ _ _ _) s refl
      ∙ standing_print s.map 5 (λ u. u.number) (λ x. 61 when not (d.answers s.map x)) s))))))
