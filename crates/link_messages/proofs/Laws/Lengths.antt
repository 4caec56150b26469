-- Every message has its map's length. One whose bytes have that length is never cut, and has none left.
use Rattle.std.specs.Prelude.{◌≡◌, refl, true, cond, drop, leb, eqb}
use Rattle.std.proofs.Common.{sym, ◌∙◌, inl, inr, le-leb, leb-true, eqb-true, eq-eqb}
use Rattle.std.proofs.Math.Path.{ap}
use Rattle.std.proofs.Math.Bool.{not}
use mathlib.Core.List.{List}
use Prim.Native.Nat.{ℕ, suc, ◌+◌, ◌≤◌}
use native.Mathlib.Omega.{arith}
use Rattle.std.proofs.Math.ListN.{length, get_or}
use Rattle.basis.specs.Lists.{Among}
use Rattle.basis.proofs.Laws.Bools.{and_left, and_right, and_both}
use Rattle.wire.specs.Map.{bit}
use Rattle.wire.specs.Number.{little}
use Rattle.format.specs.Format.{Rule, ◌when◌, Format, number, ◌>>=◌, Found, good, fault, first, Answer, read, refused, on_found, on_answer, parse, parse_all, print}
use Rattle.format.proofs.Laws.Sized.{Sized, sized_number, sized_then, sized_optional, sized_print, sized_parse, fault_among}
use Rattle.link_messages.specs.declared.Message.{Message}
use Rattle.link_messages.specs.Message.{widths, length_from, length_of, Direction, standing, fields, message, fault_order, has_length}
use Rattle.link_messages.specs.Inner.Bytes.{message_bytes}
use Rattle.link_messages.proofs.Laws.Printed.{message_print}
use Rattle.link_messages.proofs.Laws.Parts.{free, ended, from_number, from_activity, from_outcome, from_node, from_position}

-- what the test of the length tells
pub record ItsLength (b : List ℕ) : Type 0 where
  pub some : 1 ≤ length b
  pub all : length b ≡ length_of (get_or b 0 0)

pub its_length : (b : List ℕ) → has_length b ≡ true → ItsLength b
its_length b e = record { some = leb-true 1 (length b) (and_left _ _ e); all = eqb-true (length b) (length_of (get_or b 0 0)) (and_right (leb 1 (length b)) _ e) }

pub of_its_length : (b : List ℕ) → ItsLength b → has_length b ≡ true
of_its_length b h = and_both _ _ (le-leb 1 (length b) h.some) (eq-eqb (length b) (length_of (get_or b 0 0)) h.all)

sized_standing : (m i : ℕ) (get : Message → ℕ) (rules : ℕ → List Rule) → Sized (cond (bit i m) (get_or widths i 0) 0) (standing m i get rules)
sized_standing m i get rules = sized_optional (bit i m) (get_or widths i 0) 0 (number (get_or widths i 0) get rules) (sized_number (get_or widths i 0) get rules)

-- P of what is answered where the whole file must be read
abbrev Whole : ℕ → List ℕ → (Answer Message → Type 0) → Answer Message → Type 0
Whole over b P r = P (on_answer r (λ a next. cond (eqb next (length b)) (read a next) (refused over next)) refused)

module _ (d : Direction) where
  sized_fields : (m : ℕ) → Sized (length_from widths 0 m) (fields d m)
  unfolding Sized
  sized_fields m =
      then 0 (λ s. s.reading) free (from_position d m) (λ r.
      then 1 (λ s. s.position) free (from_node d m r) (λ p.
      then 2 (λ s. s.node) free (from_outcome d m r p) (λ n.
      then 3 (λ s. s.outcome) free (from_activity d m r p n) (λ o.
      then 4 (λ s. s.activity) free (from_number d m r p n o) (λ a.
      then 5 (λ s. s.number) (λ x. 61 when not (d.answers m x)) (ended d m r p n o a) (λ x. refl))))))
    where
      then : (i : ℕ) (get : Message → ℕ) (rules : ℕ → List Rule) (follow : ℕ → Format Message Message) → ((x : ℕ) → Sized (length_from (drop (i + 1) widths) (i + 1) m) (follow x))
          → Sized (cond (bit i m) (get_or widths i 0) 0 + length_from (drop (i + 1) widths) (i + 1) m) (standing m i get rules >>= follow)
      then i get rules follow f =
          sized_then (cond (bit i m) (get_or widths i 0) 0) (length_from (drop (i + 1) widths) (i + 1) m) (standing m i get rules) follow (sized_standing m i get rules) f

  pub message_length : (s : Message) → length (print (message d) s) ≡ length_of s.map
  unfolding print length_of
  message_length s = ap suc (sized_print (length_from widths 0 s.map) (fields d s.map) (sized_fields s.map) s) ∙ omega arith

  -- what holds of every message that is read to its end, and of 61, holds: whatever number a cut field or bytes left would have
  pub never_cut : (b : List ℕ) → ItsLength b → (ends over : ℕ) (P : Answer Message → Type 0) → ((s : Message) → P (read s (length b))) → ((p : ℕ) → P (refused 61 p))
      → P (parse_all ends fault_order b over (message d))
  unfolding parse parse_all length_of
  never_cut b h ends over P value bad =
      rw (le-leb 1 (length b) h.some) (go (first fault_order (61 when not (d.listed (little 1 b 0)))) refl)
    where
      past : 1 + length_from widths 0 (little 1 b 0) ≡ length b
      past = let e : little 1 b 0 ≡ get_or b 0 0 = omega arith in rw e (sym h.all)

      is_61 : (m p : ℕ) → Among m fault_order → Whole over b P (refused m p)
      is_61 m p (inl e) = rw e (bad p)
      is_61 m p (inr e) = absurd e

      go : (f : Found) → first fault_order (61 when not (d.listed (little 1 b 0))) ≡ f
          → Whole over b P (on_found f (parse ends fault_order b (fields d (little 1 b 0)) 1) (λ n. refused n 0))
      go good e =
          sized_parse ends fault_order b (length_from widths 0 (little 1 b 0)) (fields d (little 1 b 0)) (sized_fields (little 1 b 0)) 1 (omega (arith, past)) (Whole over b P)
          (λ a. rw (past, eq-eqb (length b) (length b) refl) (value a)) is_61
      go (fault m) e = is_61 m 0 (fault_among fault_order (61 when not (d.listed (little 1 b 0))) m e)

-- whatever direction has it
pub bytes_length : (s : Message) → length (message_bytes s) ≡ length_of s.map
bytes_length s = sym (ap length (message_print any s)) ∙ message_length any s
  where
    any : Direction
    any = record { listed = λ m. true; answers = λ m x. true }
