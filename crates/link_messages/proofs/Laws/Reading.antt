-- What is read of any message, in any direction: 62, then 61, then each field at the offset that its map gives it.
use Rattle.std.specs.Prelude.{◌≡◌, Bool, ◌&&◌, List, ℕ, ◌+◌, ◌-◌, ◌≤◌, eqb}
use Rattle.std.proofs.Math.Path.{refl, ap}
use Rattle.std.proofs.Common.{◌∙◌}
use Rattle.std.proofs.Math.Bool.{true, false, cond, not}
use native.Mathlib.Omega.{arith}
use Rattle.std.proofs.Math.ListN.{length, get_or}
use borrow.Author.Tests.{le-leb, eq-eqb}
use Rattle.basis.proofs.Laws.Bools.{and_left, and_right}
use Rattle.wire.specs.Map.{bit}
use Rattle.wire.specs.Number.{little}
use Rattle.format.specs.Format.{◌when◌, Format, number, ◌>>=◌, optional, first, Answer, read, refused, on_found, on_answer, parse, parse_all}
use Rattle.link_messages.specs.declared.Message.{Message}
use Rattle.link_messages.specs.Message.{widths, length_of, Direction, standing, fields, message, fault_order, has_length, read_by}
use Rattle.link_messages.specs.Writing.{permits}
use Rattle.link_messages.proofs.Laws.Parts.{free, ended, from_number, from_activity, from_outcome, from_node, from_position}
use Rattle.link_messages.proofs.Laws.Lengths.{its_length}

-- the bytes of the field of bit i, and its number at an offset
abbrev wide : ℕ → ℕ → ℕ
wide m i = cond (bit i m) (get_or widths i 0) 0

abbrev value_at : ℕ → ℕ → List ℕ → ℕ → ℕ
value_at m i b at = cond (bit i m) (little (get_or widths i 0) b at) 0

-- where the fields after the reading stand, and where they end
abbrev position_at : ℕ → ℕ
position_at m = 1 + wide m 0

abbrev node_at : ℕ → ℕ
node_at m = position_at m + wide m 1

abbrev outcome_at : ℕ → ℕ
outcome_at m = node_at m + wide m 2

abbrev activity_at : ℕ → ℕ
activity_at m = outcome_at m + wide m 3

abbrev number_at : ℕ → ℕ
number_at m = activity_at m + wide m 4

abbrev end_at : ℕ → ℕ
end_at m = number_at m + wide m 5

abbrev pub fields_at : ℕ → List ℕ → Message
fields_at m b = record {
  map = m;
  reading = value_at m 0 b 1;
  position = value_at m 1 b (position_at m);
  node = value_at m 2 b (node_at m);
  outcome = value_at m 3 b (outcome_at m);
  activity = value_at m 4 b (activity_at m);
  number = value_at m 5 b (number_at m);
}

module _ (d : Direction) (b : List ℕ) where
  -- a field without faults, and what follows it
  step : (m i : ℕ) (get : Message → ℕ) (follow : ℕ → Format Message Message) (at : ℕ) → at + wide m i ≤ length b
      → parse 62 fault_order b (standing m i get free >>= follow) at ≡ parse 62 fault_order b (follow (value_at m i b at)) (at + wide m i)
  unfolding parse
  step m i get follow at l = go (bit i m) l
    where
      go : (t : Bool) → at + cond t (get_or widths i 0) 0 ≤ length b
          → parse 62 fault_order b (optional t 0 (number (get_or widths i 0) get free) >>= follow) at
          ≡ parse 62 fault_order b (follow (cond t (little (get_or widths i 0) b at) 0)) (at + cond t (get_or widths i 0) 0)
      go true h = rw (le-leb (at + get_or widths i 0) (length b) h)
      go false h = let e : at + 0 ≡ at = omega arith in rw e

  -- the number, which may be at fault
  last : (m : ℕ) (follow : ℕ → Format Message Message) (at : ℕ) → at + wide m 5 ≤ length b
      → parse 62 fault_order b (standing m 5 (λ s. s.number) (λ x. 61 when not (d.answers m x)) >>= follow) at
      ≡ cond (cond (bit 5 m) (d.answers m (value_at m 5 b at)) true) (parse 62 fault_order b (follow (value_at m 5 b at)) (at + wide m 5)) (refused 61 at)
  unfolding parse
  last m follow at l = go (bit 5 m) l
    where
      go : (t : Bool) → at + cond t 1 0 ≤ length b
          → parse 62 fault_order b (optional t 0 (number 1 (λ s. s.number) (λ x. 61 when not (d.answers m x))) >>= follow) at
          ≡ cond (cond t (d.answers m (cond t (little 1 b at) 0)) true) (parse 62 fault_order b (follow (cond t (little 1 b at) 0)) (at + cond t 1 0)) (refused 61 at)
      go true h = rw (le-leb (at + 1) (length b) h) (by (d.answers m (little 1 b at)))
        where
          by : (u : Bool) → on_found (first fault_order (61 when not u)) (parse 62 fault_order b (follow (little 1 b at)) (at + 1)) (λ n. refused n at)
              ≡ cond u (parse 62 fault_order b (follow (little 1 b at)) (at + 1)) (refused 61 at)
          by true = refl
          by false = refl
      go false h = let e : at + 0 ≡ at = omega arith in rw e

  fields_parse : (m : ℕ) → end_at m ≤ length b
      → parse 62 fault_order b (fields d m) 1 ≡ cond (cond (bit 5 m) (d.answers m (fields_at m b).number) true) (read (fields_at m b) (end_at m)) (refused 61 (number_at m))
  unfolding parse
  fields_parse m l =
      step m 0 (λ s. s.reading) (from_position d m) 1 (omega arith)
      ∙ step m 1 (λ s. s.position) (from_node d m _) (position_at m) (omega arith)
      ∙ step m 2 (λ s. s.node) (from_outcome d m _ _) (node_at m) (omega arith)
      ∙ step m 3 (λ s. s.outcome) (from_activity d m _ _ _) (outcome_at m) (omega arith)
      ∙ step m 4 (λ s. s.activity) (from_number d m _ _ _ _) (activity_at m) (omega arith)
      ∙ last m (ended d m _ _ _ _ _) (number_at m) (omega arith)

  -- the whole, where the length is the map's
  whole_parse : (m : ℕ) → get_or b 0 0 ≡ m → end_at m ≡ length b
      → on_answer (parse 62 fault_order b (message d) 0) (λ a next. cond (eqb next (length b)) (read a next) (refused 62 next)) refused
      ≡ cond (d.listed m) (cond (cond (bit 5 m) (d.answers m (fields_at m b).number) true) (read (fields_at m b) (length b)) (refused 61 (number_at m))) (refused 61 0)
  unfolding parse
  whole_parse m e l =
      let k : little 1 b 0 ≡ m = omega (arith, e) in
      rw (le-leb 1 (length b) (omega (arith, l)), k) (go (d.listed m) (cond (bit 5 m) (d.answers m (fields_at m b).number) true) (fields_parse m (omega (arith, l))))
    where
      go : (t u : Bool) → parse 62 fault_order b (fields d m) 1 ≡ cond u (read (fields_at m b) (end_at m)) (refused 61 (number_at m))
          → on_answer (on_found (first fault_order (61 when not t)) (parse 62 fault_order b (fields d m) 1) (λ n. refused n 0)) (λ a next. cond (eqb next (length b)) (read a next) (refused 62 next)) refused
          ≡ cond t (cond u (read (fields_at m b) (length b)) (refused 61 (number_at m))) (refused 61 0)
      go true true h = rw (h, l, eq-eqb (length b) (length b) refl)
      go true false h = rw h
      go false u h = refl

  -- the number, if it stands, is the last byte
  pub number_last : has_length b ≡ true → permits d (get_or b 0 0) (fields_at (get_or b 0 0) b).number ≡ permits d (get_or b 0 0) (get_or b (length b - 1) 0)
  unfolding length_of
  number_last long = go (bit 5 (get_or b 0 0)) refl
    where
      go : (t : Bool) → bit 5 (get_or b 0 0) ≡ t
          → (d.listed (get_or b 0 0) && cond t (d.answers (get_or b 0 0) (cond t (little 1 b (number_at (get_or b 0 0))) 0)) true)
          ≡ (d.listed (get_or b 0 0) && cond t (d.answers (get_or b 0 0) (get_or b (length b - 1) 0)) true)
      go true e =
          let w : wide (get_or b 0 0) 5 ≡ 1 = rw e in
          let n : number_at (get_or b 0 0) ≡ length b - 1 = omega (arith, (its_length b long).all, w) in
          let x : little 1 b (number_at (get_or b 0 0)) ≡ get_or b (number_at (get_or b 0 0)) 0 = omega arith in
          ap (λ (y : ℕ). d.listed (get_or b 0 0) && d.answers (get_or b 0 0) y) (x ∙ ap (λ (k : ℕ). get_or b k 0) n)
      go false e = refl

  -- a message with its map's length, whose map and number the direction has, is read to its end
  pub accepted : has_length b ≡ true → permits d (get_or b 0 0) (fields_at (get_or b 0 0) b).number ≡ true
      → parse_all 62 fault_order b 62 (message d) ≡ read (fields_at (get_or b 0 0) b) (length b)
  unfolding parse_all length_of
  accepted long has =
      let m = get_or b 0 0 in
      let n = cond (bit 5 m) (d.answers m (fields_at m b).number) true in
      whole_parse m refl (omega (arith, (its_length b long).all)) ∙ rw (and_left (d.listed m) n has, and_right (d.listed m) n has)

  pub read_by_lem : {A : Type 0} (value : Message → A) (wrong : ℕ → A)
      → read_by d b value wrong
      ≡ cond (has_length b) (cond (permits d (get_or b 0 0) (fields_at (get_or b 0 0) b).number) (value (fields_at (get_or b 0 0) b)) (wrong 61)) (wrong 62)
  unfolding read_by parse_all length_of
  read_by_lem value wrong = go (has_length b) refl
    where
      go : (t : Bool) → has_length b ≡ t
          → cond t (on_answer (parse_all 62 fault_order b 62 (message d)) (λ s next. value s) (λ n place. wrong n)) (wrong 62)
          ≡ cond t (cond (permits d (get_or b 0 0) (fields_at (get_or b 0 0) b).number) (value (fields_at (get_or b 0 0) b)) (wrong 61)) (wrong 62)
      go false e = refl
      go true e =
          let l : end_at (get_or b 0 0) ≡ length b = omega (arith, (its_length b e).all) in
          ap (λ (r : Answer Message). on_answer r (λ s next. value s) (λ n place. wrong n)) (whole_parse (get_or b 0 0) refl l)
          ∙ by (d.listed (get_or b 0 0)) (cond (bit 5 (get_or b 0 0)) (d.answers (get_or b 0 0) (fields_at (get_or b 0 0) b).number) true)
        where
          by : (t u : Bool) → on_answer (cond t (cond u (read (fields_at (get_or b 0 0) b) (length b)) (refused 61 (number_at (get_or b 0 0)))) (refused 61 0)) (λ s next. value s) (λ n place. wrong n)
              ≡ cond (t && u) (value (fields_at (get_or b 0 0) b)) (wrong 61)
          by true true = refl
          by true false = refl
          by false u = refl
