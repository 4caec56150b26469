-- An opening and a part of each kind: there whole, or cut off.
use Rattle.std.specs.Prelude.{Some, None}
use mathlib.Core.Path.{◌≡◌, ◌∙◌}
use mathlib.Core.List.{List}
use Prim.Native.Nat.{ℕ, ◌+◌, ◌*◌, ◌≤◌, ◌<◌}
use native.Mathlib.Omega.{arith}
use lib.ListN.{length}
use borrow.Author.Tests.{le-leb, lt-leb, ne_eqb}
use Rattle.wire.specs.Number.{little}
use Rattle.run.specs.declared.Call.{Call}
use Rattle.drive_input.specs.declared.Part.{Part}
use Rattle.drive_input.specs.Input.{byte_at, plan_length, parts_at, head_of, ask_at, completion_at, outcome_at, place_at, part_at}

module _ (b : List ℕ) where
  pub head_cut : length b < parts_at b → None ≡ head_of b
  unfolding head_of
  head_cut h = rw (lt-leb (parts_at b) (length b) h)

  module _ (n count parts : ℕ) (is : n ≡ plan_length b) (counts : count ≡ byte_at b (n + 18)) (past : parts ≡ n + 19 + 8 * count) where
    parts_are : parts ≡ parts_at b
    parts_are = past ∙ rw (counts, is)

    pub times_cut : length b < parts → None ≡ head_of b
    times_cut h = head_cut (omega (arith, parts_are))

    pub head_there : (psi slack : ℕ) → psi ≡ little 8 b (n + 2) → slack ≡ little 8 b (n + 10) → parts ≤ length b
        → Some (record { length = n; psi = record { 0 = psi }; slack = slack; count = count; parts = parts }) ≡ head_of b
    unfolding head_of
    head_there psi slack p s h =
        let whole : parts_at b ≤ length b = omega (arith, parts_are) in
        rw (p, s, parts_are, counts, is, le-leb (parts_at b) (length b) whole)

module _ (b : List ℕ) (at : ℕ) where
  pub ask_cut : length b < at + 9 → None ≡ ask_at b at
  unfolding ask_at
  ask_cut h = rw (lt-leb (at + 9) (length b) h)

  pub completion_cut : length b < at + 14 → None ≡ completion_at b at
  unfolding completion_at
  completion_cut h = rw (lt-leb (at + 14) (length b) h)

  pub outcome_cut : length b < at + 15 → None ≡ outcome_at b at
  unfolding outcome_at
  outcome_cut h = rw (lt-leb (at + 15) (length b) h)

  pub place_cut : length b < at + 6 → None ≡ place_at b at
  unfolding place_at
  place_cut h = rw (lt-leb (at + 6) (length b) h)

  pub place_there : (p : ℕ) → p ≡ little 4 b (at + 1) → at + 6 ≤ length b
      → Some (Part.Place p (byte_at b (at + 5)), at + 6) ≡ place_at b at
  unfolding place_at
  place_there p position h = rw (position, le-leb (at + 6) (length b) h)

  module _ (t : ℕ) (reading : t ≡ little 8 b (at + 1)) where
    pub ask_there : at + 9 ≤ length b → Some (Part.Call (Call.Ask (record { 0 = t })), at + 9) ≡ ask_at b at
    unfolding ask_at
    ask_there h = rw (reading, le-leb (at + 9) (length b) h)

    module _ (p : ℕ) (position : p ≡ little 4 b (at + 9)) where
      pub completion_there : at + 14 ≤ length b
          → Some (Part.Call (Call.Completion (record { 0 = t }) p (byte_at b (at + 13))), at + 14) ≡ completion_at b at
      unfolding completion_at
      completion_there h = rw (reading, position, le-leb (at + 14) (length b) h)

      pub outcome_there : at + 15 ≤ length b
          → Some (Part.Call (Call.Outcome (record { 0 = t }) p (byte_at b (at + 13)) (byte_at b (at + 14))), at + 15) ≡ outcome_at b at
      unfolding outcome_at
      outcome_there h = rw (reading, position, le-leb (at + 15) (length b) h)

  -- which part it is, by its kind
  pub no_part : length b ≤ at → None ≡ part_at b at
  unfolding part_at
  no_part h = rw (lt-leb (at + 1) (length b) (omega arith))

  module _ (h : at < length b) where
    pub is_ask : byte_at b at ≡ 0 → ask_at b at ≡ part_at b at
    unfolding part_at
    is_ask k = rw (le-leb (at + 1) (length b) (omega arith), k)

    pub is_completion : byte_at b at ≡ 1 → completion_at b at ≡ part_at b at
    unfolding part_at
    is_completion k = rw (le-leb (at + 1) (length b) (omega arith), k)

    pub is_outcome : byte_at b at ≡ 2 → outcome_at b at ≡ part_at b at
    unfolding part_at
    is_outcome k = rw (le-leb (at + 1) (length b) (omega arith), k)

    pub is_place : byte_at b at ≡ 3 → place_at b at ≡ part_at b at
    unfolding part_at
    is_place k = rw (le-leb (at + 1) (length b) (omega arith), k)

    pub no_kind : (byte_at b at ≡ 0 → ⊥) → (byte_at b at ≡ 1 → ⊥) → (byte_at b at ≡ 2 → ⊥) → (byte_at b at ≡ 3 → ⊥) → None ≡ part_at b at
    unfolding part_at
    no_kind i j k l =
        rw (
          le-leb (at + 1) (length b) (omega arith),
          ne_eqb (byte_at b at) 0 i,
          ne_eqb (byte_at b at) 1 j,
          ne_eqb (byte_at b at) 2 k,
          ne_eqb (byte_at b at) 3 l,
        )
