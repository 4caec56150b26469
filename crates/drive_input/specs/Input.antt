-- The parts of the input: an opening, then calls and questions for a node's place. A number has its lowest byte first; offsets count from the first byte.
use Rattle.std.specs.Prelude.{Bool, cond, List, [], ◌∷◌, ℕ, zero, suc, ◌+◌, ◌*◌, length, get_or, take, drop, leb, eqb, Option, Some, None}
use Rattle.wire.specs.Number.{little}
use Rattle.time.specs.declared.Clock.{Clock}
use Rattle.run.specs.declared.Call.{Call}
use Rattle.drive_input.specs.declared.Head.{Head}
use Rattle.drive_input.specs.declared.Part.{Part}

abbrev pub byte_at : List ℕ → ℕ → ℕ
byte_at b at = get_or b at 0

-- a reading of the host's counter, or Ψ
abbrev pub clock_at : List ℕ → ℕ → Clock
clock_at b at = record { 0 = little 8 b at }

-- ---- the opening

-- plan length (2 bytes), plan
abbrev pub plan_length : List ℕ → ℕ
plan_length b = little 2 b 0

abbrev pub plan_of : List ℕ → ℕ → List ℕ
plan_of b n = take n (drop 2 b)

-- availability count (1), after the plan, Ψ (8) and slack (8)
abbrev pub count_of : List ℕ → ℕ
count_of b = byte_at b (plan_length b + 18)

-- k availabilities (8 each) from `at` on
unfoldable pub availabilities_from : List ℕ → ℕ → ℕ → List ℕ
availabilities_from b at zero = []
availabilities_from b at (suc k) = little 8 b at ∷ availabilities_from b (at + 8) k

-- where the parts after the opening begin, and whether the input holds all that stands before them
abbrev pub parts_at : List ℕ → ℕ
parts_at b = plan_length b + 19 + 8 * count_of b

abbrev pub is_whole : List ℕ → Bool
is_whole b = leb (parts_at b) (length b)

-- the numbers of the opening
abbrev pub head : List ℕ → Head
head b = record {
  length = plan_length b;
  psi = clock_at b (plan_length b + 2);
  slack = little 8 b (plan_length b + 10);
  count = count_of b;
  parts = parts_at b;
}

unfoldable pub head_of : List ℕ → Option Head
head_of b = cond (is_whole b) (Some (head b)) None

-- ---- a part

-- a part that ends before `next`, unless the input ends inside it
abbrev pub part_up_to : List ℕ → ℕ → Part → Option (Part × ℕ)
part_up_to b next part = cond (leb next (length b)) (Some (part, next)) None

-- likewise a call
abbrev pub call_up_to : List ℕ → ℕ → Call → Option (Part × ℕ)
call_up_to b next call = part_up_to b next (Part.Call call)

-- kind 0, ask: reading (8)
unfoldable pub ask_at : List ℕ → ℕ → Option (Part × ℕ)
ask_at b at = call_up_to b (at + 9) (Call.Ask (clock_at b (at + 1)))

-- kind 1, completion: reading (8), position (4), node (1)
unfoldable pub completion_at : List ℕ → ℕ → Option (Part × ℕ)
completion_at b at = call_up_to b (at + 14) (Call.Completion (clock_at b (at + 1)) (little 4 b (at + 9)) (byte_at b (at + 13)))

-- kind 2, outcome: reading (8), position (4), node (1), outcome (1)
unfoldable pub outcome_at : List ℕ → ℕ → Option (Part × ℕ)
outcome_at b at =
    call_up_to b (at + 15) (Call.Outcome (clock_at b (at + 1)) (little 4 b (at + 9)) (byte_at b (at + 13)) (byte_at b (at + 14)))

-- kind 3, where a node stands: position (4), node (1); no call, so no reading
unfoldable pub place_at : List ℕ → ℕ → Option (Part × ℕ)
place_at b at = part_up_to b (at + 6) (Part.Place (little 4 b (at + 1)) (byte_at b (at + 5)))

-- "kind (1: 0 ask, 1 completion, 2 outcome)", and 3 for a node's place; any other kind ends the list
abbrev pub part_of_kind : ℕ → List ℕ → ℕ → Option (Part × ℕ)
part_of_kind kind b at =
    cond (eqb kind 0) (ask_at b at)
    (cond (eqb kind 1) (completion_at b at) (cond (eqb kind 2) (outcome_at b at) (cond (eqb kind 3) (place_at b at) None)))

-- the part at `at`, if there is one, and the offset past it
unfoldable pub part_at : List ℕ → ℕ → Option (Part × ℕ)
part_at b at = cond (leb (at + 1) (length b)) (part_of_kind (byte_at b at) b at) None
