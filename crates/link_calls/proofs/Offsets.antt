-- How long a message is whose map is known.
use mathlib.Core.Path.{◌≡◌, sym, ◌∙◌, ap}
use mathlib.Core.Bool.{Bool, true, false, not}
use mathlib.Core.List.{List}
use Prim.Native.Nat.{ℕ, ◌≤◌}
use lib.ListN.{length, get_or}
use borrow.Author.Tests.{not-true, not-false}
use Rattle.link_messages.specs.Message.{length_of, has_length}
use Rattle.link_messages.proofs.Laws.Lengths.{its_length}

module _ (b : List ℕ) where
  -- what the test of the length told
  pub short : (t : Bool) → t ≡ has_length b → not t ≡ true → has_length b ≡ false
  short t e n = sym e ∙ not-true t n

  pub long : (t : Bool) → t ≡ has_length b → not t ≡ false → has_length b ≡ true
  long t e n = sym e ∙ not-false t n

  module _ (h : has_length b ≡ true) where
    pub one_byte : 1 ≤ length b
    one_byte = (its_length b h).some

    pub of_map : (m : ℕ) → get_or b 0 0 ≡ m → length b ≡ length_of m
    of_map m e = (its_length b h).all ∙ ap length_of e

    pub ask_long : get_or b 0 0 ≡ 0x01 → length b ≡ 9
    unfolding length_of
    ask_long e = of_map 0x01 e

    pub completion_long : get_or b 0 0 ≡ 0x07 → length b ≡ 14
    unfolding length_of
    completion_long e = of_map 0x07 e

    pub outcome_long : get_or b 0 0 ≡ 0x0F → length b ≡ 15
    unfolding length_of
    outcome_long e = of_map 0x0F e

    pub start_long : get_or b 0 0 ≡ 0x16 → length b ≡ 7
    unfolding length_of
    start_long e = of_map 0x16 e

    pub number_long : get_or b 0 0 ≡ 0x20 → length b ≡ 2
    unfolding length_of
    number_long e = of_map 0x20 e

    pub node_long : get_or b 0 0 ≡ 0x26 → length b ≡ 7
    unfolding length_of
    node_long e = of_map 0x26 e
