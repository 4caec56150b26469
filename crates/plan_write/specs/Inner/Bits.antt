-- Bits of a map as numbers.
use Rattle.std.specs.Prelude.{Bool, true, false, ℕ}
use Rattle.plan.specs.declared.Kind.{Kind}

-- a bit as a number
abbrev pub digit : Bool → ℕ
digit true = 1
digit false = 0

-- the bit of a kind
abbrev pub kind_bit : Kind → ℕ
kind_bit (Kind.Action a x) = 1
kind_bit (Kind.Claim r) = 2
kind_bit (Kind.Release r) = 4
kind_bit (Kind.Event e) = 8
