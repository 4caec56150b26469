-- What the contracts behind `Laws/Bits` cite.
use Rattle.std.specs.Prelude.{◌≡◌, ℕ, ◌/◌, ◌%◌, ◌^◌}

-- bit j of w stands
abbrev pub Bit : ℕ → ℕ → Type 0
Bit w j = w / 2 ^ j % 2 ≡ 1
