-- The first of what is held are there, whatever stands behind them.
use Rattle.std.specs.Prelude.{◌≡◌, refl, List, [], ◌∷◌, ◌++◌, map, ℕ, zero, suc, ◌<◌, length, get_or, take}
use Rattle.std.proofs.Common.{arith}

pub upto_at : {X Y : Type 0} (f : X → Y) (n : ℕ) (held : List X) (behind : List Y) (d : Y) (i : ℕ) → i < n → i < length held → get_or (map f held) i d ≡ get_or (map f (take n held) ++ behind) i d
upto_at f n [] behind d i l h = absurd (omega arith)
upto_at f zero (x ∷ held) behind d i l h = absurd (omega arith)
upto_at f (suc n) (x ∷ held) behind d zero l h = refl
upto_at f (suc n) (x ∷ held) behind d (suc i) l h = upto_at f n held behind d i (omega arith) (omega arith)
