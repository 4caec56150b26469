-- What a field of one byte that was read says.
use Rattle.std.specs.Prelude.{◌≡◌, Ok, Err, Bool, true, false, List, ℕ, ◌+◌, ◌≤◌, ◌<◌}
use Rattle.std.proofs.Common.{subst, arith}
use Rattle.wire.specs.Number.{optional}
use Rattle.wire.proofs.Laws.Fields as law
use Rattle.plan.specs.Fields.{Read, found, faulty, byte_at, optional_count}
use Rattle.plan.specs.declared.Fault.{Fault}
use Rattle.plan.specs.Moves.{move_count_at}

-- a number that was read is below the limit
abbrev Below : ℕ → Read ℕ → Type 0
Below below (Ok x) = x.0 < below
Below below (Err e) = Unit {0}

byte_below : (low below : ℕ) (wrong : Fault) (b : List ℕ) (at : ℕ) → Below below (byte_at low below wrong b at)
unfolding byte_at
byte_below low below wrong b at =
    law.on_number found faulty Fault.Ends 1 low below wrong b at (Below below) (λ x next f. f.most) (λ f p. tt)

pub byte_most : (low below : ℕ) (wrong : Fault) (b : List ℕ) (at x next : ℕ) → byte_at low below wrong b at ≡ found x next → x < below
byte_most low below wrong b at x next e = subst (Below below) e (byte_below low below wrong b at)

count_below : (most : ℕ) (stands : Bool) (b : List ℕ) (at : ℕ) → Below (most + 1) (optional_count most stands b at)
unfolding optional_count optional
count_below most true b at =
    law.on_number found faulty Fault.Ends 1 1 (most + 1) Fault.Count b at (Below (most + 1)) (λ x next f. f.most) (λ f p. tt)
count_below most false b at = omega arith

pub count_most : (most : ℕ) (stands : Bool) (b : List ℕ) (at x next : ℕ) → optional_count most stands b at ≡ found x next → x ≤ most
count_most most stands b at x next e = let h = subst (Below (most + 1)) e (count_below most stands b at) in omega arith

move_count_below : (b : List ℕ) (at : ℕ) → Below 257 (move_count_at b at)
unfolding move_count_at
move_count_below b at =
    law.on_number found faulty Fault.Ends 2 0 257 Fault.Count b at (Below 257) (λ x next f. f.most) (λ f p. tt)

pub move_count_most : (b : List ℕ) (at x next : ℕ) → move_count_at b at ≡ found x next → x ≤ 256
move_count_most b at x next e = let h = subst (Below 257) e (move_count_below b at) in omega arith
