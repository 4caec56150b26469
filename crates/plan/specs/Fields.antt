-- Inner: crate planfile shows that reading is what its description says.
-- Fields of one byte in the plan file: "every number is its own field"; the first faulty one from the front is refused.
use Rattle.std.specs.Prelude.{Bool, List, ℕ, zero, suc, ◌+◌, set, Result, Ok, Err}
use Rattle.wire.specs.Number.{number, optional}
use Rattle.plan.specs.declared.Fault.{Fault}
use Rattle.plan.specs.declared.FaultAt.{FaultAt}

-- a part that was read and the offset past it, or a fault and its place
abbrev pub Read : Type 0 → Type 0
Read A = Result (A × ℕ) FaultAt

abbrev pub found : {A : Type 0} → A → ℕ → Read A
found x next = Ok (x, next)

abbrev pub faulty : {A : Type 0} → Fault → ℕ → Result A FaultAt
faulty f p = Err (record { fault = f; place = p })

-- what follows a part that was read, from its value and the next offset; a fault ends the reading
abbrev pub and_then : {A B : Type 0} → Read A → (A → ℕ → Result B FaultAt) → Result B FaultAt
and_then (Ok x) follow = follow x.0 x.1
and_then (Err e) follow = Err e

-- a number in low .. below - 1, in one byte
unfoldable pub byte_at : ℕ → ℕ → Fault → List ℕ → ℕ → Read ℕ
byte_at = number found faulty Fault.Ends 1

-- any byte
abbrev pub any_at : List ℕ → ℕ → Read ℕ
any_at = byte_at 0 256 Fault.Names

-- "a count outside its limits": a count of 1 to `most`
abbrev pub count_at : ℕ → List ℕ → ℕ → Read ℕ
count_at most = byte_at 1 (most + 1) Fault.Count

-- "a number that names nothing": one of `many` things, numbered from 0
abbrev pub name_at : ℕ → List ℕ → ℕ → Read ℕ
name_at many = byte_at 0 many Fault.Names

-- a count of 1 to `most` that is present iff its bit stands; 0 where it is absent
unfoldable pub optional_count : ℕ → Bool → List ℕ → ℕ → Read ℕ
optional_count most = optional found faulty Fault.Ends 1 1 (most + 1) Fault.Count

-- k more numbers in low .. below - 1: the next goes to place i; then what follows them
unfoldable pub numbers_then : {A : Type 0} → ℕ → ℕ → Fault → List ℕ → (ℕ → List ℕ → Result A FaultAt) → ℕ → ℕ → ℕ → List ℕ → Result A FaultAt
numbers_then low below wrong b follow zero at i values = follow at values
numbers_then low below wrong b follow (suc k) at i values =
    and_then (byte_at low below wrong b at) (λ x next. numbers_then low below wrong b follow k next (i + 1) (set values i x))
