-- What the contracts behind `Laws/Closure` cite.
use Rattle.std.specs.Prelude.{◌≡◌, List, ◌⊎◌, ◌↔◌, ℕ, ◌<◌, ◌≤◌, get_or}
use Rattle.plan.specs.declared.Node.{Node}
use Rattle.activity.specs.Rules.{Before}
use Rattle.activity.specs.Inner.Bits.{Bit}

-- bit m of the word of n stands
abbrev pub Rel : List ℕ → ℕ → ℕ → Type 0
Rel r m n = Bit (get_or r n 0) m

-- the words of r say which nodes are before which
abbrev pub Closure : List Node → List ℕ → Type 0
Closure a r = (m n : ℕ) → Rel r m n ↔ Before a m n

-- v is w, with the bits of row too where w has bit k
abbrev pub Stepped : ℕ → ℕ → ℕ → ℕ → Type 0
Stepped w row k v = (j : ℕ) → Bit v j ↔ (Bit w j ⊎ (Bit w k × Bit row j))

-- r is t, with a step through k at the first i words
pub record Through (t : List ℕ) (k i : ℕ) (r : List ℕ) : Type 0 where
  pub passed : (n : ℕ) → n < i → Stepped (get_or t n 0) (get_or t k 0) k (get_or r n 0)
  pub rest : (n : ℕ) → i ≤ n → get_or r n 0 ≡ get_or t n 0
