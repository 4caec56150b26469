-- "Specified times", the equations (Def. 11).
use Rattle.std.specs.Prelude.{◌≡◌, ℕ, ◌+◌, ◌≤◌}
use Rattle.plan.specs.declared.Kind.{Kind}
use Rattle.times_combined.specs.Combined.{Ident, Graph, NotClaim}

-- s is the largest C of those that have P
pub record Largest (P : Ident → Type 0) (C : Ident → ℕ) (s : ℕ) : Type 0 where
  pub bound : (m : Ident) → P m → C m ≤ s
  pub reached : (m : Ident) × P m × (C m ≡ s)

-- starts S and completions C, under the availabilities of the resources
pub record Timing (G : Graph) (available : ℕ → ℕ) (S C : Ident → ℕ) : Type 0 where
  -- "a claim starts when its resource is available"
  pub claims : (x : Ident) (r d : ℕ) → G.Holds x (Kind.Claim r) d → S x ≡ available r
  -- "The start of a node is the largest completion among its predecessors"
  pub others : (x : Ident) (k : Kind) (d : ℕ) → G.Holds x k d → NotClaim k → Largest (λ (m : Ident). G.Arrow m x) C (S x)
  -- "Completion is start plus duration."
  pub ends : (x : Ident) (k : Kind) (d : ℕ) → G.Holds x k d → C x ≡ S x + d
