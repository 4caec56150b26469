-- Which rows the timetable has: one for each action and event of the combined activity, with the activity at its position, by
-- position and node.
use Rattle.std.specs.Prelude.{◌≡◌, List, [], ◌∷◌, ◌++◌, ◌⊎◌, ℕ, ◌<◌}
use Rattle.basis.specs.Lists.{Among}
use Rattle.plan.specs.declared.Plan.{Plan}
use Rattle.times_combined.specs.Combined.{Ident, identity}
use Rattle.timetable_text.specs.Text.{decimal, line}
use Rattle.demands_log.specs.Log.{Id}
use Rattle.demands_theory.specs.Nodes.{Work, EmitsAt}
use Rattle.demands_theory.specs.TheWord.{whole_of}
use Rattle.demands.specs.Timetables.{rows_of}

-- a row: the node, and its activity
pub record Row : Type 0 where
  pub id : Id
  pub activity : ℕ

abbrev pub line_of : (Ident → ℕ) → (Ident → ℕ) → Row → List ℕ
line_of S E x =
    let q = x.id.position in
    let n = x.id.node in
    line (decimal q ∷ decimal x.activity ∷ decimal n ∷ decimal (S (identity q n)) ∷ decimal (E (identity q n)) ∷ [])

abbrev pub lines_of : (Ident → ℕ) → (Ident → ℕ) → List Row → List ℕ
lines_of S E [] = []
lines_of S E (x ∷ xs) = line_of S E x ++ lines_of S E xs

-- "by position and node"
abbrev pub Above : Row → Row → Type 0
Above x y = (x.id.position < y.id.position) ⊎ ((x.id.position ≡ y.id.position) × (x.id.node < y.id.node))

abbrev pub Sorted : List Row → Type 0
Sorted [] = Unit {0}
Sorted (x ∷ xs) = ((y : Row) → Among y xs → Above x y) × Sorted xs

pub record RowsOf (p : Plan) (is : List ℕ) (S E : Ident → ℕ) (text : List ℕ) : Type 0 where
  pub list : List Row
  -- each is an action or event of the combined activity, with the activity at its position
  pub all : (x : Row) → Among x list → Work (whole_of p is) x.id × EmitsAt p is x.id.position x.activity
  -- and each action and event has its row
  pub only : (x : Id) → Work (whole_of p is) x → (a : ℕ) × Among (record { id = x; activity = a }) list
  pub sorted : Sorted list
  pub printed : text ≡ lines_of S E list

abbrev pub StatementRows : Type 0
StatementRows = (p : Plan) (is : List ℕ) (S E : Ident → ℕ) → RowsOf p is S E (rows_of p is S E)
