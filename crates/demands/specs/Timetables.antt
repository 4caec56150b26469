-- "One plan, printed": the text of the program timetable over the word of the outcomes and its combined activity.
-- Transitions stand by number, the latest first.
use Rattle.std.specs.Prelude.{◌≡◌, true, cond, List, [], ◌∷◌, ◌++◌, map, ◌↔◌, ℕ, ◌+◌, ◌*◌, ◌≤◌, ◌<◌, length, get_or, Ok}
use Rattle.plan.specs.Fault.{number_of}
use Rattle.plan.specs.Plan.{move, is_final, outcomes_of, emitted_by}
use Rattle.plan.specs.declared.Fault.{Fault}
use Rattle.plan.specs.declared.Input.{Input}
use Rattle.plan.specs.declared.Kind.{Kind}
use Rattle.plan.specs.declared.Node.{Node}
use Rattle.plan.specs.declared.Plan.{Plan}
use Rattle.plan.specs.Fields as fields
use Rattle.automaton.specs.Rules.{Leaves, Processes}
use Rattle.times_combined.specs.Word.{size}
use Rattle.times_combined.specs.Combined.{Ident, identity}
use Rattle.times_combined.specs.Combined as C
use Rattle.times_combined.specs.Times.{Timing}
use Rattle.times_combined.specs.Paths.{word_of}
use Rattle.demands_theory.specs.TheWord.{state_after, whole_of}
use Rattle.run_path.specs.Path.{is_work, activity_number}
use Rattle.timetable_text.specs.Text.{decimal, line, word_free, word_end, word_waits}
use Rattle.timetable_lines.specs.Lines.{header, refused}
use Rattle.judge.specs.Judge.{accepted, judge_of}
use Rattle.timetable_turns.specs.Timetable.{table_of, timetable_of}
use Rattle.demands.specs.Accepted.{Bytes}
use Rattle.demands.specs.Markers.{Alone, Several}
use Rattle.demands_theory.specs.Loading.{Beyond, Within}

-- ---- the word of the outcomes

-- after the transitions `is`, n outcomes being read: transition t follows, and then m are
pub data Steps (p : Plan) (os is : List ℕ) (n : ℕ) : ℕ → ℕ → Type 0 where
  -- it is the only way out: "timetable reads no outcome byte for it", whatever it processes
  goes : {t : ℕ} → Leaves p.automaton (state_after p is) t → Alone p.automaton (state_after p is) t → Steps p os is n t n
  -- of several it is that of the next outcome
  hears : {t : ℕ} (e : ℕ) → Leaves p.automaton (state_after p is) t → Several p.automaton (state_after p is) → n < length os → (move p.automaton t).input ≡ Input.Outcome e (get_or os n 0) → Steps p os is n t (n + 1)

pub data Walk (p : Plan) (os : List ℕ) : List ℕ → ℕ → Type 0 where
  none : Walk p os [] 0
  more : {is : List ℕ} {n t m : ℕ} → Walk p os is n → Steps p os is n t m → Walk p os (t ∷ is) m

-- ---- the rows: "Action and event nodes by position and node"

-- the nodes of activity a at a position, from node n on
abbrev pub node_rows : ℕ → ℕ → (Ident → ℕ) → (Ident → ℕ) → ℕ → List Node → List ℕ
node_rows q a S E n [] = []
node_rows q a S E n (x ∷ xs) =
    cond (is_work x.kind) (line (decimal q ∷ decimal a ∷ decimal n ∷ decimal (S (identity q n)) ∷ decimal (E (identity q n)) ∷ [])) []
    ++ node_rows q a S E (n + 1) xs

abbrev pub rows_of : Plan → List ℕ → (Ident → ℕ) → (Ident → ℕ) → List ℕ
rows_of p [] S E = []
rows_of p (t ∷ is) S E =
    rows_of p is S E
    ++ node_rows (size (word_of p is)) (activity_number (move p.automaton t).output) S E 0 (emitted_by p (move p.automaton t).output)

-- ---- the closing lines

-- "availability by resource": the completion of the release that the combined activity has of it
pub record Frees (p : Plan) (is : List ℕ) (E : Ident → ℕ) (text : List ℕ) : Type 0 where
  pub values : List ℕ
  pub many : length values ≡ p.resources
  pub each : (r : ℕ) → r < p.resources → (x : Ident) × C.Is (whole_of p is) x (Kind.Release r) × (E x ≡ get_or values r 0)
  pub printed : text ≡ line (word_free ∷ map decimal values)

-- what closes the list after the transitions `is`, n outcomes being read
pub data Closes (p : Plan) (os is : List ℕ) (n : ℕ) (E : Ident → ℕ) : List ℕ → Type 0 where
  -- "the final state"
  ended : {free : List ℕ} → is_final p.automaton (state_after p is) ≡ true → Frees p is E free
      → Closes p os is n E (free ++ line (word_end ∷ decimal (state_after p is) ∷ []))
  -- "If outcomes run out, free is printed and the last line is waits, state, event"
  waits : {free : List ℕ} {e o : ℕ} → Processes p.automaton (state_after p is) e o → Several p.automaton (state_after p is) → n ≡ length os → Frees p is E free
      → Closes p os is n E (free ++ line (word_waits ∷ decimal (state_after p is) ∷ decimal e ∷ []))
  -- "55 for an outcome the event lacks, place = its index"
  lacks : {e o : ℕ} → Processes p.automaton (state_after p is) e o → Several p.automaton (state_after p is) → n < length os → outcomes_of p e ≤ get_or os n 0 → Closes p os is n E (refused 55 n)
  -- "44, place = the position, whose rows are left out"
  exceeds : {t m : ℕ} → Steps p os is n t m → Beyond p (λ r. 0) (t ∷ is) → Closes p os is n E (refused 44 (size (word_of p is)))

-- ---- the text

-- the text of an accepted plan and outcomes; "availabilities are 0"
pub record Prints (p : Plan) (os text : List ℕ) : Type 0 where
  pub word : List ℕ
  pub heard : ℕ
  pub walk : Walk p os word heard
  pub within : Within p (λ r. 0) word
  -- Def. 11 on the combined activity
  pub S : Ident → ℕ
  pub E : Ident → ℕ
  pub timing : Timing (whole_of p word) (λ r. 0) S E
  pub closing : List ℕ
  pub closes : Closes p os word heard E closing
  pub printed : text ≡ header ++ (rows_of p word S E ++ closing)

abbrev pub StatementTimetableTimes : Type 0
StatementTimetableTimes = (bytes : List ℕ) (p : Plan) (os text : List ℕ) → Bytes bytes → judge_of bytes ≡ accepted p → (table_of p os ≡ text) ↔ Prints p os text

-- ---- the whole input: "the plan's length (two bytes), the plan and outcome bytes"

pub data Printed : List ℕ → List ℕ → Type 0 where
  -- "input that ends inside the length or the plan gives 1, place = the plan bytes present"
  short : {input : List ℕ} → length input < 2 → Printed input (refused 1 0)
  cut : {a b : ℕ} {rest : List ℕ} → length rest < a + 256 * b → Printed (a ∷ b ∷ rest) (refused 1 (length rest))
  -- "A refused plan prints only refused, number, place"
  faulty : {a b : ℕ} (bytes os : List ℕ) {f : Fault} {place : ℕ} → length bytes ≡ a + 256 * b → (judge_of bytes).verdict ≡ fields.faulty f place
      → Printed (a ∷ b ∷ (bytes ++ os)) (refused (number_of f) place)
  table : {a b : ℕ} (bytes os : List ℕ) {text : List ℕ} → length bytes ≡ a + 256 * b → (judge_of bytes).verdict ≡ Ok tt
      → Prints (judge_of bytes).plan os text → Printed (a ∷ b ∷ (bytes ++ os)) text

abbrev pub StatementTimetable : Type 0
StatementTimetable = (input text : List ℕ) → Bytes input → (timetable_of input ≡ text) ↔ Printed input text
