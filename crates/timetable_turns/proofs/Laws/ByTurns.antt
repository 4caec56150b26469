-- `table_by_turns`: the texts of the turns, one after the other, are the table. Assumes nothing.
use Rattle.std.specs.Prelude.{◌≡◌, ℕ, zero, suc, ◌+◌, ◌*◌, ◌≤◌, ◌<◌, ltb, length, take, drop, Option, None, Some, Ok, Err}
use Rattle.std.proofs.Math.Path.{refl, sym, ap}
use Rattle.std.proofs.Common.{◌∙◌, arith}
use Rattle.std.proofs.Math.Bool.{Bool, true, false, cond}
use mathlib.Core.List.{List, [], ◌∷◌, ◌++◌, append-nil}
use borrow.Author.Tests.{lt-ltb, le-leb, lt-leb}
use Rattle.basis.proofs.Laws.Bools.{clash}
use Rattle.plan.specs.Plan.{outcomes_of, emitted_by, move}
use Rattle.plan.specs.Fault.{number_of}
use Rattle.plan.specs.declared.Fault.{Fault}
use Rattle.plan.specs.Verdict.{Verdict}
use Rattle.plan.specs.declared.Node.{Node}
use Rattle.plan.specs.declared.Input.{Input}
use Rattle.plan.specs.declared.Plan.{Plan}
use Rattle.judge.specs.Judge.{judge_of}
use Rattle.automaton.specs.Next.{next_of, chosen_of}
use Rattle.automaton.specs.declared.Next.{Next}
use Rattle.times.specs.Times.{schedule_of, order_of}
use Rattle.times.specs.Queues.{processed_of, floor_of}
use Rattle.times.specs.Engine.{last_position, held_of, left_of, beyond_of, closed_of, emits_of, timed_of, advance_of}
use Rattle.times.proofs.Laws.Fits.{processed_position, left_position}
use Rattle.times.specs.declared.Progress.{Progress}
use Rattle.run_path.specs.Path.{taken_by, entries_by}
use Rattle.run_outcomes.specs.Way.{on_chosen}
use Rattle.timetable_lines.specs.Lines.{header, rows, ended, waiting, refused}
use Rattle.timetable_turns.specs.Timetable.{Move, on_move, move_by, hear, table_from, positions, text_of_plan, judged_text, timetable_of}
use Rattle.timetable_turns.specs.Inner.Turn.{OneTurn, closes, takes, chooses, hears, turn_by, turn_of, is_waiting, waits_of, head_of, read_after, left_after, turns_from, most_turns, is_refused, first_text, first_progress}

-- ---- the position

module _ (resources : ℕ) (a : List Node) (i : Input) (to : ℕ) (g : Progress) where
  before : Progress
  before = held_of resources (floor_of i g) (processed_of i g)

  left : Progress
  left = left_of a (schedule_of before.available before.latest a).end (order_of (schedule_of before.available before.latest a)) before

  position_left : left.position ≡ g.position
  unfolding left before held_of
  position_left = left_position a _ _ before ∙ processed_position i g

  -- a transition takes one position
  pub position_on : (advance_of resources a i to g).progress.position ≡ g.position + 1
  unfolding left before timed_of emits_of closed_of
  position_on = ap (λ (n : ℕ). n + 1) position_left

  -- "or a position above 1,000,000,000"
  pub past_beyond : last_position < g.position → (advance_of resources a i to g).beyond ≡ true
  unfolding left before timed_of emits_of closed_of beyond_of
  past_beyond h = let u = position_left in let k = lt-ltb last_position left.position (omega arith) in rw k

-- ---- one turn

-- the text of a turn, and what follows it
abbrev joined : OneTurn → ℕ → List ℕ → (ℕ → List ℕ → Progress → List ℕ) → List ℕ
joined x read os f = x.text ++ cond x.closed [] (f (read_after x read) (left_after x os) x.progress)

-- what a move brings, the rest of the table by f
abbrev moved : Plan → Progress → Move → (ℕ → List ℕ → Progress → List ℕ) → List ℕ
moved p g m f =
    on_move m (λ t r rest. cond (taken_by p t g).beyond (refused 44 g.position) (rows (entries_by p t g) ++ f r rest (taken_by p t g).progress)) (λ text. text)

module _ (p : Plan) (g : Progress) (read : ℕ) (f : ℕ → List ℕ → Progress → List ℕ) where
  closed_by : (text os : List ℕ) → text ≡ joined (closes g text) read os f
  closed_by text os = sym (append-nil text)

  goes_by_lem : (t : ℕ) (os : List ℕ) → moved p g (Move.Takes t read os) f ≡ joined (takes p g false t) read os f
  unfolding takes
  goes_by_lem t os = go (taken_by p t g).beyond
    where
      go : (b : Bool) → cond b (refused 44 g.position) (rows (entries_by p t g) ++ f read os (taken_by p t g).progress) ≡ joined (cond b (closes g (refused 44 g.position)) (record { text = rows (entries_by p t g); closed = false; heard = false; progress = (taken_by p t g).progress })) read os f
      go true = sym (append-nil (refused 44 g.position))
      go false = refl

  hears_by : (t o : ℕ) (os : List ℕ) → moved p g (Move.Takes t (read + 1) os) f ≡ joined (takes p g true t) read (o ∷ os) f
  unfolding takes
  hears_by t o os = go (taken_by p t g).beyond
    where
      go : (b : Bool) → cond b (refused 44 g.position) (rows (entries_by p t g) ++ f (read + 1) os (taken_by p t g).progress) ≡ joined (cond b (closes g (refused 44 g.position)) (record { text = rows (entries_by p t g); closed = false; heard = true; progress = (taken_by p t g).progress })) read (o ∷ os) f
      go true = sym (append-nil (refused 44 g.position))
      go false = refl

  chooses_by : (e o : ℕ) (os : List ℕ) (c : Option ℕ) → moved p g (on_chosen c (λ t. Move.Takes t (read + 1) os) (Move.Closes (waiting p g e))) f ≡ joined (chooses p g e c) read (o ∷ os) f
  unfolding chooses
  chooses_by e o os None = closed_by (waiting p g e) (o ∷ os)
  chooses_by e o os (Some t) = hears_by t o os

  waits_by : (e : ℕ) (os : List ℕ) → moved p g (hear p g e read os) f ≡ joined (hears p g e read (head_of os)) read os f
  unfolding hears
  waits_by e [] = closed_by (waiting p g e) []
  waits_by e (o ∷ os) = go (ltb o (outcomes_of p e))
    where
      c : Option ℕ
      c = chosen_of p.automaton g.state e o

      go : (b : Bool) → moved p g (cond b (on_chosen c (λ t. Move.Takes t (read + 1) os) (Move.Closes (waiting p g e))) (Move.Closes (refused 55 read))) f ≡ joined (cond b (chooses p g e c) (closes g (refused 55 read))) read (o ∷ os) f
      go true = chooses_by e o os c
      go false = closed_by (refused 55 read) (o ∷ os)

  turn_by_lem : (os : List ℕ) (n : Next) → moved p g (move_by p g read os n) f ≡ joined (turn_by p g read (head_of os) n) read os f
  unfolding turn_by
  turn_by_lem os Next.Ended = closed_by (ended p g) os
  turn_by_lem os (Next.Goes t) = goes_by_lem t os
  turn_by_lem os (Next.Waits e) = waits_by e os

-- the table is the text of its next turn and, unless that closes it, the table after it
pub by_turn : (p : Plan) (k read : ℕ) (os : List ℕ) (g : Progress) → table_from p (suc k) read os g ≡ joined (turn_of p g read (head_of os)) read os (table_from p k)
unfolding table_from turn_of
by_turn p k read os g = turn_by_lem p g read (table_from p k) os (next_of p.automaton g.state)

-- ---- all turns

module _ (p : Plan) (g : Progress) where
  takes_position : (heard : Bool) (t : ℕ) → (takes p g heard t).closed ≡ false → (takes p g heard t).progress.position ≡ g.position + 1
  unfolding takes
  takes_position heard t = go (taken_by p t g).beyond
    where
      x : Bool → OneTurn
      x b = cond b (closes g (refused 44 g.position)) (record { text = rows (entries_by p t g); closed = false; heard = heard; progress = (taken_by p t g).progress })

      go : (b : Bool) → (x b).closed ≡ false → (x b).progress.position ≡ g.position + 1
      go true e = clash e
      go false e = position_on p.resources (emitted_by p (move p.automaton t).output) (move p.automaton t).input (move p.automaton t).to g

  chooses_position : (e : ℕ) (c : Option ℕ) → (chooses p g e c).closed ≡ false → (chooses p g e c).progress.position ≡ g.position + 1
  unfolding chooses
  chooses_position e None h = clash h
  chooses_position e (Some t) h = takes_position true t h

  hears_position : (e read : ℕ) (h : Option ℕ) → (hears p g e read h).closed ≡ false → (hears p g e read h).progress.position ≡ g.position + 1
  unfolding hears
  hears_position e read None k = clash k
  hears_position e read (Some o) k = go (ltb o (outcomes_of p e)) k
    where
      x : Bool → OneTurn
      x b = cond b (chooses p g e (chosen_of p.automaton g.state e o)) (closes g (refused 55 read))

      go : (b : Bool) → (x b).closed ≡ false → (x b).progress.position ≡ g.position + 1
      go true k = chooses_position e (chosen_of p.automaton g.state e o) k
      go false k = clash k

  by_position : (read : ℕ) (h : Option ℕ) (n : Next) → (turn_by p g read h n).closed ≡ false → (turn_by p g read h n).progress.position ≡ g.position + 1
  unfolding turn_by
  by_position read h Next.Ended k = clash k
  by_position read h (Next.Goes t) k = takes_position false t k
  by_position read h (Next.Waits e) k = hears_position e read h k

  -- a turn that does not close the table takes one position
  pub turn_position : (read : ℕ) (h : Option ℕ) → (turn_of p g read h).closed ≡ false → (turn_of p g read h).progress.position ≡ g.position + 1
  unfolding turn_of
  turn_position read h k = by_position read h (next_of p.automaton g.state) k

-- past the last position every turn closes the table
module _ (p : Plan) (g : Progress) (past : last_position < g.position) where
  stopped : (t : ℕ) → (taken_by p t g).beyond ≡ true
  stopped t = past_beyond p.resources (emitted_by p (move p.automaton t).output) (move p.automaton t).input (move p.automaton t).to g past

  last_takes : (heard : Bool) (t : ℕ) → refused 44 g.position ≡ (takes p g heard t).text
  unfolding takes
  last_takes heard t = rw (stopped t)

  last_chooses : (e read : ℕ) (os : List ℕ) (c : Option ℕ) → on_move (on_chosen c (λ t. Move.Takes t (read + 1) os) (Move.Closes (waiting p g e))) (λ t r rest. refused 44 g.position) (λ text. text) ≡ (chooses p g e c).text
  unfolding chooses
  last_chooses e read os None = refl
  last_chooses e read os (Some t) = last_takes true t

  last_hears : (e read : ℕ) (os : List ℕ) → on_move (hear p g e read os) (λ t r rest. refused 44 g.position) (λ text. text) ≡ (hears p g e read (head_of os)).text
  unfolding hears
  last_hears e read [] = refl
  last_hears e read (o ∷ os) = go (ltb o (outcomes_of p e))
    where
      c : Option ℕ
      c = chosen_of p.automaton g.state e o

      go : (b : Bool) → on_move (cond b (on_chosen c (λ t. Move.Takes t (read + 1) os) (Move.Closes (waiting p g e))) (Move.Closes (refused 55 read))) (λ t r rest. refused 44 g.position) (λ text. text) ≡ (cond b (chooses p g e c) (closes g (refused 55 read))).text
      go true = last_chooses e read os c
      go false = refl

  last_by : (read : ℕ) (os : List ℕ) (n : Next) → on_move (move_by p g read os n) (λ t r rest. refused 44 g.position) (λ text. text) ≡ (turn_by p g read (head_of os) n).text
  unfolding turn_by
  last_by read os Next.Ended = refl
  last_by read os (Next.Goes t) = last_takes false t
  last_by read os (Next.Waits e) = last_hears e read os

  last_turn : (read : ℕ) (os : List ℕ) → table_from p zero read os g ≡ (turn_of p g read (head_of os)).text
  unfolding table_from turn_of
  last_turn read os = last_by read os (next_of p.automaton g.state)

-- The texts of the turns, each handed the next outcome byte, are the table: k more positions, and the last turn past them.
pub table_by_turns : (p : Plan) (k read : ℕ) (os : List ℕ) (g : Progress) → last_position < k + g.position → turns_from p (suc k) read os g ≡ table_from p k read os g
unfolding turns_from
table_by_turns p zero read os g h = go (turn_of p g read (head_of os)).closed ∙ sym (last_turn p g (omega arith) read os)
  where
    go : (b : Bool) → (turn_of p g read (head_of os)).text ++ cond b [] [] ≡ (turn_of p g read (head_of os)).text
    go true = append-nil _
    go false = append-nil _
table_by_turns p (suc k) read os g h = ap (λ (l : List ℕ). x.text ++ l) (go x.closed refl (λ m. table_by_turns p k (read_after x read) (left_after x os) x.progress m)) ∙ sym (by_turn p k read os g)
  where
    x : OneTurn
    x = turn_of p g read (head_of os)

    go : (b : Bool) → x.closed ≡ b → (last_position < k + x.progress.position → turns_from p (suc k) (read_after x read) (left_after x os) x.progress ≡ table_from p k (read_after x read) (left_after x os) x.progress) → cond b [] (turns_from p (suc k) (read_after x read) (left_after x os) x.progress) ≡ cond b [] (table_from p k (read_after x read) (left_after x os) x.progress)
    go true e rest = refl
    go false e rest = rest (let u = turn_position p g read (head_of os) e in omega arith)

-- ---- from the plan's bytes on

-- the text before the first turn and, unless that is all, the texts of the turns are what is printed of a plan
pub plan_by_turns : (bytes outcomes : List ℕ) → first_text (judge_of bytes).verdict ++ cond (is_refused (judge_of bytes).verdict) [] (turns_from (judge_of bytes).plan most_turns 0 outcomes (first_progress (judge_of bytes).plan)) ≡ text_of_plan bytes outcomes
plan_by_turns bytes outcomes = go (judge_of bytes).verdict
  where
    p : Plan
    p = (judge_of bytes).plan

    go : (v : Verdict) → first_text v ++ cond (is_refused v) [] (turns_from p most_turns 0 outcomes (first_progress p)) ≡ judged_text v p outcomes
    go (Ok u) = ap (λ (l : List ℕ). header ++ l) (table_by_turns p positions 0 outcomes (first_progress p) (omega arith))
    go (Err e) = append-nil _

-- the whole input: the length, the plan and the outcome bytes
pub input_by_turns : (a b : ℕ) (rest : List ℕ) → a + 256 * b ≤ length rest
    → timetable_of (a ∷ b ∷ rest)
    ≡ first_text (judge_of (take (a + 256 * b) rest)).verdict
    ++ cond (is_refused (judge_of (take (a + 256 * b) rest)).verdict) []
    (turns_from (judge_of (take (a + 256 * b) rest)).plan most_turns 0 (drop (a + 256 * b) rest) (first_progress (judge_of (take (a + 256 * b) rest)).plan))
unfolding timetable_of
input_by_turns a b rest h =
    ap (λ (c : Bool). cond c (text_of_plan (take (a + 256 * b) rest) (drop (a + 256 * b) rest)) (refused (number_of Fault.Ends) (length rest))) (le-leb (a + 256 * b) (length rest) h)
    ∙ sym (plan_by_turns (take (a + 256 * b) rest) (drop (a + 256 * b) rest))

-- "input that ends inside the length or the plan gives 1, place = the plan bytes present"
pub input_cut : (a b : ℕ) (rest : List ℕ) → length rest < a + 256 * b → timetable_of (a ∷ b ∷ rest) ≡ refused (number_of Fault.Ends) (length rest)
unfolding timetable_of
input_cut a b rest h =
    ap (λ (c : Bool). cond c (text_of_plan (take (a + 256 * b) rest) (drop (a + 256 * b) rest)) (refused (number_of Fault.Ends) (length rest))) (lt-leb (a + 256 * b) (length rest) h)

-- a turn that asks for no outcome byte is the same without one
pub unheard : (p : Plan) (g : Progress) (read : ℕ) (h : Option ℕ) → waits_of p g ≡ false → turn_of p g read h ≡ turn_of p g read None
unfolding turn_of turn_by
unheard p g read h = go (next_of p.automaton g.state)
  where
    go : (n : Next) → is_waiting n ≡ false → turn_by p g read h n ≡ turn_by p g read None n
    go Next.Ended e = refl
    go (Next.Goes t) e = refl
    go (Next.Waits e) k = clash k
