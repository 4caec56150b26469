-- How long the first line and the text of a turn are, at most: 50 bytes, and 64 rows. Assumes nothing.
use Rattle.std.specs.Prelude.{◌≡◌, refl, Bool, cond, List, [], ◌∷◌, ℕ, suc, ◌+◌, ◌*◌, ◌≤◌, ◌<◌, ltb, Option, None, Some, Ok, Err}
use Rattle.std.proofs.Common.{ap, length-append}
use Rattle.std.proofs.Math.Bool.{true, false}
use native.Mathlib.Omega.{arith}
use Rattle.std.proofs.Math.ListN.{length}
use Rattle.basis.proofs.Laws.PartsHold.{length_part}
use Rattle.plan.specs.Plan.{outcomes_of, emitted_by, move, past_node}
use Rattle.plan.specs.Limits.{InLimits, OutputNames}
use Rattle.plan.specs.Fault.{number_of}
use Rattle.plan.specs.Verdict.{Verdict}
use Rattle.plan.specs.declared.Node.{Node}
use Rattle.plan.specs.declared.Output.{Output}
use Rattle.plan.specs.declared.Plan.{Plan}
use Rattle.automaton.specs.Next.{next_of, chosen_of}
use Rattle.automaton.specs.declared.Next.{Next}
use Rattle.times.specs.declared.Progress.{Progress}
use Rattle.times.specs.declared.Schedule.{Schedule}
use Rattle.run_path.specs.Path.{is_work, loaded, activity_number, entries_from, taken_by, entries_by}
use Rattle.run_path.specs.Pathed.{Leads}
use Rattle.run_path.specs.Inner.Path.{emitted_of}
use Rattle.run_path.proofs.Laws.Emitting.{emitted_nodes, emitted_fits}
use Rattle.run_path.proofs.Laws.Stepping.{next_leads}
use Rattle.timetable_lines.specs.Lines.{row, rows, refused}
use Rattle.timetable_lines.proofs.Laws.Lines.{header_length, row_within, ended_length, waiting_length, refused_length}
use Rattle.timetable_steps.proofs.Laws.Steps.{chosen_below}
use Rattle.timetable_turns.specs.Inner.Turn.{closes, takes, chooses, hears, turn_by, turn_of, first_text, Open}

-- ---- rows

-- the rows of the nodes from number n on
rows_within : (position a : ℕ) (s : Schedule) (n : ℕ) (xs : List Node) → position < 4294967296 → a < 256 → n + length xs ≤ 256 → length (rows (entries_from position a s n xs)) ≤ 61 * length xs
unfolding rows entries_from
rows_within position a s n [] p h k = omega arith
rows_within position a s n (x ∷ xs) p h k =
    go (is_work x.kind) (rows_within position a s (n + 1) xs p h (omega arith)) (row_within (loaded position a s n) p h (omega arith))
  where
    go : (b : Bool) → length (rows (entries_from position a s (n + 1) xs)) ≤ 61 * length xs → length (row (loaded position a s n)) ≤ 61 → length (rows (cond b (loaded position a s n ∷ entries_from position a s (n + 1) xs) (entries_from position a s (n + 1) xs))) ≤ 61 * suc (length xs)
    go true u v = let w = length-append (row (loaded position a s n)) (rows (entries_from position a s (n + 1) xs)) in omega arith
    go false u v = omega arith

-- the number of an activity is one byte
number_small : (p : Plan) → InLimits p → (o : Output) → OutputNames p o → activity_number o < 256
number_small p h Output.Empty l = omega arith
number_small p h (Output.Activity a) l = let u = h.activities in omega arith

-- ---- the first line

pub first_short : (v : Verdict) → length (first_text v) ≤ 50
first_short (Ok z) = let u = header_length in omega arith
first_short (Err e) = refused_length (number_of e.fault) e.place

-- ---- a turn

-- 64 rows
abbrev pub longest_turn : ℕ
longest_turn = 3_904

module _ (p : Plan) (g : Progress) (within : Open p g) where
  taken_short : (t : ℕ) → t < p.automaton.count → length (rows (entries_by p t g)) ≤ longest_turn
  taken_short t l =
      let o = (move p.automaton t).output in
      let w = (emitted_fits p within.plan o (within.plan.moves t l).output).count in
      let x = ap length (emitted_nodes p o) in
      let y = length_part past_node (emitted_of p o).nodes 0 (emitted_of p o).count in
      let u = number_small p within.plan o (within.plan.moves t l).output in
      let v = within.progress.position in
      let z = rows_within g.position (activity_number o) (taken_by p t g).schedule 0 (emitted_by p o) (omega arith) u (omega arith) in
      omega arith

  takes_short : (heard : Bool) (t : ℕ) → t < p.automaton.count → length (takes p g heard t).text ≤ longest_turn
  unfolding takes
  takes_short heard t l = go (taken_by p t g).beyond (refused_length 44 g.position) (taken_short t l)
    where
      go : (b : Bool) → length (refused 44 g.position) ≤ 50 → length (rows (entries_by p t g)) ≤ longest_turn → length (cond b (closes g (refused 44 g.position)) (record { text = rows (entries_by p t g); closed = false; heard = heard; progress = (taken_by p t g).progress })).text ≤ longest_turn
      go true u v = omega arith
      go false u v = v

  chooses_short : (e : ℕ) (c : Option ℕ) → ((t : ℕ) → c ≡ Some t → t < p.automaton.count) → length (chooses p g e c).text ≤ longest_turn
  unfolding chooses
  chooses_short e None l = let u = waiting_length p.resources g within.plan.resources e in omega arith
  chooses_short e (Some t) l = takes_short true t (l t refl)

  hears_short : (e read : ℕ) (h : Option ℕ) → length (hears p g e read h).text ≤ longest_turn
  unfolding hears
  hears_short e read None = let u = waiting_length p.resources g within.plan.resources e in omega arith
  hears_short e read (Some o) = go (ltb o (outcomes_of p e))
    where
      go : (b : Bool) → length (cond b (chooses p g e (chosen_of p.automaton g.state e o)) (closes g (refused 55 read))).text ≤ longest_turn
      go true = chooses_short e (chosen_of p.automaton g.state e o) (λ t q. chosen_below p.automaton g.state e o t q)
      go false = let u = refused_length 55 read in omega arith

  by_short : (read : ℕ) (h : Option ℕ) (n : Next) → Leads p.automaton.count n → length (turn_by p g read h n).text ≤ longest_turn
  unfolding turn_by
  by_short read h Next.Ended l = let u = ended_length p.resources g within.plan.resources in omega arith
  by_short read h (Next.Goes t) l = takes_short false t l
  by_short read h (Next.Waits e) l = hears_short e read h

  -- the text of a turn fits where 3,904 bytes are free
  pub turn_short : (read : ℕ) (h : Option ℕ) → length (turn_of p g read h).text ≤ longest_turn
  unfolding turn_of
  turn_short read h = by_short read h (next_of p.automaton g.state) (next_leads p.automaton g.state)
