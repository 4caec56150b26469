-- A turn takes an outcome byte exactly where the state waits for one; so turns that are handed the bytes one at a time are
-- the turns of all those bytes. Assumes nothing.
use Rattle.std.specs.Prelude.{◌≡◌, Bool, cond, List, [], ◌∷◌, ◌++◌, ℕ, suc, ltb, Option, None, Some}
use Rattle.std.proofs.Math.Path.{refl}
use Rattle.std.proofs.Common.{sym, ap, ◌∙◌}
use Rattle.std.proofs.Math.Bool.{true, false}
use Rattle.basis.proofs.Laws.Bools.{clash}
use Rattle.plan.specs.Plan.{outcomes_of}
use Rattle.plan.specs.declared.Plan.{Plan}
use Rattle.automaton.specs.Next.{next_of, chosen_of}
use Rattle.automaton.specs.declared.Next.{Next}
use Rattle.times.specs.declared.Progress.{Progress}
use Rattle.run_path.specs.Path.{taken_by, entries_by}
use Rattle.timetable_lines.specs.Lines.{rows, refused}
use Rattle.timetable_turns.specs.Inner.Turn.{OneTurn, closes, takes, chooses, hears, turn_by, turn_of, is_waiting, waits_of, head_of, read_after, rest_of, left_after, turns_from}
use Rattle.timetable_turns.proofs.Laws.ByTurns.{unheard}

-- ---- whether a byte is taken

module _ (p : Plan) (g : Progress) where
  Takes : Bool → OneTurn → Type 0
  Takes b x = x.closed ≡ false → x.heard ≡ b

  takes_heard : (heard : Bool) (t : ℕ) → Takes heard (takes p g heard t)
  unfolding Takes takes
  takes_heard heard t = go (taken_by p t g).beyond
    where
      go : (b : Bool) → Takes heard (cond b (closes g (refused 44 g.position)) (record { text = rows (entries_by p t g); closed = false; heard = heard; progress = (taken_by p t g).progress }))
      go true e = clash e
      go false e = refl

  chooses_heard : (e : ℕ) (c : Option ℕ) → Takes true (chooses p g e c)
  unfolding Takes chooses
  chooses_heard e None k = clash k
  chooses_heard e (Some t) k = takes_heard true t k

  hears_heard : (e read : ℕ) (h : Option ℕ) → Takes true (hears p g e read h)
  unfolding Takes hears
  hears_heard e read None k = clash k
  hears_heard e read (Some o) k = go (ltb o (outcomes_of p e)) k
    where
      go : (b : Bool) → Takes true (cond b (chooses p g e (chosen_of p.automaton g.state e o)) (closes g (refused 55 read)))
      go true = chooses_heard e (chosen_of p.automaton g.state e o)
      go false = λ k. clash k

  by_heard : (read : ℕ) (h : Option ℕ) (n : Next) → Takes (is_waiting n) (turn_by p g read h n)
  unfolding Takes turn_by
  by_heard read h Next.Ended k = clash k
  by_heard read h (Next.Goes t) k = takes_heard false t k
  by_heard read h (Next.Waits e) k = hears_heard e read h k

  -- a turn that does not close the table takes a byte exactly where it asks for one
  pub turn_heard : (read : ℕ) (h : Option ℕ) → (turn_of p g read h).closed ≡ false → (turn_of p g read h).heard ≡ waits_of p g
  unfolding Takes turn_of
  turn_heard read h = by_heard read h (next_of p.automaton g.state)

  -- where the input ended, a turn that asks closes the table
  pub nothing_closes : (read : ℕ) → waits_of p g ≡ true → (turn_of p g read None).closed ≡ true
  unfolding turn_of turn_by hears
  nothing_closes read = go (next_of p.automaton g.state)
    where
      go : (n : Next) → is_waiting n ≡ true → (turn_by p g read None n).closed ≡ true
      go Next.Ended k = clash (sym k)
      go (Next.Goes t) k = clash (sym k)
      go (Next.Waits e) k = refl

-- ---- one byte at a time

-- the rest of the table after a turn, the bytes `os` left
abbrev after : Plan → ℕ → ℕ → OneTurn → List ℕ → List ℕ
after p n read x os = x.text ++ cond x.closed [] (turns_from p n (read_after x read) os x.progress)

module _ (p : Plan) (g : Progress) (n read : ℕ) where
  turn_first : (os : List ℕ) → turns_from p (suc n) read os g ≡ after p n read (turn_of p g read (head_of os)) (left_after (turn_of p g read (head_of os)) os)
  unfolding turns_from
  turn_first os = refl

  left_by_lem : (x : OneTurn) (b : Bool) (os rest : List ℕ) → (x.closed ≡ false → x.heard ≡ b) → cond b (rest_of os) os ≡ rest → after p n read x (left_after x os) ≡ after p n read x rest
  left_by_lem x b os rest h e = go x.closed refl
    where
      go : (c : Bool) → x.closed ≡ c → x.text ++ cond c [] (turns_from p n (read_after x read) (left_after x os) x.progress) ≡ x.text ++ cond c [] (turns_from p n (read_after x read) rest x.progress)
      go true k = refl
      go false k = ap (λ (l : List ℕ). x.text ++ turns_from p n (read_after x read) l x.progress) (ap (λ (y : Bool). cond y (rest_of os) os) (h k) ∙ e)

  closed_by : (x : OneTurn) (us vs : List ℕ) → x.closed ≡ true → after p n read x us ≡ after p n read x vs
  closed_by x us vs k =
      ap (λ (c : Bool). x.text ++ cond c [] (turns_from p n (read_after x read) us x.progress)) k
      ∙ sym (ap (λ (c : Bool). x.text ++ cond c [] (turns_from p n (read_after x read) vs x.progress)) k)

  -- a turn that is handed a byte only where it asks for one begins the turns of some bytes
  pub heard_turn : (heard : Option ℕ) → (waits_of p g ≡ false → heard ≡ None) → (rest : List ℕ)
      → (os : List ℕ) × (turns_from p (suc n) read os g ≡ after p n read (turn_of p g read heard) rest)
  heard_turn heard asked rest = go (waits_of p g) refl heard asked
    where
      go : (b : Bool) → waits_of p g ≡ b → (h : Option ℕ) → (b ≡ false → h ≡ None) → (os : List ℕ) × (turns_from p (suc n) read os g ≡ after p n read (turn_of p g read h) rest)
      go true w None a = ([], turn_first [] ∙ closed_by (turn_of p g read None) (left_after (turn_of p g read None) []) rest (nothing_closes p g read w))
      go true w (Some o) a = (o ∷ rest, turn_first (o ∷ rest) ∙ left_by_lem (turn_of p g read (Some o)) true (o ∷ rest) rest (λ k. turn_heard p g read (Some o) k ∙ w) refl)
      go false w h a =
          let y = turn_of p g read (head_of rest) in (
            rest,
            turn_first rest
                ∙ left_by_lem y false rest rest (λ k. turn_heard p g read (head_of rest) k ∙ w) refl
                ∙ ap (λ (x : OneTurn). after p n read x rest) (unheard p g read (head_of rest) w ∙ sym (ap (turn_of p g read) (a refl))),
          )
