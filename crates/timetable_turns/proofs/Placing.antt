-- The whole text, piece by piece: the first line, the turns, and by the input's length.
use Rattle.std.specs.Prelude.{Option}
use mathlib.Core.Path.{◌≡◌, refl, sym, ap, ◌∙◌, subst}
use mathlib.Core.Bool.{Bool, true, false, cond}
use mathlib.Core.List.{List, [], ◌++◌}
use Prim.Native.Nat.{ℕ, ◌+◌, ◌-◌, ◌≤◌, ◌<◌}
use native.Mathlib.Nat.{add-zero}
use native.Mathlib.Omega.{arith}
use lib.ListN.{length, take, drop}
use Rattle.wire.specs.Puts.{Puts}
use Rattle.wire.proofs.Laws.Puts.{puts_none, puts_join}
use Rattle.plan.specs.declared.Plan.{Plan}
use Rattle.judge.specs.Judge.{judge_of}
use Rattle.times.specs.declared.Progress.{Progress}
use Rattle.timetable_lines.specs.Inner.Lines.{Remains}
use Rattle.timetable_lines.proofs.Laws.Lines.{remains_all, remains_less}
use Rattle.timetable_turns.specs.declared.Begun.{Begun}
use Rattle.timetable_turns.specs.declared.Drafted.{Drafted}
use Rattle.timetable_turns.specs.declared.Place.{Place}
use Rattle.timetable_turns.specs.Inner.Turn.{OneTurn, turn_of, head_of, turns_from, most_turns, is_refused, first_text, first_progress, Open}
use Rattle.timetable_turns.specs.Timetable.{text_of_plan}
use Rattle.timetable_text.specs.Lent.{past_of}
use Rattle.timetable_turns.specs.Inner.Answers.{Begins, Drafts}
use Rattle.timetable_turns.specs.Inner.Whole.{left_text, Standing}
use Rattle.timetable_turns.proofs.Laws.ByTurns.{plan_by_turns}
use Rattle.timetable_turns.proofs.Laws.InLimits.{turn_open}
use Rattle.timetable_text.proofs.Laws.Lent.{lent_puts, put_front}
use Rattle.timetable_turns.proofs.Laws.Short.{turn_short, first_short}
use Rattle.timetable_turns.proofs.Laws.Whole.{left_turn}

pub puts_as : (before : List ℕ) (at : ℕ) (text line after : List ℕ) (next : ℕ) → text ≡ line → Puts before at text after next → Puts before at line after next
puts_as before at text line after next e p = subst (λ (x : List ℕ). Puts before at x after next) e p

abbrev place : ℕ → ℕ → ℕ → Progress → Place
place at read left g = record { at = at; read = read; left = left; progress = g }

-- ---- one turn

module _ (p : Plan) (start : ℕ) (input : List ℕ) (w : Place) (s : Standing p w) (more : 0 < w.left) (heard : Option ℕ) (own own' : List ℕ) (d : Drafted) (h : Drafts own 0 (turn_of p w.progress w.read heard) own' d) where
  pub next_few : d.next ≤ 3_904
  next_few = let u = turn_short p w.progress (s.within more) w.read heard in let v = h.text.past in omega arith

  pub next_there : 4_096 ≤ length own → take d.next own' ≡ (turn_of p w.progress w.read heard).text
  next_there k = put_front own (turn_of p w.progress w.read heard).text own' d.next (let u = turn_short p w.progress (s.within more) w.read heard in omega arith) h.text

  module _ (at read left : ℕ) (r : read ≡ cond d.heard (w.read + 1) w.read) (l : left ≡ cond d.closed 0 (w.left - 1)) where
    read_few : read ≤ w.read + 1
    read_few = go d.heard r
      where
        go : (b : Bool) → read ≡ cond b (w.read + 1) w.read → read ≤ w.read + 1
        go true e = omega arith
        go false e = omega arith

    left_few : left ≤ w.left - 1
    left_few = go d.closed l
      where
        go : (b : Bool) → left ≡ cond b 0 (w.left - 1) → left ≤ w.left - 1
        go true e = omega arith
        go false e = omega arith

    open_while : 0 < left → d.closed ≡ false
    open_while m = go d.closed refl
      where
        go : (b : Bool) → d.closed ≡ b → d.closed ≡ false
        go true e = absurd (let z : left ≡ 0 = l ∙ ap (λ (y : Bool). cond y 0 (w.left - 1)) e in omega arith)
        go false e = e

    pub stands_on : at ≡ w.at + d.next → Standing p (place at read left d.progress)
    stands_on e = record {
      within = λ m. subst (Open p) (sym h.progress) (turn_open p w.progress (s.within more) w.read heard (sym h.closed ∙ open_while m));
      turns = let u = read_few in let v = left_few in let x = s.turns in omega arith;
      few = let u = next_few in let v = left_few in let x = s.few in omega arith;
    }

    pub fewer_left : left < w.left
    fewer_left = let v = left_few in omega arith

    left_as : heard ≡ head_of (drop (start + w.read) input) → left_text p start input w ≡ (turn_of p w.progress w.read heard).text ++ left_text p start input (place at read left d.progress)
    left_as e =
        left_turn p start input w (turn_of p w.progress w.read heard) (ap (turn_of p w.progress w.read) e) more at
        ∙ ap (λ (n : ℕ). x.text ++ left_text p start input (place at n (cond x.closed 0 (w.left - 1)) x.progress)) (sym (r ∙ ap (λ (y : Bool). cond y (w.read + 1) w.read) h.heard))
        ∙ ap (λ (n : ℕ). x.text ++ left_text p start input (place at read n x.progress)) (sym (l ∙ ap (λ (y : Bool). cond y 0 (w.left - 1)) h.closed))
        ∙ ap (λ (g : Progress). x.text ++ left_text p start input (place at read left g)) (sym h.progress)
      where
        x : OneTurn
        x = turn_of p w.progress w.read heard

    pub remains_on : heard ≡ head_of (drop (start + w.read) input) → 4_096 ≤ length own → (before after : List ℕ) → Puts before w.at (take d.next own') after at
        → Remains before w.at (left_text p start input w) after at (left_text p start input (place at read left d.progress))
    remains_on e k before after q =
        remains_less before w.at (left_text p start input w) before after w.at at (left_text p start input w) (turn_of p w.progress w.read heard).text (left_text p start input (place at read left d.progress)) (left_as e)
        (remains_all before w.at (left_text p start input w) (left_text p start input w) refl)
        (puts_as before w.at (take d.next own') (turn_of p w.progress w.read heard).text after at (next_there k) q)

-- ---- all turns

pub left_none : (p : Plan) (start : ℕ) (input : List ℕ) (w : Place) → w.left ≡ 0 → left_text p start input w ≡ []
unfolding turns_from
left_none p start input w e = ap (λ (n : ℕ). turns_from p n w.read (drop (start + w.read) input) w.progress) e

pub remains_none : (p : Plan) (start : ℕ) (input : List ℕ) (w : Place) → w.left ≡ 0 → (before : List ℕ) (at : ℕ) (text out : List ℕ) → Remains before at text out w.at (left_text p start input w) → Puts before at text out w.at
remains_none p start input w e before at text out r = r out w.at (puts_as out w.at [] (left_text p start input w) out w.at (sym (left_none p start input w e)) (puts_none out w.at))

-- ---- a plan's table

turns_or_none : (p : Plan) (m : ℕ) (os : List ℕ) (g : Progress) (c : Bool) → turns_from p (cond c 0 m) 0 os g ≡ cond c [] (turns_from p m 0 os g)
unfolding turns_from
turns_or_none p m os g true = refl
turns_or_none p m os g false = refl

module _ (bytes input : List ℕ) (n : ℕ) (own own' : List ℕ) (b : Begun) (h : Begins bytes own own' b) (size : ℕ) (e : size ≡ past_of 0 b.put) (room : 64 ≤ length own) where
  first_puts : Puts own 0 (first_text (judge_of bytes).verdict) own' size
  first_puts = let u = first_short (judge_of bytes).verdict in subst (Puts own 0 (first_text (judge_of bytes).verdict) own') (sym e) (lent_puts own 0 (first_text (judge_of bytes).verdict) (omega arith) own' b.put h.text)

  pub size_few : size ≤ 50
  size_few = let u = first_short (judge_of bytes).verdict in let v = first_puts.past in omega arith

  first_there : take size own' ≡ first_text (judge_of bytes).verdict
  first_there = let u = first_short (judge_of bytes).verdict in put_front own (first_text (judge_of bytes).verdict) own' size (omega arith) first_puts

  module _ (left : ℕ) (l : left ≡ cond b.closed 0 most_turns) where
    open_first : 0 < left → b.closed ≡ false
    open_first m = go b.closed refl
      where
        go : (c : Bool) → b.closed ≡ c → b.closed ≡ false
        go true k = absurd (let z : left ≡ 0 = l ∙ ap (λ (y : Bool). cond y 0 most_turns) k in omega arith)
        go false k = k

    left_most : left ≤ most_turns
    left_most = go b.closed l
      where
        go : (c : Bool) → left ≡ cond c 0 most_turns → left ≤ most_turns
        go true k = omega arith
        go false k = omega arith

    pub stands_first : (at : ℕ) → at ≤ 50 → Standing b.plan (place at 0 left b.progress)
    stands_first at k = record {
      within = λ m. h.stays (open_first m);
      turns = let v = left_most in omega arith;
      few = let v = left_most in omega arith;
    }

    turns_are : left_text b.plan (2 + n) input (place 0 0 left b.progress) ≡ cond (is_refused (judge_of bytes).verdict) [] (turns_from (judge_of bytes).plan most_turns 0 (drop (2 + n) input) (first_progress (judge_of bytes).plan))
    turns_are =
        ap (λ (m : ℕ). turns_from b.plan m 0 (drop (2 + n + 0) input) b.progress) (l ∙ ap (λ (y : Bool). cond y 0 most_turns) h.closed)
        ∙ ap (λ (q : Plan). turns_from q (cond (is_refused (judge_of bytes).verdict) 0 most_turns) 0 (drop (2 + n + 0) input) b.progress) h.plan
        ∙ ap (λ (g : Progress). turns_from (judge_of bytes).plan (cond (is_refused (judge_of bytes).verdict) 0 most_turns) 0 (drop (2 + n + 0) input) g) h.progress
        ∙ ap (λ (k : ℕ). turns_from (judge_of bytes).plan (cond (is_refused (judge_of bytes).verdict) 0 most_turns) 0 (drop k input) (first_progress (judge_of bytes).plan)) (add-zero (2 + n))
        ∙ turns_or_none (judge_of bytes).plan most_turns (drop (2 + n) input) (first_progress (judge_of bytes).plan) (is_refused (judge_of bytes).verdict)

    -- the first line, and the turns after it
    pub puts_table : (before mid after : List ℕ) (at next : ℕ) → Puts before 0 (take size own') mid at → Puts mid at (left_text b.plan (2 + n) input (place 0 0 left b.progress)) after next → Puts before 0 (text_of_plan bytes (drop (2 + n) input)) after next
    puts_table before mid after at next u v =
        puts_as before 0 _ (text_of_plan bytes (drop (2 + n) input)) after next (plan_by_turns bytes (drop (2 + n) input))
        (puts_join (puts_as before 0 (take size own') (first_text (judge_of bytes).verdict) mid at first_there u)
        (puts_as mid at _ _ after next turns_are v))
