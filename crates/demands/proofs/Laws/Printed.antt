-- The table that is printed, transition by transition along the word of the outcomes.
use Rattle.std.specs.Prelude.{◌≡◌, refl, Bool, true, List, [], ◌∷◌, ◌++◌, length, get_or, drop, replicate}
use Rattle.std.proofs.Common.{sym, ◌∙◌, subst, append_assoc}
use Rattle.std.proofs.Math.Path.{ap}
use Prim.Native.Nat.{ℕ, zero, suc, ◌+◌, ◌≤◌, ◌<◌}
use native.Mathlib.Omega.{arith}
use Rattle.std.proofs.Math.Decide.{dec_lt}
use borrow.Author.Tests.{lt-ltb, le-ltb}
use Rattle.std.proofs.Math.ListN.{drop_of_length-le}
use Rattle.std.proofs.Math.Seq.{drop-cons}
use Rattle.basis.specs.Inner.Tells.{Tells, holds, fails}
use Rattle.basis.proofs.Laws.Tells.{is_false}
use Rattle.basis.proofs.Laws.Lists.{all_same}
use Rattle.time.specs.Time.{horizon}
use Rattle.plan.specs.Plan.{is_final, outcomes_of}
use Rattle.plan.specs.Limits.{InputNames}
use Rattle.plan.specs.declared.Automaton.{Automaton}
use Rattle.plan.specs.declared.Plan.{Plan}
use Rattle.automaton.specs.Rules.{Leaves, Processes, MeetsAutomaton}
use Rattle.automaton.specs.Next.{next_of, chosen_of}
use Rattle.automaton.proofs.Laws.Following.{awaited}
use Rattle.automaton.proofs.Laws.Later.{final_ends, ended_final, goes_only, waits_chosen}
use Rattle.automaton.specs.declared.Next.{Next}
use Rattle.times.specs.Times.{specified}
use Rattle.times.specs.Engine.{taken_by}
use Rattle.times.specs.declared.Progress.{Progress}
use Rattle.times_combined.specs.Word.{size}
use Rattle.times_combined.specs.Combined.{Ident}
use Rattle.times_combined.specs.Times.{Timing}
use Rattle.times_combined.specs.Paths.{word_of, Lawful}
use Rattle.times_equal.proofs.Laws.Words.{Opening}
use Rattle.times_equal.specs.Plans.{progress_after}
use Rattle.times_equal.proofs.Laws.Plans.{AtMostEight}
use Rattle.run_opening.specs.Given.{at_first}
use Rattle.run_path.specs.Path.{entries_by}
use Rattle.timetable_lines.specs.Lines.{rows, waiting, refused}
use Rattle.timetable_lines.specs.Lines as L
use Rattle.demands_theory.specs.TheWord.{state_after, whole_of}
use Rattle.demands_theory.specs.TheWord.{here, later}
use Rattle.demands_theory.specs.Loading.{Exceeds, Beyond, Within}
use Rattle.demands_theory.proofs.Laws.Longest.{within_more}
use Rattle.demands_run.proofs.Laws.Taken.{size_is}
use Rattle.timetable_turns.specs.Timetable.{Move, Takes, move_by, table_from, positions}
use Rattle.timetable_turns.specs.Timetable as T
use Rattle.demands.proofs.Laws.OpeningTests.{is_true}
use Rattle.demands.proofs.Laws.TimesEqual.{none_at}
use Rattle.demands.specs.Timetables.{Steps, Walk, Closes}
use Rattle.demands.proofs.Laws.Leaving.{goes_next, waits_next, waits_ways, chosen_is}
use Rattle.demands.specs.Markers.{Several}
use Rattle.demands.proofs.Laws.Along as Along
use Rattle.demands.proofs.Laws.Along.{Setting}

-- "availabilities are 0"
abbrev pub none : ℕ → ℕ
none r = 0

pub zeros : (p : Plan) → Opening none (at_first (replicate 16 (specified 0)) p.automaton.initial)
zeros p = record {
  whole = record { available = refl; latest = refl; lengths = refl; pending = refl };
  free = none_at 16;
  last = none_at 16;
  none = λ e. all_same {A = ℕ} 16 e 0;
}

pub early : (r : ℕ) → none r ≤ horizon
early r = omega arith

module _ (p : Plan) (l : Lawful p) (eight : AtMostEight p) (m : MeetsAutomaton p) (os : List ℕ) where
  abbrev a : Automaton
  a = p.automaton

  abbrev pub set : Setting
  set = record { plan = p; lawful = l; eight = eight; available = none; early = early; times = replicate 16 (specified 0); opening = zeros p }

  abbrev pub now : List ℕ → Progress
  now is = progress_after p (at_first (replicate 16 (specified 0)) p.automaton.initial) is

  abbrev pub Path : List ℕ → Type 0
  Path is = Along.Path set is

  abbrev pub engine_rows : List ℕ → List ℕ
  engine_rows is = Along.engine_rows set is

  state_is : (is : List ℕ) → (now is).state ≡ state_after p is
  state_is is = Along.state_is set is

  position_is : (is : List ℕ) → (now is).position ≡ size (word_of p is)
  position_is is = Along.position_is set is

  inside : (is : List ℕ) → Path is → state_after p is < a.states
  inside [] f = l.file.limits.initial
  inside (t ∷ is) f = (l.file.limits.moves t f.1.0).to

  tells_passes : (t : ℕ) (is : List ℕ) → Path (t ∷ is) → Tells (taken_by p t (now is)).beyond (Beyond p none (t ∷ is))
  tells_passes t is f = Along.tells_passes set t is f

  pub walk_path : {is : List ℕ} {n : ℕ} → Walk p os is n → Path is
  walk_path Walk.none = refl
  walk_path (Walk.more {is} {t = t} w (Steps.goes h e)) = Along.path_on set is t (walk_path w) h
  walk_path (Walk.more {is} {t = t} w (Steps.hears e h several k x)) = Along.path_on set is t (walk_path w) h

  walk_heard : {is : List ℕ} {n : ℕ} → Walk p os is n → n ≤ length os
  walk_heard Walk.none = omega arith
  walk_heard (Walk.more w (Steps.goes h e)) = walk_heard w
  walk_heard (Walk.more w (Steps.hears e h several k x)) = omega arith

  step_leaves : {is : List ℕ} {n t j : ℕ} → Steps p os is n t j → Leaves a (state_after p is) t
  step_leaves (Steps.goes h e) = h
  step_leaves (Steps.hears e h several k x) = h

  -- ---- one transition

  there : (is : List ℕ) {n : Next} → next_of a (state_after p is) ≡ n → next_of a (now is).state ≡ n
  there is e = ap (next_of a) (state_is is) ∙ e

  next_move : List ℕ → ℕ → Move
  next_move is n = move_by p (now is) n (drop n os) (next_of a (now is).state)

  moved : {is : List ℕ} {n t j : ℕ} → Path is → Steps p os is n t j → next_move is n ≡ Takes t j (drop j os)
  unfolding next_move
  moved {is} {n} {t} f (Steps.goes h e) = rw (there is (goes_next p l.file.limits m (state_after p is) t h e))
  moved {is} {n} {t} f (Steps.hears e h several k x) =
      let low = inside is f in
      let q = (subst (InputNames p) x (l.file.limits.moves t h.low).input).1 in
      let z : n + 1 ≡ suc n = omega arith in
      rw (
        there is (waits_next p l.file.limits m (state_after p is) e (get_or os n 0) low (record { index = t; leaves = h; input = x }) several),
        drop-cons os n 0 k,
        lt-ltb (get_or os n 0) (outcomes_of p e) q,
        ap (λ (s : ℕ). chosen_of a s e (get_or os n 0)) (state_is is) ∙ chosen_is p l.file.limits m (state_after p is) t e (get_or os n 0) low h several x,
        z,
      )

  closes_ended : (is : List ℕ) (n : ℕ) → Path is → is_final a (state_after p is) ≡ true → next_move is n ≡ T.Closes (L.ended p (now is))
  unfolding next_move
  closes_ended is n f h = rw (there is (final_ends p l.file.limits m (state_after p is) (inside is f) h))

  closes_waits : (is : List ℕ) (n e u : ℕ) → Path is → Processes a (state_after p is) e u → Several a (state_after p is) → n ≡ length os → next_move is n ≡ T.Closes (waiting p (now is) e)
  unfolding next_move
  closes_waits is n e u f h several k = rw (there is (waits_next p l.file.limits m (state_after p is) e u (inside is f) h several), drop_of_length-le os {i = n} (omega arith))

  closes_lacks : (is : List ℕ) (n e u : ℕ) → Path is → Processes a (state_after p is) e u → Several a (state_after p is) → n < length os → outcomes_of p e ≤ get_or os n 0 → next_move is n ≡ T.Closes (refused 55 n)
  unfolding next_move
  closes_lacks is n e u f h several k x =
      rw (there is (waits_next p l.file.limits m (state_after p is) e u (inside is f) h several), drop-cons os n 0 k, le-ltb (get_or os n 0) (outcomes_of p e) x)

  -- ---- the text after some transitions

  unfoldable pub text : ℕ → List ℕ → ℕ → List ℕ
  text k is n = table_from p k n (drop n os) (now is)

  closed_by : (k : ℕ) (is : List ℕ) (n : ℕ) (c : List ℕ) → next_move is n ≡ T.Closes c → text k is n ≡ c
  unfolding next_move text table_from
  closed_by zero is n c e = rw e
  closed_by (suc k) is n c e = rw e

  goes_on : (k : ℕ) {is : List ℕ} {n t j : ℕ} → Path is → Within p none is → Steps p os is n t j → (Beyond p none (t ∷ is) → ⊥)
      → text (suc k) is n ≡ rows (entries_by p t (now is)) ++ text k (t ∷ is) j
  unfolding next_move text table_from
  goes_on k {is} {n} {t} f w s nx =
      rw (moved f s, is_false (tells_passes t is (Along.path_on set is t f (step_leaves s))) nx)

  stops_44 : (k : ℕ) {is : List ℕ} {n t j : ℕ} → Path is → Within p none is → Steps p os is n t j → Beyond p none (t ∷ is) → text k is n ≡ refused 44 (size (word_of p is))
  unfolding next_move text table_from
  stops_44 zero {is} f w s x = rw (moved f s, position_is is)
  stops_44 (suc k) {is} {n} {t} f w s x =
      rw (moved f s, is_true (tells_passes t is (Along.path_on set is t f (step_leaves s))) (λ y. y x), position_is is)

  -- ---- from the words of the statement to the text

  pub closing_is : (k : ℕ) (is : List ℕ) (n : ℕ) → Path is → Within p none is → (S E : Ident → ℕ) → Timing (whole_of p is) none S E → (c : List ℕ) → Closes p os is n E c → text k is n ≡ c
  closing_is k is n f w S E tm c (Closes.ended h x) =
      closed_by k is n (L.ended p (now is)) (closes_ended is n f h)
      ∙ rw (state_is is, Along.frees_only set is f S E tm _ x)
  closing_is k is n f w S E tm c (Closes.waits {e = e} {o = u} h several q x) =
      closed_by k is n (waiting p (now is) e) (closes_waits is n e u f h several q)
      ∙ rw (state_is is, Along.frees_only set is f S E tm _ x)
  closing_is k is n f w S E tm c (Closes.lacks {e = e} {o = u} h several q x) = closed_by k is n (refused 55 n) (closes_lacks is n e u f h several q x)
  closing_is k is n f w S E tm c (Closes.exceeds s x) = stops_44 k f w s x

  pub walk_text : {is : List ℕ} {n : ℕ} → Walk p os is n → Within p none is → (k : ℕ) → k + size (word_of p is) ≡ positions → text positions [] 0 ≡ engine_rows is ++ text k is n
  walk_text Walk.none w k e = let z : k ≡ positions = omega arith in rw z
  walk_text (Walk.more {is = is} {n = n} {t = t} {m = j} v s) w k e =
      walk_text v (λ u b. w u (later b)) (suc k) (omega arith)
      ∙ ap (λ (x : List ℕ). engine_rows is ++ x) (goes_on k (walk_path v) (λ u b. w u (later b)) s (w (t ∷ is) here))
      ∙ sym (append_assoc (engine_rows is) (rows (entries_by p t (now is))) (text k (t ∷ is) j))

  too_far : (t : ℕ) (is : List ℕ) → Path (t ∷ is) → 1_000_000_000 < size (word_of p is) → Beyond p none (t ∷ is)
  too_far t is f h =
      let s = Along.solved set (t ∷ is) f in
      record { S = s.0; C = s.1; times = s.2; exceeds = Exceeds.position {us = is} {t = t} (let u = size_is p is in omega arith) }

  pub fits : (is : List ℕ) → Path is → Within p none is → size (word_of p is) ≤ positions
  fits [] f w = omega arith
  fits (t ∷ is) f w = elim (dec_lt 1_000_000_000 (size (word_of p is))) [ yes h ↦ absurd (w (t ∷ is) here (too_far t is f h)) | no h ↦ omega arith ]

  -- ---- from the text to the words of the statement

  pub record Found (x : List ℕ) : Type 0 where
    pub word : List ℕ
    pub heard : ℕ
    pub walk : Walk p os word heard
    pub within : Within p none word
    pub closing : List ℕ
    pub closes : (S E : Ident → ℕ) → Timing (whole_of p word) none S E → Closes p os word heard E closing
    pub printed : x ≡ engine_rows word ++ closing

  module _ (k : ℕ) (is : List ℕ) (n : ℕ) (v : Walk p os is n) (w : Within p none is) where
    closed : (c : List ℕ) → text k is n ≡ c → ((S E : Ident → ℕ) → Timing (whole_of p is) none S E → Closes p os is n E c) → Found (engine_rows is ++ text k is n)
    closed c e h = record { word = is; heard = n; walk = v; within = w; closing = c; closes = h; printed = ap (λ (x : List ℕ). engine_rows is ++ x) e }

    found_end : is_final a (state_after p is) ≡ true → Found (engine_rows is ++ text k is n)
    found_end h =
        closed _ (closed_by k is n (L.ended p (now is)) (closes_ended is n (walk_path v) h))
        (λ S E tm. rw (state_is is) (Closes.ended h (Along.frees set is (walk_path v) S E tm)))

    found_wait : (e u : ℕ) → Processes a (state_after p is) e u → Several a (state_after p is) → n ≡ length os → Found (engine_rows is ++ text k is n)
    found_wait e u h several q =
        closed _ (closed_by k is n (waiting p (now is) e) (closes_waits is n e u (walk_path v) h several q))
        (λ S E tm. rw (state_is is) (Closes.waits h several q (Along.frees set is (walk_path v) S E tm)))

    found_lack : (e u : ℕ) → Processes a (state_after p is) e u → Several a (state_after p is) → n < length os → outcomes_of p e ≤ get_or os n 0 → Found (engine_rows is ++ text k is n)
    found_lack e u h several q x = closed _ (closed_by k is n (refused 55 n) (closes_lacks is n e u (walk_path v) h several q x)) (λ S E tm. Closes.lacks h several q x)

    found_44 : {t j : ℕ} → Steps p os is n t j → Beyond p none (t ∷ is) → Found (engine_rows is ++ text k is n)
    found_44 s x = closed _ (stops_44 k (walk_path v) w s x) (λ S E tm. Closes.exceeds s x)

    -- one transition more, or one of the four ends
    by_next : ((t j : ℕ) → Steps p os is n t j → Found (engine_rows is ++ text k is n)) → (x : Next) → next_of a (state_after p is) ≡ x → Found (engine_rows is ++ text k is n)
    by_next on Next.Ended e = found_end (ended_final p l.file.limits m (state_after p is) (inside is (walk_path v)) e)
    by_next on (Next.Goes t) e = let h = goes_only p l.file.limits m (state_after p is) t (inside is (walk_path v)) e in on t n (Steps.goes h.0 h.1)
    by_next on (Next.Waits ev) e =
        let x = awaited a (state_after p is) ev e in
        let several = waits_ways p l.file.limits m (state_after p is) ev e in
        elim (dec_lt n (length os)) [
          | no h ↦ found_wait ev x.0 x.1 several (let z = walk_heard v in omega arith)
          | yes h ↦ elim (dec_lt (get_or os n 0) (outcomes_of p ev)) [
            | no q ↦ found_lack ev x.0 x.1 several h (omega arith)
            | yes q ↦
                let c = waits_chosen p l.file.limits m (state_after p is) ev (get_or os n 0) (inside is (walk_path v)) e q in
                on c.0 (n + 1) (Steps.hears ev c.2 several h c.3)
          ]
        ]

  pub found : (k : ℕ) (is : List ℕ) (n : ℕ) → Walk p os is n → Within p none is → k + size (word_of p is) ≡ positions → Found (engine_rows is ++ text k is n)
  found zero is n v w e =
      by_next zero is n v w (λ t j s. found_44 zero is n v w s (too_far t is (Along.path_on set is t (walk_path v) (step_leaves s)) (omega arith))) (next_of a (state_after p is)) refl
  found (suc k) is n v w e =
      by_next (suc k) is n v w (λ t j s.
      on t j s (tells_passes t is (Along.path_on set is t (walk_path v) (step_leaves s))) (λ x. found k (t ∷ is) j (Walk.more v s) (within_more p none is t w x) (omega arith)))
      (next_of a (state_after p is)) refl
    where
      on : (t j : ℕ) → Steps p os is n t j → {b : Bool} → Tells b (Beyond p none (t ∷ is)) → ((Beyond p none (t ∷ is) → ⊥) → Found (engine_rows (t ∷ is) ++ text k (t ∷ is) j)) → Found (engine_rows is ++ text (suc k) is n)
      on t j s (holds x) r = found_44 (suc k) is n v w s x
      on t j s (fails x) r =
          subst Found
          (append_assoc (engine_rows is) (rows (entries_by p t (now is))) (text k (t ∷ is) j)
          ∙ ap (λ (y : List ℕ). engine_rows is ++ y) (sym (goes_on k (walk_path v) w s x)))
          (r x)
