-- A path that passes no limit ends within its plan's limits, and its entries are within the horizon. Assumes nothing.
use Rattle.std.specs.Prelude.{◌≡◌, Bool, cond, length, set, take, ltb, eqb}
use Rattle.std.proofs.Math.Path.{refl, subst}
use Rattle.std.proofs.Common.{sym, ap, ◌∙◌, arith, length-set}
use Rattle.std.proofs.Math.Bool.{true, false}
use mathlib.Core.List.{List, [], ◌∷◌, ◌++◌}
use Prim.Native.Nat.{ℕ, zero, suc, ◌+◌, ◌≤◌, ◌<◌}
use Rattle.basis.specs.Tests.{flag}
use Rattle.basis.proofs.Laws.Bools.{clash}
use Rattle.time.specs.Time.{horizon}
use Rattle.time.specs.declared.Specified.{Specified}
use Rattle.plan.specs.Plan.{predecessors, emitted_by, move}
use Rattle.plan.specs.Limits.{InLimits}
use Rattle.plan.specs.declared.Node.{Node}
use Rattle.plan.specs.declared.Input.{Input}
use Rattle.plan.specs.declared.Plan.{Plan}
use Rattle.automaton.specs.Next.{next_of}
use Rattle.automaton.specs.declared.Next.{Next}
use Rattle.times.specs.Times.{specified, at, ready_of, start_of, placed_of, visit_of, round_of, rounds_of, unscheduled}
use Rattle.times.specs.Engine.{last_position, above_of, beyond_of, closed_of, emits_of, timed_of, advance_of}
use Rattle.times.proofs.Laws.Kept.{above_none}
use Rattle.times.specs.declared.Progress.{Progress}
use Rattle.times.specs.declared.Schedule.{Schedule}
use Rattle.run_window.specs.Window.{placed, vacancies}
use Rattle.run_window.proofs.Laws.Placed.{vacancies_length}
use Rattle.run_window.specs.Inner.Times.{InTime, AllInTime}
use Rattle.run_window.specs.declared.Entry.{Entry}
use Rattle.run_path.specs.declared.Pathed.{Pathed}
use Rattle.run_path.specs.Path.{Path, is_work, loaded, entries_from, activity_number, taken_by, entries_by, after, path_from, longest_path}
use Rattle.run_path.specs.Pathed.{ProgressIn, Leads, pathed, Loads}
use Rattle.run_path.proofs.Laws.Collecting.{take_firsts}
use Rattle.run_path.proofs.Laws.Stepping.{next_leads, taken_kept}

-- ---- no node starts after it ends

record Rises (t : Schedule) : Type 0 where
  pub long : length t.start ≡ length t.end
  pub rises : (n : ℕ) → at t.start n ≤ at t.end n

both_set : (l m : List Specified) (n s d : ℕ) → length l ≡ length m → ((i : ℕ) → at l i ≤ at m i) → (i : ℕ) → at (set l n (specified s)) i ≤ at (set m n (specified (s + d))) i
both_set [] [] n s d e h i = h i
both_set [] (y ∷ m) n s d e h i = absurd (omega arith)
both_set (x ∷ l) [] n s d e h i = absurd (omega arith)
both_set (x ∷ l) (y ∷ m) zero s d e h zero = omega arith
both_set (x ∷ l) (y ∷ m) zero s d e h (suc i) = h (suc i)
both_set (x ∷ l) (y ∷ m) (suc n) s d e h zero = h zero
both_set (x ∷ l) (y ∷ m) (suc n) s d e h (suc i) = both_set l m n s d (omega arith) (λ j. h (suc j)) i

placed_rises : (n d s : ℕ) (t : Schedule) → Rises t → Rises (placed_of n d s t)
unfolding placed_of
placed_rises n d s t r = record {
  long = length-set t.start n (specified s) ∙ r.long ∙ sym (length-set t.end n (specified (s + d)));
  rises = both_set t.start t.end n s d r.long r.rises;
}

module _ (available latest : List Specified) where
  visit_rises : (x : Node) (n : ℕ) (t : Schedule) → Rises t → Rises (visit_of available latest x n t)
  unfolding visit_of
  visit_rises x n t r = go (flag t.done n) (ready_of t.done (predecessors x)) (placed_rises n x.duration (start_of available latest t.end x) t r)
    where
      go : (b c : Bool) → Rises (placed_of n x.duration (start_of available latest t.end x) t) → Rises (cond b t (cond c (placed_of n x.duration (start_of available latest t.end x) t) t))
      go true c p = r
      go false true p = p
      go false false p = r

  round_rises : (n : ℕ) (xs : List Node) (t : Schedule) → Rises t → Rises (round_of available latest n xs t)
  unfolding round_of
  round_rises n [] t r = r
  round_rises n (x ∷ xs) t r = round_rises (n + 1) xs (visit_of available latest x n t) (visit_rises x n t r)

  rounds_rise : (a : List Node) (k : ℕ) (t : Schedule) → Rises t → Rises (rounds_of available latest a k t)
  unfolding rounds_of
  rounds_rise a zero t r = r
  rounds_rise a (suc k) t r = go (eqb (round_of available latest 0 a t).count t.count) (rounds_rise a k (round_of available latest 0 a t) (round_rises 0 a t r))
    where
      go : (b : Bool) → Rises (rounds_of available latest a k (round_of available latest 0 a t)) → Rises (cond b t (rounds_of available latest a k (round_of available latest 0 a t)))
      go true p = r
      go false p = p

unscheduled_rises : Rises unscheduled
unscheduled_rises = record { long = refl; rises = λ n. omega arith }

not_above : (resources size : ℕ) (end : List Specified) (g : Progress) → beyond_of resources size end g ≡ false → above_of end 0 size ≡ false
unfolding beyond_of
not_above resources size end g e = go (ltb last_position g.position) (above_of end 0 size) (above_of g.available 0 resources) e
  where
    go : (b c d : Bool) → cond b true (cond c true d) ≡ false → c ≡ false
    go true c d e = clash e
    go false true d e = clash e
    go false false d e = refl

module _ (resources : ℕ) (a : List Node) (i : Input) (to : ℕ) (g : Progress) where
  schedule_rises : Rises (advance_of resources a i to g).schedule
  unfolding timed_of emits_of closed_of
  schedule_rises = rounds_rise _ _ a (length a) unscheduled unscheduled_rises

  ends_told : (advance_of resources a i to g).beyond ≡ false → above_of (advance_of resources a i to g).schedule.end 0 (length a) ≡ false
  unfolding timed_of emits_of closed_of
  ends_told e = not_above resources (length a) _ _ e

-- ---- entries

-- no entry
in_time_none : AllInTime []
in_time_none i e = clash (sym e)

in_time_more : (e : Entry) (es : List Entry) → InTime e → AllInTime es → AllInTime (e ∷ es)
in_time_more e es h k zero = h
in_time_more e es h k (suc i) = k i

in_time_append : (es fs : List Entry) → AllInTime es → AllInTime fs → AllInTime (es ++ fs)
in_time_append [] fs h k = k
in_time_append (e ∷ es) fs h k = in_time_more e (es ++ fs) (h zero) (in_time_append es fs (λ i. h (suc i)) k)

entries_in_time : (position a : ℕ) (s : Schedule) (n : ℕ) (xs : List Node) → Rises s → ((i : ℕ) → n ≤ i → i < n + length xs → at s.end i ≤ horizon) → AllInTime (entries_from position a s n xs)
unfolding entries_from
entries_in_time position a s n [] r h = in_time_none
entries_in_time position a s n (x ∷ xs) r h = go (is_work x.kind) (entries_in_time position a s (n + 1) xs r (λ i l m. h i (omega arith) (omega arith)))
  where
    go : (b : Bool) → AllInTime (entries_from position a s (n + 1) xs) → AllInTime (cond b (loaded position a s n ∷ entries_from position a s (n + 1) xs) (entries_from position a s (n + 1) xs))
    go true k =
        in_time_more (loaded position a s n) (entries_from position a s (n + 1) xs)
        (λ e. let u = h n (omega arith) (omega arith) in let v = r.rises n in (omega arith, omega arith)) k
    go false k = k

-- the entries of one transition
taken_in_time : (p : Plan) (t : ℕ) (g : Progress) → (taken_by p t g).beyond ≡ false → AllInTime (entries_by p t g)
taken_in_time p t g e =
    let o = (move p.automaton t).output in
    let i = (move p.automaton t).input in
    let to = (move p.automaton t).to in
    entries_in_time g.position (activity_number o) (taken_by p t g).schedule 0 (emitted_by p o) (schedule_rises p.resources (emitted_by p o) i to g)
    (above_none (length (emitted_by p o)) 0 (taken_by p t g).schedule.end (ends_told p.resources (emitted_by p o) i to g e))

-- ---- the whole path

abbrev Keeps : Plan → Path → Type 0
Keeps p q = ProgressIn p q.progress × AllInTime q.entries

module _ (p : Plan) (limits : InLimits p) where
  path_kept : (k : ℕ) (next : Next) (g : Progress) → Leads p.automaton.count next → ProgressIn p g → (path_from p k next g).beyond ≡ false → Keeps p (path_from p k next g)
  unfolding path_from
  path_kept zero next g l h e = (h, in_time_none)
  path_kept (suc k) Next.Ended g l h e = (h, in_time_none)
  path_kept (suc k) (Next.Waits x) g l h e = (h, in_time_none)
  path_kept (suc k) (Next.Goes t) g l h e =
      go (taken_by p t g).beyond refl (path_kept k (next_of p.automaton (taken_by p t g).progress.state) (taken_by p t g).progress (next_leads p.automaton (taken_by p t g).progress.state)) e
    where
      rest : Path
      rest = path_from p k (next_of p.automaton (taken_by p t g).progress.state) (taken_by p t g).progress

      way : Bool → Path
      way b = cond b (record { beyond = true; entries = []; progress = g }) (after (entries_by p t g) rest)

      go : (b : Bool) → (taken_by p t g).beyond ≡ b → (ProgressIn p (taken_by p t g).progress → rest.beyond ≡ false → Keeps p rest) → (way b).beyond ≡ false → Keeps p (way b)
      go true d f e = clash e
      go false d f e =
          let u = f (taken_kept p t g limits l h d) e in
          (u.0, in_time_append (entries_by p t g) rest.entries (taken_in_time p t g d) u.1)

  -- what loading needs of a path
  pub loads : (next : Next) (g : Progress) → Leads p.automaton.count next → ProgressIn p g → (r : Pathed) → r ≡ pathed (path_from p longest_path next g) → Loads p (path_from p longest_path next g) r
  unfolding pathed
  loads next g l h r e =
      let q = path_from p longest_path next g in
      subst (Loads p q) (sym e) (record {
        beyond = refl;
        count = refl;
        entries = take_firsts 512 q.entries;
        progress = refl;
        limits = λ d. (path_kept longest_path next g l h d).0;
        times = λ d. (path_kept longest_path next g l h d).1;
      })

-- as many as there are places for: all of them are placed
pub placed_all : (p : Plan) (q : Path) (r : Pathed) → Loads p q r → (w : List Entry) → length w ≡ 512 → r.count ≤ vacancies w → placed w (take r.count r.entries) ≡ placed w q.entries
placed_all p q r h w l k = ap (placed w) (h.entries (let u = vacancies_length w in omega arith))
