-- One transition as the code takes it: the activity that is copied out of the plan, the step, and its entries put after those of
-- a part of a path. Assumes nothing.
use Rattle.std.specs.Prelude.{◌≡◌, refl, Bool, true, false, cond, List, ◌∷◌, ℕ, suc, ◌+◌, ◌≤◌, ◌<◌, ltb, get_or, set}
use Rattle.std.proofs.Math.Path.{sym, ap}
use Rattle.std.proofs.Common.{◌∙◌, subst, ltb-true, ltb-false, length-set}
use native.Mathlib.Omega.{arith}
use Rattle.std.proofs.Math.ListN.{length}
use Rattle.basis.specs.Parts.{part}
use Rattle.basis.proofs.Laws.Bools.{clash}
use Rattle.plan.specs.Plan.{past_node, size_of, nodes_of, emitted_by, move}
use Rattle.plan.specs.Limits.{OutputNames, InLimits}
use Rattle.plan.specs.declared.Node.{Node}
use Rattle.plan.specs.declared.Output.{Output}
use Rattle.plan.specs.declared.Activity.{Activity}
use Rattle.plan.specs.declared.Plan.{Plan}
use Rattle.activity.specs.Inner.Copied.{filled, copied}
use Rattle.times.specs.Limits.{StepFits}
use Rattle.times.specs.declared.Progress.{Progress}
use Rattle.times.specs.declared.Schedule.{Schedule}
use Rattle.times.specs.declared.Advanced.{Advanced}
use Rattle.run_window.specs.declared.Entry.{Entry}
use Rattle.run_path.specs.declared.Pathed.{Pathed}
use Rattle.run_path.specs.Path.{is_work, loaded, entries_from, activity_number, taken_by, entries_by}
use Rattle.run_path.specs.Pathed.{ProgressIn}
use Rattle.run_path.specs.Inner.Path.{emitted_of, emitted_count, counted_of, is_kept, put, stored, onto, stopped, taken_of}
use Rattle.run_path.proofs.Laws.Collecting.{set_outside, rest, rest_all, rest_by_lem, rest_none}
use Rattle.run_path.proofs.Laws.Emitting.{emitted_nodes, step_fits}
use Rattle.run_path.proofs.Laws.Stepping.{taken_stops, taken_goes}

-- ---- the activity that is copied out

-- the activity that is named, and its size
pub number_below : (p : Plan) → InLimits p → (o : Output) → OutputNames p o → activity_number o < 32
number_below p h Output.Empty l = omega arith
number_below p h (Output.Activity a) l = let u = h.activities in omega arith

pub size_below : (p : Plan) → InLimits p → (o : Output) → OutputNames p o → emitted_count o (size_of p (activity_number o)) ≤ 64
size_below p h Output.Empty l = omega arith
size_below p h (Output.Activity a) l = (h.sizes a l).1

-- its number of nodes, and where they stand
pub emitted_as : (p : Plan) (o : Output) (number count : ℕ) (ns : List Node) → number ≡ activity_number o → count ≡ emitted_count o (size_of p number) → ns ≡ filled p number count → ◌≡◌ {A = Activity} (record { count = count; nodes = ns }) (emitted_of p o)
unfolding emitted_of copied
emitted_as p Output.Empty number count ns a b c =
    ap (λ (l : List Node). record { count = count; nodes = l }) (c ∙ ap (filled p number) b) ∙ ap (λ (k : ℕ). record { count = k; nodes = filled p number 0 }) b
emitted_as p (Output.Activity x) number count ns a b c =
    ap (λ (l : List Node). record { count = count; nodes = l }) (c ∙ ap (filled p number) b)
    ∙ ap (λ (k : ℕ). record { count = k; nodes = filled p number (size_of p number) }) b
    ∙ ap (λ (k : ℕ). record { count = size_of p k; nodes = filled p k (size_of p k) }) a

-- ---- one transition

module _ (p : Plan) (t : ℕ) (g : Progress) (i : ℕ) (ei : i ≡ t) (a : Activity) (ea : a ≡ emitted_of p (move p.automaton i).output) where
  -- it can be taken
  pub step_taken : InLimits p → t < p.automaton.count → ProgressIn p g → StepFits p.resources a (move p.automaton i).input g
  step_taken h l k =
      subst (λ (x : Activity). StepFits p.resources x (move p.automaton i).input g) (sym ea)
      (subst (λ (n : ℕ). StepFits p.resources (emitted_of p (move p.automaton n).output) (move p.automaton n).input g) (sym ei) (step_fits p h t l g k))

  -- its entries are the plan's
  pub entries_are : (v : Advanced) → v ≡ taken_by p t g → (number : ℕ) → number ≡ activity_number (move p.automaton i).output → entries_from g.position number v.schedule 0 (nodes_of a) ≡ entries_by p t g
  entries_are v ev number en =
      let o = (move p.automaton i).output in
      ap (λ (n : ℕ). entries_from g.position n v.schedule 0 (nodes_of a)) en
      ∙ ap (entries_from g.position (activity_number o) v.schedule 0) (ap nodes_of ea ∙ emitted_nodes p o)
      ∙ ap (λ (x : Advanced). entries_from g.position (activity_number o) x.schedule 0 (emitted_by p o)) ev
      ∙ ap (λ (k : ℕ). entries_from g.position (activity_number (move p.automaton k).output) (taken_by p t g).schedule 0 (emitted_by p (move p.automaton k).output)) ei

-- ---- one node more, after a part of a path

-- the part with these entries, and so many
abbrev pub with_entries : Pathed → List Entry → ℕ → Pathed
with_entries f l k = record { beyond = f.beyond; entries = l; count = k; progress = f.progress }

store_one : (f : Pathed) (e : Entry) (es : List Entry) → stored f (e ∷ es) ≡ stored (with_entries f (set f.entries f.count e) (f.count + 1)) es
unfolding stored put
store_one f e es =
    let z : f.count + suc (length es) ≡ f.count + 1 + length es = omega arith in
    ap (λ (k : ℕ). record { beyond = f.beyond; entries = put (set f.entries f.count e) (f.count + 1) es; count = k; progress = f.progress }) z

pub kept_below : (place : ℕ) (x : Node) → is_kept place x ≡ true → place < 512
kept_below place x e = go (is_work x.kind) e
  where
    go : (b : Bool) → cond b (ltb place 512) false ≡ true → place < 512
    go true d = ltb-true place 512 d
    go false d = clash (sym d)

module _ (position a : ℕ) (s : Schedule) (l : List Node) (size : ℕ) (h : Pathed) where
  -- the entries of the first n nodes are put after those of the part h: with those that are left, f is what all of them make of it
  pub record Storing (f : Pathed) (n : ℕ) : Type 0 where
    pub count : f.count ≤ h.count + n
    pub places : length f.entries ≡ 512
    pub whole : stored h (rest position a s l size 0) ≡ stored f (rest position a s l size n)

  pub storing_starts : length h.entries ≡ 512 → Storing h 0
  storing_starts e = record { count = omega arith; places = e; whole = refl }

  module _ (f : Pathed) (n : ℕ) (w : Storing f n) (b : n < size) (k : ℕ) (ek : k ≡ counted_of f.count (get_or l n past_node)) where
    by_work : (i : Bool) → is_work (get_or l n past_node).kind ≡ i → k ≡ cond i (f.count + 1) f.count
    by_work i d = ek ∙ ap (λ (x : Bool). cond x (f.count + 1) f.count) d

    storing_work : (x : Entry) → x ≡ loaded position a s n → is_work (get_or l n past_node).kind ≡ true → Storing (with_entries f (set f.entries f.count x) k) (n + 1)
    storing_work x ex d = record {
      count = let u = w.count in let v = by_work true d in omega arith;
      places = length-set f.entries f.count x ∙ w.places;
      whole =
          w.whole
          ∙ ap (stored f) (rest_by_lem position a s l size n b true d)
          ∙ store_one f (loaded position a s n) (rest position a s l size (n + 1))
          ∙ ap (λ (y : Entry). stored (with_entries f (set f.entries f.count y) (f.count + 1)) (rest position a s l size (n + 1))) (sym ex)
          ∙ ap (λ (m : ℕ). stored (with_entries f (set f.entries f.count x) m) (rest position a s l size (n + 1))) (sym (by_work true d));
    }

    pub storing_kept : (x : Entry) → x ≡ loaded position a s n → is_kept f.count (get_or l n past_node) ≡ true → Storing (with_entries f (set f.entries f.count x) k) (n + 1)
    storing_kept x ex e = go (is_work (get_or l n past_node).kind) refl
      where
        go : (i : Bool) → is_work (get_or l n past_node).kind ≡ i → Storing (with_entries f (set f.entries f.count x) k) (n + 1)
        go true d = storing_work x ex d
        go false d = clash (sym e ∙ ap (λ (y : Bool). cond y (ltb f.count 512) false) d)

    -- a node that has no entry, or one past the last place, which is only counted
    pub storing_passed : is_kept f.count (get_or l n past_node) ≡ false → Storing (with_entries f f.entries k) (n + 1)
    storing_passed e = go (is_work (get_or l n past_node).kind) refl
      where
        go : (i : Bool) → is_work (get_or l n past_node).kind ≡ i → Storing (with_entries f f.entries k) (n + 1)
        go true d =
            let full : 512 ≤ f.count = ltb-false f.count 512 (sym (ap (λ (y : Bool). cond y (ltb f.count 512) false) d) ∙ e) in
            subst (λ (m : List Entry). Storing (with_entries f m k) (n + 1)) (set_outside f.entries f.count (loaded position a s n) (omega (arith, w.places))) (storing_work (loaded position a s n) refl d)
        go false d = record {
          count = let u = w.count in let v = by_work false d in omega arith;
          places = w.places;
          whole =
              w.whole
              ∙ ap (stored f) (rest_by_lem position a s l size n b false d)
              ∙ ap (λ (m : ℕ). stored (with_entries f f.entries m) (rest position a s l size (n + 1))) (sym (by_work false d));
        }

  pub storing_ends : (f : Pathed) (n : ℕ) → Storing f n → size ≤ n → (count : ℕ) → size ≡ count → f ≡ stored h (entries_from position a s 0 (part past_node l 0 count))
  unfolding stored put
  storing_ends f n w b count e =
      let z : f.count + 0 ≡ f.count = omega arith in
      sym
      (ap (λ (k : ℕ). stored h (entries_from position a s 0 (part past_node l 0 k))) (sym e)
      ∙ ap (stored h) (rest_all position a s l size)
      ∙ w.whole
      ∙ ap (stored f) (rest_none position a s l size n b)
      ∙ ap (λ (k : ℕ). with_entries f f.entries k) z)

pub stored_beyond : (f r : Pathed) (es : List Entry) → r ≡ stored f es → r.beyond ≡ f.beyond
unfolding stored
stored_beyond f r es e = ap (λ (x : Pathed). x.beyond) e

-- ---- the transition is taken

module _ (p : Plan) (t : ℕ) (f : Pathed) (v : Advanced) (e : v ≡ taken_by p t f.progress) where
  pub taken_past : v.beyond ≡ true → stopped f ≡ taken_of p t f
  taken_past b = sym (taken_stops p t f (sym (ap (λ (x : Advanced). x.beyond) e) ∙ b))

  pub taken_whole : v.beyond ≡ false → f.beyond ≡ false → (r : Pathed) → r ≡ stored f (entries_by p t f.progress) → ◌≡◌ {A = Pathed} (record { beyond = r.beyond; entries = r.entries; count = r.count; progress = v.progress }) (taken_of p t f)
  unfolding stored onto
  taken_whole b c r q =
      let es = entries_by p t f.progress in
      ap (λ (x : Pathed). record { beyond = x.beyond; entries = x.entries; count = x.count; progress = v.progress }) q
      ∙ ap (λ (x : Advanced). record { beyond = f.beyond; entries = put f.entries f.count es; count = f.count + length es; progress = x.progress }) e
      ∙ ap (λ x. record { beyond = x; entries = put f.entries f.count es; count = f.count + length es; progress = (taken_by p t f.progress).progress }) c
      ∙ sym (taken_goes p t f (sym (ap (λ (x : Advanced). x.beyond) e) ∙ b))
