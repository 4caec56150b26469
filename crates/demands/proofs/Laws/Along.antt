-- The engine along a word of a lawful plan: its times are those of Def. 11, its rows those of the word, its availabilities the
-- completions of the releases.
use Rattle.std.specs.Prelude.{◌≡◌, Bool, get_or}
use Rattle.std.proofs.Math.Path.{refl, sym, ap}
use Rattle.std.proofs.Common.{◌∙◌, subst}
use Rattle.std.proofs.Math.Bool.{true, false, cond}
use mathlib.Core.List.{List, [], ◌∷◌, ◌++◌, map}
use Prim.Native.Nat.{ℕ, zero, suc, ◌+◌, ◌≤◌, ◌<◌}
use native.Mathlib.Omega.{arith}
use Rattle.std.proofs.Math.ListN.{length}
use Rattle.std.proofs.Math.Seq.{ext_get_or}
use Rattle.basis.specs.Parts.{part}
use Rattle.basis.specs.Inner.Tells.{Tells}
use Rattle.basis.proofs.Laws.PartsHold.{length_part, get_d_part}
use Rattle.time.specs.Time.{horizon}
use Rattle.time.specs.declared.Specified.{Specified}
use Rattle.plan.specs.Plan.{past_node, move, emitted_by, resource_of}
use Rattle.plan.specs.declared.Kind.{Kind}
use Rattle.plan.specs.declared.Node.{Node}
use Rattle.plan.specs.declared.Plan.{Plan}
use Rattle.activity.specs.Rules.{node}
use Rattle.automaton.specs.Rules.{Leaves}
use Rattle.times.specs.Times.{specified, at}
use Rattle.times.specs.Engine.{taken_by}
use Rattle.times.specs.declared.Progress.{Progress}
use Rattle.times.specs.declared.Schedule.{Schedule}
use Rattle.times_combined.specs.Word.{size}
use Rattle.times_combined.specs.Combined.{Ident, identity, NotClaim, NotRelease, Is, Nodes, Joined}
use Rattle.times_combined.specs.Times.{Timing}
use Rattle.times_combined.specs.Paths.{word_of, Follows, Lawful}
use Rattle.times_combined.proofs.Laws.Accepted.{GoodWord}
use Rattle.times_combined.proofs.Laws.Plans.{good_path}
use Rattle.times_equal.proofs.Laws.Words.{Opening, trace_by}
use Rattle.times_equal.specs.Plans.{progress_after, schedule_at}
use Rattle.times_equal.proofs.Laws.Plans.{AtMostEight, First, whole, later, times_at, stored_at as kept_at, plan_equal, plan_run, plan_times, plan_free, progress_at}
use Rattle.run_opening.specs.Given.{at_first}
use Rattle.run_path.specs.Path.{is_work, loaded, entries_from, entries_by, activity_number}
use Rattle.timetable_lines.specs.Lines.{rows, free_of, free}
use Rattle.timetable_text.specs.Text.{decimal, line, word_free}
use Rattle.demands_theory.specs.TheWord.{state_after, whole_of}
use Rattle.demands_run.proofs.Laws.Taken.{next_position, next_state}
use Rattle.demands_theory.specs.Loading.{Beyond}
use Rattle.demands_run.proofs.Laws.Passing.{Leads, tells_leads}
use Rattle.demands.specs.Timetables.{node_rows, rows_of, Frees}

not_claim : (k : Kind) → is_work k ≡ true → NotClaim k
not_claim (Kind.Action a x) e = tt
not_claim (Kind.Claim r) e = absurd (let z : ◌≡◌ {A = ℕ} 0 1 = cc in omega arith)
not_claim (Kind.Release r) e = tt
not_claim (Kind.Event x) e = tt

not_release : (k : Kind) → is_work k ≡ true → NotRelease k
not_release (Kind.Action a x) e = tt
not_release (Kind.Claim r) e = tt
not_release (Kind.Release r) e = absurd (let z : ◌≡◌ {A = ℕ} 0 1 = cc in omega arith)
not_release (Kind.Event x) e = tt

-- a lawful plan, and what an opening stores: the availabilities are in time
pub record Setting : Type 0 where
  pub plan : Plan
  pub lawful : Lawful plan
  pub eight : AtMostEight plan
  pub available : ℕ → ℕ
  pub early : (r : ℕ) → available r ≤ horizon
  pub times : List Specified
  pub opening : Opening available (at_first times plan.automaton.initial)

module _ (setting : Setting) where
  abbrev p : Plan
  p = setting.plan

  abbrev available : ℕ → ℕ
  available = setting.available

  -- where the behaviour stands at first, and after some transitions
  abbrev pub first : Progress
  first = at_first setting.times p.automaton.initial

  abbrev pub after : List ℕ → Progress
  after is = progress_after p first is

  abbrev pub Path : List ℕ → Type 0
  Path is = Follows p p.automaton.initial is (state_after p is)

  pub path_on : (is : List ℕ) (t : ℕ) → Path is → Leaves p.automaton (state_after p is) t → Path (t ∷ is)
  path_on is t f h = (subst (Follows p p.automaton.initial is) (sym h.from) f, (h.low, refl))

  pub path_before : (is : List ℕ) (t : ℕ) → Path (t ∷ is) → ((move p.automaton t).from ≡ state_after p is) × Path is
  path_before [] t f = (sym f.0, refl)
  path_before (i ∷ is) t f = (sym f.0.1.1, (f.0.0, (f.0.1.0, refl)))

  pub state_is : (is : List ℕ) → (after is).state ≡ state_after p is
  state_is [] = refl
  state_is (t ∷ is) = next_state p t (after is)

  pub position_is : (is : List ℕ) → (after is).position ≡ size (word_of p is)
  position_is [] = refl
  position_is (t ∷ is) = let u = next_position p t (after is) in let v = position_is is in omega arith

  pub good : (is : List ℕ) → Path is → GoodWord p.resources (resource_of p) (word_of p is)
  good is f = good_path p setting.lawful p.automaton.initial is (state_after p is) f

  -- Def. 11 has a solution
  pub solved : (is : List ℕ) → Path is → (S : Ident → ℕ) × (E : Ident → ℕ) × Timing (whole_of p is) available S E
  solved is f = (_, _, (plan_equal p setting.lawful setting.eight available first setting.opening is (state_after p is) f).timing)

  -- each resource has one release, which completes when the engine has the resource available
  pub released : (is : List ℕ) (f : Path is) (r : ℕ) → r < p.resources → (x : Ident) × Is (whole_of p is) x (Kind.Release r)
  released is f r h = let x = (plan_equal p setting.lawful setting.eight available first setting.opening is (state_after p is) f).free r h in (x.0, x.1)

  pub one_release : (is : List ℕ) → Path is → (x y : Ident) (r : ℕ) → Is (whole_of p is) x (Kind.Release r) → Is (whole_of p is) y (Kind.Release r) → x ≡ y
  one_release is f = (plan_equal p setting.lawful setting.eight available first setting.opening is (state_after p is) f).one_release

  pub free_at : (is : List ℕ) → Path is → (S E : Ident → ℕ) → Timing (whole_of p is) available S E → (x : Ident) (r : ℕ) → r < p.resources → Is (whole_of p is) x (Kind.Release r)
      → E x ≡ at (after is).available r
  free_at is f S E t x r h i = plan_free p setting.lawful setting.eight available first setting.opening is (state_after p is) f S E t x r h i

  -- the times at the position of a transition
  pub times_there : (is : List ℕ) → Path is → (S E : Ident → ℕ) → Timing (whole_of p is) available S E → (t : ℕ) (js : List ℕ) → First (t ∷ js) is
      → (n : ℕ) (k : Kind) (d : ℕ) → (whole_of p is).Holds (identity (size (word_of p js)) n) k d
      → (S (identity (size (word_of p js)) n) ≡ at (taken_by p t (after js)).schedule.start n) × (E (identity (size (word_of p js)) n) ≡ at (taken_by p t (after js)).schedule.end n)
  times_there is f S E tm t js b n k d h =
      let x = plan_times p setting.lawful setting.eight available first setting.opening is (state_after p is) f S E tm (size (word_of p js)) n k d h in
      let e = times_at p first t js b in
      (x.0 ∙ ap (λ (s : Schedule). at s.start n) e, x.1 ∙ ap (λ (s : Schedule). at s.end n) e)

  -- ---- rows

  abbrev pub engine_rows : List ℕ → List ℕ
  engine_rows [] = []
  engine_rows (t ∷ is) = engine_rows is ++ rows (entries_by p t (after is))

  module _ (q a : ℕ) (s : Schedule) (S E : Ident → ℕ) where
    node_rows_lem : (n : ℕ) (xs : List Node)
        → ((i : ℕ) → i < length xs → is_work (get_or xs i past_node).kind ≡ true → (S (identity q (n + i)) ≡ at s.start (n + i)) × (E (identity q (n + i)) ≡ at s.end (n + i)))
        → node_rows q a S E n xs ≡ rows (entries_from q a s n xs)
    unfolding rows entries_from
    node_rows_lem n [] h = refl
    node_rows_lem n (x ∷ xs) h =
        go (is_work x.kind) refl
        (node_rows_lem (n + 1) xs (λ i m w. let z : n + 1 + i ≡ n + suc i = omega arith in rw z (h (suc i) (omega arith) w)))
      where
        go : (b : Bool) → is_work x.kind ≡ b → node_rows q a S E (n + 1) xs ≡ rows (entries_from q a s (n + 1) xs)
            → cond b (line (decimal q ∷ decimal a ∷ decimal n ∷ decimal (S (identity q n)) ∷ decimal (E (identity q n)) ∷ [])) [] ++ node_rows q a S E (n + 1) xs
            ≡ rows (cond b (loaded q a s n ∷ entries_from q a s (n + 1) xs) (entries_from q a s (n + 1) xs))
        go true e r =
            let z : n + 0 ≡ n = omega arith in
            let y = rw z at (h 0 (omega arith) e) in
            rw (y.0, y.1, r)
        go false e r = r

  -- node n of the activity of the last transition
  pub own : (t : ℕ) (is : List ℕ) (n : ℕ) → n < length (emitted_by p (move p.automaton t).output) → NotClaim (node (emitted_by p (move p.automaton t).output) n).kind
      → (whole_of p (t ∷ is)).Holds (identity (size (word_of p is)) n) (node (emitted_by p (move p.automaton t).output) n).kind (node (emitted_by p (move p.automaton t).output) n).duration
  own t is n h nc = Joined.right (Nodes.own h refl refl) nc

  stays : (t : ℕ) (js is : List ℕ) → First (t ∷ js) is → (x : Ident) (k : Kind) (d : ℕ) → (whole_of p (t ∷ js)).Holds x k d → NotRelease k → (whole_of p is).Holds x k d
  stays t js is whole x k d h nr = h
  stays t js is (later b) x k d h nr = Joined.left (stays t js _ b x k d h nr) nr

  shorter : {t : ℕ} {js is : List ℕ} → First (t ∷ js) is → First js is
  shorter whole = later whole
  shorter (later b) = later (shorter b)

  rows_along : (is : List ℕ) → Path is → (S E : Ident → ℕ) → Timing (whole_of p is) available S E → (js : List ℕ) → First js is → rows_of p js S E ≡ engine_rows js
  rows_along is f S E tm [] b = refl
  rows_along is f S E tm (t ∷ js) b =
      let x = rows_along is f S E tm js (shorter b) in
      let q = size (word_of p js) in
      let a = activity_number (move p.automaton t).output in
      let xs = emitted_by p (move p.automaton t).output in
      let y : node_rows q a S E 0 xs ≡ rows (entries_from q a (taken_by p t (after js)).schedule 0 xs) =
      node_rows_lem q a (taken_by p t (after js)).schedule S E 0 xs (λ i m w.
      let z : 0 + i ≡ i = omega arith in
      rw z
      (times_there is f S E tm t js b i (node xs i).kind (node xs i).duration
      (stays t js is b (identity q i) (node xs i).kind (node xs i).duration (own t js i m (not_claim (node xs i).kind w)) (not_release (node xs i).kind w)))) in
      rw (x, y, position_is js)

  pub rows_are : (is : List ℕ) → Path is → (S E : Ident → ℕ) → Timing (whole_of p is) available S E → rows_of p is S E ≡ engine_rows is
  rows_are is f S E tm = rows_along is f S E tm is whole

  -- ---- availabilities

  abbrev values : List Specified → List ℕ
  values ts = map (λ (t : Specified). t.0) ts

  value_at_lem : (ts : List Specified) (r : ℕ) → get_or (values ts) r 0 ≡ at ts r
  value_at_lem [] r = refl
  value_at_lem (t ∷ ts) zero = refl
  value_at_lem (t ∷ ts) (suc r) = value_at_lem ts r

  many_values : (ts : List Specified) → length (values ts) ≡ length ts
  many_values [] = refl
  many_values (t ∷ ts) = ap suc (many_values ts)

  in_words : (ts : List Specified) → map (λ (t : Specified). decimal t.0) ts ≡ map decimal (values ts)
  in_words [] = refl
  in_words (t ∷ ts) = ap (λ (ws : List (List ℕ)). decimal t.0 ∷ ws) (in_words ts)

  module _ (is : List ℕ) (f : Path is) (S E : Ident → ℕ) (tm : Timing (whole_of p is) available S E) where
    abbrev stored : List Specified
    stored = part (specified 0) (after is).available 0 p.resources

    stored_at : (r : ℕ) → r < p.resources → get_or (values stored) r 0 ≡ at (after is).available r
    stored_at r h =
        let z : 0 + r ≡ r = omega arith in
        value_at_lem stored r ∙ ap (λ (t : Specified). t.0) (get_d_part (specified 0) (after is).available 0 p.resources r h) ∙ ap (λ (n : ℕ). at (after is).available n) z

    pub frees : Frees p is E (free p (after is))
    unfolding free_of
    frees = record {
      values = values stored;
      many = many_values stored ∙ length_part (specified 0) (after is).available 0 p.resources;
      each = λ r h. let x = released is f r h in (x.0, x.1, free_at is f S E tm x.0 r h x.1 ∙ sym (stored_at r h));
      printed = ap (λ (ws : List (List ℕ)). line (word_free ∷ ws)) (in_words stored);
    }

    pub frees_only : (text : List ℕ) → Frees p is E text → text ≡ free p (after is)
    unfolding free_of
    frees_only text x =
        let long : length x.values ≡ length (values stored) = x.many ∙ sym (many_values stored ∙ length_part (specified 0) (after is).available 0 p.resources) in
        let same : x.values ≡ values stored = ext_get_or 0 x.values (values stored) long (λ r h.
        let k : r < p.resources = omega (arith, x.many) in
        let y = x.each r k in
        sym y.2 ∙ free_at is f S E tm y.0 r k y.1 ∙ sym (stored_at r k)) in
        x.printed ∙ ap (λ (vs : List ℕ). line (word_free ∷ map decimal vs)) same ∙ ap (λ (ws : List (List ℕ)). line (word_free ∷ ws)) (sym (in_words stored))

  -- ---- the limits of time and position

  pub leads : (t : ℕ) (is : List ℕ) → Path (t ∷ is) → Leads p available t is (after is)
  leads t is f = record {
    trace = trace_by (progress_at p first (t ∷ is)) (schedule_at p first (t ∷ is)) (word_of p (t ∷ is));
    runs = plan_run p setting.lawful setting.eight available first setting.opening (t ∷ is) (state_after p (t ∷ is)) f;
    ends = λ n. ap (λ (s : Schedule). at s.end n) (times_at p first t is whole);
    free = λ r. ap (λ (g : Progress). at g.available r) (kept_at p first (t ∷ is) whole);
    position = position_is is;
  }

  pub tells_passes : (t : ℕ) (is : List ℕ) → Path (t ∷ is) → Tells (taken_by p t (after is)).beyond (Beyond p available (t ∷ is))
  tells_passes t is f = tells_leads p setting.lawful available t is (after is) f (leads t is f)
