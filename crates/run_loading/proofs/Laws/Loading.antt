-- One path by the path as the code has it; the way on; and each turn of further paths, which keeps the numbers within the limits.
use Rattle.std.specs.Prelude.{◌≡◌, Bool, List, [], ◌∷◌, ℕ, suc, ◌≤◌, ltb, length, replicate, take, Option, None, Some, is_some}
use Rattle.std.proofs.Math.Path.{refl, sym, ap}
use Rattle.std.proofs.Common.{◌∙◌, subst, true≢false, ⊎_elim, arith}
use Rattle.std.proofs.Math.Bool.{true, false, cond}
use types.Run.{OneOf}
use denote.Enum.Declared.{tag_of}
use borrow.Author.Tests.{ltb-false}
use Rattle.basis.proofs.Laws.Bools.{by_test}
use Rattle.plan.specs.declared.Automaton.{Automaton}
use Rattle.plan.specs.declared.Plan.{Plan}
use Rattle.automaton.specs.Next.{next_of, chosen_of}
use Rattle.automaton.proofs.Laws.States.{ChosenIs, chosen_is}
use Rattle.automaton.specs.contracts.Next as next-type
use Rattle.automaton.specs.declared.Next.{Next}
use Rattle.times.specs.declared.Told.{Told}
use Rattle.times.specs.declared.Progress.{Progress}
use Rattle.run_window.specs.Window.{vacant, placed, vacancies}
use Rattle.run_window.proofs.Laws.Lowest.{all_free}
use Rattle.run_window.specs.declared.Entry.{Entry}
use Rattle.run_path.specs.Path.{Path, path_from, longest_path}
use Rattle.run_path.specs.Pathed.{Leads, pathed}
use Rattle.run_path.specs.Pathed as the-path
use Rattle.run_path.specs.declared.Pathed.{Pathed}
use Rattle.run_path.proofs.Laws.InTime.{loads, placed_all}
use Rattle.run_path.proofs.Laws.Collecting.{placed_firsts}
use Rattle.run_outcomes.specs.Told.{oldest_told}
use Rattle.run_outcomes.specs.Way.{by_choice, by_told, way_on}
use Rattle.run_loading.specs.declared.Failure.{Failure}
use Rattle.run_loading.specs.declared.Loading.{Loading}
use Rattle.run_loading.specs.Loading.{loading, load, on_way, on_loading, further}
use Rattle.run_loading.specs.Inner.Loading.{Loads, Loadable, failure_by}

-- ---- one path

module _ (p : Plan) (next : Next) (g : Progress) (w : List Entry) (able : Loadable p g next) where
  abbrev path : Path
  path = path_from p longest_path next g

  kept : (r : Pathed) → r ≡ pathed path → the-path.Loads p path r
  kept r e = loads p able.loads.plan next g able.leads able.loads.progress r e

  -- by how it ends, as the code has it
  module _ (r : Pathed) (e : r ≡ pathed path) (f : Option Failure) (q : f ≡ failure_by r.beyond r.count (vacancies w)) where
    load_by : load p next g w ≡ cond (is_some f) (loading f g w) (loading f path.progress (placed w path.entries))
    unfolding load failure_by
    load_by = rw (q, (kept r e).beyond, (kept r e).count) (go path.beyond (ltb (vacancies w) (length path.entries)))
      where
        go : (b c : Bool)
            → cond b (loading (Some Failure.Beyond) g w) (cond c (loading (Some Failure.Full) g w) (loading None path.progress (placed w path.entries)))
            ≡ cond (is_some (cond b (Some Failure.Beyond) (cond c (Some Failure.Full) None))) (loading (cond b (Some Failure.Beyond) (cond c (Some Failure.Full) None)) g w)
            (loading (cond b (Some Failure.Beyond) (cond c (Some Failure.Full) None)) path.progress (placed w path.entries))
        go true c = refl
        go false true = refl
        go false false = refl

    pub load_failed : is_some f ≡ true → loading f g w ≡ load p next g w
    load_failed h = sym (load_by ∙ rw h)

    -- there is room for all entries
    pub load_fits : is_some f ≡ false → r.count ≤ vacancies w
    unfolding failure_by
    load_fits h = ltb-false _ _ (not_full r.beyond (ltb (vacancies w) r.count) (ap is_some (sym q) ∙ h))
      where
        not_full : (b c : Bool) → is_some (cond b (Some Failure.Beyond) (cond c (Some Failure.Full) None)) ≡ false → c ≡ false
        not_full true c h = absurd (true≢false h)
        not_full false true h = absurd (true≢false h)
        not_full false false h = refl

    pub load_placed : length w ≡ 512 → is_some f ≡ false → loading f r.progress (placed w (take r.count r.entries)) ≡ load p next g w
    load_placed long h =
        ap (λ (x : Progress). loading f x (placed w (take r.count r.entries))) (kept r e).progress
        ∙ ap (loading f path.progress) (placed_all p path r (kept r e) w long (load_fits h))
        ∙ sym (load_by ∙ rw h)

  -- the numbers stay within the limits
  load_keeps : is_some (load p next g w).failure ≡ false → Loads p (load p next g w).progress
  unfolding load
  load_keeps =
      by_test (λ (l : Loading). is_some l.failure ≡ false → Loads p l.progress) path.beyond _ _ (λ b h. absurd (true≢false h))
      (λ b. by_test (λ (l : Loading). is_some l.failure ≡ false → Loads p l.progress) (ltb (vacancies w) (length path.entries)) _ _ (λ f h. absurd (true≢false h))
      (λ f h. record { plan = able.loads.plan; progress = (kept (pathed path) refl).limits b }))

  pub loaded_keeps : (l : Loading) → l ≡ load p next g w → is_some l.failure ≡ false → Loads p l.progress
  loaded_keeps l q = subst (λ (m : Loading). is_some m.failure ≡ false → Loads p m.progress) (sym q) load_keeps

-- ---- the first path, into an empty window

module _ (p : Plan) (next : Next) (g : Progress) (able : Loadable p g next) (r : Pathed) (e : r ≡ pathed (path_from p longest_path next g)) (f : Option Failure) (q : f ≡ failure_by r.beyond r.count 512) where
  ending : f ≡ failure_by r.beyond r.count (vacancies (replicate 512 vacant))
  ending = q ∙ ap (failure_by r.beyond r.count) (sym (all_free 512))

  pub first_failed : is_some f ≡ true → loading f g (replicate 512 vacant) ≡ load p next g (replicate 512 vacant)
  first_failed h = load_failed p next g (replicate 512 vacant) able r e f ending h

  -- its entries are what the window then holds
  pub first_placed : is_some f ≡ false → loading f r.progress r.entries ≡ load p next g (replicate 512 vacant)
  unfolding pathed
  first_placed h =
      ap (loading f r.progress) (ap (λ (x : Pathed). x.entries) e ∙ sym (placed_firsts 512 (path_from p longest_path next g).entries) ∙ sym (placed_all p (path_from p longest_path next g) r (kept p next g (replicate 512 vacant) able r e) (replicate 512 vacant) refl (load_fits p next g (replicate 512 vacant) able r e f ending h)))
      ∙ load_placed p next g (replicate 512 vacant) able r e f ending refl h

-- ---- the way on

module _ (a : Automaton) (g : Progress) where
  choice_leads : (e o : ℕ) (c : Option ℕ) → ChosenIs a g.state e o c → Leads a.count (by_choice c e)
  choice_leads e o None h = tt
  choice_leads e o (Some t) (ChosenIs.moves l h) = l.low

  told_leads : (e : ℕ) (t : Told) → Leads a.count (by_told a g.state e t)
  told_leads e Told.Nothing = tt
  told_leads e (Told.Outcome o) = choice_leads e o (chosen_of a g.state e o) (chosen_is a g.state e o)

  -- it is a transition of the plan
  pub way_leads : (n : Next) → Leads a.count (way_on a g n)
  unfolding way_on
  way_leads Next.Ended = tt
  way_leads (Next.Goes t) = tt
  way_leads (Next.Waits e) = told_leads e (oldest_told g e)

-- the way on from where the behaviour stands
abbrev pub way_from : Plan → Progress → Next
way_from p g = way_on p.automaton g (next_of p.automaton g.state)

pub way_loads : (p : Plan) (g : Progress) → Loads p g → (w : Next) → w ≡ way_from p g → Loadable p g w
way_loads p g fits w q = record { loads = fits; leads = subst (Leads p.automaton.count) (sym q) (way_leads p.automaton g _) }

-- ---- one turn

module _ (f : Progress → List Entry → Loading) where
  failed_ends : (l : Loading) (x : Option Failure) → l.failure ≡ x → is_some x ≡ true → on_loading l f ≡ l
  failed_ends l None e h = absurd (true≢false (sym h))
  failed_ends l (Some x) e h = rw e

  loaded_goes : (l : Loading) (x : Option Failure) → l.failure ≡ x → is_some x ≡ false → on_loading l f ≡ f l.progress l.window
  loaded_goes l None e h = rw e
  loaded_goes l (Some x) e h = absurd (true≢false h)

module _ (p : Plan) (g : Progress) (w : List Entry) (left : ℕ) where
  further_turn : (k : ℕ) → left ≡ suc k → further p left g w ≡ on_way (way_from p g) (λ t. on_loading (load p (Next.Goes t) g w) (further p k)) (loading None g w)
  unfolding further
  further_turn k e = ap (λ (n : ℕ). further p n g w) e

  pub further_over : left ≡ 0 → further p left g w ≡ loading None g w
  unfolding further
  further_over e = ap (λ (n : ℕ). further p n g w) e

  module _ (v : Next) (q : v ≡ way_from p g) where
    turn : (n : Next) → v ≡ n → (k : ℕ) → left ≡ suc k → further p left g w ≡ on_way n (λ t. on_loading (load p (Next.Goes t) g w) (further p k)) (loading None g w)
    turn n z k e = further_turn k e ∙ ap (λ (x : Next). on_way x (λ t. on_loading (load p (Next.Goes t) g w) (further p k)) (loading None g w)) (sym q ∙ z)

    -- where no transition is taken there are no more paths
    pub turn_rests : OneOf (0 ∷ (2 ∷ [])) (tag_of next-type.the_type v) → (k : ℕ) → left ≡ suc k → further p left g w ≡ loading None g w
    turn_rests o k e = go v refl o
      where
        go : (n : Next) → v ≡ n → OneOf (0 ∷ (2 ∷ [])) (tag_of next-type.the_type n) → further p left g w ≡ loading None g w
        go Next.Ended z o = turn Next.Ended z k e
        go (Next.Waits x) z o = turn (Next.Waits x) z k e
        go (Next.Goes t) z o = absurd (⊎_elim (λ e. omega arith) (λ e. omega arith) o)

    module _ (t : ℕ) (z : v ≡ Next.Goes t) (k : ℕ) (e : left ≡ suc k) (l : Loading) (r : l ≡ load p v g w) where
      turn_load : further p left g w ≡ on_loading l (further p k)
      turn_load = turn (Next.Goes t) z k e ∙ ap (λ (m : Loading). on_loading m (further p k)) (ap (λ (x : Next). load p x g w) (sym z) ∙ sym r)

      pub turn_fails : is_some l.failure ≡ true → further p left g w ≡ l
      turn_fails h = turn_load ∙ failed_ends (further p k) l l.failure refl h

      pub turn_goes : is_some l.failure ≡ false → further p left g w ≡ further p k l.progress l.window
      turn_goes h = turn_load ∙ loaded_goes (further p k) l l.failure refl h
