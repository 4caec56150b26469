-- One turn of a loop over the window: what the loop has worked out of the places behind, and of the place that it comes to.
use Rattle.std.specs.Prelude.{◌≡◌, refl, Bool, true, false, cond, ◌&&◌, List, eqb, length, get_or, drop, Option, Some, None}
use Rattle.std.proofs.Common.{sym, ◌∙◌, ap, subst, true≢false, arith, add-one, sub-one, one-add, drop_of_length-le}
use Prim.Native.Nat.{ℕ, zero, suc, ◌+◌, ◌-◌, ◌≤◌, ◌<◌}
use Rattle.std.specs.List.{count_by}
use Rattle.std.proofs.lemmas.List.Recursion.{is_count_by}
use Rattle.std.proofs.Math.Seq.{drop-cons}
use Rattle.time.specs.declared.Clock.{Clock}
use Rattle.plan.specs.declared.Node.{Node}
use Rattle.run_window.specs.declared.Entry.{Entry}
use Rattle.run_window.specs.declared.Found.{Found}
use Rattle.run_window.specs.declared.Ranked.{Ranked}
use Rattle.run_window.specs.declared.Sought.{Sought}
use Rattle.run_window.specs.Window.{is_free, is_node, precedes, rank_at, on_found, better, first, is_empty, vacancies, found_at}
use Rattle.run_window.specs.Inner.Search.{is_sought, goes_by, sooner, ranked, ranked_of, better_by, kept_by, is_tied}
use Rattle.run_window.specs.Where.{place_of}

-- ---- the first of those that pass a test, from the back

module _ (p : Entry → Bool) (goes : Entry → Entry → Bool) (w : List Entry) where
  first-none : (i : ℕ) → length w ≤ i → None ≡ first p goes i (drop i w)
  unfolding first
  first-none i h = rw (drop_of_length-le w h)

  first_turn : (d : Entry) (i : ℕ) → 0 < i → i ≤ length w
      → cond (p (get_or w (i - 1) d)) (better goes (i - 1) (get_or w (i - 1) d) (first p goes i (drop i w))) (first p goes i (drop i w))
      ≡ first p goes (i - 1) (drop (i - 1) w)
  unfolding first
  first_turn d zero z h = absurd (omega arith)
  first_turn d (suc j) z h = rw (sub-one, drop-cons w j d)

  first_passed : (d : Entry) (i : ℕ) → 0 < i → i ≤ length w → p (get_or w (i - 1) d) ≡ false → first p goes i (drop i w) ≡ first p goes (i - 1) (drop (i - 1) w)
  first_passed d i z h fails = rw fails at (first_turn d i z h)

-- ---- the same with its rank

module _ (nodes : List Node) (s : Sought) where
  kept_better : (i : ℕ) (e : Entry) (found : Option Found) → kept_by s i e (rank_at nodes e) (ranked_of nodes found) ≡ ranked_of nodes (cond (is_sought s e) (better (sooner nodes s) i e found) found)
  kept_better i e found = go (is_sought s e) found
    where
      chosen : (b : Bool) (j : ℕ) (f : Entry) → cond b (ranked (found_at j f) (rank_at nodes f)) (ranked (found_at i e) (rank_at nodes e)) ≡ ranked_of nodes (cond b (found_at j f) (found_at i e))
      chosen true j f = refl
      chosen false j f = refl

      go : (b : Bool) (found : Option Found) → cond b (better_by s i e (rank_at nodes e) (ranked_of nodes found)) (ranked_of nodes found) ≡ ranked_of nodes (cond b (better (sooner nodes s) i e found) found)
      go false found = refl
      go true None = refl
      go true (Some x) = chosen (sooner nodes s x.entry e) x.place x.entry

  module _ (w : List Entry) where
    -- of the places from i on
    abbrev pub ranked_from : ℕ → Ranked
    ranked_from i = ranked_of nodes (first (is_sought s) (sooner nodes s) i (drop i w))

    pub ranked_none : (i : ℕ) → length w ≤ i → ranked None 0 ≡ ranked_from i
    ranked_none i h = ap (ranked_of nodes) (first-none (is_sought s) (sooner nodes s) w i h)

    pub ranked_turn : (d : Entry) (i : ℕ) → 0 < i → i ≤ length w → {r : ℕ} → r ≡ rank_at nodes (get_or w (i - 1) d) → {rest : Ranked} → rest ≡ ranked_from i
        → kept_by s (i - 1) (get_or w (i - 1) d) r rest ≡ ranked_from (i - 1)
    ranked_turn d i z h q inv = rw (q, inv) (kept_better (i - 1) (get_or w (i - 1) d) (first (is_sought s) (sooner nodes s) i (drop i w)) ∙ ap (ranked_of nodes) (first_turn (is_sought s) (sooner nodes s) w d i z h))

    pub ranked_passed : (d : Entry) (i : ℕ) → 0 < i → i ≤ length w → is_sought s (get_or w (i - 1) d) ≡ false → ranked_from i ≡ ranked_from (i - 1)
    ranked_passed d i z h fails = ap (ranked_of nodes) (first_passed (is_sought s) (sooner nodes s) w d i z h fails)

pub ranked_found : (nodes : List Node) (found : Option Found) → (ranked_of nodes found).found ≡ found
ranked_found nodes None = refl
ranked_found nodes (Some x) = refl

-- ---- where no start ties, whatever the nodes are

-- of two with other starts no rank decides
ranks_apart : (s : Sought) (x y u v : ℕ) (f e : Entry) → eqb f.start.0 e.start.0 ≡ false → goes_by s x y f e ≡ goes_by s u v f e
unfolding precedes
ranks_apart (Sought.Overdue psi t) x y u v f e h = refl
ranks_apart (Sought.Late psi slack t) x y u v f e h = rw h
ranks_apart (Sought.Due psi t) x y u v f e h = rw h
ranks_apart (Sought.Node position node) x y u v f e h = refl

-- entry e, where it is sought, goes by rank 0 as it goes by the ranks of the nodes
abbrev pub Agrees : Sought → Entry → Ranked → Type 0
Agrees s e r = (nodes : List Node) (j : ℕ) (f : Entry) → r.found ≡ found_at j f → is_sought s e ≡ true → goes_by s r.rank 0 f e ≡ sooner nodes s f e

pub overdue_agrees : (psi t : Clock) (e : Entry) (r : Ranked) → Agrees (Sought.Overdue psi t) e r
overdue_agrees psi t e r nodes j f p q = refl

pub untied_agrees : (s : Sought) (e : Entry) (r : Ranked) → is_tied s e r ≡ false → Agrees s e r
untied_agrees s e r n nodes j f p q =
    ranks_apart s r.rank 0 (rank_at nodes f) (rank_at nodes e) f e
    (apart (eqb f.start.0 e.start.0) (subst (λ (x : Option Found). on_found x (λ k g. cond (eqb g.start.0 e.start.0) (is_sought s e) false) false ≡ false) p n))
  where
    apart : (b : Bool) → cond b (is_sought s e) false ≡ false → b ≡ false
    apart true h = absurd (true≢false (sym q ∙ h))
    apart false h = refl

module _ (s : Sought) (i : ℕ) (e : Entry) (r : Ranked) (agrees : Agrees s e r) where
  kept_found : (nodes : List Node) → (kept_by s i e 0 r).found ≡ cond (is_sought s e) (better (sooner nodes s) i e r.found) r.found
  kept_found nodes = go (is_sought s e) refl r.found refl
    where
      chosen : (b : Bool) (j : ℕ) (f : Entry) → r.found ≡ found_at j f → (cond b r (ranked (found_at i e) 0)).found ≡ cond b (found_at j f) (found_at i e)
      chosen true j f q = q
      chosen false j f q = refl

      go : (b : Bool) → is_sought s e ≡ b → (found : Option Found) → r.found ≡ found
          → (cond b (on_found found (λ j f. cond (goes_by s r.rank 0 f e) r (ranked (found_at i e) 0)) (ranked (found_at i e) 0)) r).found ≡ cond b (better (sooner nodes s) i e found) found
      go false q found p = p
      go true q None p = refl
      go true q (Some x) p = chosen (goes_by s r.rank 0 x.entry e) x.place x.entry p ∙ ap (λ (b : Bool). cond b (Some x) (found_at i e)) (agrees nodes x.place x.entry p q)

module _ (s : Sought) (w : List Entry) where
  -- what was found of the places from i on
  abbrev pub FirstFrom : ℕ → Ranked → Type 0
  FirstFrom i r = (nodes : List Node) → r.found ≡ first (is_sought s) (sooner nodes s) i (drop i w)

  pub scan_none : (i : ℕ) → length w ≤ i → FirstFrom i (ranked None 0)
  scan_none i h nodes = first-none (is_sought s) (sooner nodes s) w i h

  pub scan_passed : (d : Entry) (i : ℕ) → 0 < i → i ≤ length w → is_sought s (get_or w (i - 1) d) ≡ false → (r : Ranked) → FirstFrom i r → FirstFrom (i - 1) r
  scan_passed d i z h fails r inv nodes = inv nodes ∙ first_passed (is_sought s) (sooner nodes s) w d i z h fails

  pub scan_turn : (d : Entry) (i : ℕ) → 0 < i → i ≤ length w → (r : Ranked) → Agrees s (get_or w (i - 1) d) r → FirstFrom i r → FirstFrom (i - 1) (kept_by s (i - 1) (get_or w (i - 1) d) 0 r)
  scan_turn d i z h r agrees inv nodes = kept_found s (i - 1) (get_or w (i - 1) d) r agrees nodes ∙ rw (inv nodes) (first_turn (is_sought s) (sooner nodes s) w d i z h)

-- ---- whether every place is free, from the front

module _ (w : List Entry) (d : Entry) (i : ℕ) where
  empty_split : i < length w → is_empty (drop i w) ≡ is_free (get_or w i d).phase && is_empty (drop (i + 1) w)
  unfolding is_empty
  empty_split h = rw (add-one, drop-cons w i d)

  pub empty_past : i < length w → is_empty w ≡ is_empty (drop i w) → {b : Bool} → b ≡ is_free (get_or w i d).phase → b ≡ true → is_empty w ≡ is_empty (drop (i + 1) w)
  empty_past h inv e t = inv ∙ empty_split h ∙ rw (sym e ∙ t)

  pub empty_not : i < length w → is_empty w ≡ is_empty (drop i w) → {b : Bool} → b ≡ is_free (get_or w i d).phase → b ≡ false → false ≡ is_empty w
  empty_not h inv e t = sym (inv ∙ empty_split h ∙ rw (sym e ∙ t))

pub empty_all : (w : List Entry) (i : ℕ) → length w ≤ i → is_empty w ≡ is_empty (drop i w) → true ≡ is_empty w
unfolding is_empty
empty_all w i h inv = sym (inv ∙ rw (drop_of_length-le w h))

-- ---- how many places are free

pub vacancies_is : (w : List Entry) → vacancies w ≡ count_by (λ (e : Entry). is_free e.phase) w
unfolding vacancies
vacancies_is = is_count_by vacancies (λ (e : Entry). is_free e.phase) refl (λ e es. rw (one-add (vacancies es)))

-- told from the back
pub vacancies_none : (w : List Entry) (i : ℕ) → length w ≤ i → 0 ≡ vacancies (drop i w)
unfolding vacancies
vacancies_none w i h = rw (drop_of_length-le w h)

vacancies_split : (w : List Entry) (d : Entry) (i : ℕ) → 0 < i → i ≤ length w
    → vacancies (drop (i - 1) w) ≡ cond (is_free (get_or w (i - 1) d).phase) (suc (vacancies (drop i w))) (vacancies (drop i w))
unfolding vacancies
vacancies_split w d zero z h = absurd (omega arith)
vacancies_split w d (suc j) z h = rw (sub-one, drop-cons w j d)

pub vacancies_here : (w : List Entry) (d : Entry) (i : ℕ) → 0 < i → i ≤ length w → {b : Bool} → b ≡ is_free (get_or w (i - 1) d).phase → b ≡ true
    → vacancies (drop i w) + 1 ≡ vacancies (drop (i - 1) w)
vacancies_here w d i z h e t = add-one (vacancies (drop i w)) ∙ sym (vacancies_split w d i z h ∙ rw (sym e ∙ t))

pub vacancies_past : (w : List Entry) (d : Entry) (i : ℕ) → 0 < i → i ≤ length w → {b : Bool} → b ≡ is_free (get_or w (i - 1) d).phase → b ≡ false
    → vacancies (drop i w) ≡ vacancies (drop (i - 1) w)
vacancies_past w d i z h e t = sym (vacancies_split w d i z h ∙ rw (sym e ∙ t))

-- ---- where a node stands, from the front

module _ (position node : ℕ) (w : List Entry) where
  -- the place, told from place i on
  abbrev pub FromOn : ℕ → Type 0
  FromOn i = place_of position node w ≡ i + place_of position node (drop i w)

  where_split : (d : Entry) (i : ℕ) → i < length w
      → place_of position node (drop i w) ≡ cond (is_node position node (get_or w i d)) 0 (suc (place_of position node (drop (i + 1) w)))
  unfolding place_of
  where_split d i h = rw (add-one, drop-cons w i d)

  pub where_past : (d : Entry) (i : ℕ) → i < length w → FromOn i → {b : Bool} → b ≡ is_node position node (get_or w i d) → b ≡ false → FromOn (i + 1)
  where_past d i h inv e t = let s : place_of position node (drop i w) ≡ suc (place_of position node (drop (i + 1) w)) = where_split d i h ∙ rw (sym e ∙ t) in omega (arith, inv)

  pub where_here : (d : Entry) (i : ℕ) → i < length w → FromOn i → {b : Bool} → b ≡ is_node position node (get_or w i d) → b ≡ true → i ≡ place_of position node w
  where_here d i h inv e t = let s : place_of position node (drop i w) ≡ 0 = where_split d i h ∙ rw (sym e ∙ t) in omega (arith, inv)

  pub where_nowhere : (i : ℕ) → length w ≤ i → FromOn i → i ≡ place_of position node w
  unfolding place_of
  where_nowhere i h inv = let s : place_of position node (drop i w) ≡ 0 = rw (drop_of_length-le w h) in omega (arith, inv)
