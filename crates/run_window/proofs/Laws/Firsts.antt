-- What `first` finds stands at its place and passes the test, and nothing that passes goes before it; it finds nothing exactly
-- where nothing passes.
use Rattle.std.specs.Prelude.{◌≡◌, refl, Bool, true, false, cond, List, [], ◌∷◌, ℕ, zero, suc, ◌+◌, ◌<◌, length, get_or, Option, Some, None}
use Rattle.std.proofs.Common.{sym, ◌∙◌, ap, subst, true≢false, arith}
use Rattle.run_window.specs.declared.Entry.{Entry}
use Rattle.run_window.specs.declared.Found.{Found}
use Rattle.run_window.specs.Window.{vacant, better, first, on_found, found_at}
use Rattle.run_window.proofs.Laws.Order.{Order}

-- of the places whose entry passes, place i with entry e is the first
pub record First (p : Entry → Bool) (goes : Entry → Entry → Bool) (w : List Entry) (i : ℕ) (e : Entry) : Type 0 where
  pub within : i < length w
  pub stands : get_or w i vacant ≡ e
  pub passes : p e ≡ true
  pub least : (j : ℕ) → j < length w → p (get_or w j vacant) ≡ true → goes (get_or w j vacant) e ≡ false

-- no place passes
abbrev pub NonePass : (Entry → Bool) → List Entry → Type 0
NonePass p w = (j : ℕ) → j < length w → p (get_or w j vacant) ≡ false

-- of the places of w, counted from k
abbrev Fits : (Entry → Bool) → (Entry → Entry → Bool) → ℕ → List Entry → Option Found → Type 0
Fits p goes k w None = NonePass p w
Fits p goes k w (Some x) = (j : ℕ) × (x.place ≡ k + j) × First p goes w j x.entry

module _ (p : Entry → Bool) (goes : Entry → Entry → Bool) (order : Order goes) (x : Entry) (w : List Entry) where
  -- a claim of every place, for one place more in front
  each : (P : Entry → Type 0) → P x → ((j : ℕ) → j < length w → P (get_or w j vacant)) → (j : ℕ) → j < length (x ∷ w) → P (get_or (x ∷ w) j vacant)
  each P h t zero l = h
  each P h t (suc j) l = t j (omega arith)

  not_itself : goes x x ≡ false
  not_itself = go (goes x x) refl
    where
      go : (b : Bool) → goes x x ≡ b → goes x x ≡ false
      go true q = order.one_way x x q
      go false q = q

  against : {A : Type 0} (e : Entry) → p e ≡ false → p e ≡ true → A
  against e f t = absurd (true≢false (sym t ∙ f))

  behind : (j : ℕ) (e : Entry) → (p x ≡ true → goes x e ≡ false) → First p goes w j e → First p goes (x ∷ w) (suc j) e
  behind j e h g = record {
    within = omega arith;
    stands = g.stands;
    passes = g.passes;
    least = each (λ (f : Entry). p f ≡ true → goes f e ≡ false) h g.least;
  }

  front : p x ≡ true → ((j : ℕ) → j < length w → p (get_or w j vacant) ≡ true → goes (get_or w j vacant) x ≡ false) → First p goes (x ∷ w) 0 x
  front t h = record {
    within = omega arith;
    stands = refl;
    passes = t;
    least = each (λ (f : Entry). p f ≡ true → goes f x ≡ false) (λ q. not_itself) h;
  }

  pass_over : (k : ℕ) → p x ≡ false → (r : Option Found) → Fits p goes (suc k) w r → Fits p goes k (x ∷ w) r
  pass_over k f None n = each (λ (e : Entry). p e ≡ false) f n
  pass_over k f (Some y) (j, q, g) = (suc j, omega arith, behind j y.entry (against x f) g)

  choose : (k i : ℕ) (e : Entry) (b : Bool) → goes e x ≡ b → p x ≡ true → Fits p goes (suc k) w (found_at i e) → Fits p goes k (x ∷ w) (cond b (found_at i e) (found_at k x))
  choose k i e true o t (j, q, g) = (suc j, omega arith, behind j e (λ h. order.one_way e x o) g)
  choose k i e false o t (j, q, g) = (0, omega arith, front t (λ l h s. order.onward (get_or w l vacant) e x (g.least l h s) o))

  take_up : (k : ℕ) → p x ≡ true → (r : Option Found) → Fits p goes (suc k) w r → Fits p goes k (x ∷ w) (better goes k x r)
  take_up k t None n = (0, omega arith, front t (λ j h s. against (get_or w j vacant) (n j h) s))
  take_up k t (Some y) g = choose k y.place y.entry (goes y.entry x) refl t g

  step : (k : ℕ) (b : Bool) → p x ≡ b → (r : Option Found) → Fits p goes (suc k) w r → Fits p goes k (x ∷ w) (cond b (better goes k x r) r)
  step k true t r g = take_up k t r g
  step k false f r g = pass_over k f r g

fits : (p : Entry → Bool) (goes : Entry → Entry → Bool) → Order goes → (k : ℕ) (w : List Entry) → Fits p goes k w (first p goes k w)
unfolding first
fits p goes order k [] = λ j h. absurd (omega arith)
fits p goes order k (x ∷ w) = step p goes order x w k (p x) refl (first p goes (suc k) w) (fits p goes order (suc k) w)

-- ---- of a whole window

module _ (p : Entry → Bool) (goes : Entry → Entry → Bool) (order : Order goes) (w : List Entry) where
  found : (r : Option Found) → Fits p goes 0 w r → (i : ℕ) (e : Entry) → r ≡ found_at i e → First p goes w i e
  found r g i e q = one (subst (Fits p goes 0 w) q g)
    where
      one : (j : ℕ) × (i ≡ 0 + j) × First p goes w j e → First p goes w i e
      one (j, s, f) = let z : j ≡ i = omega arith in subst (λ (n : ℕ). First p goes w n e) z f

  pub first_found : (i : ℕ) (e : Entry) → first p goes 0 w ≡ found_at i e → First p goes w i e
  first_found = found (first p goes 0 w) (fits p goes order 0 w)

  pub first_nothing : first p goes 0 w ≡ None → NonePass p w
  first_nothing q = subst (Fits p goes 0 w) q (fits p goes order 0 w)

  -- by cases of what is found
  pub by_first : {A : Type 0} (P : A → Type 0) (f : ℕ → Entry → A) (z : A) → ((i : ℕ) (e : Entry) → First p goes w i e → P (f i e)) → (NonePass p w → P z) → P (on_found (first p goes 0 w) f z)
  by_first P f z one none = go (first p goes 0 w) refl
    where
      go : (r : Option Found) → first p goes 0 w ≡ r → P (on_found r f z)
      go None q = none (first_nothing q)
      go (Some x) q = one x.place x.entry (first_found x.place x.entry q)

  pub nothing_first : NonePass p w → first p goes 0 w ≡ None
  nothing_first n = go (first p goes 0 w) refl
    where
      go : (r : Option Found) → first p goes 0 w ≡ r → r ≡ None
      go None q = refl
      go (Some x) q = let f = first_found x.place x.entry q in absurd (true≢false (sym f.passes ∙ (ap p (sym f.stands) ∙ n x.place f.within)))
