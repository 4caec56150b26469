-- Places of the window: what is held where, in an empty window, after a store at one place, and after a place is cleared.
use Rattle.std.specs.Prelude.{◌≡◌, refl, Bool, true, false, cond, ◌&&◌, List, [], ◌∷◌, ◌⊎◌, ℕ, zero, suc, ◌<◌, eqb, length, get_or, set}
use Rattle.std.proofs.Common.{sym, ◌∙◌, ap, true≢false, inl, inr, ⊎_elim, arith, length-set, eqb-true, get_or-set_same, get_or-set_other}
use Rattle.std.proofs.lemmas.Bool.{eqb-false}
use Rattle.run_window.specs.declared.Entry.{Entry}
use Rattle.run_window.specs.Window.{vacant, is_free, is_held, is_empty, vacancies}
use Rattle.run_window.proofs.Laws.Tests.{held_unfree, unfree_held}
use Rattle.run_window.specs.Places.{Holds}
pub use Rattle.run_window.specs.Places.{SameNode, Once}

pub holds_within : (w : List Entry) (i : ℕ) (e : Entry) → Holds w i e → i < length w
holds_within [] i e h = absurd (true≢false (sym h.held ∙ ap (λ (x : Entry). is_held x.phase) (sym h.entry)))
holds_within (x ∷ w) zero e h = omega arith
holds_within (x ∷ w) (suc i) e h =
    let l = holds_within w i e record { entry = h.entry; held = h.held } in
    omega arith

-- the same place of one place more
pub holds_suc : (x : Entry) (w : List Entry) (i : ℕ) (e : Entry) → Holds w i e → Holds (x ∷ w) (suc i) e
holds_suc x w i e h = record { entry = h.entry; held = h.held }

pub holds_pred : (x : Entry) (w : List Entry) (i : ℕ) (e : Entry) → Holds (x ∷ w) (suc i) e → Holds w i e
holds_pred x w i e h = record { entry = h.entry; held = h.held }

-- a place that holds a node is not free
pub holds_unfree : (w : List Entry) (i : ℕ) (e : Entry) → Holds w i e → is_free (get_or w i vacant).phase ≡ false
holds_unfree w i e h = rw h.entry (held_unfree e.phase h.held)

free_holds_not : (w : List Entry) (i : ℕ) (e : Entry) → is_free (get_or w i vacant).phase ≡ true → Holds w i e → ⊥
free_holds_not w i e f h = true≢false (sym f ∙ holds_unfree w i e h)

-- ---- an empty window

empty_front : (x : Entry) (w : List Entry) → is_empty (x ∷ w) ≡ true → (is_free x.phase ≡ true) × (is_empty w ≡ true)
unfolding is_empty
empty_front x w q = go (is_free x.phase) refl q
  where
    go : (b : Bool) → is_free x.phase ≡ b → b && is_empty w ≡ true → (is_free x.phase ≡ true) × (is_empty w ≡ true)
    go true f s = (f, s)
    go false f s = absurd (true≢false (sym s))

pub empty_none : (w : List Entry) → is_empty w ≡ true → (i : ℕ) (e : Entry) → Holds w i e → ⊥
empty_none [] q i e h = let l = holds_within [] i e h in omega arith
empty_none (x ∷ w) q zero e h = free_holds_not (x ∷ w) 0 e (empty_front x w q).0 h
empty_none (x ∷ w) q (suc i) e h = empty_none w (empty_front x w q).1 i e (holds_pred x w i e h)

front_free : (x : Entry) (w : List Entry) → ((e : Entry) → Holds (x ∷ w) 0 e → ⊥) → is_free x.phase ≡ true
front_free x w n = go (is_free x.phase) refl
  where
    go : (b : Bool) → is_free x.phase ≡ b → b ≡ true
    go true f = refl
    go false f = absurd (n x record { entry = refl; held = unfree_held x.phase f })

pub none_empty : (w : List Entry) → ((i : ℕ) (e : Entry) → Holds w i e → ⊥) → is_empty w ≡ true
unfolding is_empty
none_empty [] n = refl
none_empty (x ∷ w) n = rw (front_free x w (n 0)) (none_empty w (λ i e h. n (suc i) e (holds_suc x w i e h)))

-- ---- a store at one place

pub same_or_other : (j i : ℕ) → (j ≡ i) ⊎ (j ≡ i → ⊥)
same_or_other j i = go (eqb j i) refl
  where
    go : (b : Bool) → eqb j i ≡ b → (j ≡ i) ⊎ (j ≡ i → ⊥)
    go true q = inl (eqb-true j i q)
    go false q = inr (eqb-false j i q)

module _ (w : List Entry) (i : ℕ) (e : Entry) where
  pub stored_here : i < length w → is_held e.phase ≡ true → Holds (set w i e) i e
  stored_here l h = record { entry = get_or-set_same w i e vacant l; held = h }

  pub stored_kept : (j : ℕ) (f : Entry) → (j ≡ i → ⊥) → Holds w j f → Holds (set w i e) j f
  stored_kept j f n h = record { entry = get_or-set_other w i j e vacant n ∙ h.entry; held = h.held }

  -- what is held afterwards was stored, or was held at another place
  pub stored_only : (j : ℕ) (f : Entry) → Holds (set w i e) j f → ((j ≡ i) × (e ≡ f)) ⊎ ((j ≡ i → ⊥) × Holds w j f)
  stored_only j f h = ⊎_elim (λ q. inl (q, here q)) (λ n. inr (n, record { entry = sym (get_or-set_other w i j e vacant n) ∙ h.entry; held = h.held })) (same_or_other j i)
    where
      here : j ≡ i → e ≡ f
      here q =
          let l = holds_within (set w i e) j f h in
          let k : i < length w = omega (arith, length-set w i e) in
          sym (get_or-set_same w i e vacant k) ∙ (ap (λ (n : ℕ). get_or (set w i e) n vacant) (sym q) ∙ h.entry)

-- what holds of every place and of what is stored holds of every place afterwards
pub stored_each : (P : Entry → Type 0) (w : List Entry) (i : ℕ) (e : Entry) → ((j : ℕ) → P (get_or w j vacant)) → P e → (j : ℕ) → P (get_or (set w i e) j vacant)
stored_each P [] i e old new j = old j
stored_each P (x ∷ w) zero e old new zero = new
stored_each P (x ∷ w) zero e old new (suc j) = old (suc j)
stored_each P (x ∷ w) (suc i) e old new zero = old 0
stored_each P (x ∷ w) (suc i) e old new (suc j) = stored_each P w i e (λ n. old (suc n)) new j

-- no node comes to stand twice where a node is stored in its own place, or the place is cleared
module _ (w : List Entry) (i : ℕ) (e : Entry) (once : Once w) (own : is_held e.phase ≡ true → (f : Entry) × Holds w i f × SameNode e f) where
  beside : (k : ℕ) (a b : Entry) → e ≡ a → is_held a.phase ≡ true → Holds w k b → SameNode a b → i ≡ k
  beside k a b u h g r =
      let s = own (rw u h) in
      once i k s.0 b s.1 g
      (sym s.2.0 ∙ (ap (λ (x : Entry). x.position) u ∙ r.0), sym s.2.1 ∙ (ap (λ (x : Entry). x.node) u ∙ r.1))

  pub stored_once : Once (set w i e)
  stored_once j k a b p q r = go (stored_only w i e j a p) (stored_only w i e k b q)
    where
      go : ((j ≡ i) × (e ≡ a)) ⊎ ((j ≡ i → ⊥) × Holds w j a) → ((k ≡ i) × (e ≡ b)) ⊎ ((k ≡ i → ⊥) × Holds w k b) → j ≡ k
      go (inl x) (inl y) = x.0 ∙ sym y.0
      go (inl x) (inr y) = x.0 ∙ beside k a b x.1 p.held y.1 r
      go (inr x) (inl y) = sym (y.0 ∙ beside j b a y.1 q.held x.1 (sym r.0, sym r.1))
      go (inr x) (inr y) = once j k a b x.1 y.1 r

pub cleared_once : (w : List Entry) (i : ℕ) → Once w → Once (set w i vacant)
cleared_once w i o = stored_once w i vacant o (λ q. absurd (true≢false (sym q)))

-- ---- a cleared place

-- what is held afterwards was held at another place
pub cleared_only : (w : List Entry) (i j : ℕ) (f : Entry) → Holds (set w i vacant) j f → (j ≡ i → ⊥) × Holds w j f
cleared_only w i j f h =
    ⊎_elim (λ q. absurd (true≢false (sym h.held ∙ ap (λ (x : Entry). is_held x.phase) (sym q.1)))) (λ q. q) (stored_only w i vacant j f h)

-- one place more is free
pub cleared_vacancies : (w : List Entry) (i : ℕ) (e : Entry) → Holds w i e → vacancies (set w i vacant) ≡ suc (vacancies w)
unfolding vacancies
cleared_vacancies [] i e h = let l = holds_within [] i e h in absurd (omega arith)
cleared_vacancies (x ∷ w) zero e h = let f = holds_unfree (x ∷ w) 0 e h in rw f
cleared_vacancies (x ∷ w) (suc i) e h = go (is_free x.phase) (cleared_vacancies w i e (holds_pred x w i e h))
  where
    go : (b : Bool) → vacancies (set w i vacant) ≡ suc (vacancies w) →
        cond b (suc (vacancies (set w i vacant))) (vacancies (set w i vacant)) ≡ suc (cond b (suc (vacancies w)) (vacancies w))
    go true q = ap suc q
    go false q = q
