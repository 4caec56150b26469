-- Two windows that hold the same nodes at other places: as many places are free, and a store, a search and new nodes respect it.
use Rattle.std.specs.Prelude.{◌≡◌, refl, Bool, true, false, List, [], ◌∷◌, ℕ, suc, ◌-◌, ◌≤◌, ◌<◌, length, get_or, set, Option, Some, None}
use Rattle.std.proofs.Common.{sym, ◌∙◌, ap, subst, true≢false, ⊎_elim, arith, length-set}
use Rattle.basis.specs.Inner.Tells.{Tells}
use Rattle.basis.proofs.Laws.Tells.{tells, tells_iff, tells_same}
use Rattle.run_window.specs.declared.Entry.{Entry}
use Rattle.run_window.specs.declared.Found.{Found}
use Rattle.run_window.specs.Window.{vacant, is_free, is_held, is_empty, precedes, on_found, first, placed, vacancies}
use Rattle.run_window.specs.Places.{Holds}
use Rattle.run_window.proofs.Laws.Tests.{free_or_held, unfree_held}
use Rattle.run_window.proofs.Laws.Order.{Order, numbers_order, neither_before, Telling}
use Rattle.run_window.proofs.Laws.Firsts.{First, NonePass, first_found, first_nothing}
use Rattle.run_window.proofs.Laws.Places.{SameNode, Once, holds_within, holds_suc, stored_here, stored_kept, stored_only, empty_none, none_empty, cleared_vacancies}
use Rattle.run_window.proofs.Laws.Placed.{free_place, vacancies_length, vacant_first, vacant_past, placed_kept, placed_only, placed_new}

-- what w holds, v holds too
abbrev pub Within : List Entry → List Entry → Type 0
Within w v = (i : ℕ) (e : Entry) → Holds w i e → (j : ℕ) × Holds v j e

-- of one node
same_entry : {e f : Entry} → e ≡ f → SameNode e f
same_entry q = (ap (λ (x : Entry). x.position) q, ap (λ (x : Entry). x.node) q)

-- what one place holds is one entry
one_entry : (w : List Entry) (i j : ℕ) (e f : Entry) → Holds w i e → Holds w j f → i ≡ j → e ≡ f
one_entry w i j e f h g q = sym h.entry ∙ (ap (λ (n : ℕ). get_or w n vacant) q ∙ g.entry)

-- ---- as many places are free

-- how many places hold a node
abbrev held_of : List Entry → ℕ
held_of w = length w - vacancies w

-- one place more in front
module _ (x : Entry) (w v : List Entry) (there : Within (x ∷ w) v) (once : Once (x ∷ w)) (rest : (u : List Entry) → Within w u → held_of w ≤ held_of u) where
  front_free : is_free x.phase ≡ true → held_of (x ∷ w) ≤ held_of v
  front_free f = let l = rest v (λ i e h. there (suc i) e (holds_suc x w i e h)) in omega (arith, vacant_first x w f)

  module _ (here : Holds (x ∷ w) 0 x) (j : ℕ) (stands : Holds v j x) where
    -- the others stand in v still where the place of this one is cleared
    others : Within w (set v j vacant)
    others i e h = go (there (suc i) e (holds_suc x w i e h))
      where
        go : (k : ℕ) × Holds v k e → (k : ℕ) × Holds (set v j vacant) k e
        go (k, g) = (
          k,
          stored_kept v j vacant k e (λ q.
              let z = once (suc i) 0 e x (holds_suc x w i e h) here (same_entry (one_entry v k j e x g stands q)) in
              omega arith) g,
        )

    front_held : is_free x.phase ≡ false → held_of (x ∷ w) ≤ held_of v
    front_held f =
        let l = rest (set v j vacant) others in
        let a = vacancies_length w in
        let b = vacancies_length (set v j vacant) in
        omega (arith, vacant_past x w f, length-set v j vacant, cleared_vacancies v j x stands)

  held_more : held_of (x ∷ w) ≤ held_of v
  held_more = ⊎_elim front_free held (free_or_held x.phase)
    where
      held : is_free x.phase ≡ false → held_of (x ∷ w) ≤ held_of v
      held f =
          let here : Holds (x ∷ w) 0 x = record { entry = refl; held = unfree_held x.phase f } in
          let t = there 0 x here in
          front_held here t.0 t.1 f

-- a window in which no node stands twice holds no more nodes than one that holds all of them
held_at_most : (w v : List Entry) → Within w v → Once w → held_of w ≤ held_of v
held_at_most [] v there once = omega arith
held_at_most (x ∷ w) v there once =
    held_more x w v there once
    (λ u h. held_at_most w u h (λ i j e f p q r. let z = once (suc i) (suc j) e f (holds_suc x w i e p) (holds_suc x w j f q) r in omega arith))

pub same_room : (w v : List Entry) → length w ≡ length v → Within w v → Within v w → Once w → Once v → vacancies w ≡ vacancies v
same_room w v size there back a b =
    let l = held_at_most w v there a in
    let m = held_at_most v w back b in
    let x = vacancies_length w in
    let y = vacancies_length v in
    omega arith

-- ---- no place is held

tells_empty : (w : List Entry) → Tells (is_empty w) ((i : ℕ) (e : Entry) → Holds w i e → ⊥)
tells_empty w = tells (is_empty w) (empty_none w) (λ q n. true≢false (sym (none_empty w n) ∙ q))

pub same_empty : (w v : List Entry) → Within w v → Within v w → is_empty w ≡ is_empty v
same_empty w v there back = tells_same (tells_empty w) (tells_iff (λ n i e h. let b = there i e h in n b.0 e b.1, λ n i e h. let b = back i e h in n b.0 e b.1) (tells_empty v))

-- ---- a store

-- at the places of one entry, the same is stored
pub stored_within : (w v : List Entry) → Within w v → Once w → (i j : ℕ) (e x : Entry) → Holds w i e → Holds v j e → Within (set w i x) (set v j x)
stored_within w v there once i j e x p q k f h = ⊎_elim new old (stored_only w i x k f h)
  where
    new : (k ≡ i) × (x ≡ f) → (l : ℕ) × Holds (set v j x) l f
    new s = (j, subst (λ (y : Entry). Holds (set v j x) j y) s.1 (stored_here v j x (holds_within v j e q) (rw s.1 h.held)))

    old : (k ≡ i → ⊥) × Holds w k f → (l : ℕ) × Holds (set v j x) l f
    old (n, g) = go (there k f g)
      where
        go : (l : ℕ) × Holds v l f → (l : ℕ) × Holds (set v j x) l f
        go (l, s) = (l, stored_kept v j x l f (λ z. n (once k i f e g p (same_entry (one_entry v l j f e s q z)))) s)

-- ---- new nodes

pub placed_within : (w v es : List Entry) → Within w v → length es ≤ vacancies v → Within (placed w es) (placed v es)
placed_within w v es there room i e h = ⊎_elim old (λ t. new t.0.number t.0.listed t.1) (placed_only w es i e h)
  where
    old : Holds w i e → (j : ℕ) × Holds (placed v es) j e
    old g = let t = there i e g in (t.0, placed_kept v es t.0 e t.1)

    new : (k : ℕ) → k < length es → e ≡ get_or es k vacant → (j : ℕ) × Holds (placed v es) j e
    new k l q = (free_place v k, record { entry = placed_new v es k l (omega arith) ∙ sym q; held = h.held })

-- ---- the first that passes a test

module _ (numbers : Entry → List ℕ) (telling : Telling numbers) (p : Entry → Bool) (held : (e : Entry) → p e ≡ true → is_held e.phase ≡ true) where
  abbrev goes : Entry → Entry → Bool
  goes a b = precedes (numbers a) (numbers b)

  order : Order goes
  order = numbers_order numbers

  -- of two that go before neither the other, both are of one node
  ties : (e f : Entry) → goes e f ≡ false → goes f e ≡ false → SameNode e f
  ties e f a b = telling e f (neither_before (numbers e) (numbers f) a b)

  first_holds : (w : List Entry) (i : ℕ) (e : Entry) → First p goes w i e → Holds w i e
  first_holds w i e f = record { entry = f.stands; held = held e f.passes }

  -- what is held goes not before the first
  not_before_first : (w : List Entry) (i j : ℕ) (e f : Entry) → First p goes w i e → Holds w j f → p f ≡ true → goes f e ≡ false
  not_before_first w i j e f g h q = subst (λ (x : Entry). goes x e ≡ false) h.entry (g.least j (holds_within w j f h) (rw h.entry q))

  none_passing : {A : Type 0} (w : List Entry) (i : ℕ) (e : Entry) → NonePass p w → Holds w i e → p e ≡ true → A
  none_passing w i e n h q = absurd (true≢false (sym q ∙ (ap p (sym h.entry) ∙ n i (holds_within w i e h))))

  -- by cases of what both find: the same entry, or both nothing
  pub by_both : {A B : Type 0} (P : A → B → Type 0) (w v : List Entry) → Within w v → Within v w → Once v → (f : ℕ → Entry → A) (y : A) (g : ℕ → Entry → B) (z : B)
      → ((i j : ℕ) (e : Entry) → p e ≡ true → Holds w i e → Holds v j e → P (f i e) (g j e))
      → P y z
      → P (on_found (first p goes 0 w) f y) (on_found (first p goes 0 v) g z)
  by_both P w v there back once f y g z one none = go (first p goes 0 w) (first p goes 0 v) refl refl
    where
      same : (i j : ℕ) (e x : Entry) → First p goes w i e → First p goes v j x → x ≡ e
      same i j e x a b =
          let t = there i e (first_holds w i e a) in
          let s = back j x (first_holds v j x b) in
          one_entry v j t.0 x e (first_holds v j x b) t.1
          (once j t.0 x e (first_holds v j x b) t.1
          (ties x e (not_before_first w i s.0 e x a s.1 b.passes) (not_before_first v j t.0 x e b t.1 a.passes)))

      both : (i j : ℕ) (e x : Entry) → First p goes w i e → First p goes v j x → x ≡ e → P (f i e) (g j x)
      both i j e x a b q = rw q (one i j e a.passes (first_holds w i e a) (subst (Holds v j) q (first_holds v j x b)))

      go : (r s : Option Found) → first p goes 0 w ≡ r → first p goes 0 v ≡ s → P (on_found r f y) (on_found s g z)
      go None None a b = none
      go None (Some y) a b =
          let m = first_found p goes order v y.place y.entry b in
          let s = back y.place y.entry (first_holds v y.place y.entry m) in
          none_passing w s.0 y.entry (first_nothing p goes order w a) s.1 m.passes
      go (Some x) None a b =
          let m = first_found p goes order w x.place x.entry a in
          let t = there x.place x.entry (first_holds w x.place x.entry m) in
          none_passing v t.0 x.entry (first_nothing p goes order v b) t.1 m.passes
      go (Some y) (Some z) a b =
          let m = first_found p goes order w y.place y.entry a in
          let n = first_found p goes order v z.place z.entry b in
          both y.place z.place y.entry z.entry m n (same y.place z.place y.entry z.entry m n)
