-- New nodes take places: places held before are kept, each new entry stands at one place that was free, and nothing else is
-- new; so no node comes to stand at two places.
use Rattle.std.specs.Prelude.{◌≡◌, refl, true, false, cond, ◌⊎◌, length, get_or}
use Rattle.std.proofs.Common.{sym, ◌∙◌, true≢false, inl, inr, ⊎_elim, arith}
use Rattle.std.proofs.Math.Path.{ap}
use mathlib.Core.List.{List, [], ◌∷◌, ◌++◌}
use Prim.Native.Nat.{ℕ, zero, suc, ◌-◌, ◌≤◌, ◌<◌}
use Rattle.basis.proofs.Laws.Bools.{by_test}
use Rattle.run_window.specs.declared.Entry.{Entry}
use Rattle.run_window.specs.Window.{vacant, is_free, is_held, placed, vacancies}
use Rattle.run_window.proofs.Laws.Tests.{free_or_held, held_unfree}
use Rattle.run_window.specs.Places.{Holds}
use Rattle.run_window.proofs.Laws.Places.{SameNode, Once, holds_unfree}

pub placed_length : (w es : List Entry) → length (placed w es) ≡ length w
unfolding placed
placed_length [] es = refl
placed_length (x ∷ w) [] = refl
placed_length (x ∷ w) (e ∷ es) =
    by_test (λ (l : List Entry). length l ≡ suc (length w)) (is_free x.phase) _ _
    (λ f. ap suc (placed_length w es)) (λ f. ap suc (placed_length w (e ∷ es)))

pub vacancies_length : (w : List Entry) → vacancies w ≤ length w
unfolding vacancies
vacancies_length [] = omega arith
vacancies_length (x ∷ w) =
    let h = vacancies_length w in
    by_test (λ (n : ℕ). n ≤ suc (length w)) (is_free x.phase) _ _ (λ f. omega arith) (λ f. omega arith)

-- ---- the free places, in order

-- the free place number k, counted from 0
unfoldable pub free_place : List Entry → ℕ → ℕ
free_place [] k = k
free_place (x ∷ w) zero = cond (is_free x.phase) 0 (suc (free_place w 0))
free_place (x ∷ w) (suc k) = suc (cond (is_free x.phase) (free_place w k) (free_place w (suc k)))

pub placed_nothing : (es : List Entry) → placed [] es ≡ []
unfolding placed
placed_nothing es = refl

pub placed_none : (w : List Entry) → placed w [] ≡ w
unfolding placed
placed_none [] = refl
placed_none (x ∷ w) = refl

module _ (x : Entry) (w : List Entry) where
  pub place_first : is_free x.phase ≡ true → free_place (x ∷ w) 0 ≡ 0
  unfolding free_place
  place_first f = rw f

  pub place_next : (k : ℕ) → is_free x.phase ≡ true → free_place (x ∷ w) (suc k) ≡ suc (free_place w k)
  unfolding free_place
  place_next k f = rw f

  pub place-past : (k : ℕ) → is_free x.phase ≡ false → free_place (x ∷ w) k ≡ suc (free_place w k)
  unfolding free_place
  place-past zero f = rw f
  place-past (suc k) f = rw f

  pub vacant_first : is_free x.phase ≡ true → vacancies (x ∷ w) ≡ suc (vacancies w)
  unfolding vacancies
  vacant_first f = rw f

  pub vacant_past : is_free x.phase ≡ false → vacancies (x ∷ w) ≡ vacancies w
  unfolding vacancies
  vacant_past f = rw f

  pub placed_first : (e : Entry) (es : List Entry) → is_free x.phase ≡ true → placed (x ∷ w) (e ∷ es) ≡ e ∷ placed w es
  unfolding placed
  placed_first e es f = rw f

  pub placed_past : (es : List Entry) → is_free x.phase ≡ false → placed (x ∷ w) es ≡ x ∷ placed w es
  unfolding placed
  placed_past [] f = ap (λ (l : List Entry). x ∷ l) (sym (placed_none w))
  placed_past (e ∷ es) f = rw f

-- a later one stands at a higher place
pub places_rise : (w : List Entry) (k l : ℕ) → k < l → free_place w k < free_place w l
unfolding free_place
places_rise [] k l h = h
places_rise (x ∷ w) k zero h = absurd (omega arith)
places_rise (x ∷ w) zero (suc l) h =
    let g = places_rise w 0 (suc l) h in
    ⊎_elim (λ f. omega (arith, place_first x w f, place_next x w l f)) (λ f. omega (arith, place-past x w 0 f, place-past x w (suc l) f))
    (free_or_held x.phase)
places_rise (x ∷ w) (suc k) (suc l) h =
    let g = places_rise w k l (omega arith) in
    let i = places_rise w (suc k) (suc l) h in
    ⊎_elim (λ f. omega (arith, place_next x w k f, place_next x w l f)) (λ f. omega (arith, place-past x w (suc k) f, place-past x w (suc l) f))
    (free_or_held x.phase)

pub vacant_none : vacancies [] ≡ 0
unfolding vacancies
vacant_none = refl

pub no_vacancies : (k : ℕ) → k < vacancies [] → ⊥
no_vacancies k h = omega (arith, vacant_none)

-- place n of the window is free
abbrev pub FreeAt : List Entry → ℕ → Type 0
FreeAt w n = (n < length w) × (is_free (get_or w n vacant).phase ≡ true)

free_suc : (x : Entry) (w : List Entry) (n : ℕ) → FreeAt w n → FreeAt (x ∷ w) (suc n)
free_suc x w n h = (omega arith, h.1)

-- as long as there are so many, it is a place of the window, and free
pub place_free : (w : List Entry) (k : ℕ) → k < vacancies w → FreeAt w (free_place w k)
place_free [] k h = absurd (no_vacancies k h)
place_free (x ∷ w) zero h =
    ⊎_elim (λ f. rw (place_first x w f) (omega arith, f))
    (λ f. rw (place-past x w 0 f) (free_suc x w (free_place w 0) (place_free w 0 (omega (arith, vacant_past x w f)))))
    (free_or_held x.phase)
place_free (x ∷ w) (suc k) h =
    ⊎_elim (λ f. rw (place_next x w k f) (free_suc x w (free_place w k) (place_free w k (omega (arith, vacant_first x w f)))))
    (λ f. rw (place-past x w (suc k) f) (free_suc x w (free_place w (suc k)) (place_free w (suc k) (omega (arith, vacant_past x w f)))))
    (free_or_held x.phase)

-- ---- what stands where afterwards

-- new entry number k stands at free place number k
pub placed_new : (w es : List Entry) (k : ℕ) → k < length es → k < vacancies w → get_or (placed w es) (free_place w k) vacant ≡ get_or es k vacant
placed_new [] es k l h = absurd (no_vacancies k h)
placed_new (x ∷ w) [] k l h = absurd (omega arith)
placed_new (x ∷ w) (e ∷ es) zero l h =
    ⊎_elim (λ f. rw (place_first x w f, placed_first x w e es f))
    (λ f. rw (place-past x w 0 f, placed_past x w (e ∷ es) f) (placed_new w (e ∷ es) 0 l (omega (arith, vacant_past x w f))))
    (free_or_held x.phase)
placed_new (x ∷ w) (e ∷ es) (suc k) l h =
    ⊎_elim (λ f. rw (place_next x w k f, placed_first x w e es f) (placed_new w es k (omega arith) (omega (arith, vacant_first x w f))))
    (λ f. rw (place-past x w (suc k) f, placed_past x w (e ∷ es) f) (placed_new w (e ∷ es) (suc k) l (omega (arith, vacant_past x w f))))
    (free_or_held x.phase)

-- place j has taken a new entry
pub record Took (w es : List Entry) (j : ℕ) : Type 0 where
  pub number : ℕ
  pub listed : number < length es
  pub place : j ≡ free_place w number
  pub free : FreeAt w j
  pub entry : get_or (placed w es) j vacant ≡ get_or es number vacant

-- a place has taken a new entry, or is as before
pub placed_cases : (w es : List Entry) (j : ℕ) → (get_or (placed w es) j vacant ≡ get_or w j vacant) ⊎ Took w es j
unfolding placed
placed_cases [] es j = inl refl
placed_cases (x ∷ w) [] j = inl refl
placed_cases (x ∷ w) (e ∷ es) zero =
    ⊎_elim (λ f. inr record { number = 0; listed = omega arith; place = sym (place_first x w f); free = (omega arith, f); entry = rw f })
    (λ f. inl (rw f))
    (free_or_held x.phase)
placed_cases (x ∷ w) (e ∷ es) (suc j) =
    ⊎_elim (λ f. ⊎_elim (λ q. inl (rw f q)) (λ t. inr record {
      number = suc t.number;
      listed = omega arith;
      place = ap suc t.place ∙ sym (place_next x w t.number f);
      free = free_suc x w j t.free;
      entry = rw f t.entry;
    }) (placed_cases w es j))
    (λ f. ⊎_elim (λ q. inl (rw f q)) (λ t. inr record {
      number = t.number;
      listed = t.listed;
      place = ap suc t.place ∙ sym (place-past x w t.number f);
      free = free_suc x w j t.free;
      entry = rw f t.entry;
    }) (placed_cases w (e ∷ es) j))
    (free_or_held x.phase)

-- ---- some entries, and then others

-- the entries hold nodes
abbrev pub AllHeld : List Entry → Type 0
AllHeld es = (k : ℕ) → k < length es → is_held (get_or es k vacant).phase ≡ true

rest_held : (e : Entry) (es : List Entry) → AllHeld (e ∷ es) → AllHeld es
rest_held e es h k l = h (suc k) (omega arith)

front_held : (e : Entry) (es : List Entry) → AllHeld (e ∷ es) → is_free e.phase ≡ false
front_held e es h = held_unfree e.phase (h 0 (omega arith))

-- they can be placed part by part
pub placed_append : (w es fs : List Entry) → AllHeld es → placed w (es ++ fs) ≡ placed (placed w es) fs
placed_append [] es fs h = rw (placed_nothing (es ++ fs), placed_nothing es, placed_nothing fs)
placed_append (x ∷ w) [] fs h = rw (placed_none (x ∷ w))
placed_append (x ∷ w) (e ∷ es) fs h =
    ⊎_elim
    (λ f. rw (placed_first x w e (es ++ fs) f, placed_first x w e es f, placed_past e (placed w es) fs (front_held e es h)) (ap (λ (l : List Entry). e ∷ l) (placed_append w es fs (rest_held e es h))))
    (λ f. rw (placed_past x w (e ∷ (es ++ fs)) f, placed_past x w (e ∷ es) f, placed_past x (placed w (e ∷ es)) fs f) (ap (λ (l : List Entry). x ∷ l) (placed_append w (e ∷ es) fs h)))
    (free_or_held x.phase)

-- each takes a place that was free
pub placed_vacancies : (w es : List Entry) → AllHeld es → vacancies (placed w es) ≡ vacancies w - length es
placed_vacancies [] es h = rw (placed_nothing es) (omega (arith, vacant_none))
placed_vacancies (x ∷ w) [] h = rw (placed_none (x ∷ w)) (omega arith)
placed_vacancies (x ∷ w) (e ∷ es) h =
    ⊎_elim
    (λ f. rw (placed_first x w e es f) (omega (arith, vacant_past e (placed w es) (front_held e es h), vacant_first x w f, placed_vacancies w es (rest_held e es h))))
    (λ f. rw (placed_past x w (e ∷ es) f) (omega (arith, vacant_past x (placed w (e ∷ es)) f, vacant_past x w f, placed_vacancies w (e ∷ es) h)))
    (free_or_held x.phase)

-- ---- the nodes that are held afterwards

module _ (w es : List Entry) where
  -- those held before, at the same places
  pub placed_kept : (j : ℕ) (f : Entry) → Holds w j f → Holds (placed w es) j f
  placed_kept j f h =
      ⊎_elim (λ q. record { entry = q ∙ h.entry; held = h.held })
      (λ t. absurd (true≢false (sym t.free.1 ∙ holds_unfree w j f h)))
      (placed_cases w es j)

  -- and the new ones, where there is room for all
  pub placed_holds : (k : ℕ) → k < length es → length es ≤ vacancies w → is_held (get_or es k vacant).phase ≡ true → Holds (placed w es) (free_place w k) (get_or es k vacant)
  placed_holds k l r h = record { entry = placed_new w es k l (omega arith); held = h }

  -- and no others
  pub placed_only : (j : ℕ) (f : Entry) → Holds (placed w es) j f → Holds w j f ⊎ ((t : Took w es j) × (f ≡ get_or es t.number vacant))
  placed_only j f h =
      ⊎_elim (λ q. inl record { entry = sym q ∙ h.entry; held = h.held }) (λ t. inr (t, sym h.entry ∙ t.entry)) (placed_cases w es j)

  -- what holds of every place and of every new entry holds of every place afterwards
  pub placed_each : (P : Entry → Type 0) → ((j : ℕ) → P (get_or w j vacant)) → ((k : ℕ) → k < length es → P (get_or es k vacant)) → (j : ℕ) → P (get_or (placed w es) j vacant)
  placed_each P old new j = ⊎_elim (λ q. rw q (old j)) (λ t. rw t.entry (new t.number t.listed)) (placed_cases w es j)

-- the entries are of different nodes
abbrev pub Different : List Entry → Type 0
Different es = (k l : ℕ) → k < length es → l < length es → SameNode (get_or es k vacant) (get_or es l vacant) → k ≡ l

-- none of them is a node that the window holds
abbrev pub Unheld : List Entry → List Entry → Type 0
Unheld w es = (j k : ℕ) (f : Entry) → Holds w j f → k < length es → SameNode f (get_or es k vacant) → ⊥

pub placed_once : (w es : List Entry) → Once w → Different es → Unheld w es → Once (placed w es)
placed_once w es once different unheld i j a b p q r = go (placed_only w es i a p) (placed_only w es j b q)
  where
    position : {e f : Entry} → e ≡ f → e.position ≡ f.position
    position u = ap (λ (x : Entry). x.position) u

    node : {e f : Entry} → e ≡ f → e.node ≡ f.node
    node u = ap (λ (x : Entry). x.node) u

    go : Holds w i a ⊎ ((t : Took w es i) × (a ≡ get_or es t.number vacant)) → Holds w j b ⊎ ((t : Took w es j) × (b ≡ get_or es t.number vacant)) → i ≡ j
    go (inl h) (inl g) = once i j a b h g r
    go (inl h) (inr (t, v)) = absurd (unheld i t.number a h t.listed (r.0 ∙ position v, r.1 ∙ node v))
    go (inr (t, u)) (inl g) = absurd (unheld j t.number b g t.listed (sym r.0 ∙ position u, sym r.1 ∙ node u))
    go (inr (t, u)) (inr (s, v)) =
        let n = different t.number s.number t.listed s.listed (sym (position u) ∙ (r.0 ∙ position v), sym (node u) ∙ (r.1 ∙ node v)) in
        t.place ∙ (ap (free_place w) n ∙ sym s.place)
