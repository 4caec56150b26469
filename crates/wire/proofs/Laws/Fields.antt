-- The laws of a field, once for every width: which answer it gives, what a number that was read says, and both ways
-- between a field and its bytes; the same for a field that is present iff its bit stands.
use Rattle.std.specs.Prelude.{◌≡◌, Bool, cond, not, ℕ, zero, suc, ◌+◌, ◌*◌, ◌/◌, ◌%◌, ◌^◌, ◌≤◌, ◌<◌, get_or, take, drop, eqb}
use Rattle.std.proofs.Math.Path.{refl}
use Rattle.std.proofs.Common.{sym, ◌∙◌, ap, subst, add-one, length-append, drop-cons}
use Rattle.std.proofs.Math.Bool.{true, false}
use mathlib.Core.List.{List, [], ◌∷◌, ◌++◌}
use native.Mathlib.Omega.{arith}
use Rattle.std.proofs.Math.Decide.{dec_le, dec_lt}
use Rattle.std.proofs.Math.ListN.{length}
use borrow.Author.Tests.{le-ltb, lt-ltb, le-leb, lt-leb, eqb-true, eqb-false, ne_eqb, not-true, not-false}
use Rattle.wire.specs.Number.{little, bytes_of, number_bytes, field_at, number, optional, present, optional_bytes}
use Rattle.wire.proofs.Laws.Span.{Span, none, within, head_is, tail_is}

pub length-numbers : (xs : List ℕ) (i k : ℕ) → length (number_bytes xs i k) ≡ k
length-numbers xs i zero = refl
length-numbers xs i (suc k) = ap suc (length-numbers xs (i + 1) k)

-- numbers below 256 are their bytes
pub numbers_take : (xs : List ℕ) → ((j : ℕ) → get_or xs j 0 < 256) → (k i : ℕ) → i + k ≤ length xs → take k (drop i xs) ≡ number_bytes xs i k
numbers_take xs bytes zero i h = refl
numbers_take xs bytes (suc k) i h =
    let g : get_or xs i 0 % 256 ≡ get_or xs i 0 = omega (arith, bytes i) in
    rw (drop-cons xs i 0 (omega arith), g) (ap (λ (l : List ℕ). get_or xs i 0 ∷ l) (rw (← add-one i) (numbers_take xs bytes k (i + 1) (omega arith))))

pub length_bytes : (w x : ℕ) → length (bytes_of w x) ≡ w
length_bytes zero x = refl
length_bytes (suc w) x = ap suc (length_bytes w (x / 256))

-- the bytes of a number that was read: "write what was read"
pub bytes_little : (b : List ℕ) → ((k : ℕ) → get_or b k 0 < 256) → (w at : ℕ) → at + w ≤ length b → take w (drop at b) ≡ bytes_of w (little w b at)
bytes_little b bytes zero at h = refl
bytes_little b bytes (suc w) at h =
    let g : (get_or b at 0 + 256 * little w b (at + 1)) % 256 ≡ get_or b at 0 = omega (arith, bytes at) in
    let q : (get_or b at 0 + 256 * little w b (at + 1)) / 256 ≡ little w b (at + 1) = omega (arith, bytes at) in
    rw (drop-cons b at 0 (omega arith), g, q)
    (ap (λ (l : List ℕ). get_or b at 0 ∷ l) (rw (← add-one at) (bytes_little b bytes w (at + 1) (omega arith))))

-- the number in bytes that were written: "read what was written"
pub little_bytes : (b : List ℕ) (w at next x : ℕ) (ys : List ℕ) → x < 256 ^ w → Span b at next (bytes_of w x ++ ys) → little w b at ≡ x
little_bytes b zero at next x ys h s = omega arith
little_bytes b (suc w) at next x ys h s =
    let e = head_is b at next (x % 256) (bytes_of w (x / 256) ++ ys) s in
    let q : x / 256 < 256 ^ w = omega arith in
    let r = little_bytes b w (at + 1) next (x / 256) ys q (tail_is b at next (x % 256) (bytes_of w (x / 256) ++ ys) s) in
    omega (arith, e, r)

-- a number of four bytes is made of two numbers of two, and one of eight of two of four
pub little_four : (b : List ℕ) (at : ℕ) → little 2 b at + 65536 * little 2 b (at + 2) ≡ little 4 b at
little_four b at = let e : at + 2 ≡ at + 1 + 1 = omega arith in rw e (omega arith)

pub little_eight : (b : List ℕ) (at : ℕ) → little 4 b at + 4294967296 * little 4 b (at + 4) ≡ little 8 b at
little_eight b at = let e : at + 4 ≡ at + 1 + 1 + 1 + 1 = omega arith in rw e (omega arith)

-- what bytes that are there say
pub record Present (w : ℕ) (b : List ℕ) (at x : ℕ) : Type 0 where
  pub fits : at + w ≤ length b
  pub is : x ≡ little w b at

module _ {A : Type 0} (value : ℕ → A) (ends : A) (apart : (x : ℕ) → ends ≡ value x → ⊥) (same : (x y : ℕ) → value x ≡ value y → x ≡ y) (w : ℕ) (b : List ℕ) (at : ℕ) where
  pub are_there : (x : ℕ) → field_at value ends w b at ≡ value x → Present w b at x
  unfolding field_at
  are_there x e =
      elim (dec_le (at + w) (length b)) [
        | yes h ↦ record { fits = h; is = same x (little w b at) (sym e ∙ rw (le-leb _ _ h)) }
        | no h ↦ absurd (apart x (sym (rw (lt-leb (at + w) (length b) (omega arith))) ∙ e))
      ]

  pub are_short : field_at value ends w b at ≡ ends → length b < at + w
  unfolding field_at
  are_short e =
      elim (dec_le (at + w) (length b)) [
        | yes h ↦ absurd (apart (little w b at) (sym e ∙ rw (le-leb _ _ h)))
        | no h ↦ omega arith
      ]

-- what a number that was read says
pub record Field (w low below : ℕ) (b : List ℕ) (at x next : ℕ) : Type 0 where
  pub fits : at + w ≤ length b
  pub is : x ≡ little w b at
  pub least : low ≤ x
  pub most : x < below
  pub past : next ≡ at + w

module _ {A F : Type 0} (value : ℕ → ℕ → A) (refused : F → ℕ → A) (ends : F) (w low below : ℕ) (wrong : F) (b : List ℕ) (at : ℕ) where
  -- which answer a field gives; x stands for the number that code computed
  pub short : length b < at + w → refused ends at ≡ number value refused ends w low below wrong b at
  unfolding number
  short h = rw (lt-leb _ _ h)

  module _ (x : ℕ) (e : x ≡ little w b at) (fits : at + w ≤ length b) where
    pub too_low : x < low → refused wrong at ≡ number value refused ends w low below wrong b at
    unfolding number
    too_low h = rw (le-leb _ _ fits, ← e, lt-leb _ _ h)

    pub too_high : low ≤ x → below ≤ x → refused wrong at ≡ number value refused ends w low below wrong b at
    unfolding number
    too_high l h = rw (le-leb _ _ fits, ← e, le-leb _ _ l, le-ltb _ _ h)

    pub in_range : low ≤ x → x < below → value x (at + w) ≡ number value refused ends w low below wrong b at
    unfolding number
    in_range l h = rw (le-leb _ _ fits, ← e, le-leb _ _ l, lt-ltb _ _ h)

  -- what holds of each answer holds of the field
  module _ (P : A → Type 0) (good : (x next : ℕ) → Field w low below b at x next → P (value x next)) (bad : (f : F) (p : ℕ) → P (refused f p)) where
    pub on_number : P (number value refused ends w low below wrong b at)
    on_number =
        elim (dec_le (at + w) (length b)) [
          | no s ↦ subst P (short (omega arith)) (bad ends at)
          | yes f ↦
              elim (dec_le low (little w b at)) [
                | no l ↦ subst P (too_low (little w b at) refl f (omega arith)) (bad wrong at)
                | yes l ↦
                    elim (dec_lt (little w b at) below) [
                      | no h ↦ subst P (too_high (little w b at) refl f l (omega arith)) (bad wrong at)
                      | yes h ↦
                          subst P (in_range (little w b at) refl f l h)
                          (good (little w b at) (at + w) (record { fits = f; is = refl; least = l; most = h; past = refl }))
                    ]
              ]
        ]

  -- a number within its limits is read back from its bytes
  pub number_back : (next x : ℕ) (ys : List ℕ) → 1 ≤ w → low ≤ x → x < below → x < 256 ^ w → Span b at next (bytes_of w x ++ ys)
      → number value refused ends w low below wrong b at ≡ value x (at + w)
  number_back next x ys o l h f s =
      let z = within b at next (bytes_of w x ++ ys) s in
      let k = length-append (bytes_of w x) ys in
      let j = length_bytes w x in
      sym (in_range x (sym (little_bytes b w at next x ys f s)) (omega arith) l h)

-- the bytes of a field that was read
pub field_span : {w low below : ℕ} {b : List ℕ} {at x next : ℕ} → ((k : ℕ) → get_or b k 0 < 256) → Field w low below b at x next → Span b at next (bytes_of w x)
field_span {w} {low} {below} {b} {at} {x} {next} bytes f =
    record {
      past = omega (arith, f.past, length_bytes w x);
      same = rw (length_bytes w x, f.is) (bytes_little b bytes w at f.fits);
    }

-- what an optional number that was read says
pub record Optional (w below : ℕ) (stands : Bool) (b : List ℕ) (at x next : ℕ) : Type 0 where
  pub bit : present x ≡ stands
  pub most : x < below
  pub span : Span b at next (optional_bytes w x)

pub present_some : (x : ℕ) → 1 ≤ x → present x ≡ true
present_some x h = ap not (ne_eqb x 0 (λ e. omega arith))

pub present_none : (x : ℕ) → present x ≡ false → x ≡ 0
present_none x e = eqb-true x 0 (not-false (eqb x 0) e)

pub present_is : (x : ℕ) → present x ≡ true → 1 ≤ x
present_is x e = let n = eqb-false x 0 (not-true (eqb x 0) e) in elim (dec_le 1 x) [ yes h ↦ h | no h ↦ absurd (n (omega arith)) ]

pub length_optional : (w x : ℕ) → length (optional_bytes w x) ≤ w
unfolding optional_bytes
length_optional w x = go (present x)
  where
    go : (t : Bool) → length (cond t (bytes_of w x) []) ≤ w
    go true = omega (arith, length_bytes w x)
    go false = omega arith

module _ {A F : Type 0} (value : ℕ → ℕ → A) (refused : F → ℕ → A) (ends : F) (w low below : ℕ) (wrong : F) (b : List ℕ) (at : ℕ) (one : 1 ≤ low) where
  -- what holds of each answer holds of the optional field
  pub on_optional : ((k : ℕ) → get_or b k 0 < 256) → 0 < below → (stands : Bool) (P : A → Type 0)
      → ((x next : ℕ) → Optional w below stands b at x next → P (value x next))
      → ((f : F) (p : ℕ) → P (refused f p))
      → P (optional value refused ends w low below wrong stands b at)
  unfolding optional optional_bytes
  on_optional bytes some false P good bad = good 0 at (record { bit = refl; most = some; span = none b at })
  on_optional bytes some true P good bad =
      on_number value refused ends w low below wrong b at P
      (λ x next f.
      let t = present_some x (omega (arith, f.least)) in
      good x next (record { bit = t; most = f.most; span = rw t (field_span bytes f) }))
      bad

  -- an optional number within its limits is read back
  pub optional_back : (stands : Bool) (next x : ℕ) (ys : List ℕ) → 1 ≤ w → stands ≡ present x → (1 ≤ x → low ≤ x) → x < below → x < 256 ^ w
      → Span b at next (optional_bytes w x ++ ys)
      → optional value refused ends w low below wrong stands b at ≡ value x (at + length (optional_bytes w x))
  unfolding optional optional_bytes
  optional_back stands next x ys o t l h f s = go (present x) refl
    where
      go : (u : Bool) → present x ≡ u → optional value refused ends w low below wrong stands b at ≡ value x (at + length (optional_bytes w x))
      go true e =
          let z : 1 ≤ x = present_is x e in
          let k : at + length (bytes_of w x) ≡ at + w = omega (arith, length_bytes w x) in
          rw (t, e, k)
          (number_back value refused ends w low below wrong b at next x ys o (l z) h f (subst (λ (v : Bool). Span b at next (cond v (bytes_of w x) [] ++ ys)) e s))
      go false e =
          let z : x ≡ 0 = present_none x e in
          let k : at + 0 ≡ at = omega arith in
          rw (t, e, k, z)
