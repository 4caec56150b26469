-- What was read holds every number that was read: the one thing to show of a description, at its end. It replaces the inversion.
use Rattle.std.specs.Prelude.{◌≡◌, refl, Bool, true, false, List, [], ◌∷◌, ◌↔◌, ℕ, zero, suc, ◌+◌, ◌^◌, ◌<◌, length}
use Rattle.std.proofs.Common.{sym, ap, arith}
use Rattle.std.proofs.Math.Path.{subst}
use Rattle.wire.specs.Number.{little, bytes_of}
use Rattle.wire.proofs.Laws.Span.{Span, none, join, all_is}
use Rattle.wire.proofs.Laws.Fields.{length_bytes, bytes_little}
use Rattle.format.specs.Format.{Rule, Format, done, field, number, ◌>>=◌, part_of, optional, each, first, good, read, parse, parse_all, print, Holds, result, Every}
use Rattle.format.specs.Writing.{Bytes}
use Rattle.format.proofs.Laws.Writing.{little_below, passed, Written, Held, whole_read, held_read}

-- K and, field by field, that the number of what is read is the number in the file
unfoldable pub Knows : {S A : Type 0} → List ℕ → (A → S) → (S → Type 0) → Format S A → Type 0
Knows order back K (done a) = K (back a)
Knows order back K (field w get rules rest) = (x : ℕ) → x < 256 ^ w → first order (rules x) ≡ good → Knows order back (λ s. K s × (get s ≡ x)) (rest x)

module _ (ends : ℕ) (order : List ℕ) (b : List ℕ) (bytes : Bytes b) {S A : Type 0} (back : A → S) where
  -- write what was read
  pub written : (K : S → Type 0) (t : Format S A) → Knows order back K t → (at : ℕ) (a : A) (next : ℕ) → parse ends order b t at ≡ read a next → K (back a) × Written ends order b back t at a next
  unfolding Knows parse print Holds result
  written K (done c) h at a next e =
      let z : c ≡ a = cc in
      let y : at ≡ next = cc in
      (subst (λ (d : A). K (back d)) z h, record { holds = tt; span = subst (λ (m : ℕ). Span b at m []) y (none b at); same = z })
  written K (field w get rules rest) h at a next e =
      let p = passed ends order b w get rules rest at a next e in
      let x = little w b at in
      let f = little_below b bytes w at in
      let r = written (λ s. K s × (get s ≡ x)) (rest x) (h x f p.1) (at + w) a next p.2 in
      let g : get (back a) ≡ x = r.0.1 in
      let s : Span b at (at + w) (bytes_of w x) =
      record { past = omega (arith, length_bytes w x); same = rw (length_bytes w x) (bytes_little b bytes w at p.0) } in
      (r.0.0, record { holds = rw g (f, p.1, r.1.holds); span = rw g (join s r.1.span); same = rw g r.1.same })

  -- all of the bytes: accepted exactly where they are the writing of what is read
  pub accepted_exactly : (over : ℕ) (t : Format S A) → Knows order back (λ s. Unit {0}) t → (a : A) → (parse_all ends order b over t ≡ read a (length b)) ↔ Held ends order b back t a
  accepted_exactly over t knows a = (
    (λ e.
        let w = (written (λ s. Unit {0}) t knows 0 a (length b) (whole_read ends order b over t a e)).1 in
        record { holds = w.holds; written = sym (all_is b (print t (back a)) (length b) w.span refl); same = w.same }),
    held_read ends order b over back t a,
  )

module _ (order : List ℕ) {S B : Type 0} (back : B → S) where
  pub weaken : (K L : S → Type 0) → ((s : S) → K s → L s) → (t : Format S B) → Knows order back K t → Knows order back L t
  unfolding Knows
  weaken K L f (done a) h = f (back a) h
  weaken K L f (field w get rules rest) h = λ x i g. weaken (λ s. K s × (get s ≡ x)) (λ s. L s × (get s ≡ x)) (λ s k. (f s k.0, k.1)) (rest x) (h x i g)

  pub assoc : {A C : Type 0} (K : S → Type 0) (t : Format S A) (f : A → Format S C) (g : C → Format S B) → Knows order back K (t >>= λ a. f a >>= g) → Knows order back K ((t >>= f) >>= g)
  unfolding Knows
  assoc K (done a) f g h = h
  assoc K (field w get rules rest) f g h = λ x i l. assoc (λ s. K s × (get s ≡ x)) (rest x) f g (h x i l)

  -- A part of a format: what is read of it meets P, and `Fact` ties it to the whole. Enough to go on with whatever follows.
  pub record Part {A : Type 0} (P : A → Type 0) (Fact : A → S → Type 0) (t : Format S A) : Type 1 where
    pub go_on : (K : S → Type 0) (follow : A → Format S B) → ((a : A) → P a → Knows order back (λ s. K s × Fact a s) (follow a)) → Knows order back K (t >>= follow)

  pub the_number : (P : ℕ → Type 0) (w : ℕ) (get : S → ℕ) (rules : ℕ → List Rule) → ((x : ℕ) → x < 256 ^ w → first order (rules x) ≡ good → P x)
      → Part P (λ x s. get s ≡ x) (number w get rules)
  unfolding Knows
  the_number P w get rules f = record { go_on = λ K follow h. λ x i g. h x (f x i g) }

  -- a format of a part, which knows itself
  pub the_part : {T A : Type 0} (P : A → Type 0) (own : A → T) (f : S → T) (t : Format T A) → Knows order own (λ u. Unit {0}) t → Every order P t → Part P (λ a s. f s ≡ own a) (part_of f t)
  unfolding Knows Every
  the_part {T} {A} P own f t knows every = record { go_on = λ K follow h. weaken (λ s. K s × Unit {0}) K (λ s k. k.0) (part_of f t >>= follow) (go (λ u. Unit {0}) K follow h t knows every) }
    where
      go : (L : T → Type 0) (K : S → Type 0) (follow : A → Format S B) → ((a : A) → P a → Knows order back (λ s. K s × (f s ≡ own a)) (follow a))
          → (t : Format T A) → Knows order own L t → Every order P t → Knows order back (λ s. K s × L (f s)) (part_of f t >>= follow)
      go L K follow h (done a) k e = weaken (λ s. K s × (f s ≡ own a)) (λ s. K s × L (f s)) (λ s q. (q.0, subst L (sym q.1) k)) (follow a) (h a e)
      go L K follow h (field w get rules rest) k e =
          λ x i g.
          weaken (λ s. K s × (L (f s) × (get (f s) ≡ x))) (λ s. (K s × L (f s)) × (get (f s) ≡ x)) (λ s q. ((q.0, q.1.0), q.1.1)) (part_of f (rest x) >>= follow)
          (go (λ u. L u × (get u ≡ x)) K follow h (rest x) (k x i g) (e x i g))

  pub the_optional : {A : Type 0} (P : A → Type 0) (Fact : A → S → Type 0) (stands : Bool) (absent : A) (t : Format S A)
      → (stands ≡ true → Part P Fact t) → (stands ≡ false → P absent) → Part P Fact (optional stands absent t)
  the_optional P Fact true absent t f g = f refl
  the_optional P Fact false absent t f g =
      record { go_on = λ K follow h. weaken (λ s. K s × Fact absent s) K (λ s k. k.0) (follow absent) (h absent (g refl)) }

  -- the facts of a list, from number i on
  abbrev pub Facts : {A : Type 0} → (ℕ → A → S → Type 0) → ℕ → List A → S → Type 0
  Facts Fact i [] s = Unit {0}
  Facts Fact i (a ∷ more) s = Fact i a s × Facts Fact (i + 1) more s

  abbrev pub Each : {A : Type 0} → (A → Type 0) → List A → Type 0
  Each P [] = Unit {0}
  Each P (a ∷ more) = P a × Each P more

  pub the_each : {A : Type 0} (P : A → Type 0) (Fact : ℕ → A → S → Type 0) (item : ℕ → Format S A) → ((i : ℕ) → Part P (Fact i) (item i))
      → (i k : ℕ) → Part (λ all. (length all ≡ k) × Each P all) (Facts Fact i) (each item i k)
  the_each P Fact item parts i zero =
      record { go_on = λ K follow h. weaken (λ s. K s × Unit {0}) K (λ s k. k.0) (follow []) (h [] (refl, tt)) }
  the_each P Fact item parts i (suc k) =
      record {
        go_on = λ K follow h.
            assoc K (item i) (λ a. each item (i + 1) k >>= λ more. done (a ∷ more)) follow
            ((parts i).go_on K (λ a. (each item (i + 1) k >>= λ more. done (a ∷ more)) >>= follow)
            (λ a p.
            assoc (λ s. K s × Fact i a s) (each item (i + 1) k) (λ more. done (a ∷ more)) follow
            ((the_each P Fact item parts (i + 1) k).go_on (λ s. K s × Fact i a s) (λ more. follow (a ∷ more))
            (λ more q.
            weaken (λ s. K s × Facts Fact i (a ∷ more) s) (λ s. (K s × Fact i a s) × Facts Fact (i + 1) more s) (λ s k. ((k.0, k.1.0), k.1.1)) (follow (a ∷ more))
            (h (a ∷ more) (ap suc q.0, (p, q.1)))))));
      }
