-- What the nodes that are done leave, seen as the state of the behaviour. Assumes nothing.
use Rattle.std.specs.Prelude.{◌≡◌, refl, Bool, ◌⊎◌, length, set, eqb}
use Rattle.std.proofs.Common.{sym, ap, ap₂, ◌∙◌, subst, inl, length-set, get_or-set_same, get_or-set_other, eq-eqb, ne_eqb, eqb-true}
use Rattle.std.proofs.Math.Bool.{true, false, cond}
use Rattle.std.proofs.Math.Logic.{inr}
use mathlib.Core.List.{List, [], ◌∷◌, ◌++◌, append_assoc, append-nil}
use Prim.Native.Nat.{ℕ, zero, suc, ◌+◌, ◌≤◌, ◌<◌, max}
use native.Mathlib.Omega.{arith}
use Rattle.std.proofs.Math.Decide.{ℕ_discrete}
use Rattle.std.proofs.lemmas.Bool.{eqb-false}
use Rattle.basis.specs.Lists.{Among}
use Rattle.time.specs.declared.Specified.{Specified}
use Rattle.plan.specs.declared.Kind.{Kind}
use Rattle.plan.specs.declared.Node.{Node}
use Rattle.plan.specs.Plan.{is_event}
use Rattle.activity.specs.Rules.{node}
use Rattle.times_combined.proofs.Laws.Engine.{latest}
use Rattle.times_combined.proofs.Laws.Shape.{release_same}
use Rattle.times.specs.declared.Progress.{Progress}
use Rattle.times.specs.Times.{specified, at}
use Rattle.times.specs.Queues.{pending_of, queue_of, emission, queued_of}
use Rattle.times.specs.Engine.{completed_of, raised_of, left_by, left_of}
use Rattle.times.proofs.Laws.Fits.{left_position_by}
use Rattle.times_equal.proofs.Laws.Seen.{of_event, instances, Whole}
use Rattle.times_equal.proofs.Laws.Queue.{joined_queue, joined_length, other_length, other_queue, queued_whole, queued_available, queued_latest}

-- ---- every resource raised

raised_other : (c k i : ℕ) (l : List Specified) (r : ℕ) → (r < i) ⊎ (i + k ≤ r) → at (raised_of c i k l) r ≡ at l r
unfolding raised_of
raised_other c zero i l r h = refl
raised_other c (suc k) i l r h =
    raised_other c k (i + 1) (set l i (specified (max (at l i) c))) r (elim h [ inl u ↦ inl (omega arith) | inr u ↦ inr (omega arith) ])
    ∙ ap (λ (z : Specified). z.0) (get_or-set_other l i r (specified (max (at l i) c)) (specified 0) (λ e. elim h [ inl u ↦ omega arith | inr u ↦ omega arith ]))

raised_within : (c k i : ℕ) (l : List Specified) (r : ℕ) → i ≤ r → r < i + k → r < length l → at (raised_of c i k l) r ≡ max (at l r) c
unfolding raised_of
raised_within c zero i l r h m n = absurd (omega arith)
raised_within c (suc k) i l r h m n = go (ℕ_discrete r i) (λ q. raised_within c k (i + 1) (set l i (specified (max (at l i) c))) r q (omega arith) (let u = length-set l i (specified (max (at l i) c)) in omega arith))
  where
    go : Dec (r ≡ i) → (i + 1 ≤ r → at (raised_of c (i + 1) k (set l i (specified (max (at l i) c)))) r ≡ max (at (set l i (specified (max (at l i) c))) r) c) → at (raised_of c (i + 1) k (set l i (specified (max (at l i) c)))) r ≡ max (at l r) c
    go (yes e) rest =
        raised_other c k (i + 1) (set l i (specified (max (at l i) c))) r (inl (omega arith))
        ∙ subst (λ (z : ℕ). at (set l i (specified (max (at l i) c))) z ≡ max (at l z) c) (sym e) (ap (λ (z : Specified). z.0) (get_or-set_same l i (specified (max (at l i) c)) (specified 0) (omega arith)))
    go (no d) rest = rest (omega arith) ∙ ap (λ (z : Specified). max z.0 c) (get_or-set_other l i r (specified (max (at l i) c)) (specified 0) d)

pub raised_at_lem : (c R : ℕ) (l : List Specified) (r : ℕ) → r < R → r < length l → at (raised_of c 0 R l) r ≡ max (at l r) c
raised_at_lem c R l r h m = raised_within c R 0 l r (omega arith) (omega arith) m

pub raised_length : (c k i : ℕ) (l : List Specified) → length (raised_of c i k l) ≡ length l
unfolding raised_of
raised_length c zero i l = refl
raised_length c (suc k) i l = raised_length c k (i + 1) (set l i (specified (max (at l i) c))) ∙ length-set l i (specified (max (at l i) c))

-- ---- one node

left_whole_by : (n t : ℕ) (k : Kind) (g : Progress) → Whole g → Whole (left_by n t k g)
unfolding left_by
left_whole_by n t (Kind.Action x p) g w = w
left_whole_by n t (Kind.Claim r) g w = w
left_whole_by n t (Kind.Release r) g w = record { available = length-set g.available r (specified t) ∙ w.available; latest = w.latest; lengths = w.lengths; pending = w.pending }
left_whole_by n t (Kind.Event e) g w =
    queued_whole (completed_of e t g) e (emission g.position n t)
    (record { available = w.available; latest = length-set g.latest e (specified (max (at g.latest e) t)) ∙ w.latest; lengths = w.lengths; pending = w.pending })

-- the availability of r
left_free_by : (n t : ℕ) (k : Kind) (g : Progress) (r : ℕ) → r < length g.available → ((k ≡ Kind.Release r) × (at (left_by n t k g).available r ≡ t)) ⊎ ((k ≡ Kind.Release r → ⊥) × (at (left_by n t k g).available r ≡ at g.available r))
unfolding left_by
left_free_by n t (Kind.Action x p) g r l = inr (λ e. let z : ◌≡◌ {A = ℕ} 0 1 = cc in omega arith, refl)
left_free_by n t (Kind.Claim s) g r l = inr (λ e. let z : ◌≡◌ {A = ℕ} 0 1 = cc in omega arith, refl)
left_free_by n t (Kind.Release s) g r l = elim (ℕ_discrete r s) [
  | yes q ↦ inl (ap Kind.Release (sym q), subst (λ (z : ℕ). at (set g.available z (specified t)) r ≡ t) q (ap (λ (z : Specified). z.0) (get_or-set_same g.available r (specified t) (specified 0) l)))
  | no q ↦ inr (λ e. q (sym (release_same e)), ap (λ (z : Specified). z.0) (get_or-set_other g.available s r (specified t) (specified 0) q))
]
left_free_by n t (Kind.Event e) g r l =
    inr (λ e. let z : ◌≡◌ {A = ℕ} 0 1 = cc in omega arith, ap (λ (ts : List Specified). at ts r) (queued_available (completed_of e t g) e (emission g.position n t)))

-- the last completion of e
left_last_by : (n t : ℕ) (k : Kind) (g : Progress) (e : ℕ) → ((f : ℕ) → k ≡ Kind.Event f → f < length g.latest) → at (left_by n t k g).latest e ≡ cond (is_event e k) (max (at g.latest e) t) (at g.latest e)
unfolding left_by
left_last_by n t (Kind.Action x p) g e h = refl
left_last_by n t (Kind.Claim r) g e h = refl
left_last_by n t (Kind.Release r) g e h = refl
left_last_by n t (Kind.Event f) g e h =
    ap (λ (ts : List Specified). at ts e) (queued_latest (completed_of f t g) f (emission g.position n t))
    ∙ elim (ℕ_discrete e f) [
      | yes q ↦ rw (eq-eqb f e (sym q)) (subst (λ (z : ℕ). at (set g.latest f (specified (max (at g.latest f) t))) z ≡ max (at g.latest z) t) (sym q) (ap (λ (z : Specified). z.0) (get_or-set_same g.latest f (specified (max (at g.latest f) t)) (specified 0) (h f refl))))
      | no q ↦ rw (ne_eqb f e (λ s. q (sym s))) (ap (λ (z : Specified). z.0) (get_or-set_other g.latest f e (specified (max (at g.latest f) t)) (specified 0) q))
    ]

-- the queue of e
left_queue_by : (n t : ℕ) (k : Kind) (g : Progress) (e : ℕ) → Whole g → ((f : ℕ) → k ≡ Kind.Event f → f < 16) → pending_of g e + cond (is_event e k) 1 0 ≤ 8 → (queue_of (left_by n t k g) e ≡ queue_of g e ++ cond (is_event e k) (emission g.position n t ∷ []) []) × (pending_of (left_by n t k g) e ≡ pending_of g e + cond (is_event e k) 1 0)
unfolding left_by
left_queue_by n t (Kind.Action x p) g e w h few = (sym (append-nil (queue_of g e)), omega arith)
left_queue_by n t (Kind.Claim r) g e w h few = (sym (append-nil (queue_of g e)), omega arith)
left_queue_by n t (Kind.Release r) g e w h few = (sym (append-nil (queue_of g e)), omega arith)
left_queue_by n t (Kind.Event f) g e w h few = go (eqb f e) refl few
  where
    w' : Whole (completed_of f t g)
    w' = record { available = w.available; latest = length-set g.latest f (specified (max (at g.latest f) t)) ∙ w.latest; lengths = w.lengths; pending = w.pending }

    go : (b : Bool) → eqb f e ≡ b → pending_of g e + cond b 1 0 ≤ 8 → (queue_of (queued_of f (emission g.position n t) (completed_of f t g)) e ≡ queue_of g e ++ cond b (emission g.position n t ∷ []) []) × (pending_of (queued_of f (emission g.position n t) (completed_of f t g)) e ≡ pending_of g e + cond b 1 0)
    go true q few =
        let s = eqb-true f e q in (
          subst (λ (z : ℕ). queue_of (queued_of f (emission g.position n t) (completed_of f t g)) z ≡ queue_of g z ++ (emission g.position n t ∷ [])) s (joined_queue (completed_of f t g) f (emission g.position n t) w' (h f refl) (let u = ap (pending_of g) s in omega arith)),
          subst (λ (z : ℕ). pending_of (queued_of f (emission g.position n t) (completed_of f t g)) z ≡ pending_of g z + 1) s (joined_length (completed_of f t g) f (emission g.position n t) w' (h f refl) (let u = ap (pending_of g) s in omega arith)),
        )
    go false q few =
        let d = eqb-false f e q in (
          other_queue (completed_of f t g) f (emission g.position n t) e (λ s. d (sym s)) (omega arith) ∙ sym (append-nil (queue_of g e)),
          other_length (completed_of f t g) f (emission g.position n t) e (λ s. d (sym s)) ∙ (omega arith),
        )

-- ---- all nodes

module _ (a : List Node) (end : List Specified) where
  after : ℕ → Progress → Progress
  after n g = left_by n (at end n) (node a n).kind g

  pub left_whole : (ns : List ℕ) (g : Progress) → Whole g → Whole (left_of a end ns g)
  unfolding left_of
  left_whole [] g w = w
  left_whole (n ∷ ns) g w = left_whole ns (left_by n (at end n) (node a n).kind g) (left_whole_by n (at end n) (node a n).kind g w)

  -- r is available when the last of its releases completes, or as before
  abbrev Frees : List ℕ → Progress → ℕ → ℕ → Type 0
  Frees ns g r v = ((n : ℕ) × Among n ns × ((node a n).kind ≡ Kind.Release r) × (v ≡ at end n)) ⊎ (((n : ℕ) → Among n ns → (node a n).kind ≡ Kind.Release r → ⊥) × (v ≡ at g.available r))

  pub left_free : (ns : List ℕ) (g : Progress) (r : ℕ) → Whole g → r < 16 → Frees ns g r (at (left_of a end ns g).available r)
  unfolding left_of
  left_free [] g r w l = inr (λ n i e. i, refl)
  left_free (n ∷ ns) g r w l = go (left_free ns (left_by n (at end n) (node a n).kind g) r (left_whole_by n (at end n) (node a n).kind g w) l) (left_free_by n (at end n) (node a n).kind g r (let u = w.available in omega arith))
    where
      v : ℕ
      v = at (left_of a end ns (left_by n (at end n) (node a n).kind g)).available r

      go : Frees ns (left_by n (at end n) (node a n).kind g) r v → (((node a n).kind ≡ Kind.Release r) × (at (left_by n (at end n) (node a n).kind g).available r ≡ at end n)) ⊎ (((node a n).kind ≡ Kind.Release r → ⊥) × (at (left_by n (at end n) (node a n).kind g).available r ≡ at g.available r)) → Frees (n ∷ ns) g r v
      go (inl h) o = inl (h.0, inr h.1, h.2, h.3)
      go (inr h) (inl o) = inl (n, inl refl, o.0, h.1 ∙ o.1)
      go (inr h) (inr o) = inr (λ m i e. elim i [ inl q ↦ o.0 (subst (λ (z : ℕ). (node a z).kind ≡ Kind.Release r) q e) | inr j ↦ h.0 m j e ], h.1 ∙ o.1)

  pub left_last : (ns : List ℕ) (g : Progress) (e : ℕ) → Whole g → ((n f : ℕ) → Among n ns → (node a n).kind ≡ Kind.Event f → f < 16) → at (left_of a end ns g).latest e ≡ max (at g.latest e) (latest (at end) (of_event a e ns))
  unfolding left_of of_event
  left_last [] g e w h = omega arith
  left_last (n ∷ ns) g e w h =
      left_last ns (left_by n (at end n) (node a n).kind g) e (left_whole_by n (at end n) (node a n).kind g w) (λ m f i. h m f (inr i))
      ∙ go (is_event e (node a n).kind) (left_last_by n (at end n) (node a n).kind g e (λ f q. let u = w.latest in let v = h n f (inl refl) q in omega arith))
    where
      go : (b : Bool) → at (left_by n (at end n) (node a n).kind g).latest e ≡ cond b (max (at g.latest e) (at end n)) (at g.latest e) → max (at (left_by n (at end n) (node a n).kind g).latest e) (latest (at end) (of_event a e ns)) ≡ max (at g.latest e) (latest (at end) (cond b (n ∷ of_event a e ns) (of_event a e ns)))
      go true q = omega arith
      go false q = omega arith

  pub left_queue : (ns : List ℕ) (g : Progress) (e : ℕ) → Whole g → ((n f : ℕ) → Among n ns → (node a n).kind ≡ Kind.Event f → f < 16) → pending_of g e + length (of_event a e ns) ≤ 8 → (queue_of (left_of a end ns g) e ≡ queue_of g e ++ instances end g.position (of_event a e ns)) × (pending_of (left_of a end ns g) e ≡ pending_of g e + length (of_event a e ns))
  unfolding left_of of_event
  left_queue [] g e w h few = (sym (append-nil (queue_of g e)), omega arith)
  left_queue (n ∷ ns) g e w h few =
      go (is_event e (node a n).kind) few
      (left_queue_by n (at end n) (node a n).kind g e w (λ f q. h n f (inl refl) q))
      (left_queue ns (left_by n (at end n) (node a n).kind g) e (left_whole_by n (at end n) (node a n).kind g w) (λ m f i. h m f (inr i)))
    where
      g' : Progress
      g' = left_by n (at end n) (node a n).kind g

      go : (b : Bool) → pending_of g e + length (cond b (n ∷ of_event a e ns) (of_event a e ns)) ≤ 8 → (pending_of g e + cond b 1 0 ≤ 8 → (queue_of g' e ≡ queue_of g e ++ cond b (emission g.position n (at end n) ∷ []) []) × (pending_of g' e ≡ pending_of g e + cond b 1 0)) → (pending_of g' e + length (of_event a e ns) ≤ 8 → (queue_of (left_of a end ns g') e ≡ queue_of g' e ++ instances end g'.position (of_event a e ns)) × (pending_of (left_of a end ns g') e ≡ pending_of g' e + length (of_event a e ns))) → (queue_of (left_of a end ns g') e ≡ queue_of g e ++ instances end g.position (cond b (n ∷ of_event a e ns) (of_event a e ns))) × (pending_of (left_of a end ns g') e ≡ pending_of g e + length (cond b (n ∷ of_event a e ns) (of_event a e ns)))
      go true few one rest =
          let o = one (omega arith) in
          let r = rest (let u = o.1 in omega arith) in (
            r.0 ∙ ap₂ (λ q p. q ++ instances end p (of_event a e ns)) o.0 (left_position_by n (at end n) (node a n).kind g) ∙ append_assoc (queue_of g e) (emission g.position n (at end n) ∷ []) (instances end g.position (of_event a e ns)),
            (let u = o.1 in let v = r.1 in omega arith),
          )
      go false few one rest =
          let o = one (omega arith) in
          let r = rest (let u = o.1 in omega arith) in (
            r.0 ∙ ap₂ (λ q p. q ++ instances end p (of_event a e ns)) (o.0 ∙ append-nil (queue_of g e)) (left_position_by n (at end n) (node a n).kind g),
            (let u = o.1 in let v = r.1 in omega arith),
          )
