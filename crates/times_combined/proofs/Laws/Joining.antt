-- One more activity: if the left has its times, and the right those of the engine, the whole has its times.
use Rattle.std.specs.Prelude.{◌≡◌, refl, ◌⊎◌, ℕ, suc, ◌+◌, ◌≤◌, ◌<◌, max}
use Rattle.std.proofs.Common.{sym, ◌∙◌, subst, inl, inr, arith}
use Rattle.std.proofs.Math.Decide.{dec_le}
use Rattle.plan.specs.declared.Kind.{Kind}
use Rattle.plan.specs.declared.Kind.TheVariants.{Claim, Release, Event}
use Rattle.times_combined.specs.Combined.{Ident, NotClaim, NotRelease, Graph, Is, Processing, instance, Instance, Joined, Claims, Releases, Links, sequenced}
use Rattle.times_combined.specs.Times.{Largest, Timing}
use Rattle.times_combined.proofs.Laws.Shape.{place, is_claim_lem, Shape, target_place, left_arrow}

-- v is 0, or the completion of a node of e
abbrev pub Attained : Graph → ℕ → (Ident → ℕ) → ℕ → Type 0
Attained A e C v = (v ≡ 0) ⊎ ((x : Ident) × Is A x (Event e) × (C x ≡ v))

-- c is 0, or the completion of the instance that is processed
abbrev pub Processed : Graph → Processing → (Ident → ℕ) → ℕ → Type 0
Processed A p C c = (c ≡ 0) ⊎ ((e : ℕ) × (k : ℕ) × (x : Ident) × (p ≡ instance e k) × Instance A e k x × (C x ≡ c))

-- a predecessor of x reaches its start; or x is of an event, and starts when that was last complete
abbrev pub Reached : Graph → (ℕ → ℕ) → (Ident → ℕ) → (Ident → ℕ) → Ident → Kind → Type 0
Reached B last S C x k = ((m : Ident) × B.Arrow m x × (C m ≡ S x)) ⊎ ((e : ℕ) × (k ≡ Event e) × (S x ≡ last e))

-- what the engine's state says of the activity so far
pub record Known (R : ℕ) (A : Graph) (free last : ℕ → ℕ) (C : Ident → ℕ) : Type 0 where
  pub released : (r : ℕ) → r < R → (x : Ident) × Is A x (Release r) × (C x ≡ free r)
  pub latest : (e : ℕ) (x : Ident) → Is A x (Event e) → C x ≤ last e
  pub attained : (e : ℕ) → Attained A e C (last e)

-- c is the completion of what is processed, 0 if nothing is
pub record Floored (A : Graph) (p : Processing) (C : Ident → ℕ) (c : ℕ) : Type 0 where
  pub bound : (e k : ℕ) (x : Ident) → p ≡ instance e k → Instance A e k x → C x ≤ c
  pub attained : Processed A p C c

-- the engine's times of one completed activity
pub record Fresh (R : ℕ) (B : Graph) (free last : ℕ → ℕ) (S C : Ident → ℕ) : Type 0 where
  pub claims : (x : Ident) (r d : ℕ) → B.Holds x (Claim r) d → (r < R) × (C x ≡ free r)
  pub bound : (m n : Ident) → B.Arrow m n → C m ≤ S n
  pub later : (x : Ident) (e d : ℕ) → B.Holds x (Event e) d → last e ≤ S x
  pub some : (x : Ident) (k : Kind) (d : ℕ) → B.Holds x k d → NotClaim k → (m : Ident) × B.Arrow m x
  pub reached : (x : Ident) (k : Kind) (d : ℕ) → B.Holds x k d → NotClaim k → Reached B last S C x k
  pub ends : (x : Ident) (k : Kind) (d : ℕ) → B.Holds x k d → C x ≡ S x + d

module _ (R : ℕ) (A B : Graph) (p : Processing) (q c : ℕ) (available free last : ℕ → ℕ) (S C : Ident → ℕ)
    (sa : Shape A q) (sb : Shape B (suc q)) (after : (x : Ident) (k : Kind) (d : ℕ) → B.Holds x k d → place x ≡ suc q)
    (brief : (x : Ident) (r d : ℕ) → A.Holds x (Release r) d → d ≡ 0)
    (ta : Timing A available S C) (known : Known R A free last C) (floored : Floored A p C c)
    (fresh : Fresh R B (λ r. max (free r) c) last S C) where
  -- the availability of r is the largest completion before its release
  pub waits : (r : ℕ) → r < R → Largest (Releases A r) C (free r)
  waits r l = record {
    bound = λ m h. let e = sa.single h.by x r h.release f.1 in let u = t.bound m (subst (λ (y : Ident). A.Arrow m y) e h.then) in omega (arith, same);
    reached = (t.reached.0, record { by = x; release = f.1; then = t.reached.1 }, t.reached.2 ∙ same);
  }
    where
      f : (x : Ident) × Is A x (Release r) × (C x ≡ free r)
      f = known.released r l

      x : Ident
      x = f.0

      t : Largest (λ (m : Ident). A.Arrow m x) C (S x)
      t = ta.others x (Release r) f.1.0 f.1.1 tt

      same : S x ≡ free r
      same = let u = ta.ends x (Release r) f.1.0 f.1.1 in let v = brief x r f.1.0 f.1.1 in let z = f.2 in omega arith

  -- the left keeps its times
  on_left : (x : Ident) (k : Kind) (d : ℕ) → A.Holds x k d → NotRelease k → NotClaim k → Largest (λ (m : Ident). Links A B p m x) C (S x)
  on_left x k d h nr nc = record {
    bound = λ m i. t.bound m (left_arrow A B p q sa sb after m x (sa.places x k d h) i);
    reached = (t.reached.0, Links.left t.reached.1 (d, h) nr, t.reached.2);
  }
    where
      t : Largest (λ (m : Ident). A.Arrow m x) C (S x)
      t = ta.others x k d h nc

  below : (m n : Ident) → place n ≡ suc q → Links A B p m n → C m ≤ S n
  below m n l (Links.left h i nr) = absurd (let u = target_place sa m n h in omega arith)
  below m n l (Links.right h i nc) = fresh.bound m n h
  below m n l (Links.resource r h i) =
      let f = fresh.claims i.by r i.claim.0 i.claim.1 in
      let u = (waits r f.0).bound m h in
      let v = fresh.bound i.by n i.then in
      omega (arith, f.1)
  below m n l (Links.event e i j) = let u = known.latest e m i in let v = fresh.later n e j.0 j.1 in omega arith
  below m n l (Links.processed e k r f i j) =
      let g = fresh.claims j.by r j.claim.0 j.claim.1 in
      let u = floored.bound e k m f i in
      let v = fresh.bound j.by n j.then in
      omega (arith, g.1)

  -- a predecessor of the right that reaches the start: it stays, or it is a claim that stands for one of the left
  through : (m x : Ident) → B.Arrow m x → C m ≡ S x → (y : Ident) × Links A B p y x × (C y ≡ S x)
  through m x h e = go (is_claim_lem s.0)
    where
      s : (k : Kind) × Is B m k × NotRelease k
      s = sb.source m x h

      go : ((r : ℕ) × (s.0 ≡ Claim r)) ⊎ NotClaim s.0 → (y : Ident) × Links A B p y x × (C y ≡ S x)
      go (inr nc) = (m, Links.right h s.1 nc, e)
      go (inl i) = pick (dec_le c (free r)) floored.attained
        where
          r : ℕ
          r = i.0

          is : Is B m (Claim r)
          is = subst (Is B m) i.1 s.1

          f : (r < R) × (C m ≡ max (free r) c)
          f = fresh.claims m r is.0 is.1

          cl : Claims B r x
          cl = record { by = m; claim = is; then = h }

          w : Largest (Releases A r) C (free r)
          w = waits r f.0

          pick : Dec (c ≤ free r) → Processed A p C c → (y : Ident) × Links A B p y x × (C y ≡ S x)
          pick (yes l) o = (w.reached.0, Links.resource r w.reached.1 cl, (let u = w.reached.2 in let v = f.1 in omega arith))
          pick (no l) (inl z) = absurd (omega arith)
          pick (no l) (inr j) = (j.2, Links.processed j.0 j.1 r j.3 j.4 cl, (let u = j.5 in let v = f.1 in omega arith))

  on_right : (x : Ident) (k : Kind) (d : ℕ) → B.Holds x k d → NotClaim k → Largest (λ (m : Ident). Links A B p m x) C (S x)
  on_right x k d h nc = record { bound = λ m i. below m x (after x k d h) i; reached = go (fresh.reached x k d h nc) }
    where
      go : Reached B last S C x k → (y : Ident) × Links A B p y x × (C y ≡ S x)
      go (inl i) = through i.0 x i.1 i.2
      go (inr i) = from (known.attained i.0)
        where
          from : Attained A i.0 C (last i.0) → (y : Ident) × Links A B p y x × (C y ≡ S x)
          from (inl z) = let m = fresh.some x k d h nc in through m.0 x m.1 (let u = fresh.bound m.0 x m.1 in let v = i.2 in omega arith)
          from (inr j) = (j.0, Links.event i.0 j.1 (subst (Is B x) i.1 (d, h)), j.2 ∙ sym i.2)

  whole_others : (x : Ident) (k : Kind) (d : ℕ) → Joined A B x k d → NotClaim k → Largest (λ (m : Ident). Links A B p m x) C (S x)
  whole_others x k d (Joined.left h nr) nc = on_left x k d h nr nc
  whole_others x k d (Joined.right h nc) nc' = on_right x k d h nc

  whole_ends : (x : Ident) (k : Kind) (d : ℕ) → Joined A B x k d → C x ≡ S x + d
  whole_ends x k d (Joined.left h nr) = ta.ends x k d h
  whole_ends x k d (Joined.right h nc) = fresh.ends x k d h

  whole_claims : (x : Ident) (k : Kind) (r d : ℕ) → k ≡ Claim r → Joined A B x k d → S x ≡ available r
  whole_claims x k r d e (Joined.left h nr) = ta.claims x r d (subst (λ (l : Kind). A.Holds x l d) e h)
  whole_claims x k r d e (Joined.right h nc) = absurd (subst NotClaim e nc)

  pub whole : Timing (sequenced A p B) available S C
  whole = record { claims = λ x r d h. whole_claims x (Claim r) r d refl h; others = whole_others; ends = whole_ends }
