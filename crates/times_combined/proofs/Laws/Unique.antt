-- The times of a combined activity are determined, and those of a word's earlier nodes do not change as the word grows.
use Rattle.std.specs.Prelude.{◌≡◌, refl, ◌⊎◌, [], ℕ, zero, suc, ◌+◌, ◌≤◌, ◌<◌, length}
use Rattle.std.proofs.Common.{sym, ◌∙◌, subst, inl, inr, arith}
use Rattle.basis.specs.Lists.{one, more}
use Rattle.plan.specs.declared.Kind.{Kind}
use Rattle.plan.specs.declared.Kind.TheVariants.{Claim, Release}
use Rattle.activity.specs.Rules.{node, Arrow}
use Rattle.times_combined.specs.Word.{Begins, here, longer, Step, Word, τ, ◌▷◌, size}
use Rattle.times_combined.proofs.Laws.Accepted.{GoodWord}
use Rattle.times_combined.specs.Combined.{Ident, named, claimed, NotClaim, NotRelease, Graph, Before, Nodes, completed, Joined, Links, processing, combined}
use Rattle.times_combined.specs.Times.{Largest, Timing}
use Rattle.times_combined.proofs.Laws.Exec.{rank_of}
use Rattle.times_combined.proofs.Laws.Shape.{place, is_release_lem, Shape, completed_shape, sequenced_shape, node_place_lem, left_arrow}
use Rattle.times_combined.proofs.Laws.Chains.{from_arrow, ends}
use Rattle.times_combined.proofs.Laws.Ranks.{rises}
use Rattle.times_combined.proofs.Laws.TimesEqual.{good_empty, none}

-- the form needs no engine
pub shape_of : (R : ℕ) (belongs : ℕ → ℕ) (w : Word) → GoodWord R belongs w → Shape (combined R w) (size w)
shape_of R belongs τ ok = completed_shape R 0 belongs [] (good_empty R belongs)
shape_of R belongs (w ▷ x) ok =
    sequenced_shape (combined R w) (completed R (suc (size w)) x.output) (processing w x.input) (size w) (shape_of R belongs w ok.0)
    (completed_shape R (suc (size w)) belongs x.output ok.1) (node_place_lem R (suc (size w)) x.output)

-- Def. 11 at the nodes that stay when the word grows: all but the releases
pub record Lasting (G : Graph) (available : ℕ → ℕ) (S C : Ident → ℕ) : Type 0 where
  pub claims : (x : Ident) (r d : ℕ) → G.Holds x (Claim r) d → S x ≡ available r
  pub others : (x : Ident) (k : Kind) (d : ℕ) → G.Holds x k d → NotClaim k → NotRelease k → Largest (λ (m : Ident). G.Arrow m x) C (S x)
  pub ends : (x : Ident) (k : Kind) (d : ℕ) → G.Holds x k d → NotRelease k → C x ≡ S x + d

pub lasting : (G : Graph) (available : ℕ → ℕ) (S C : Ident → ℕ) → Timing G available S C → Lasting G available S C
lasting G available S C t = record { claims = t.claims; others = λ x k d h nc nr. t.others x k d h nc; ends = λ x k d h nr. t.ends x k d h }

-- a largest value is determined
pub largest_same : (P : Ident → Type 0) (C D : Ident → ℕ) (s u : ℕ) → ((m : Ident) → P m → C m ≡ D m) → Largest P C s → Largest P D u → s ≡ u
largest_same P C D s u same a b =
    let x = a.reached.0 in
    let y = b.reached.0 in
    let e1 = same x a.reached.1 in
    let e2 = same y b.reached.1 in
    let l1 = b.bound x a.reached.1 in
    let l2 = a.bound y b.reached.1 in
    let f1 = a.reached.2 in
    let f2 = b.reached.2 in
    omega arith

module _ (R : ℕ) (belongs available : ℕ → ℕ) where
  -- an arrow to a node of a beginning is one of the beginning
  pub old_arrow : (w : Word) (x : Step) (ok : GoodWord R belongs (w ▷ x)) (m n : Ident) → place n ≤ size w → (combined R (w ▷ x)).Arrow m n → (combined R w).Arrow m n
  old_arrow w x ok =
      left_arrow (combined R w) (completed R (suc (size w)) x.output) (processing w x.input) (size w) (shape_of R belongs w ok.0)
      (completed_shape R (suc (size w)) belongs x.output ok.1) (node_place_lem R (suc (size w)) x.output)

  -- of a longer word, the shorter one's
  pub lasting_left : (w : Word) (x : Step) (ok : GoodWord R belongs (w ▷ x)) (S C : Ident → ℕ) → Lasting (combined R (w ▷ x)) available S C → Lasting (combined R w) available S C
  lasting_left w x ok S C t = record {
    claims = λ y r d h. t.claims y r d (Joined.left h tt);
    others = λ y k d h nc nr.
        let f = t.others y k d (Joined.left h nr) nc nr in
        record {
          bound = λ m i. f.bound m (Links.left i (d, h) nr);
          reached = (f.reached.0, old_arrow w x ok f.reached.0 y ((shape_of R belongs w ok.0).places y k d h) f.reached.1, f.reached.2);
        };
    ends = λ y k d h nr. t.ends y k d (Joined.left h nr) nr;
  }

  -- two solutions agree at x
  abbrev Agree : (S C T D : Ident → ℕ) → Ident → Type 0
  Agree S C T D x = (S x ≡ T x) × (C x ≡ D x)

  at_claim : (G : Graph) (S C T D : Ident → ℕ) → Lasting G available S C → Lasting G available T D → (x : Ident) (k : Kind) (r d : ℕ) → k ≡ Claim r → G.Holds x k d → Agree S C T D x
  at_claim G S C T D t u x k r d c h =
      let h1 = subst (λ (z : Kind). G.Holds x z d) c h in
      let e : S x ≡ T x = t.claims x r d h1 ∙ sym (u.claims x r d h1) in
      let f = t.ends x (Claim r) d h1 tt in
      let g = u.ends x (Claim r) d h1 tt in
      (e, (omega arith))

  at_other : (G : Graph) (S C T D : Ident → ℕ) → Lasting G available S C → Lasting G available T D → (x : Ident) (k : Kind) (d : ℕ) → G.Holds x k d → NotClaim k → NotRelease k → ((m : Ident) → G.Arrow m x → C m ≡ D m) → Agree S C T D x
  at_other G S C T D t u x k d h nc nr same =
      let e = largest_same (λ (m : Ident). G.Arrow m x) C D (S x) (T x) same (t.others x k d h nc nr) (u.others x k d h nc nr) in
      let f = t.ends x k d h nr in
      let g = u.ends x k d h nr in
      (e, (omega arith))

  opening_agree : (S C T D : Ident → ℕ) → Lasting (combined R τ) available S C → Lasting (combined R τ) available T D → (x : Ident) (k : Kind) (d : ℕ) → Nodes R 0 [] x k d → NotRelease k → Agree S C T D x
  opening_agree S C T D t u x k d (Nodes.own l e f) nr = none l
  opening_agree S C T D t u x k d (Nodes.claim {r} l v) nr = at_claim (combined R τ) S C T D t u (claimed 0 r) (Claim r) r 0 refl (Nodes.claim l v)
  opening_agree S C T D t u x k d (Nodes.release l v) nr = absurd nr

  module _ (w : Word) (x : Step) (ok : GoodWord R belongs (w ▷ x)) (S C T D : Ident → ℕ) (t : Lasting (combined R (w ▷ x)) available S C) (u : Lasting (combined R (w ▷ x)) available T D)
      (before : (y : Ident) (k : Kind) (d : ℕ) → (combined R w).Holds y k d → NotRelease k → (S y ≡ T y) × (C y ≡ D y)) where
    sa : Shape (combined R w) (size w)
    sa = shape_of R belongs w ok.0

    sb : Shape (completed R (suc (size w)) x.output) (suc (size w))
    sb = completed_shape R (suc (size w)) belongs x.output ok.1

    -- a predecessor of node n: an old node, or one of the activity's
    pred_agree : (n : ℕ) → ((i : ℕ) (k : Kind) (d : ℕ) → Arrow x.output i n → (i < length x.output) × ((node x.output i).kind ≡ k) × ((node x.output i).duration ≡ d) × NotClaim k × NotRelease k → C (named (suc (size w)) i) ≡ D (named (suc (size w)) i)) → (m : Ident) → (combined R (w ▷ x)).Arrow m (named (suc (size w)) n) → C m ≡ D m
    pred_agree n rec m l = let s = (shape_of R belongs (w ▷ x) ok).source m (named (suc (size w)) n) l in either m s.0 s.1.0 s.1.1 s.2 l
      where
        right : (m : Ident) (k : Kind) (d : ℕ) → Nodes R (suc (size w)) x.output m k d → NotClaim k → NotRelease k → (combined R (w ▷ x)).Arrow m (named (suc (size w)) n) → C m ≡ D m
        right m k d (Nodes.own {n = i} q e f) nc nr l =
            rec i k d
            (ends R (suc (size w)) x.output (named (suc (size w)) i) (named (suc (size w)) n) (from_arrow (combined R w) (completed R (suc (size w)) x.output) (processing w x.input) (size w) sa sb (node_place_lem R (suc (size w)) x.output) (named (suc (size w)) i) (named (suc (size w)) n) refl l))
            (q, e, f, nc, nr)
        right m k d (Nodes.claim q v) nc nr l = absurd nc
        right m k d (Nodes.release q v) nc nr l = absurd nr

        either : (m : Ident) (k : Kind) (d : ℕ) → Joined (combined R w) (completed R (suc (size w)) x.output) m k d → NotRelease k → (combined R (w ▷ x)).Arrow m (named (suc (size w)) n) → C m ≡ D m
        either m k d (Joined.left h nr) nr' l = (before m k d h nr).1
        either m k d (Joined.right h nc) nr l = right m k d h nc nr l

    own_agree : (b n : ℕ) (k : Kind) (d : ℕ) → rank_of x.output n < b → (n < length x.output) × ((node x.output n).kind ≡ k) × ((node x.output n).duration ≡ d) × NotClaim k × NotRelease k → Agree S C T D (named (suc (size w)) n)
    own_agree zero n k d l o = absurd (omega arith)
    own_agree (suc b) n k d l o =
        at_other (combined R (w ▷ x)) S C T D t u (named (suc (size w)) n) k d (Joined.right (Nodes.own o.0 o.1 o.2) o.3) o.3 o.4
        (pred_agree n (λ i k' d' h o'. (own_agree b i k' d' (let r = rises ok.1 i n h in omega arith) o').1))

    right_agree : (y : Ident) (k : Kind) (d : ℕ) → Nodes R (suc (size w)) x.output y k d → NotClaim k → NotRelease k → Agree S C T D y
    right_agree y k d (Nodes.own {n} l e f) nc nr = own_agree (suc (rank_of x.output n)) n k d (omega arith) (l, e, f, nc, nr)
    right_agree y k d (Nodes.claim l v) nc nr = absurd nc
    right_agree y k d (Nodes.release l v) nc nr = absurd nr

    step_agree : (y : Ident) (k : Kind) (d : ℕ) → Joined (combined R w) (completed R (suc (size w)) x.output) y k d → NotRelease k → Agree S C T D y
    step_agree y k d (Joined.left h nr) nr' = before y k d h nr
    step_agree y k d (Joined.right h nc) nr = right_agree y k d h nc nr

  -- two solutions agree at every node that stays
  pub lasting_agree : (w : Word) → GoodWord R belongs w → (S C T D : Ident → ℕ) → Lasting (combined R w) available S C → Lasting (combined R w) available T D → (y : Ident) (k : Kind) (d : ℕ) → (combined R w).Holds y k d → NotRelease k → (S y ≡ T y) × (C y ≡ D y)
  lasting_agree τ ok S C T D t u y k d h nr = opening_agree S C T D t u y k d h nr
  lasting_agree (w ▷ x) ok S C T D t u y k d h nr =
      step_agree w x ok S C T D t u (λ y k d h nr. lasting_agree w ok.0 S C T D (lasting_left w x ok S C t) (lasting_left w x ok T D u) y k d h nr) y k d h nr

  -- Def. 11 has at most one solution on the combined activity
  pub unique : (w : Word) → GoodWord R belongs w → (S C T D : Ident → ℕ) → Timing (combined R w) available S C → Timing (combined R w) available T D → (y : Ident) (k : Kind) (d : ℕ) → (combined R w).Holds y k d → (S y ≡ T y) × (C y ≡ D y)
  unique w ok S C T D t u y k d h = go (is_release_lem k)
    where
      kept : (y : Ident) (k : Kind) (d : ℕ) → (combined R w).Holds y k d → NotRelease k → (S y ≡ T y) × (C y ≡ D y)
      kept = lasting_agree w ok S C T D (lasting (combined R w) available S C t) (lasting (combined R w) available T D u)

      go : ((r : ℕ) × (k ≡ Release r)) ⊎ NotRelease k → (S y ≡ T y) × (C y ≡ D y)
      go (inr nr) = kept y k d h nr
      go (inl i) =
          let h1 = subst (λ (z : Kind). (combined R w).Holds y z d) i.1 h in
          let e = largest_same (λ (m : Ident). (combined R w).Arrow m y) C D (S y) (T y) (λ m a. let s = (shape_of R belongs w ok).source m y a in (kept m s.0 s.1.0 s.1.1 s.2).1) (t.others y (Release i.0) d h1 tt) (u.others y (Release i.0) d h1 tt) in
          let f = t.ends y k d h in
          let g = u.ends y k d h in
          (e, (omega arith))

-- ---- a word and its beginnings

module _ (R : ℕ) (belongs available : ℕ → ℕ) where
  pub good_beginning : (v w : Word) → GoodWord R belongs w → Begins v w → GoodWord R belongs v
  good_beginning v w ok here = ok
  good_beginning v w ok (longer {w = u} b) = good_beginning v u ok.0 b

  pub lasting_beginning : (v w : Word) → GoodWord R belongs w → (S C : Ident → ℕ) → Begins v w → Lasting (combined R w) available S C → Lasting (combined R v) available S C
  lasting_beginning v w ok S C here t = t
  lasting_beginning v w ok S C (longer {w = u} {x} b) t = lasting_beginning v u ok.0 S C b (lasting_left R belongs available u x ok S C t)

  pub still_holds : (v w : Word) → Begins v w → (y : Ident) (k : Kind) (d : ℕ) → (combined R v).Holds y k d → NotRelease k → (combined R w).Holds y k d
  still_holds v w here y k d h nr = h
  still_holds v w (longer {w = u} b) y k d h nr = Joined.left (still_holds v u b y k d h nr) nr

  -- the times of a beginning's nodes are those of the whole word
  pub stable_beginning : (v w : Word) → GoodWord R belongs w → Begins v w → (S C T D : Ident → ℕ) → Timing (combined R v) available S C → Timing (combined R w) available T D → (y : Ident) (k : Kind) (d : ℕ) → (combined R v).Holds y k d → NotRelease k → (combined R w).Holds y k d × (S y ≡ T y) × (C y ≡ D y)
  stable_beginning v w ok b S C T D t u y k d h nr =
      let a = lasting_agree R belongs available v (good_beginning v w ok b) S C T D (lasting (combined R v) available S C t) (lasting_beginning v w ok T D b (lasting (combined R w) available T D u)) y k d h nr in
      (still_holds v w b y k d h nr, a.0, a.1)

-- ---- what is before a node has completed when it starts

pub before_ends : (G : Graph) (q : ℕ) (available : ℕ → ℕ) (S C : Ident → ℕ) → Shape G q → Timing G available S C → (m n : Ident) → Before G m n → C m ≤ S n
before_ends G q available S C g t m n (one h) = let s = g.target m n h in (t.others n s.0 s.1.0 s.1.1 s.2).bound m h
before_ends G q available S C g t m n (more {k} c h) =
    let s = g.target k n h in
    let r = g.source k n h in
    let u = before_ends G q available S C g t m k c in
    let v = (t.others n s.0 s.1.0 s.1.1 s.2).bound k h in
    let z = t.ends k r.0 r.1.0 r.1.1 in
    omega arith
