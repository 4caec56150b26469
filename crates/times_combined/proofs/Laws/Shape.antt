-- The form of a combined activity: places, labels, and what stands at the ends of an arrow.
use Rattle.std.specs.Prelude.{◌≡◌, refl, ◌⊎◌, List, ℕ, suc, ◌≤◌, ◌<◌, length}
use Rattle.std.proofs.Common.{sym, ap, ◌∙◌, subst, inl, inr, arith}
use Rattle.plan.specs.declared.Kind.{Kind}
use Rattle.plan.specs.declared.Kind.TheVariants.{Action, Claim, Release, Event}
use Rattle.plan.specs.declared.Node.{Node}
use Rattle.activity.specs.Rules.{node, Unnamed}
use Rattle.times_combined.proofs.Laws.Accepted.{Good}
use Rattle.times_combined.specs.Combined.{Ident, named, claimed, freed, NotClaim, NotRelease, Graph, Is, Nodes, Arrows, completed, Processing, Joined, Links, sequenced}

abbrev pub place : Ident → ℕ
place (named q n) = q
place (claimed q r) = q
place (freed q r) = q

-- ---- labels

pub claim_release : {A : Type 0} {r s : ℕ} → Claim r ≡ Release s → A
claim_release e = absurd (let z : ◌≡◌ {A = ℕ} 0 1 = cc in omega arith)

pub release_same : {r s : ℕ} → Release r ≡ Release s → r ≡ s
release_same e = cc

pub claim_same : {r s : ℕ} → Claim r ≡ Claim s → r ≡ s
claim_same e = cc

pub event_same : {r s : ℕ} → Event r ≡ Event s → r ≡ s
event_same e = cc

pub is_claim_lem : (k : Kind) → ((r : ℕ) × (k ≡ Claim r)) ⊎ NotClaim k
is_claim_lem (Action a p) = inr tt
is_claim_lem (Claim r) = inl (r, refl)
is_claim_lem (Release r) = inr tt
is_claim_lem (Event e) = inr tt

pub is_release_lem : (k : Kind) → ((r : ℕ) × (k ≡ Release r)) ⊎ NotRelease k
is_release_lem (Action a p) = inr tt
is_release_lem (Claim r) = inr tt
is_release_lem (Release r) = inl (r, refl)
is_release_lem (Event e) = inr tt

pub not_claim : (k : Kind) → ((r : ℕ) → k ≡ Claim r → ⊥) → NotClaim k
not_claim k h = elim (is_claim_lem k) [ inl c ↦ absurd (h c.0 c.1) | inr n ↦ n ]

pub not_release : (k : Kind) → ((r : ℕ) → k ≡ Release r → ⊥) → NotRelease k
not_release k h = elim (is_release_lem k) [ inl c ↦ absurd (h c.0 c.1) | inr n ↦ n ]

-- ---- the form

pub record Shape (G : Graph) (q : ℕ) : Type 0 where
  pub places : (x : Ident) (k : Kind) (d : ℕ) → G.Holds x k d → place x ≤ q
  pub labels : (x : Ident) (k l : Kind) (c d : ℕ) → G.Holds x k c → G.Holds x l d → k ≡ l
  pub source : (m n : Ident) → G.Arrow m n → (k : Kind) × Is G m k × NotRelease k
  pub target : (m n : Ident) → G.Arrow m n → (k : Kind) × Is G n k × NotClaim k
  pub single : (x y : Ident) (r : ℕ) → Is G x (Release r) → Is G y (Release r) → x ≡ y

-- the place of an arrow's ends
pub source_place : {G : Graph} {q : ℕ} → Shape G q → (m n : Ident) → G.Arrow m n → place m ≤ q
source_place g m n h = let s = g.source m n h in g.places m s.0 s.1.0 s.1.1

pub target_place : {G : Graph} {q : ℕ} → Shape G q → (m n : Ident) → G.Arrow m n → place n ≤ q
target_place g m n h = let s = g.target m n h in g.places n s.0 s.1.0 s.1.1

-- ---- a completed activity

module _ (R q : ℕ) (a : List Node) where
  pub node_place_lem : (x : Ident) (k : Kind) (d : ℕ) → Nodes R q a x k d → place x ≡ q
  node_place_lem x k d (Nodes.own l e f) = refl
  node_place_lem x k d (Nodes.claim l u) = refl
  node_place_lem x k d (Nodes.release l u) = refl

  -- what a node of the completed activity is, by cases on its identity
  abbrev pub Sort : Ident → Kind → ℕ → Type 0
  Sort (named p n) k d = (n < length a) × ((node a n).kind ≡ k) × ((node a n).duration ≡ d)
  Sort (claimed p r) k d = (r < R) × Unnamed a r × (k ≡ Claim r) × (d ≡ 0)
  Sort (freed p r) k d = (r < R) × Unnamed a r × (k ≡ Release r) × (d ≡ 0)

  pub sort : (x : Ident) (k : Kind) (d : ℕ) → Nodes R q a x k d → Sort x k d
  sort x k d (Nodes.own l e f) = (l, e, f)
  sort x k d (Nodes.claim l u) = (l, u, refl, refl)
  sort x k d (Nodes.release l u) = (l, u, refl, refl)

  one_label : (x : Ident) (k l : Kind) (c d : ℕ) → Sort x k c → Sort x l d → k ≡ l
  one_label (named p n) k l c d s t = sym s.1 ∙ t.1
  one_label (claimed p r) k l c d s t = s.2 ∙ sym t.2
  one_label (freed p r) k l c d s t = s.2 ∙ sym t.2

module _ (R q : ℕ) (belongs : ℕ → ℕ) (a : List Node) (ok : Good R belongs a) where
  source_of : (m n : Ident) → Arrows R q a m n → (k : Kind) × Is (completed R q a) m k × NotRelease k
  source_of m n (Arrows.own {m = i} {n = j} h) =
      ((node a i).kind, ((node a i).duration, Nodes.own (ok.inside i j h) refl refl), not_release (node a i).kind (λ r e. ok.meets.rule_IX i j r (record { within = ok.inside i j h; kind = e }) h))
  source_of m n (Arrows.added {r} l u) = (Claim r, (0, Nodes.claim l u), tt)

  target_of : (m n : Ident) → Arrows R q a m n → (k : Kind) × Is (completed R q a) n k × NotClaim k
  target_of m n (Arrows.own {m = i} {n = j} h) =
      ((node a j).kind, ((node a j).duration, Nodes.own h.within refl refl), not_claim (node a j).kind (λ r e. ok.meets.rule_VIII i j r (record { within = h.within; kind = e }) h))
  target_of m n (Arrows.added {r} l u) = (Release r, (0, Nodes.release l u), tt)

  same_release : (x y : Ident) (r c d : ℕ) → place x ≡ q → place y ≡ q → Sort R q a x (Release r) c → Sort R q a y (Release r) d → x ≡ y
  same_release (named p n) (named p' m) r c d e f s t = ap (λ (z : ℕ). named z n) (e ∙ sym f) ∙ ap (λ (z : ℕ). named p' z) (ok.meets.rule_III n m r (record { within = s.0; kind = s.1 }) (record { within = t.0; kind = t.1 }))
  same_release (named p n) (claimed p' z) r c d e f s t = claim_release (sym t.2)
  same_release (named p n) (freed p' z) r c d e f s t = absurd (t.1.unreleased n (record { within = s.0; kind = s.1 ∙ t.2 }))
  same_release (claimed p z) y r c d e f s t = claim_release (sym s.2)
  same_release (freed p z) (named p' m) r c d e f s t = absurd (s.1.unreleased m (record { within = t.0; kind = t.1 ∙ s.2 }))
  same_release (freed p z) (claimed p' y) r c d e f s t = claim_release (sym t.2)
  same_release (freed p z) (freed p' y) r c d e f s t = ap (λ (u : ℕ). freed u z) (e ∙ sym f) ∙ ap (λ (u : ℕ). freed p' u) (release_same (sym s.2 ∙ t.2))

  pub completed_shape : Shape (completed R q a) q
  completed_shape = record {
    places = λ x k d h. let e = node_place_lem R q a x k d h in omega arith;
    labels = λ x k l c d h i. one_label R q a x k l c d (sort R q a x k c h) (sort R q a x l d i);
    source = source_of;
    target = target_of;
    single = λ x y r h i. same_release x y r h.0 i.0 (node_place_lem R q a x _ _ h.1) (node_place_lem R q a y _ _ i.1) (sort R q a x _ _ h.1) (sort R q a y _ _ i.1);
  }

-- ---- two activities in sequence

module _ (A B : Graph) (p : Processing) (q : ℕ) (sa : Shape A q) (sb : Shape B (suc q)) (after : (x : Ident) (k : Kind) (d : ℕ) → B.Holds x k d → place x ≡ suc q) where
  -- nothing stands in both
  pub apart : {Z : Type 0} (x : Ident) (k l : Kind) (c d : ℕ) → A.Holds x k c → B.Holds x l d → Z
  apart x k l c d h i = let u = sa.places x k c h in let v = after x l d i in absurd (omega arith)

  joined_labels : (x : Ident) (k l : Kind) (c d : ℕ) → Joined A B x k c → Joined A B x l d → k ≡ l
  joined_labels x k l c d (Joined.left h nr) (Joined.left i nr') = sa.labels x k l c d h i
  joined_labels x k l c d (Joined.left h nr) (Joined.right i nc) = apart x k l c d h i
  joined_labels x k l c d (Joined.right h nc) (Joined.left i nr) = apart x l k d c i h
  joined_labels x k l c d (Joined.right h nc) (Joined.right i nc') = sb.labels x k l c d h i

  joined_places : (x : Ident) (k : Kind) (d : ℕ) → Joined A B x k d → place x ≤ suc q
  joined_places x k d (Joined.left h nr) = let u = sa.places x k d h in omega arith
  joined_places x k d (Joined.right h nc) = sb.places x k d h

  -- an instance, or what precedes a release, is a node of the left that stays; what follows a claim, one of the right
  kept_left : (m n : Ident) → A.Arrow m n → (k : Kind) × Is (sequenced A p B) m k × NotRelease k
  kept_left m n h = let s = sa.source m n h in (s.0, (s.1.0, Joined.left s.1.1 s.2), s.2)

  kept_right : (m n : Ident) → B.Arrow m n → (k : Kind) × Is (sequenced A p B) n k × NotClaim k
  kept_right m n h = let s = sb.target m n h in (s.0, (s.1.0, Joined.right s.1.1 s.2), s.2)

  joined_source : (m n : Ident) → Links A B p m n → (k : Kind) × Is (sequenced A p B) m k × NotRelease k
  joined_source m n (Links.left h i nr) = kept_left m n h
  joined_source m n (Links.right {k} h i nc) =
      let s = sb.source m n h in
      (k, (i.0, Joined.right i.1 nc), subst NotRelease (sb.labels m s.0 k s.1.0 i.0 s.1.1 i.1) s.2)
  joined_source m n (Links.resource r h c) = kept_left m h.by h.then
  joined_source m n (Links.event e i j) = (Event e, (i.0, Joined.left i.1 tt), tt)
  joined_source m n (Links.processed e k r f i c) = (Event e, (i.event.0, Joined.left i.event.1 tt), tt)

  joined_target : (m n : Ident) → Links A B p m n → (k : Kind) × Is (sequenced A p B) n k × NotClaim k
  joined_target m n (Links.left {k} h i nr) =
      let s = sa.target m n h in
      (k, (i.0, Joined.left i.1 nr), subst NotClaim (sa.labels n s.0 k s.1.0 i.0 s.1.1 i.1) s.2)
  joined_target m n (Links.right h i nc) = kept_right m n h
  joined_target m n (Links.resource r h c) = kept_right c.by n c.then
  joined_target m n (Links.event e i j) = (Event e, (j.0, Joined.right j.1 tt), tt)
  joined_target m n (Links.processed e k r f i c) = kept_right c.by n c.then

  -- a release of the whole is one of the right
  pub right_release : (x : Ident) (r d : ℕ) → Joined A B x (Release r) d → B.Holds x (Release r) d
  right_release x r d h = go (Release r) refl h
    where
      go : (k : Kind) → k ≡ Release r → Joined A B x k d → B.Holds x (Release r) d
      go k e (Joined.left i nr) = absurd (subst NotRelease e nr)
      go k e (Joined.right i nc) = subst (λ (l : Kind). B.Holds x l d) e i

  not_left : {Z : Type 0} (m n : Ident) → B.Arrow m n → place n ≤ q → Z
  not_left m n h l = let s = sb.target m n h in let u = after n s.0 s.1.0 s.1.1 in absurd (omega arith)

  -- an arrow to a node of the left is one of the left
  pub left_arrow : (m n : Ident) → place n ≤ q → Links A B p m n → A.Arrow m n
  left_arrow m n l (Links.left h i nr) = h
  left_arrow m n l (Links.right h i nc) = not_left m n h l
  left_arrow m n l (Links.resource r h i) = not_left i.by n i.then l
  left_arrow m n l (Links.event e i j) = let u = after n (Event e) j.0 j.1 in absurd (omega arith)
  left_arrow m n l (Links.processed e k r f i j) = not_left j.by n j.then l

  pub sequenced_shape : Shape (sequenced A p B) (suc q)
  sequenced_shape = record {
    places = joined_places;
    labels = joined_labels;
    source = joined_source;
    target = joined_target;
    single = λ x y r h i. sb.single x y r (h.0, right_release x r h.0 h.1) (i.0, right_release y r i.0 i.1);
  }
