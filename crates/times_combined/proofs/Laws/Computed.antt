-- What Exec.antt computes of one activity are its times, its releases and the order of its events.
use Rattle.std.specs.Prelude.{◌≡◌, Bool, cond, ◌⊎◌, ◌↔◌, length}
use Rattle.std.proofs.Math.Path.{refl, ap, subst}
use Rattle.std.proofs.Common.{sym, ap₂, ◌∙◌, eq-or-lt_of_le, le_of_suc-le-suc}
use Rattle.std.proofs.Math.Bool.{true, false}
use Rattle.std.proofs.Math.Logic.{inl, inr}
use mathlib.Core.List.{List, [], ◌∷◌, ◌++◌}
use Prim.Native.Nat.{ℕ, zero, suc, ◌+◌, ◌≤◌, ◌<◌, max}
use native.Mathlib.Omega.{arith}
use Rattle.std.proofs.Math.Dec.{ltb}
use borrow.Author.Tests.{eqb-true, eqb-false, ltb-true, ltb-false}
use Rattle.basis.specs.Lists.{Among, Distinct, one, more}
use Rattle.basis.proofs.Laws.Lists.{among_right, among_either}
use Rattle.basis.proofs.Laws.Bools.{clash}
use Rattle.plan.specs.declared.Kind.{Kind}
use Rattle.plan.specs.declared.Kind.TheVariants.{Action, Claim, Release, Event}
use Rattle.plan.specs.declared.Node.{Node}
use Rattle.plan.specs.Plan.{predecessors, is_event}
use Rattle.activity.specs.Rules.{node, Is, Arrow, Before}
use Rattle.times_combined.proofs.Laws.Accepted.{Good}
use Rattle.times_combined.specs.Combined.{NotClaim}
use Rattle.times_combined.proofs.Laws.Engine.{State, raised, Available, Emits, Timed, latest, held}
use Rattle.times_combined.proofs.Laws.Exec.{rank_of, begin_by, begin, end_by, end_of, start_of, insert, emits_below, emits_of, is_release, released_below}
use Rattle.times_combined.proofs.Laws.Shape.{release_same, event_same}
use Rattle.times_combined.proofs.Laws.Ranks.{rises}

-- ---- the times of one activity

latest-same : (C D : ℕ → ℕ) (ms : List ℕ) → ((m : ℕ) → Among m ms → C m ≡ D m) → latest C ms ≡ latest D ms
latest-same C D [] h = refl
latest-same C D (m ∷ ms) h = ap₂ max (h m (inl refl)) (latest-same C D ms (λ k i. h k (inr i)))

begin_claim : (free last : ℕ → ℕ) (m r : ℕ) (k : Kind) → k ≡ Claim r → begin_by free last m k ≡ free r
unfolding begin_by
begin_claim free last m r k e = ap (begin_by free last m) e

begin_other : (free last : ℕ → ℕ) (m : ℕ) (k : Kind) → NotClaim k → begin_by free last m k ≡ max m (held last k)
unfolding begin_by
begin_other free last m (Action a p) nc = refl
begin_other free last m (Claim r) nc = absurd nc
begin_other free last m (Release r) nc = refl
begin_other free last m (Event e) nc = refl

module _ (R : ℕ) (belongs : ℕ → ℕ) (a : List Node) (ok : Good R belongs a) where
  module _ (free last : ℕ → ℕ) where
    begin_same : (C D : ℕ → ℕ) (n : ℕ) → ((m : ℕ) → Among m (predecessors (node a n)) → C m ≡ D m) → begin a free last C n ≡ begin a free last D n
    begin_same C D n h = ap (λ (m : ℕ). begin_by free last m (node a n).kind) (latest-same C D (predecessors (node a n)) h)

    settled : (k j n : ℕ) → n < length a → rank_of a n < k → rank_of a n < j → end_by a free last k n ≡ end_by a free last j n
    unfolding end_by
    settled zero j n l h i = absurd (omega arith)
    settled (suc k) zero n l h i = absurd (omega arith)
    settled (suc k) (suc j) n l h i =
        ap (λ (s : ℕ). s + (node a n).duration)
        (begin_same (end_by a free last k) (end_by a free last j) n
        (λ m q. let arrow : Arrow a m n = record { within = l; from = q } in
        let r = rises ok m n arrow in
        settled k j m (ok.inside m n arrow) (omega arith) (omega arith)))

    pub timed : Timed a free last (start_of a free last) (end_of a free last)
    unfolding end_by
    timed = record {
      claims = λ n r h. begin_claim free last (latest (end_of a free last) (predecessors (node a n))) r (node a n).kind h.kind;
      others = λ n l nc. begin_other free last (latest (end_of a free last) (predecessors (node a n))) (node a n).kind nc;
      ends = λ n l.
          ap (λ (s : ℕ). s + (node a n).duration)
          (begin_same (end_by a free last (rank_of a n)) (end_of a free last) n
          (λ m q. let arrow : Arrow a m n = record { within = l; from = q } in
          settled (rank_of a n) (suc (rank_of a m)) m (ok.inside m n arrow) (rises ok m n arrow) (omega arith)));
    }

  -- ---- the release of a resource

  release_told : (k : Kind) (r : ℕ) → (b : Bool) → is_release k r ≡ b → (b ≡ true → k ≡ Release r) × (b ≡ false → k ≡ Release r → ⊥)
  release_told (Action x p) r b e = (λ t. clash (sym (e ∙ t)), λ f q. let z : ◌≡◌ {A = ℕ} 0 1 = cc in omega arith)
  release_told (Claim x) r b e = (λ t. clash (sym (e ∙ t)), λ f q. let z : ◌≡◌ {A = ℕ} 0 1 = cc in omega arith)
  release_told (Release x) r b e = (λ t. ap Release (eqb-true x r (e ∙ t)), λ f q. eqb-false x r (e ∙ f) (release_same q))
  release_told (Event x) r b e = (λ t. clash (sym (e ∙ t)), λ f q. let z : ◌≡◌ {A = ℕ} 0 1 = cc in omega arith)

  -- v is the completion of a release of r below k; or there is none, and v is c
  abbrev FoundBelow : (ℕ → ℕ) → ℕ → ℕ → ℕ → ℕ → Type 0
  FoundBelow C c r k v = ((n : ℕ) × (n < k) × ((node a n).kind ≡ Release r) × (v ≡ C n)) ⊎ (((n : ℕ) → n < k → (node a n).kind ≡ Release r → ⊥) × (v ≡ c))

  release_found : (C : ℕ → ℕ) (c r k : ℕ) → FoundBelow C c r k (released_below a C c r k)
  unfolding released_below
  release_found C c r zero = inr (λ n l e. absurd (omega arith), refl)
  release_found C c r (suc k) = go (is_release (node a k).kind r) (release_told (node a k).kind r (is_release (node a k).kind r) refl) (release_found C c r k)
    where
      go : (b : Bool) → (b ≡ true → (node a k).kind ≡ Release r) × (b ≡ false → (node a k).kind ≡ Release r → ⊥) → FoundBelow C c r k (released_below a C c r k) → FoundBelow C c r (suc k) (cond b (C k) (released_below a C c r k))
      go true t o = inl (k, omega arith, t.0 refl, refl)
      go false t (inl i) = inl (i.0, (let u = i.1 in omega arith), i.2, i.3)
      go false t (inr i) = inr (λ n l e. elim (eq-or-lt_of_le (le_of_suc-le-suc l)) [ inl q ↦ t.1 refl (subst (λ (z : ℕ). (node a z).kind ≡ Release r) q e) | inr q ↦ i.0 n q e ], i.1)

  pub released : (C : ℕ → ℕ) (s : State) (c r : ℕ) → Available a C s c r (released_below a C (raised s c r) r (length a))
  released C s c r = go (release_found C (raised s c r) r (length a))
    where
      go : FoundBelow C (raised s c r) r (length a) (released_below a C (raised s c r) r (length a)) → Available a C s c r (released_below a C (raised s c r) r (length a))
      go (inl i) = inl (i.0, record { within = i.1; kind = i.2 }, i.3)
      go (inr i) = inr (record { unclaimed = λ n h. (let v = ok.meets.rule_VII n r h in i.0 v.0 v.1.within v.1.kind); unreleased = λ n h. i.0 n h.within h.kind }, i.1)

  -- ---- the nodes of an event, by rank

  event_told : (k : Kind) (f : ℕ) → (b : Bool) → is_event f k ≡ b → (b ≡ true → k ≡ Event f) × (b ≡ false → k ≡ Event f → ⊥)
  event_told (Action x p) r b e = (λ t. clash (sym (e ∙ t)), λ f q. let z : ◌≡◌ {A = ℕ} 0 1 = cc in omega arith)
  event_told (Claim x) r b e = (λ t. clash (sym (e ∙ t)), λ f q. let z : ◌≡◌ {A = ℕ} 0 1 = cc in omega arith)
  event_told (Release x) r b e = (λ t. clash (sym (e ∙ t)), λ f q. let z : ◌≡◌ {A = ℕ} 0 1 = cc in omega arith)
  event_told (Event x) r b e = (λ t. ap Event (eqb-true x r (e ∙ t)), λ f q. eqb-false x r (e ∙ f) (event_same q))

  -- each is of lower rank than all after it
  abbrev Rising : List ℕ → Type 0
  Rising [] = Unit {0}
  Rising (n ∷ ns) = ((m : ℕ) → Among m ns → rank_of a n < rank_of a m) × Rising ns

  -- n in its place among the others
  record Placed (n : ℕ) (ns os : List ℕ) : Type 0 where
    rising : Rising os
    here : Among n os
    kept : (m : ℕ) → Among m ns → Among m os
    only : (m : ℕ) → Among m os → (m ≡ n) ⊎ Among m ns

  place : (n : ℕ) (ns : List ℕ) → Rising ns → ((m : ℕ) → Among m ns → rank_of a m ≡ rank_of a n → ⊥) → Placed n ns (insert (rank_of a) n ns)
  unfolding insert
  place n [] h apart = record { rising = (λ m i. absurd i, tt); here = inl refl; kept = λ m i. absurd i; only = λ m i. elim i [ inl e ↦ inl e | inr j ↦ absurd j ] }
  place n (k ∷ ns) h apart = go (ltb (rank_of a n) (rank_of a k)) refl (place n ns h.1 (λ m i. apart m (inr i)))
    where
      go : (b : Bool) → ltb (rank_of a n) (rank_of a k) ≡ b → Placed n ns (insert (rank_of a) n ns) → Placed n (k ∷ ns) (cond b (n ∷ k ∷ ns) (k ∷ insert (rank_of a) n ns))
      go true f o =
          let l = ltb-true (rank_of a n) (rank_of a k) f in
          record {
            rising = (λ m i. elim i [ inl e ↦ (let u = ap (rank_of a) e in omega arith) | inr j ↦ (let u = h.0 m j in omega arith) ], h);
            here = inl refl;
            kept = λ m i. inr i;
            only = λ m i. i;
          }
      go false f o =
          let l = ltb-false (rank_of a n) (rank_of a k) f in
          record {
            rising = (λ m i. elim (o.only m i) [ inl e ↦ (let u = ap (rank_of a) e in let v = apart k (inl refl) in omega arith) | inr j ↦ h.0 m j ], o.rising);
            here = inr o.here;
            kept = λ m i. elim i [ inl e ↦ inl e | inr j ↦ inr (o.kept m j) ];
            only = λ m i. elim i [ inl e ↦ inr (inl e) | inr j ↦ elim (o.only m j) [ inl e ↦ inl e | inr q ↦ inr (inr q) ] ];
          }

  before_rank : (m n : ℕ) → Before a m n → rank_of a m < rank_of a n
  before_rank m n (one h) = rises ok m n h
  before_rank m n (more {k} c h) = let u = before_rank m k c in let v = rises ok k n h in omega arith

  -- two nodes of an event have different ranks
  apart_rank : (e m n : ℕ) → Is a m (Event e) → Is a n (Event e) → (m ≡ n → ⊥) → rank_of a m ≡ rank_of a n → ⊥
  apart_rank e m n i j d q = elim (ok.meets.rule_XI m n e i j d) [ inl b ↦ (let u = before_rank m n b in omega arith) | inr b ↦ (let u = before_rank n m b in omega arith) ]

  -- the nodes of e below k
  record Gathered (e k : ℕ) (ns : List ℕ) : Type 0 where
    rising : Rising ns
    all : (n : ℕ) → Among n ns → (n < k) × ((node a n).kind ≡ Event e)
    only : (n : ℕ) → n < k → (node a n).kind ≡ Event e → Among n ns

  gather : (e k : ℕ) → k ≤ length a → Gathered e k (emits_below a e k)
  unfolding emits_below
  gather e zero l = record { rising = tt; all = λ n i. absurd i; only = λ n i. absurd (omega arith) }
  gather e (suc k) l = go (is_event e (node a k).kind) (event_told (node a k).kind e (is_event e (node a k).kind) refl) (gather e k (omega arith))
    where
      go : (b : Bool) → (b ≡ true → (node a k).kind ≡ Event e) × (b ≡ false → (node a k).kind ≡ Event e → ⊥) → Gathered e k (emits_below a e k) → Gathered e (suc k) (cond b (insert (rank_of a) k (emits_below a e k)) (emits_below a e k))
      go false t o = record {
        rising = o.rising;
        all = λ n i. let u = o.all n i in (omega arith, u.1);
        only = λ n i q. elim (eq-or-lt_of_le (le_of_suc-le-suc i)) [ inl z ↦ absurd (t.1 refl (subst (λ (j : ℕ). (node a j).kind ≡ Event e) z q)) | inr z ↦ o.only n z q ];
      }
      go true t o = record {
        rising = p.rising;
        all = λ n i. from n (p.only n i);
        only = λ n i q. elim (eq-or-lt_of_le (le_of_suc-le-suc i)) [ inl z ↦ subst (λ (j : ℕ). Among j (insert (rank_of a) k (emits_below a e k))) (sym z) p.here | inr z ↦ p.kept n (o.only n z q) ];
      }
        where
          h : (node a k).kind ≡ Event e
          h = t.0 refl

          p : Placed k (emits_below a e k) (insert (rank_of a) k (emits_below a e k))
          p = place k (emits_below a e k) o.rising (λ m i. let u = o.all m i in apart_rank e m k (record { within = (let v = u.0 in omega arith); kind = u.1 }) (record { within = omega arith; kind = h }) (λ z. let v = u.0 in omega arith))

          from : (n : ℕ) → (n ≡ k) ⊎ Among n (emits_below a e k) → (n < suc k) × ((node a n).kind ≡ Event e)
          from n (inl z) = (omega arith, subst (λ (j : ℕ). (node a j).kind ≡ Event e) (sym z) h)
          from n (inr i) = let u = o.all n i in ((let v = u.0 in omega arith), u.1)

  rising_distinct : (ns : List ℕ) → Rising ns → Distinct ns
  rising_distinct [] h = tt
  rising_distinct (n ∷ ns) h = (λ i. let u = h.0 n i in absurd (omega arith), rising_distinct ns h.1)

  -- in a rising list, before a member stand those of lower rank
  rising_cut : (ms : List ℕ) (n : ℕ) (os : List ℕ) → Rising (ms ++ (n ∷ os)) → (m : ℕ) → (Among m ms → rank_of a m < rank_of a n) × (Among m os → rank_of a n < rank_of a m)
  rising_cut [] n os h m = (λ i. absurd i, λ i. h.0 m i)
  rising_cut (k ∷ ms) n os h m =
      let r = rising_cut ms n os h.1 m in
      (λ i. elim i [ inl e ↦ (let u = h.0 n (among_right n ms (n ∷ os) (inl refl)) in let v = ap (rank_of a) e in omega arith) | inr j ↦ r.0 j ], r.1)

  pub emits : (e : ℕ) → Emits a e (emits_of a e)
  emits e = record { all = all_of; only = λ n h. g.only n h.within h.kind; distinct = rising_distinct (emits_of a e) g.rising; ordered = order }
    where
      g : Gathered e (length a) (emits_of a e)
      g = gather e (length a) (omega arith)

      all_of : (n : ℕ) → Among n (emits_of a e) → Is a n (Event e)
      all_of n i = let u = g.all n i in record { within = u.0; kind = u.1 }

      order : (ms : List ℕ) (n : ℕ) (os : List ℕ) → emits_of a e ≡ ms ++ (n ∷ os) → (m : ℕ) → Among m (emits_of a e) → (Before a m n ↔ Among m ms)
      order ms n os f m i = (λ b. there b (among_either m ms (n ∷ os) (subst (Among m) f i)), back)
        where
          r : (Among m ms → rank_of a m < rank_of a n) × (Among m os → rank_of a n < rank_of a m)
          r = rising_cut ms n os (subst Rising f g.rising) m

          there : Before a m n → Among m ms ⊎ Among m (n ∷ os) → Among m ms
          there b (inl j) = j
          there b (inr (inl q)) = let u = before_rank m n b in let v = ap (rank_of a) q in absurd (omega arith)
          there b (inr (inr j)) = let u = before_rank m n b in let v = r.1 j in absurd (omega arith)

          back : Among m ms → Before a m n
          back j =
              let u = r.0 j in
              elim (ok.meets.rule_XI m n e (all_of m i) (all_of n (subst (Among n) (sym f) (among_right n ms (n ∷ os) (inl refl)))) (λ q. let v = ap (rank_of a) q in omega arith)) [ inl b ↦ b | inr b ↦ (let v = before_rank n m b in absurd (omega arith)) ]
