-- The engine's queues are the instances of the combined activity, in order.
use Rattle.std.specs.Prelude.{◌≡◌, refl, ◌⊎◌, ◌↔◌, List, ◌∷◌, ◌++◌, map, ℕ, suc, ◌+◌, ◌≤◌, length}
use Rattle.std.proofs.Common.{sym, ap, ◌∙◌, subst, inl, inr, arith}
use Rattle.basis.specs.Lists.{Among, Distinct, one, more}
use Rattle.basis.proofs.Laws.Lists.{among_left, among_right, among_either, cut, distinct_left, distinct_both, fewer, cut_same, seam, among_map, map_among, distinct_map, cut_map}
use Rattle.plan.specs.declared.Kind.{Kind}
use Rattle.plan.specs.declared.Kind.TheVariants.{Event}
use Rattle.plan.specs.declared.Node.{Node}
use Rattle.times_combined.proofs.Laws.Accepted.{Good}
use Rattle.times_combined.specs.Combined.{Ident, named, Graph, Is, Before, Nodes, completed, Processing, Instance, Joined, Links, sequenced}
use Rattle.times_combined.proofs.Laws.Engine.{Emits}
use Rattle.times_combined.proofs.Laws.Shape.{place, Shape, completed_shape, node_place_lem, source_place}
use Rattle.times_combined.proofs.Laws.Chains.{to_left, left_kept, from_right, right_kept, in_activity, in_completed}
use Rattle.activity.specs.Rules as Rules

-- the nodes of e, in the order of "before"
pub record Listing (G : Graph) (e : ℕ) (xs : List Ident) : Type 0 where
  pub all : (x : Ident) → Among x xs → Is G x (Event e)
  pub only : (x : Ident) → Is G x (Event e) → Among x xs
  pub distinct : Distinct xs
  pub ordered : (ys : List Ident) (x : Ident) (zs : List Ident) → xs ≡ ys ++ (x ∷ zs) → (y : Ident) → Is G y (Event e) → (Before G y x ↔ Among y ys)

-- ---- instance k is the member with k - 1 before it

pub instance_cut : (G : Graph) (e : ℕ) (xs : List Ident) → Listing G e xs → (k : ℕ) (x : Ident) → Instance G e (k + 1) x → (ys : List Ident) × (zs : List Ident) × (xs ≡ ys ++ (x ∷ zs)) × (length ys ≡ k)
instance_cut G e xs l k x h = (c.0, c.1, c.2, same)
  where
    c : (ys : List Ident) × (zs : List Ident) × (xs ≡ ys ++ (x ∷ zs))
    c = cut x xs (l.only x h.event)

    is : (y : Ident) → Among y c.0 → Is G y (Event e)
    is y m = l.all y (subst (Among y) (sym c.2) (among_left y c.0 (x ∷ c.1) m))

    less : length c.0 ≤ length h.number.list
    less = fewer c.0 h.number.list (distinct_left c.0 (x ∷ c.1) (subst Distinct c.2 l.distinct)) (λ y m. h.number.only y (is y m, (l.ordered c.0 x c.1 c.2 y (is y m)).1 m))

    no_less : length h.number.list ≤ length c.0
    no_less = fewer h.number.list c.0 h.number.distinct (λ y m. (l.ordered c.0 x c.1 c.2 y (h.number.all y m).0).0 (h.number.all y m).1)

    same : length c.0 ≡ k
    same = let f = h.number.long in omega (arith, less, no_less)

module _ (G : Graph) (e : ℕ) (past : List Ident) (i : Ident) (rest : List Ident) (l : Listing G e (past ++ (i ∷ rest))) where
  pub next_instance : Instance G e (length past + 1) i
  next_instance = record {
    event = l.all i (among_right i past (i ∷ rest) (inl refl));
    number = record {
      list = past;
      distinct = distinct_left past (i ∷ rest) l.distinct;
      long = omega arith;
      all = λ y h. let is = l.all y (among_left y past (i ∷ rest) h) in (is, (l.ordered past i rest refl y is).1 h);
      only = λ y h. (l.ordered past i rest refl y h.0).0 h.1;
    };
  }

  pub only_instance : (x : Ident) → Instance G e (length past + 1) x → i ≡ x
  only_instance x h = let c = instance_cut G e (past ++ (i ∷ rest)) l (length past) x h in cut_same past c.0 i x rest c.1 (sym c.3) c.2

-- ---- one more activity

named_same : {q r m n : ℕ} → named q m ≡ named r n → m ≡ n
named_same e = cc

chain_source : (A : Graph) (q : ℕ) → Shape A q → (m n : Ident) → Before A m n → place m ≤ q
chain_source A q sa m n (one h) = source_place sa m n h
chain_source A q sa m n (more {k} c h) = chain_source A q sa m k c

module _ (R : ℕ) (belongs : ℕ → ℕ) (A : Graph) (p : Processing) (q : ℕ) (a : List Node) (sa : Shape A q) (ok : Good R belongs a)
    (e : ℕ) (xs : List Ident) (l : Listing A e xs) (ns : List ℕ) (em : Emits a e ns) where
  sb : Shape (completed R (suc q) a) (suc q)
  sb = completed_shape R (suc q) belongs a ok

  old_place : (x : Ident) → Among x xs → place x ≤ q
  old_place x h = let i = l.all x h in sa.places x (Event e) i.0 i.1

  new_place : (x : Ident) → Among x (map (named (suc q)) ns) → place x ≡ suc q
  new_place x h = let c = map_among (named (suc q)) x ns h in ap place c.2

  new_is : (n : ℕ) → Among n ns → Is (completed R (suc q) a) (named (suc q) n) (Event e)
  new_is n h = let i = em.all n h in ((Rules.node a n).duration, Nodes.own i.within i.kind refl)

  -- an event of the right is one of the new
  own_event : (x : Ident) (k : Kind) (d : ℕ) → k ≡ Event e → Nodes R (suc q) a x k d → (n : ℕ) × Among n ns × (x ≡ named (suc q) n)
  own_event x k d c (Nodes.own {n} i f g) = (n, em.only n (record { within = i; kind = f ∙ c }), refl)
  own_event x k d c (Nodes.claim i u) = absurd (let z : ◌≡◌ {A = ℕ} 0 1 = cc in omega arith)
  own_event x k d c (Nodes.release i u) = absurd (let z : ◌≡◌ {A = ℕ} 0 1 = cc in omega arith)

  -- an event of the whole is an old one or a new one
  either : (x : Ident) (k : Kind) (d : ℕ) → k ≡ Event e → Joined A (completed R (suc q) a) x k d → Is A x (Event e) ⊎ ((n : ℕ) × Among n ns × (x ≡ named (suc q) n))
  either x k d c (Joined.left h nr) = inl (d, subst (λ (z : Kind). A.Holds x z d) c h)
  either x k d c (Joined.right h nc) = inr (own_event x k d c h)

  all_of : (x : Ident) → Among x (xs ++ map (named (suc q)) ns) → Is (sequenced A p (completed R (suc q) a)) x (Event e)
  all_of x h = go (among_either x xs (map (named (suc q)) ns) h)
    where
      go : Among x xs ⊎ Among x (map (named (suc q)) ns) → Is (sequenced A p (completed R (suc q) a)) x (Event e)
      go (inl i) = let s = l.all x i in (s.0, Joined.left s.1 tt)
      go (inr i) = let c = map_among (named (suc q)) x ns i in let s = new_is c.0 c.1 in subst (λ (z : Ident). Is (sequenced A p (completed R (suc q) a)) z (Event e)) (sym c.2) (s.0, Joined.right s.1 tt)

  only_of : (x : Ident) → Is (sequenced A p (completed R (suc q) a)) x (Event e) → Among x (xs ++ map (named (suc q)) ns)
  only_of x h = go (either x (Event e) h.0 refl h.1)
    where
      go : Is A x (Event e) ⊎ ((n : ℕ) × Among n ns × (x ≡ named (suc q) n)) → Among x (xs ++ map (named (suc q)) ns)
      go (inl i) = among_left x xs (map (named (suc q)) ns) (l.only x i)
      go (inr i) = among_right x xs (map (named (suc q)) ns) (subst (λ (z : Ident). Among z (map (named (suc q)) ns)) (sym i.2) (among_map (named (suc q)) i.0 ns i.1))

  distinct_of : Distinct (xs ++ map (named (suc q)) ns)
  distinct_of = distinct_both xs (map (named (suc q)) ns) l.distinct (distinct_map (named (suc q)) (λ m n h. named_same h) ns em.distinct) (λ x h i. let u = old_place x h in let v = new_place x i in absurd (omega arith))

  -- before an old one stand the old ones as before
  old_order : (ys : List Ident) (x : Ident) (us : List Ident) → xs ≡ ys ++ (x ∷ us) → (y : Ident) → Is A y (Event e) ⊎ ((m : ℕ) × Among m ns × (y ≡ named (suc q) m)) → (Before (sequenced A p (completed R (suc q) a)) y x ↔ Among y ys)
  old_order ys x us f y o = (there o, back)
    where
      member : (z : Ident) → Among z (ys ++ (x ∷ us)) → Is A z (Event e)
      member z h = l.all z (subst (Among z) (sym f) h)

      is : Is A x (Event e)
      is = member x (among_right x ys (x ∷ us) (inl refl))

      left : Before (sequenced A p (completed R (suc q) a)) y x → Before A y x
      left b = to_left A (completed R (suc q) a) p q sa sb (node_place_lem R (suc q) a) y x (sa.places x (Event e) is.0 is.1) b

      there : Is A y (Event e) ⊎ ((m : ℕ) × Among m ns × (y ≡ named (suc q) m)) → Before (sequenced A p (completed R (suc q) a)) y x → Among y ys
      there (inl i) b = (l.ordered ys x us f y i).0 (left b)
      there (inr i) b = let u = chain_source A q sa y x (left b) in let v = ap place i.2 in absurd (omega arith)

      back : Among y ys → Before (sequenced A p (completed R (suc q) a)) y x
      back h = left_kept A (completed R (suc q) a) p q sa sb (node_place_lem R (suc q) a) y x (Event e, is, tt) ((l.ordered ys x us f y (member y (among_left y ys (x ∷ us) h))).1 h)

  -- before a new one stand all old ones, and the new ones that are before it in the activity
  both_new : (vs : List ℕ) (n : ℕ) (ws : List ℕ) → ns ≡ vs ++ (n ∷ ws) → (m : ℕ) → Among m ns → (Before (sequenced A p (completed R (suc q) a)) (named (suc q) m) (named (suc q) n) ↔ Among (named (suc q) m) (xs ++ map (named (suc q)) vs))
  both_new vs n ws f m i = (there, λ h. back (among_either (named (suc q) m) xs (map (named (suc q)) vs) h))
    where
      there : Before (sequenced A p (completed R (suc q) a)) (named (suc q) m) (named (suc q) n) → Among (named (suc q) m) (xs ++ map (named (suc q)) vs)
      there b =
          let c = from_right A (completed R (suc q) a) p q sa sb (node_place_lem R (suc q) a) (named (suc q) m) (named (suc q) n) refl b in
          among_right (named (suc q) m) xs (map (named (suc q)) vs) (among_map (named (suc q)) m vs ((em.ordered vs n ws f m i).0 (in_activity R (suc q) a (suc q) m (suc q) n c)))

      back : Among (named (suc q) m) xs ⊎ Among (named (suc q) m) (map (named (suc q)) vs) → Before (sequenced A p (completed R (suc q) a)) (named (suc q) m) (named (suc q) n)
      back (inl h) = let u = old_place (named (suc q) m) h in absurd (omega arith)
      back (inr h) =
          let c = map_among (named (suc q)) (named (suc q) m) vs h in
          let b = (em.ordered vs n ws f m i).1 (subst (λ (z : ℕ). Among z vs) (sym (named_same c.2)) c.1) in
          right_kept A (completed R (suc q) a) p q sa sb (node_place_lem R (suc q) a) (named (suc q) m) (named (suc q) n) (Event e, new_is m i, tt) (in_completed R (suc q) a m n b)

  new_order : (vs : List ℕ) (n : ℕ) (ws : List ℕ) → ns ≡ vs ++ (n ∷ ws) → (y : Ident) → Is A y (Event e) ⊎ ((m : ℕ) × Among m ns × (y ≡ named (suc q) m)) → (Before (sequenced A p (completed R (suc q) a)) y (named (suc q) n) ↔ Among y (xs ++ map (named (suc q)) vs))
  new_order vs n ws f y (inl i) =
      (λ b. among_left y xs (map (named (suc q)) vs) (l.only y i), λ h. one (Links.event e i (new_is n (subst (Among n) (sym f) (among_right n vs (n ∷ ws) (inl refl))))))
  new_order vs n ws f y (inr i) =
      subst (λ (z : Ident). Before (sequenced A p (completed R (suc q) a)) z (named (suc q) n) ↔ Among z (xs ++ map (named (suc q)) vs)) (sym i.2) (both_new vs n ws f i.0 i.1)

  order-of : (ys : List Ident) (x : Ident) (zs : List Ident) → xs ++ map (named (suc q)) ns ≡ ys ++ (x ∷ zs) → (y : Ident) → Is (sequenced A p (completed R (suc q) a)) y (Event e) → (Before (sequenced A p (completed R (suc q) a)) y x ↔ Among y ys)
  order-of ys x zs f y h = go (seam xs (map (named (suc q)) ns) ys x zs f)
    where
      o : Is A y (Event e) ⊎ ((n : ℕ) × Among n ns × (y ≡ named (suc q) n))
      o = either y (Event e) h.0 refl h.1

      go : ((us : List Ident) × (xs ≡ ys ++ (x ∷ us))) ⊎ ((us : List Ident) × (ys ≡ xs ++ us) × (map (named (suc q)) ns ≡ us ++ (x ∷ zs))) → (Before (sequenced A p (completed R (suc q) a)) y x ↔ Among y ys)
      go (inl i) = old_order ys x i.0 i.1 y o
      go (inr i) =
          let c = cut_map (named (suc q)) ns i.0 x zs i.2 in
          subst (λ (l : List Ident). Before (sequenced A p (completed R (suc q) a)) y x ↔ Among y l) (sym (i.1 ∙ ap (λ (l : List Ident). xs ++ l) c.4))
          (subst (λ (z : Ident). Before (sequenced A p (completed R (suc q) a)) y z ↔ Among y (xs ++ map (named (suc q)) c.0)) (sym c.5) (new_order c.0 c.1 c.2 c.3 y o))

  pub listing_grows : Listing (sequenced A p (completed R (suc q) a)) e (xs ++ map (named (suc q)) ns)
  listing_grows = record { all = all_of; only = only_of; distinct = distinct_of; ordered = order-of }
