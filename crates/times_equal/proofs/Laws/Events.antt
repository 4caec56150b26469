-- The order of the nodes that are done, restricted to one event, is the order of "before". Assumes nothing.
use Rattle.std.specs.Prelude.{◌≡◌, Bool, ◌⊎◌, ◌↔◌, ℕ, zero, suc, ◌+◌, ◌<◌, length, get_or}
use Rattle.std.proofs.Math.Path.{refl, sym, ap, subst}
use Rattle.std.proofs.Common.{◌∙◌, arith, le_antisymm, eqb-true, eq-eqb}
use Rattle.std.proofs.Math.Bool.{true, false, cond}
use Rattle.std.proofs.Math.Logic.{inl, inr}
use mathlib.Core.List.{List, [], ◌∷◌, ◌++◌, append_assoc}
use Rattle.basis.specs.Lists.{Among, Distinct, one, more}
use Rattle.basis.proofs.Laws.Lists.{among_left, among_right, cut, fewer, head_same, tail_same, nil_cons, cut_apart}
use Rattle.basis.proofs.Laws.Bools.{clash}
use Rattle.plan.specs.Plan.{past_node, predecessors, is_event, events_in}
use Rattle.plan.specs.declared.Kind.{Kind}
use Rattle.plan.specs.declared.Node.{Node}
use Rattle.activity.specs.Rules.{node, Is, Before}
use Rattle.times_combined.proofs.Laws.Engine.{Emits}
use Rattle.times_equal.proofs.Laws.Seen.{of_event}

-- ---- the test for an event

pub is_event_lem : (k : Kind) (e : ℕ) → is_event e k ≡ true → k ≡ Kind.Event e
is_event_lem (Kind.Action x p) e h = clash (sym h)
is_event_lem (Kind.Claim r) e h = clash (sym h)
is_event_lem (Kind.Release r) e h = clash (sym h)
is_event_lem (Kind.Event f) e h = ap Kind.Event (eqb-true f e h)

pub event_is : (k : Kind) (e : ℕ) → k ≡ Kind.Event e → is_event e k ≡ true
event_is k e h = ap (λ (z : Kind). is_event e z) h ∙ eq-eqb e e refl

module _ (a : List Node) (e : ℕ) where
  -- ---- members

  of_all : (ns : List ℕ) (n : ℕ) → Among n (of_event a e ns) → Among n ns × ((node a n).kind ≡ Kind.Event e)
  unfolding of_event
  of_all [] n i = absurd i
  of_all (k ∷ ns) n i = go (is_event e (node a k).kind) refl i (of_all ns n)
    where
      go : (b : Bool) → is_event e (node a k).kind ≡ b → Among n (cond b (k ∷ of_event a e ns) (of_event a e ns)) → (Among n (of_event a e ns) → Among n ns × ((node a n).kind ≡ Kind.Event e)) → Among n (k ∷ ns) × ((node a n).kind ≡ Kind.Event e)
      go true q (inl s) rest = (inl s, subst (λ (m : ℕ). (node a m).kind ≡ Kind.Event e) (sym s) (is_event_lem (node a k).kind e q))
      go true q (inr j) rest = let r = rest j in (inr r.0, r.1)
      go false q j rest = let r = rest j in (inr r.0, r.1)

  of_only : (ns : List ℕ) (n : ℕ) → Among n ns → (node a n).kind ≡ Kind.Event e → Among n (of_event a e ns)
  unfolding of_event
  of_only [] n i h = absurd i
  of_only (k ∷ ns) n (inl s) h =
      let q : is_event e (node a k).kind ≡ true = ap (λ (m : ℕ). is_event e (node a m).kind) (sym s) ∙ event_is (node a n).kind e h in
      rw q (inl s)
  of_only (k ∷ ns) n (inr i) h = go (is_event e (node a k).kind) (of_only ns n i h)
    where
      go : (b : Bool) → Among n (of_event a e ns) → Among n (cond b (k ∷ of_event a e ns) (of_event a e ns))
      go true j = inr j
      go false j = j

  of_distinct : (ns : List ℕ) → Distinct ns → Distinct (of_event a e ns)
  unfolding of_event
  of_distinct [] d = tt
  of_distinct (k ∷ ns) d = go (is_event e (node a k).kind) (of_distinct ns d.1)
    where
      go : (b : Bool) → Distinct (of_event a e ns) → Distinct (cond b (k ∷ of_event a e ns) (of_event a e ns))
      go true r = (λ i. d.0 (of_all ns k i).0, r)
      go false r = r

  -- ---- cuts

  -- where the restricted list is cut, the whole list is cut too
  record Cut (ns ms : List ℕ) (n : ℕ) : Type 0 where
    front : List ℕ
    back : List ℕ
    whole : ns ≡ front ++ (n ∷ back)
    into : (m : ℕ) → Among m ms → Among m front
    out_of : (m : ℕ) → Among m front → (node a m).kind ≡ Kind.Event e → Among m ms

  of_cut : (ns ms : List ℕ) (n : ℕ) (os : List ℕ) → of_event a e ns ≡ ms ++ (n ∷ os) → Cut ns ms n
  unfolding of_event
  of_cut [] [] n os f = nil_cons f
  of_cut [] (m ∷ ms) n os f = nil_cons f
  of_cut (k ∷ ns) ms n os f = go (is_event e (node a k).kind) refl ms f (λ rs. of_cut ns rs n os)
    where
      go : (b : Bool) → is_event e (node a k).kind ≡ b → (ms : List ℕ) → cond b (k ∷ of_event a e ns) (of_event a e ns) ≡ ms ++ (n ∷ os) → ((rs : List ℕ) → of_event a e ns ≡ rs ++ (n ∷ os) → Cut ns rs n) → Cut (k ∷ ns) ms n
      go true t [] f rest = record { front = []; back = ns; whole = ap (λ (m : ℕ). m ∷ ns) (head_same f); into = λ m i. i; out_of = λ m i h. i }
      go true t (m ∷ ms) f rest =
          let c = rest ms (tail_same f) in
          record {
            front = k ∷ c.front;
            back = c.back;
            whole = ap (λ ls. k ∷ ls) c.whole;
            into = λ j i. elim i [ inl q ↦ inl (q ∙ sym (head_same f)) | inr h ↦ inr (c.into j h) ];
            out_of = λ j i h. elim i [ inl q ↦ inl (q ∙ head_same f) | inr u ↦ inr (c.out_of j u h) ];
          }
      go false t ms f rest =
          let c = rest ms f in
          record {
            front = k ∷ c.front;
            back = c.back;
            whole = ap (λ ls. k ∷ ls) c.whole;
            into = λ j i. inr (c.into j i);
            out_of = λ j i h. elim i [ inl q ↦ clash (sym (event_is (node a j).kind e h) ∙ ap (λ (m : ℕ). is_event e (node a m).kind) q ∙ t) | inr u ↦ c.out_of j u h ];
          }

  -- ---- the order of "before"

  module _ (order : List ℕ) (sorted : (ms : List ℕ) (n : ℕ) (os : List ℕ) → order ≡ ms ++ (n ∷ os) → (m : ℕ) → Among m (predecessors (node a n)) → Among m ms) where
    -- a member of what stands before n cuts the order earlier
    recut : (ms : List ℕ) (n : ℕ) (os : List ℕ) → order ≡ ms ++ (n ∷ os) → (k : ℕ) → Among k ms → (us : List ℕ) × (vs : List ℕ) × (order ≡ us ++ (k ∷ vs)) × ((m : ℕ) → Among m us → Among m ms)
    recut ms n os f k i =
        let c = cut k ms i in (
          c.0,
          c.1 ++ (n ∷ os),
          f ∙ ap (λ ls. ls ++ (n ∷ os)) c.2 ∙ append_assoc c.0 (k ∷ c.1) (n ∷ os),
          λ m j. subst (Among m) (sym c.2) (among_left m c.0 (k ∷ c.1) j),
        )

    before_cut : (m : ℕ) (ms : List ℕ) (n : ℕ) (os : List ℕ) → order ≡ ms ++ (n ∷ os) → Before a m n → Among m ms
    before_cut m ms n os f (one h) = sorted ms n os f m h.from
    before_cut m ms n os f (more {k} c h) =
        let r = recut ms n os f k (sorted ms n os f k h.from) in
        r.3 m (before_cut m r.0 k r.1 r.2 c)

    module _ (distinct : Distinct order) (within : (n : ℕ) → Among n order → n < length a) (all : (n : ℕ) → n < length a → Among n order) (rule_XI : (m n e : ℕ) → Is a m (Kind.Event e) → Is a n (Kind.Event e) → (m ≡ n → ⊥) → Before a m n ⊎ Before a n m) where
      is : (n : ℕ) → Among n (of_event a e order) → Is a n (Kind.Event e)
      is n i = let o = of_all order n i in record { within = within n o.0; kind = o.1 }

      -- into and back again
      ordered : (ms : List ℕ) (n : ℕ) (os : List ℕ) → of_event a e order ≡ ms ++ (n ∷ os) → (m : ℕ) → Among m (of_event a e order) → (Before a m n ↔ Among m ms)
      ordered ms n os f m i = (there, back)
        where
          c : Cut order ms n
          c = of_cut order ms n os f

          n_in : Among n (of_event a e order)
          n_in = subst (Among n) (sym f) (among_right n ms (n ∷ os) (inl refl))

          there : Before a m n → Among m ms
          there b = c.out_of m (before_cut m c.front n c.back c.whole b) (of_all order m i).1

          back : Among m ms → Before a m n
          back j =
              elim (rule_XI m n e (is m i) (is n n_in) (λ q. cut_apart c.front n c.back (subst Distinct c.whole distinct) (subst (λ (z : ℕ). Among z c.front) q (c.into m j)))) [
                | inl b ↦ b
                | inr b ↦
                    (let r = recut c.front n c.back c.whole m (c.into m j) in
                    absurd (cut_apart c.front n c.back (subst Distinct c.whole distinct) (r.3 n (before_cut n r.0 m r.1 r.2 b))))
              ]

      pub emits : Emits a e (of_event a e order)
      emits = record {
        all = is;
        only = λ n h. of_only order n (all n h.within) h.kind;
        distinct = of_distinct order distinct;
        ordered = ordered;
      }

-- ---- how many there are

module _ (e : ℕ) where
  -- the numbers of the nodes of e, for nodes that are numbered from n on
  abbrev numbers : ℕ → List Node → List ℕ
  numbers n [] = []
  numbers n (x ∷ xs) = cond (is_event e x.kind) (n ∷ numbers (n + 1) xs) (numbers (n + 1) xs)

  length-numbers : (n : ℕ) (xs : List Node) → length (numbers n xs) ≡ events_in e xs
  length-numbers n [] = refl
  length-numbers n (x ∷ xs) = go (is_event e x.kind) (length-numbers (n + 1) xs)
    where
      go : (b : Bool) → length (numbers (n + 1) xs) ≡ events_in e xs → length (cond b (n ∷ numbers (n + 1) xs) (numbers (n + 1) xs)) ≡ cond b 1 0 + events_in e xs
      go true h = omega arith
      go false h = omega arith

  among_numbers : (n : ℕ) (xs : List Node) (i : ℕ) → Among i (numbers n xs) → (j : ℕ) × (j < length xs) × (i ≡ n + j) × ((get_or xs j past_node).kind ≡ Kind.Event e)
  among_numbers n [] i h = absurd h
  among_numbers n (x ∷ xs) i h = go (is_event e x.kind) refl h (among_numbers (n + 1) xs i)
    where
      go : (b : Bool) → is_event e x.kind ≡ b → Among i (cond b (n ∷ numbers (n + 1) xs) (numbers (n + 1) xs)) → (Among i (numbers (n + 1) xs) → (j : ℕ) × (j < length xs) × (i ≡ n + 1 + j) × ((get_or xs j past_node).kind ≡ Kind.Event e)) → (j : ℕ) × (j < suc (length xs)) × (i ≡ n + j) × ((get_or (x ∷ xs) j past_node).kind ≡ Kind.Event e)
      go true t (inl q) rest = (0, omega arith, omega arith, is_event_lem x.kind e t)
      go true t (inr u) rest = let r = rest u in (suc r.0, (let p = r.1 in omega arith), (let p = r.2 in omega arith), r.3)
      go false t u rest = let r = rest u in (suc r.0, (let p = r.1 in omega arith), (let p = r.2 in omega arith), r.3)

  numbers_among : (n : ℕ) (xs : List Node) (j : ℕ) → j < length xs → (get_or xs j past_node).kind ≡ Kind.Event e → Among (n + j) (numbers n xs)
  numbers_among n [] j l h = absurd (omega arith)
  numbers_among n (x ∷ xs) zero l h = rw (event_is x.kind e h) (inl (omega arith))
  numbers_among n (x ∷ xs) (suc j) l h = go (is_event e x.kind) (let z : n + 1 + j ≡ n + suc j = omega arith in subst (λ (i : ℕ). Among i (numbers (n + 1) xs)) z (numbers_among (n + 1) xs j (omega arith) h))
    where
      go : (b : Bool) → Among (n + suc j) (numbers (n + 1) xs) → Among (n + suc j) (cond b (n ∷ numbers (n + 1) xs) (numbers (n + 1) xs))
      go true i = inr i
      go false i = i

  distinct_numbers : (n : ℕ) (xs : List Node) → Distinct (numbers n xs)
  distinct_numbers n [] = tt
  distinct_numbers n (x ∷ xs) = go (is_event e x.kind) (distinct_numbers (n + 1) xs)
    where
      go : (b : Bool) → Distinct (numbers (n + 1) xs) → Distinct (cond b (n ∷ numbers (n + 1) xs) (numbers (n + 1) xs))
      go true d = (λ i. let r = among_numbers (n + 1) xs n i in let p = r.2 in absurd (omega arith), d)
      go false d = d

  -- as many as the activity has nodes of e
  pub how_many : (a : List Node) (ns : List ℕ) → Emits a e ns → length ns ≡ events_in e a
  how_many a ns h =
      le_antisymm
      (fewer ns (numbers 0 a) h.distinct (λ n i. let s = h.all n i in let z : 0 + n ≡ n = omega arith in subst (λ (m : ℕ). Among m (numbers 0 a)) z (numbers_among 0 a n s.within s.kind)))
      (fewer (numbers 0 a) ns (distinct_numbers 0 a) (λ n i. let r = among_numbers 0 a n i in let p = r.2 in let q : r.0 ≡ n = omega arith in h.only n (record { within = (let w = r.1 in omega arith); kind = subst (λ (m : ℕ). (node a m).kind ≡ Kind.Event e) q r.3 })))
      ∙ length-numbers 0 a
