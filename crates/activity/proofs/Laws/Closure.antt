-- "Before" as words, one for each node: Warshall's way to them, for any words that are stepped as it says.
-- `before_words` has bit m of word n iff m is before n, cycles included. Assumes nothing.
use Rattle.std.specs.Prelude.{◌≡◌, refl, Bool, true, false, cond, List, [], ◌∷◌, map, ◌⊎◌, ◌↔◌, ℕ, zero, suc, ◌+◌, ◌<◌, ◌≤◌, length, get_or}
use Rattle.std.proofs.Common.{sym, ◌∙◌, subst, inl, inr, ⊎_elim, arith, below_more}
use Rattle.std.specs.Int.Bits.{bit_or}
use Rattle.std.proofs.lemmas.List.{length-map}
use Rattle.std.proofs.Math.ListN.{get_or-eq_default}
use Rattle.basis.specs.Lists.{one, more}
use Rattle.basis.specs.Inner.Tells.{Answer, holds, fails}
use Rattle.plan.specs.Plan.{past_node, predecessors}
use Rattle.plan.specs.declared.Node.{Node}
use Rattle.activity.specs.Rules.{node, Arrow, Before}
use Rattle.activity.specs.Tests.{bit, word_of, through, pass, passes, before_words}
use Rattle.activity.specs.Inner.Closure.{Rel, Closure, Through, Stepped}
use Rattle.activity.specs.Inner.Bits.{Bit}
use Rattle.activity.proofs.Laws.Bits.{tells_bit, or_iff, no_bit, word_iff, lt-or-ge}

-- a node that another is before is a node
pub within : {a : List Node} {m n : ℕ} → Before a m n → n < length a
within (one h) = h.within
within (more b h) = h.within

pub joined : {a : List Node} {m k n : ℕ} → Before a m k → Before a k n → Before a m n
joined b (one h) = more b h
joined b (more c h) = more (joined b c) h

-- a chain starts and ends with an arrow
pub first_arrow : {a : List Node} {m n : ℕ} → Before a m n → (k : ℕ) × Arrow a m k
first_arrow {n = n} (one h) = (n, h)
first_arrow (more b h) = first_arrow b

pub last_arrow : {a : List Node} {m n : ℕ} → Before a m n → (k : ℕ) × Arrow a k n
last_arrow {m = m} (one h) = (m, h)
last_arrow (more {k = k} b h) = (k, h)

-- the words after the passes through the nodes below k: they say nothing false, have the arrows, and two steps that meet below k are one
pub record Closing (a : List Node) (k : ℕ) (r : List ℕ) : Type 0 where
  pub sound : (m n : ℕ) → Rel r m n → Before a m n
  pub arrows : (m n : ℕ) → Arrow a m n → Rel r m n
  pub closed : (j : ℕ) → j < k → (m n : ℕ) → Rel r m j → Rel r j n → Rel r m n

-- the words of the arrows
pub opening : (a : List Node) (r : List ℕ) → ((m n : ℕ) → Rel r m n ↔ Arrow a m n) → Closing a 0 r
opening a r h = record { sound = λ m n e. one ((h m n).0 e); arrows = λ m n x. (h m n).1 x; closed = λ j l. absurd (omega arith) }

-- with no node left, the words are the closure
pub shut : {a : List Node} {r : List ℕ} → Closing a (length a) r → Closure a r
shut {a} {r} h m n = (h.sound m n, all)
  where
    all : {n : ℕ} → Before a m n → Rel r m n
    all (one x) = h.arrows m _ x
    all (more {k = k} b x) = h.closed k (within b) m _ (all b) (h.arrows k _ x)

module _ (a : List Node) (k : ℕ) (t r : List ℕ) (h : Closing a k t) (s : Through t k (length a) r) where
  -- what a pass says of each pair
  from : (m n : ℕ) → Rel r m n → Rel t m n ⊎ (Rel t k n × Rel t m k)
  from m n e = ⊎_elim (λ lt. (s.passed n lt m).0 e) (λ ge. inl (subst (λ (w : ℕ). Bit w m) (s.rest n ge) e)) (lt-or-ge n (length a))

  kept : (m n : ℕ) → Rel t m n → Rel r m n
  kept m n e = (s.passed n (within (h.sound m n e)) m).1 (inl e)

  added : (m n : ℕ) → Rel t k n → Rel t m k → Rel r m n
  added m n e f = (s.passed n (within (h.sound k n e)) m).1 (inr (e, f))

  -- into k and out of k a pass adds nothing
  into : (m : ℕ) → Rel r m k → Rel t m k
  into m e = ⊎_elim (λ x. x) (λ p. p.1) (from m k e)

  out : (n : ℕ) → Rel r k n → Rel t k n
  out n e = ⊎_elim (λ x. x) (λ p. p.0) (from k n e)

  old : (j : ℕ) → j < k → (m n : ℕ) → Rel r m j → Rel r j n → Rel r m n
  old j lt m n e f =
      ⊎_elim
      (λ mj. ⊎_elim (λ jn. kept m n (h.closed j lt m n mj jn)) (λ p. added m n p.0 (h.closed j lt m k mj p.1)) (from j n f))
      (λ q. ⊎_elim (λ jn. added m n (h.closed j lt k n q.0 jn) q.1) (λ p. added m n p.0 q.1) (from j n f))
      (from m j e)

  pub passing : Closing a (k + 1) r
  passing =
      record {
        sound = λ m n e. ⊎_elim (h.sound m n) (λ p. joined (h.sound m k p.1) (h.sound k n p.0)) (from m n e);
        arrows = λ m n x. kept m n (h.arrows m n x);
        closed = below_more (λ (j : ℕ). (m n : ℕ) → Rel r m j → Rel r j n → Rel r m n) k old (λ m n e f. added m n (out n f) (into m e));
      }

-- `through` steps a word
through_steps : (w row k : ℕ) → Stepped w row k (through k row w)
through_steps w row k j = go (bit w k) (tells_bit w k)
  where
    go : (b : Bool) → Answer (Bit w k) b → Bit (cond b (bit_or w row) w) j ↔ (Bit w j ⊎ (Bit w k × Bit row j))
    go true (holds e) =
        let i = or_iff w row j in (λ x. ⊎_elim inl (λ y. inr (e, y)) (i.0 x), λ x. i.1 (⊎_elim inl (λ y. inr y.1) x))
    go false (fails n) = (inl, ⊎_elim (λ x. x) (λ y. absurd (n y.0)))

get_d_map_lt : {A : Type 0} (f : A → ℕ) (l : List A) (d : A) (n : ℕ) → n < length l → get_or (map f l) n 0 ≡ f (get_or l n d)
get_d_map_lt f [] d n h = absurd (omega arith)
get_d_map_lt f (x ∷ l) d zero h = refl
get_d_map_lt f (x ∷ l) d (suc n) h = get_d_map_lt f l d n (omega arith)

-- past a list's end both lists of words have 0
past : {A : Type 0} (f : A → ℕ) (l : List A) (n : ℕ) → length l ≤ n → get_or (map f l) n 0 ≡ 0
past f l n h = let e : length (map f l) ≤ n = simp length-map h in get_or-eq_default (map f l) 0 e

pass_through : (k : ℕ) (t : List ℕ) → Through t k (length t) (pass k t)
pass_through k t =
    record {
      passed = λ n l. rw (get_d_map_lt (through k (get_or t k 0)) t 0 n l) (through_steps (get_or t n 0) (get_or t k 0) k);
      rest = λ n h. past (through k (get_or t k 0)) t n h ∙ sym (get_or-eq_default t 0 h);
    }

passes_close : (a : List Node) (j k : ℕ) (t : List ℕ) → k + j ≡ length a → length t ≡ length a → Closing a k t → Closing a (length a) (passes k j t)
unfolding passes
passes_close a zero k t z e h = let q : k ≡ length a = omega arith in subst (λ (i : ℕ). Closing a i t) q h
passes_close a (suc j) k t z e h =
    let s : Through t k (length a) (pass k t) = rw (← e) (pass_through k t) in
    let u : length (pass k t) ≡ length a = length-map t (through k (get_or t k 0)) ∙ e in
    passes_close a j (k + 1) (pass k t) (omega arith) u (passing a k t (pass k t) h s)

-- "Before" means by one or more arrows: bit m of word n stands iff m is before n
pub words_right : (a : List Node) → Closure a (before_words a)
unfolding before_words
words_right a =
    let t = map (λ n. word_of (predecessors n)) a in
    shut (passes_close a (length a) 0 t (omega arith) (length-map a (λ n. word_of (predecessors n))) (opening a t arrow))
  where
    arrow : (m n : ℕ) → Rel (map (λ n. word_of (predecessors n)) a) m n ↔ Arrow a m n
    arrow m n = ⊎_elim inside outside (lt-or-ge n (length a))
      where
        inside : n < length a → Rel (map (λ n. word_of (predecessors n)) a) m n ↔ Arrow a m n
        inside l =
            rw (get_d_map_lt (λ n. word_of (predecessors n)) a past_node n l)
            (λ e. record { within = l; from = (word_iff (predecessors (node a n)) m).0 e }, λ x. (word_iff (predecessors (node a n)) m).1 x.from)

        outside : length a ≤ n → Rel (map (λ n. word_of (predecessors n)) a) m n ↔ Arrow a m n
        outside h = rw (past (λ n. word_of (predecessors n)) a n h) (λ e. absurd (no_bit m e), λ x. absurd (omega (arith, x.within)))
