-- What the words of a `Sight` tell of a node, and that `look` makes them. Assumes nothing.
use mathlib.Core.Path.{◌≡◌, refl, sym, subst, ◌∙◌}
use mathlib.Core.List.{List}
use mathlib.Core.Logic.{◌⊎◌, inl, inr, ◌↔◌, ⊎_elim}
use Prim.Native.Nat.{ℕ, ◌<◌, ◌≤◌}
use native.Mathlib.Decide.{ℕ_discrete, dec_lt}
use native.Mathlib.Omega.{arith}
use lib.Bits.{bit_or}
use lib.ListN.{length, take, get_or, get_or-eq_default}
use Rattle.std.proofs.lemmas.List.{get_or-take, length-take}
use Rattle.plan.specs.declared.Node.{Node}
use Rattle.activity.specs.declared.nodes.Label.{Label}
use Rattle.activity.specs.declared.nodes.Sight.{Sight}
use Rattle.activity.specs.Rules.{Before}
use Rattle.activity.specs.Inner.Sight.{past_label, Labelled, Labels, Marks, Seen, InLine, Alone, Claimed, Released}
use Rattle.activity.specs.Inner.Bits.{Bit}
use Rattle.activity.proofs.Laws.Bits.{or_iff, no_bit}
use Rattle.activity.specs.Inner.Closure.{Rel, Closure}
use Rattle.activity.proofs.Laws.Closure.{within}

module _ (belongs : ℕ → ℕ) (a : List Node) (n : ℕ) (s : Sight) (h : Seen belongs a n s) where
  pub seen_in_line : ((m : ℕ) → Bit s.same m → Bit (bit_or (bit_or s.own s.before) s.after) m) ↔ InLine a n
  seen_in_line = (
    λ f m l d. ⊎_elim (⊎_elim (λ q. absurd (d q)) inl) inr (near m (f m ((h.same m).1 l))),
    λ f m b. far m (elim (ℕ_discrete m n) [ yes q ↦ inl (inl q) | no d ↦ ⊎_elim (λ o. inl (inr o)) inr (f m ((h.same m).0 b) d) ]),
  )
    where
      near : (m : ℕ) → Bit (bit_or (bit_or s.own s.before) s.after) m → ((m ≡ n) ⊎ Before a m n) ⊎ Before a n m
      near m b =
          ⊎_elim (λ o. inl (⊎_elim (λ q. inl ((h.own m).0 q)) (λ q. inr ((h.before m).0 q)) ((or_iff s.own s.before m).0 o))) (λ q. inr ((h.after m).0 q))
          ((or_iff (bit_or s.own s.before) s.after m).0 b)

      far : (m : ℕ) → ((m ≡ n) ⊎ Before a m n) ⊎ Before a n m → Bit (bit_or (bit_or s.own s.before) s.after) m
      far m o =
          (or_iff (bit_or s.own s.before) s.after m).1
          (⊎_elim (λ o. inl ((or_iff s.own s.before m).1 (⊎_elim (λ q. inl ((h.own m).1 q)) (λ q. inr ((h.before m).1 q)) o))) (λ q. inr ((h.after m).1 q)) o)

  pub seen_alone : ((m : ℕ) → Bit s.same m → Bit s.own m) ↔ Alone a n
  seen_alone = (λ f m l. (h.own m).0 (f m ((h.same m).1 l)), λ f m b. (h.own m).1 (f m ((h.same m).0 b)))

  pub seen_claimed : ((m : ℕ) × Bit s.claims m × Bit s.before m) ↔ Claimed belongs a n
  seen_claimed = (λ c. (c.0, (h.claims c.0).0 c.1, (h.before c.0).0 c.2), λ c. (c.0, (h.claims c.0).1 c.1, (h.before c.0).1 c.2))

  pub seen_released : ((m : ℕ) × Bit s.releases m × Bit s.after m) ↔ Released belongs a n
  seen_released = (λ c. (c.0, (h.releases c.0).0 c.1, (h.after c.0).0 c.2), λ c. (c.0, (h.releases c.0).1 c.1, (h.after c.0).1 c.2))

  -- a node is on a cycle iff it is before itself
  pub seen_cycle : ((m : ℕ) × Bit s.before m × Bit s.own m) ↔ Before a n n
  seen_cycle = (λ c. subst (λ (m : ℕ). Before a m n) ((h.own c.0).0 c.2) ((h.before c.0).0 c.1), λ b. (n, (h.before n).1 b, (h.own n).1 refl))

-- the word of one node
pub own_marks : (w n : ℕ) → ((j : ℕ) → Bit w j ↔ (Bit 0 j ⊎ (j ≡ n))) → Marks w (λ m. m ≡ n)
own_marks w n h m = (λ b. ⊎_elim (λ z. absurd (no_bit m z)) (λ q. q) ((h m).0 b), λ q. (h m).1 (inr q))

module _ (a : List Node) (count : ℕ) (long : length a ≡ count) where
  -- a word of labels marks the nodes that have the label
  pub label_marks :
      (l : List Label) (w : ℕ) (wanted k : Label) → Labels a l → wanted ≡ k → Marks w (λ m. (m < count) × (get_or l m past_label ≡ wanted)) → Marks w (Labelled a k)
  label_marks l w wanted k f e h m = (
    λ b. let q = (h m).0 b in let i : m < length a = omega (arith, q.0) in record { within = i; label = sym (f m i) ∙ q.1 ∙ e },
    λ q. (h m).1 (omega (arith, q.within), f m q.within ∙ q.label ∙ sym e),
  )

  -- the word of a column marks the nodes that n is before
  pub after_marks : (r : List ℕ) (w n : ℕ) → Closure a r → Marks w (λ m. (m < count) × Rel r n m) → Marks w (λ m. Before a n m)
  after_marks r w n c h m = (λ b. (c n m).0 ((h m).0 b).1, λ b. (h m).1 (omega (arith, within b), (c n m).1 b))

-- the words and the labels of an activity's nodes are those of the first places
pub front_closure : (a : List Node) (r : List ℕ) (k : ℕ) → length a ≤ k → Closure a r → Closure a (take k r)
front_closure a r k le h m n = elim (dec_lt n k) [
  | yes l ↦ rw (get_or-take k r n 0 l) (h m n)
  | no d ↦
      let past : length (take k r) ≤ n = omega (arith, length-take k r) in
      rw (get_or-eq_default (take k r) 0 past) (λ b. absurd (no_bit m b), λ b. absurd (omega (arith, within b)))
]

pub front_labels : (a : List Node) (l : List Label) (k : ℕ) → length a ≤ k → Labels a l → Labels a (take k l)
front_labels a l k le h m q = let here : m < k = omega arith in get_or-take k l m past_label here ∙ h m q
