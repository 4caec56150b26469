-- What the rules ask of a node of each kind, over labels: the other rules ask nothing of it. Assumes nothing.
use mathlib.Core.Path.{◌≡◌, refl, sym, ap, ◌∙◌}
use mathlib.Core.List.{List}
use mathlib.Core.Logic.{◌↔◌}
use Prim.Native.Nat.{ℕ}
use Rattle.basis.specs.Lists.{one}
use Rattle.plan.specs.declared.Kind.{Kind}
use Rattle.plan.specs.declared.Node.{Node}
use Rattle.plan.specs.declared.Fault.{Fault}
use Rattle.activity.specs.declared.nodes.Label.{Label}
use Rattle.activity.specs.Rules.{Is, Before, Ordered}
use Rattle.activity.specs.Number.{kind_of}
use Rattle.activity.proofs.Laws.Tells.{differ}
use Rattle.activity.specs.Inner.Sight.{label_of, held_of, Labelled, InLine, Alone, Claimed, Released}
use Rattle.activity.proofs.Laws.Closure.{first_arrow, last_arrow}
use Rattle.activity.specs.Inner.Nodes.{At}

-- a label says the kind
action_of : (k : Kind) (p : ℕ) → label_of k ≡ Label.Action p → (x : ℕ) × (k ≡ Kind.Action x p)
action_of (Kind.Action x q) p e = let d : q ≡ p = cc in (x, ap (Kind.Action x) d)
action_of (Kind.Claim r) p e = absurd (differ (cc))
action_of (Kind.Release r) p e = absurd (differ (cc))
action_of (Kind.Event v) p e = absurd (differ (cc))

claim_of_lem : (k : Kind) (r : ℕ) → label_of k ≡ Label.Claim r → k ≡ Kind.Claim r
claim_of_lem (Kind.Action x q) r e = absurd (differ (cc))
claim_of_lem (Kind.Claim s) r e = let d : s ≡ r = cc in ap Kind.Claim d
claim_of_lem (Kind.Release s) r e = absurd (differ (cc))
claim_of_lem (Kind.Event v) r e = absurd (differ (cc))

release_of : (k : Kind) (r : ℕ) → label_of k ≡ Label.Release r → k ≡ Kind.Release r
release_of (Kind.Action x q) r e = absurd (differ (cc))
release_of (Kind.Claim s) r e = absurd (differ (cc))
release_of (Kind.Release s) r e = let d : s ≡ r = cc in ap Kind.Release d
release_of (Kind.Event v) r e = absurd (differ (cc))

event_of_lem : (k : Kind) (v : ℕ) → label_of k ≡ Label.Event v → k ≡ Kind.Event v
event_of_lem (Kind.Action x q) v e = absurd (differ (cc))
event_of_lem (Kind.Claim s) v e = absurd (differ (cc))
event_of_lem (Kind.Release s) v e = absurd (differ (cc))
event_of_lem (Kind.Event u) v e = let d : u ≡ v = cc in ap Kind.Event d

module _ (belongs : ℕ → ℕ) (a : List Node) (n : ℕ) where
  -- the label of a node of kind k
  labelled : {k : Kind} {m : ℕ} → Is a m k → label_of (kind_of a m) ≡ label_of k
  labelled i = ap label_of i.kind

  -- two nodes that have one label
  like : {k l : Kind} {m : ℕ} → Is a n k → Is a m l → label_of l ≡ label_of k → Labelled a (label_of (kind_of a n)) m
  like i j e = record { within = j.within; label = labelled j ∙ e ∙ sym (labelled i) }

  -- a kind is one kind
  one_kind : {k l : Kind} → Is a n k → Is a n l → k ≡ l
  one_kind i j = sym i.kind ∙ j.kind

  held : {k : Kind} → Is a n k → held_of belongs (kind_of a n) ≡ held_of belongs k
  held i = ap (held_of belongs) i.kind

  claim_labelled : (k : Kind) (r : ℕ) → Is a n k → held_of belongs k ≡ r → (m : ℕ) → Labelled a (Label.Claim (held_of belongs (kind_of a n))) m ↔ Is a m (Kind.Claim r)
  claim_labelled k r i e m =
      let h = held i ∙ e in (
        λ l. record { within = l.within; kind = claim_of_lem (kind_of a m) r (l.label ∙ ap Label.Claim h) },
        λ j. record { within = j.within; label = labelled j ∙ ap Label.Claim (sym h) },
      )

  release_labelled : (k : Kind) (r : ℕ) → Is a n k → held_of belongs k ≡ r → (m : ℕ) → Labelled a (Label.Release (held_of belongs (kind_of a n))) m ↔ Is a m (Kind.Release r)
  release_labelled k r i e m =
      let h = held i ∙ e in (
        λ l. record { within = l.within; kind = release_of (kind_of a m) r (l.label ∙ ap Label.Release h) },
        λ j. record { within = j.within; label = labelled j ∙ ap Label.Release (sym h) },
      )

  claimed : (k : Kind) (r : ℕ) → Is a n k → held_of belongs k ≡ r → Claimed belongs a n ↔ ((m : ℕ) × Is a m (Kind.Claim r) × Before a m n)
  claimed k r i e =
      (λ c. (c.0, (claim_labelled k r i e c.0).0 c.1, c.2), λ c. (c.0, (claim_labelled k r i e c.0).1 c.1, c.2))

  released : (k : Kind) (r : ℕ) → Is a n k → held_of belongs k ≡ r → Released belongs a n ↔ ((m : ℕ) × Is a m (Kind.Release r) × Before a n m)
  released k r i e =
      (λ c. (c.0, (release_labelled k r i e c.0).0 c.1, c.2), λ c. (c.0, (release_labelled k r i e c.0).1 c.1, c.2))

  -- nothing is before n, or after it
  abbrev pub NoneBefore : Type 0
  NoneBefore = (m : ℕ) → Before a m n → ⊥

  abbrev pub NoneAfter : Type 0
  NoneAfter = (m : ℕ) → Before a n m → ⊥

  -- an action
  module _ (x p : ℕ) (i : Is a n (Kind.Action x p)) where
    pub action_I : InLine a n ↔ At belongs a n Fault.ActionsUnordered
    action_I = (to, λ h m l d. from h m l d (action_of (kind_of a m) p (l.label ∙ labelled i)))
      where
        to : InLine a n → At belongs a n Fault.ActionsUnordered
        to h y q j m z k d = let e = one_kind i j in let s : q ≡ p = cc in h m (like i k (ap Label.Action s)) d

        from :
            At belongs a n Fault.ActionsUnordered → (m : ℕ) → Labelled a (label_of (kind_of a n)) m → (m ≡ n → ⊥)
            → (z : ℕ) × (kind_of a m ≡ Kind.Action z p) → Ordered a m n
        from h m l d k = h x p i m k.0 (record { within = l.within; kind = k.1 }) d

    pub action_II : At belongs a n Fault.NamedTwice
    action_II = (λ r j. let e = one_kind i j in absurd (differ (cc)), λ r j. let e = one_kind i j in absurd (differ (cc)))

    pub action_IV : (Claimed belongs a n × Released belongs a n) ↔ At belongs a n Fault.ActionUnheld
    action_IV = (
      λ h y q j. let e = one_kind i j in
          let s : p ≡ q = cc in ((claimed (Kind.Action x p) (belongs q) i (ap belongs s)).0 h.0, (released (Kind.Action x p) (belongs q) i (ap belongs s)).0 h.1),
      λ h. let w = h x p i in ((claimed (Kind.Action x p) (belongs p) i refl).1 w.0, (released (Kind.Action x p) (belongs p) i refl).1 w.1),
    )

    pub action_VI : At belongs a n Fault.ClaimUnpaired
    action_VI = (λ r j. let e = one_kind i j in absurd (differ (cc)), λ r j. let e = one_kind i j in absurd (differ (cc)))

    pub action_VIII : At belongs a n Fault.ArrowPastEnd
    action_VIII = (λ r j. let e = one_kind i j in absurd (differ (cc)), λ r j. let e = one_kind i j in absurd (differ (cc)))

    pub action_X : At belongs a n Fault.EventFirst
    action_X v j = let e = one_kind i j in absurd (differ (cc))

    pub action_XI : At belongs a n Fault.EventsUnordered
    action_XI v j = let e = one_kind i j in absurd (differ (cc))

  -- a claim
  module _ (r : ℕ) (i : Is a n (Kind.Claim r)) where
    pub claim_I : At belongs a n Fault.ActionsUnordered
    claim_I y q j = let e = one_kind i j in absurd (differ (cc))

    pub claim_II : Alone a n ↔ At belongs a n Fault.NamedTwice
    claim_II = (
      (λ h. (
        λ s j m k. let e = one_kind i j in let d : s ≡ r = cc in h m (like i k (ap Label.Claim d)),
        λ s j. let e = one_kind i j in absurd (differ (cc)),
      )),
      λ h m l. h.0 r i m (record { within = l.within; kind = claim_of_lem (kind_of a m) r (l.label ∙ labelled i) }),
    )

    pub claim_IV : At belongs a n Fault.ActionUnheld
    claim_IV y q j = let e = one_kind i j in absurd (differ (cc))

    pub claim_VII : Released belongs a n ↔ At belongs a n Fault.ClaimUnpaired
    claim_VII = (
      λ h. (
        λ s j. let e = one_kind i j in absurd (differ (cc)),
        λ s j. let e = one_kind i j in let d : r ≡ s = cc in (released (Kind.Claim r) s i d).0 h,
      ),
      λ h. (released (Kind.Claim r) r i refl).1 (h.1 r i),
    )

    pub claim_VIII : NoneBefore ↔ At belongs a n Fault.ArrowPastEnd
    claim_VIII =
        (λ h. (λ s j m x. h m (one x), λ s j. let e = one_kind i j in absurd (differ (cc))), λ h m b. let w = last_arrow b in h.0 r i w.0 w.1)

    pub claim_X : At belongs a n Fault.EventFirst
    claim_X v j = let e = one_kind i j in absurd (differ (cc))

    pub claim_XI : At belongs a n Fault.EventsUnordered
    claim_XI v j = let e = one_kind i j in absurd (differ (cc))

  -- a release
  module _ (r : ℕ) (i : Is a n (Kind.Release r)) where
    pub release_I : At belongs a n Fault.ActionsUnordered
    release_I y q j = let e = one_kind i j in absurd (differ (cc))

    pub release_III : Alone a n ↔ At belongs a n Fault.NamedTwice
    release_III = (
      (λ h. (
        λ s j. let e = one_kind i j in absurd (differ (cc)),
        λ s j m k. let e = one_kind i j in let d : s ≡ r = cc in h m (like i k (ap Label.Release d)),
      )),
      λ h m l. h.1 r i m (record { within = l.within; kind = release_of (kind_of a m) r (l.label ∙ labelled i) }),
    )

    pub release_IV : At belongs a n Fault.ActionUnheld
    release_IV y q j = let e = one_kind i j in absurd (differ (cc))

    pub release_VI : Claimed belongs a n ↔ At belongs a n Fault.ClaimUnpaired
    release_VI = (
      λ h. (
        λ s j. let e = one_kind i j in let d : r ≡ s = cc in (claimed (Kind.Release r) s i d).0 h,
        λ s j. let e = one_kind i j in absurd (differ (cc)),
      ),
      λ h. (claimed (Kind.Release r) r i refl).1 (h.0 r i),
    )

    pub release_IX : NoneAfter ↔ At belongs a n Fault.ArrowPastEnd
    release_IX =
        (λ h. (λ s j. let e = one_kind i j in absurd (differ (cc)), λ s j m x. h m (one x)), λ h m b. let w = first_arrow b in h.1 r i w.0 w.1)

    pub release_X : At belongs a n Fault.EventFirst
    release_X v j = let e = one_kind i j in absurd (differ (cc))

    pub release_XI : At belongs a n Fault.EventsUnordered
    release_XI v j = let e = one_kind i j in absurd (differ (cc))

  -- an event
  module _ (v : ℕ) (i : Is a n (Kind.Event v)) where
    pub event_I : At belongs a n Fault.ActionsUnordered
    event_I y q j = let e = one_kind i j in absurd (differ (cc))

    pub event_II : At belongs a n Fault.NamedTwice
    event_II = (λ r j. let e = one_kind i j in absurd (differ (cc)), λ r j. let e = one_kind i j in absurd (differ (cc)))

    pub event_IV : At belongs a n Fault.ActionUnheld
    event_IV y q j = let e = one_kind i j in absurd (differ (cc))

    pub event_VI : At belongs a n Fault.ClaimUnpaired
    event_VI = (λ r j. let e = one_kind i j in absurd (differ (cc)), λ r j. let e = one_kind i j in absurd (differ (cc)))

    pub event_VIII : At belongs a n Fault.ArrowPastEnd
    event_VIII = (λ r j. let e = one_kind i j in absurd (differ (cc)), λ r j. let e = one_kind i j in absurd (differ (cc)))

    pub event_X : ((m : ℕ) × Before a m n) ↔ At belongs a n Fault.EventFirst
    event_X = (λ h u j. last_arrow h.1, λ h. let w = h v i in (w.0, one w.1))

    pub event_XI : InLine a n ↔ At belongs a n Fault.EventsUnordered
    event_XI = (
      λ h u j m k d. let e = one_kind i j in let s : u ≡ v = cc in h m (like i k (ap Label.Event s)) d,
      λ h m l d. h v i m (record { within = l.within; kind = event_of_lem (kind_of a m) v (l.label ∙ labelled i) }) d,
    )
