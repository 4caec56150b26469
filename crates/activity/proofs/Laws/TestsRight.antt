-- Each test of `Number` tells whether its rule of `Rules` holds. Assumes nothing.
use Rattle.std.specs.Prelude.{◌≡◌, Bool, ◌&&◌, ◌||◌, List, ◌⊎◌, ◌↔◌, ℕ, ◌<◌, length, get_or, eqb}
use Rattle.std.proofs.Math.Bool.{not}
use Rattle.std.proofs.Common.{inl, inr, ⊎_elim}
use Rattle.std.proofs.Math.Decide.{ℕ_discrete}
use Rattle.basis.specs.Lists.{one}
use Rattle.basis.specs.Tests.{every, some}
use Rattle.basis.specs.Inner.Tells.{Tells}
use Rattle.basis.proofs.Laws.Tells.{tells_iff, tells_not, tells_and, tells_or, tells_eqb}
use Rattle.basis.proofs.Laws.Every.{tells_every, tells_some}
use Rattle.plan.specs.Plan.{predecessors}
use Rattle.plan.specs.declared.Kind.{Kind}
use Rattle.plan.specs.declared.Node.{Node}
use Rattle.activity.specs.Rules.{node, Is, Before, Ordered, NoCycle, RuleI, RuleII, RuleIII, RuleIV, RuleV, RuleVI, RuleVII, RuleVIII, RuleIX, RuleX, RuleXI}
use Rattle.activity.specs.Tests.{implies}
use Rattle.activity.specs.Number.{kind_of, before, ordered, no_cycle, rule_i, rule_ii, rule_iii, rule_iv, rule_v, rule_vi, rule_vii, rule_viii, rule_ix, rule_x, rule_xi}
use Rattle.activity.proofs.Laws.Tells.{Sort, actions, claims, releases, events, tells_implies, tells_none, tells_any}
use Rattle.activity.proofs.Laws.Bits.{tells_bit}
use Rattle.activity.specs.Inner.Closure.{Closure}
use Rattle.activity.proofs.Laws.Closure.{within, first_arrow}

-- the nodes of a sort, one by one
module _ (a : List Node) {is : ℕ → Kind → Bool} {of : Kind → (ℕ → Bool) → Bool} {K : ℕ → Kind → Type 0} (s : Sort is of K) where
  each :
      {f : ℕ → ℕ → Bool} {P : ℕ → ℕ → Type 0} → ((n r : ℕ) → Tells (f n r) (P n r))
      → Tells (every (length a) (λ n. of (kind_of a n) (f n))) ((n : ℕ) → n < length a → (r : ℕ) → K r (kind_of a n) → P n r)
  each {f} {P} h =
      tells_every (λ n. of (kind_of a n) (f n)) (λ n. (r : ℕ) → K r (kind_of a n) → P n r) (length a)
      (λ n l. s.tells_of (kind_of a n) (f n) (P n) (h n))

  pub all_of :
      {f : ℕ → Bool} {P : ℕ → Type 0} (r : ℕ) → ((m : ℕ) → Tells (f m) (P m))
      → Tells (every (length a) (λ m. implies (is r (kind_of a m)) (f m))) ((m : ℕ) → m < length a → K r (kind_of a m) → P m)
  all_of {f} {P} r h =
      tells_every (λ m. implies (is r (kind_of a m)) (f m)) (λ m. K r (kind_of a m) → P m) (length a)
      (λ m l. tells_implies (s.tells_is r (kind_of a m)) (h m))

  pub one_of :
      {f : ℕ → Bool} {P : ℕ → Type 0} (r : ℕ) → ((m : ℕ) → Tells (f m) (P m))
      → Tells (some (length a) (λ m. is r (kind_of a m) && f m)) ((m : ℕ) × (m < length a) × (K r (kind_of a m) × P m))
  one_of {f} {P} r h =
      tells_some (λ m. is r (kind_of a m) && f m) (λ m. K r (kind_of a m) × P m) (length a)
      (λ m l. tells_and (s.tells_is r (kind_of a m)) (h m))

pub is_node_lem : {a : List Node} {n : ℕ} {k : Kind} → n < length a → kind_of a n ≡ k → Is a n k
is_node_lem l e = record { within = l; kind = e }

pub same_or : {Q : Type 0} (m n : ℕ) → ((m ≡ n → ⊥) → Q) → (m ≡ n) ⊎ Q
same_or m n f = elim (ℕ_discrete m n) [ yes e ↦ inl e | no d ↦ inr (f d) ]

pub not_same : {Q : Type 0} {m n : ℕ} → (m ≡ n → ⊥) → (m ≡ n) ⊎ Q → Q
not_same d s = ⊎_elim (λ e. absurd (d e)) (λ q. q) s

-- a claim or a release that is another's, once it is one of the sort
once :
    (a : List Node) (K : ℕ → Kind)
    → ((n : ℕ) → n < length a → (r : ℕ) → kind_of a n ≡ K r → (m : ℕ) → m < length a → kind_of a m ≡ K r → m ≡ n)
    ↔ ((m n r : ℕ) → Is a m (K r) → Is a n (K r) → m ≡ n)
once a K = (λ f m n r i j. f n j.within r j.kind m i.within i.kind, λ f n l r e m k d. f m n r (is_node_lem k d) (is_node_lem l e))

-- each node of one sort has one of another
held :
    (a : List Node) (K L : ℕ → Kind) (B : ℕ → ℕ → Type 0)
    → ((n : ℕ) → n < length a → (r : ℕ) → kind_of a n ≡ K r → (m : ℕ) × (m < length a) × ((kind_of a m ≡ L r) × B m n))
    ↔ ((n r : ℕ) → Is a n (K r) → (m : ℕ) × Is a m (L r) × B m n)
held a K L B = (
  λ f n r i. let w = f n i.within r i.kind in (w.0, is_node_lem w.1 w.2.0, w.2.1),
  λ f n l r e. let w = f n r (is_node_lem l e) in (w.0, w.1.within, (w.1.kind, w.2)),
)

-- each action has one of another sort
held_action :
    (a : List Node) (L : ℕ → Kind) (B : ℕ → ℕ → Type 0)
    → ((n : ℕ) → n < length a → (p : ℕ) → (x : ℕ) × (kind_of a n ≡ Kind.Action x p) → (m : ℕ) × (m < length a) × ((kind_of a m ≡ L p) × B m n))
    ↔ ((n x p : ℕ) → Is a n (Kind.Action x p) → (m : ℕ) × Is a m (L p) × B m n)
held_action a L B = (
  λ f n x p i. let w = f n i.within p (x, i.kind) in (w.0, is_node_lem w.1 w.2.0, w.2.1),
  λ f n l p x. let w = f n x.0 p (is_node_lem l x.1) in (w.0, w.1.within, (w.1.kind, w.2)),
)

pub tells_II : (a : List Node) → Tells (rule_ii a) (RuleII a)
unfolding rule_ii
tells_II a = tells_iff (once a Kind.Claim) (each a claims (λ n r. all_of a claims r (λ m. tells_eqb m n)))

pub tells_III : (a : List Node) → Tells (rule_iii a) (RuleIII a)
unfolding rule_iii
tells_III a = tells_iff (once a Kind.Release) (each a releases (λ n r. all_of a releases r (λ m. tells_eqb m n)))

pub tells_VIII : (a : List Node) → Tells (rule_viii a) (RuleVIII a)
unfolding rule_viii
tells_VIII a =
    tells_iff
    (λ f m n r i x. f n i.within r i.kind m x.from, λ f n l r e m x. f m n r (is_node_lem l e) (record { within = l; from = x }))
    (each a claims (λ n r. tells_none (predecessors (node a n))))

pub tells_X : (a : List Node) → Tells (rule_x a) (RuleX a)
unfolding rule_x
tells_X a =
    tells_iff (
      λ f n e i. let w = f n i.within e i.kind in (w.0, record { within = i.within; from = w.1 }),
      λ f n l e i. let w = f n e (is_node_lem l i) in (w.0, w.1.from),
    )
    (each a events (λ n e. tells_any (predecessors (node a n))))

module _ (a : List Node) (words : List ℕ) (h : Closure a words) where
  pub tells_before : (m n : ℕ) → Tells (before words m n) (Before a m n)
  tells_before m n = tells_iff (h m n) (tells_bit (get_or words n 0) m)

  tells_ordered : (m n : ℕ) → Tells (ordered words m n) (Ordered a m n)
  tells_ordered m n = tells_or (tells_before m n) (tells_before n m)

  pub same_or_ordered : (m n : ℕ) → Tells (eqb m n || ordered words m n) ((m ≡ n) ⊎ Ordered a m n)
  same_or_ordered m n = tells_or (tells_eqb m n) (tells_ordered m n)

  pub tells_no_cycle : Tells (no_cycle words a) (NoCycle a)
  unfolding no_cycle
  tells_no_cycle =
      tells_iff (λ f n b. f n (within b) b, λ f n l. f n)
      (tells_every (λ n. not (before words n n)) (λ n. Before a n n → ⊥) (length a) (λ n l. tells_not (tells_before n n)))

  pub tells_I : Tells (rule_i words a) (RuleI a)
  unfolding rule_i
  tells_I =
      tells_iff (
        λ f m n x y p i j d. not_same d (f n j.within p (y, j.kind) m i.within (x, i.kind)),
        λ f n l p y m k x. same_or m n (f m n x.0 y.0 p (is_node_lem k x.1) (is_node_lem l y.1)),
      )
      (each a actions (λ n p. all_of a actions p (λ m. same_or_ordered m n)))

  pub tells_IV : (belongs : ℕ → ℕ) → Tells (rule_iv belongs words a) (RuleIV belongs a)
  unfolding rule_iv
  tells_IV belongs =
      tells_iff (held_action a (λ p. Kind.Claim (belongs p)) (Before a))
      (each a actions (λ n p. one_of a claims (belongs p) (λ m. tells_before m n)))

  pub tells_V : (belongs : ℕ → ℕ) → Tells (rule_v belongs words a) (RuleV belongs a)
  unfolding rule_v
  tells_V belongs =
      tells_iff (held_action a (λ p. Kind.Release (belongs p)) (λ m n. Before a n m))
      (each a actions (λ n p. one_of a releases (belongs p) (λ m. tells_before n m)))

  pub tells_VI : Tells (rule_vi words a) (RuleVI a)
  unfolding rule_vi
  tells_VI =
      tells_iff (held a Kind.Release Kind.Claim (Before a)) (each a releases (λ n r. one_of a claims r (λ m. tells_before m n)))

  pub tells_VII : Tells (rule_vii words a) (RuleVII a)
  unfolding rule_vii
  tells_VII =
      tells_iff (held a Kind.Claim Kind.Release (λ m n. Before a n m))
      (each a claims (λ n r. one_of a releases r (λ m. tells_before n m)))

  pub tells_IX : Tells (rule_ix words a) (RuleIX a)
  unfolding rule_ix
  tells_IX =
      tells_iff (
        λ f m n r i x. f m i.within r i.kind n x.within (one x),
        λ f n l r e m k b. let w = first_arrow b in f n w.0 r (is_node_lem l e) w.1,
      )
      (each a releases (λ n r. tells_every (λ m. not (before words n m)) (λ m. Before a n m → ⊥) (length a) (λ m l. tells_not (tells_before n m))))

  pub tells_XI : Tells (rule_xi words a) (RuleXI a)
  unfolding rule_xi
  tells_XI =
      tells_iff (
        λ f m n e i j d. not_same d (f n j.within e j.kind m i.within i.kind),
        λ f n l e y m k x. same_or m n (f m n e (is_node_lem k x) (is_node_lem l y)),
      )
      (each a events (λ n e. all_of a events e (λ m. same_or_ordered m n)))
