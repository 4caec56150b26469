-- Two activities whose nodes have the same kinds and the same predecessors meet the same rules.
use Rattle.std.specs.Prelude.{◌≡◌, refl, cond, List, [], ◌∷◌, ℕ, suc, ◌<◌, length}
use Rattle.std.proofs.Common.{sym, ◌∙◌, ap, subst, inl, inr, arith}
use Rattle.basis.specs.Lists.{Among, one, more}
use Rattle.plan.specs.Plan.{predecessors, is_event, events_in}
use Rattle.plan.specs.declared.Fault.{Fault}
use Rattle.plan.specs.declared.Kind.{Kind}
use Rattle.plan.specs.declared.Node.{Node}
use Rattle.activity.specs.Rules.{node, Is, Arrow, Before, Ordered, NoCycle, RuleI, RuleII, RuleIII, RuleIV, RuleV, RuleVI, RuleVII, RuleVIII, RuleIX, RuleX, RuleXI, Meets}
use Rattle.activity.specs.Judged.{Rule, First}

pub record Like (a b : List Node) : Type 0 where
  pub long : length a ≡ length b
  pub kinds : (n : ℕ) → n < length a → (node a n).kind ≡ (node b n).kind
  pub arrows : (n : ℕ) → n < length a → predecessors (node a n) ≡ predecessors (node b n)

pub turned : {a b : List Node} → Like a b → Like b a
turned l = record {
  long = sym l.long;
  kinds = λ n h. sym (l.kinds n (omega (arith, l.long)));
  arrows = λ n h. sym (l.arrows n (omega (arith, l.long)));
}

pub is : {a b : List Node} {n : ℕ} {k : Kind} → Like a b → Is a n k → Is b n k
is {n = n} l h = record { within = omega (arith, l.long, h.within); kind = sym (l.kinds n h.within) ∙ h.kind }

arrow : {a b : List Node} {m n : ℕ} → Like a b → Arrow a m n → Arrow b m n
arrow {m = m} {n = n} l h = record { within = omega (arith, l.long, h.within); from = subst (Among m) (l.arrows n h.within) h.from }

before : {a b : List Node} {m n : ℕ} → Like a b → Before a m n → Before b m n
before l (one r) = one (arrow l r)
before l (more c r) = more (before l c) (arrow l r)

ordered : {a b : List Node} {m n : ℕ} → Like a b → Ordered a m n → Ordered b m n
ordered l (inl c) = inl (before l c)
ordered l (inr c) = inr (before l c)

-- `f` and `g` give the resource of each peripheral
module _ (f g : ℕ → ℕ) (a b : List Node) (l : Like a b) (same : (n x y : ℕ) → Is b n (Kind.Action x y) → f y ≡ g y) where
  no_cycle_lem : NoCycle a → NoCycle b
  no_cycle_lem h n c = h n (before (turned l) c)

  rule_I : RuleI a → RuleI b
  rule_I h m n x y p i j d = ordered l (h m n x y p (is (turned l) i) (is (turned l) j) d)

  rule_II : RuleII a → RuleII b
  rule_II h m n r i j = h m n r (is (turned l) i) (is (turned l) j)

  rule_III : RuleIII a → RuleIII b
  rule_III h m n r i j = h m n r (is (turned l) i) (is (turned l) j)

  rule_IV : RuleIV f a → RuleIV g b
  rule_IV h n x p i =
      let q = h n x p (is (turned l) i) in
      (q.0, subst (λ (r : ℕ). Is b q.0 (Kind.Claim r)) (same n x p i) (is l q.1), before l q.2)

  rule_V : RuleV f a → RuleV g b
  rule_V h n x p i =
      let q = h n x p (is (turned l) i) in
      (q.0, subst (λ (r : ℕ). Is b q.0 (Kind.Release r)) (same n x p i) (is l q.1), before l q.2)

  rule_VI : RuleVI a → RuleVI b
  rule_VI h n r i = let q = h n r (is (turned l) i) in (q.0, is l q.1, before l q.2)

  rule_VII : RuleVII a → RuleVII b
  rule_VII h n r i = let q = h n r (is (turned l) i) in (q.0, is l q.1, before l q.2)

  rule_VIII : RuleVIII a → RuleVIII b
  rule_VIII h m n r i x = h m n r (is (turned l) i) (arrow (turned l) x)

  rule_IX : RuleIX a → RuleIX b
  rule_IX h m n r i x = h m n r (is (turned l) i) (arrow (turned l) x)

  rule_X : RuleX a → RuleX b
  rule_X h n e i = let q = h n e (is (turned l) i) in (q.0, arrow l q.1)

  rule_XI : RuleXI a → RuleXI b
  rule_XI h m n e i j d = ordered l (h m n e (is (turned l) i) (is (turned l) j) d)

  pub meets : Meets f a → Meets g b
  meets h = record {
    no_cycle_lem = no_cycle_lem h.no_cycle_lem;
    rule_I = rule_I h.rule_I;
    rule_II = rule_II h.rule_II;
    rule_III = rule_III h.rule_III;
    rule_IV = rule_IV h.rule_IV;
    rule_V = rule_V h.rule_V;
    rule_VI = rule_VI h.rule_VI;
    rule_VII = rule_VII h.rule_VII;
    rule_VIII = rule_VIII h.rule_VIII;
    rule_IX = rule_IX h.rule_IX;
    rule_X = rule_X h.rule_X;
    rule_XI = rule_XI h.rule_XI;
  }

  rule : (t : Fault) → Rule f a t → Rule g b t
  rule Fault.Ends h = tt
  rule Fault.Map h = tt
  rule Fault.NoAutomaton h = tt
  rule Fault.Count h = tt
  rule Fault.Names h = tt
  rule Fault.Duration h = tt
  rule Fault.NotRising h = tt
  rule Fault.LeftOver h = tt
  rule Fault.Cycle h = no_cycle_lem h
  rule Fault.ActionsUnordered h = rule_I h
  rule Fault.NamedTwice h = (rule_II h.0, rule_III h.1)
  rule Fault.ActionUnheld h = (rule_IV h.0, rule_V h.1)
  rule Fault.ClaimUnpaired h = (rule_VI h.0, rule_VII h.1)
  rule Fault.ArrowPastEnd h = (rule_VIII h.0, rule_IX h.1)
  rule Fault.EventFirst h = rule_X h
  rule Fault.EventsUnordered h = rule_XI h
  rule Fault.WayOutOfFinal h = tt
  rule Fault.ForbiddenBranch h = tt
  rule Fault.OutcomeMissing h = tt
  rule Fault.NoWayToFinal h = tt
  rule Fault.Unbalanced h = tt
  rule Fault.TooManyPending h = tt

pub first : (f g : ℕ → ℕ) (a b : List Node) → Like a b → ((n x y : ℕ) → Is b n (Kind.Action x y) → f y ≡ g y) → (t : Fault) → First f a t → First g b t
first f g a b l same t h = record {
  broken = λ r. h.broken (rule g f b a (turned l) (λ n x y i. sym (same n x y (is l i))) t r);
  earlier = λ u k. rule f g a b l same u (h.earlier u k);
}

-- they emit the same events
pub events : (e : ℕ) (a b : List Node) → length a ≡ length b → ((n : ℕ) → n < length a → (node a n).kind ≡ (node b n).kind) → events_in e a ≡ events_in e b
events e [] [] l k = refl
events e [] (y ∷ b) l k = absurd (omega arith)
events e (x ∷ a) [] l k = absurd (omega arith)
events e (x ∷ a) (y ∷ b) l k =
    let z = ap {B = ℕ} (λ (q : Kind). cond (is_event e q) 1 0) (k 0 (omega arith)) in
    let i = events e a b (omega arith) (λ n h. k (suc n) (omega arith)) in
    omega arith
