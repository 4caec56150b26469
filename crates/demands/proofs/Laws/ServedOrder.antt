-- The order of ask and 41, in words: of two turns the one goes before the other by its numbers exactly where it is served before it.
use Rattle.std.specs.Prelude.{◌≡◌, refl, true, List, [], ◌∷◌, ◌⊎◌, ◌↔◌, ℕ, ◌<◌, get_or}
use Rattle.std.proofs.Common.{sym, ◌∙◌, ap, subst, true≢false, inl, inr, ⊎_elim, arith}
use Rattle.plan.specs.declared.Kind.{Kind}
use Rattle.plan.specs.declared.Plan.{Plan}
use Rattle.plan.specs.Limits.{KindNames, InLimits}
use Rattle.run_window.specs.Window.{precedes, rank}
use Rattle.run_window.proofs.Laws.Order.{precedes_lower, precedes_same, precedes_either}
use Rattle.demands.specs.Conditions.{IsAction}
use Rattle.demands.specs.Served.{Turn, Level, Served, Alike}

-- the numbers by which a turn goes
abbrev pub numbers_of : Turn → List ℕ
numbers_of a = a.start ∷ (rank a.kind ∷ (a.position ∷ (a.node ∷ [])))

-- ---- ranks

-- peripherals are 0 to 63
abbrev pub Numbered : Kind → Type 0
Numbered (Kind.Action a p) = p < 64
Numbered (Kind.Claim r) = Unit {0}
Numbered (Kind.Release r) = Unit {0}
Numbered (Kind.Event e) = Unit {0}

pub kind_numbered : (p : Plan) → InLimits p → (k : Kind) → KindNames p k → Numbered k
kind_numbered p l (Kind.Action a x) n = let h = l.peripherals in omega arith
kind_numbered p l (Kind.Claim r) n = tt
kind_numbered p l (Kind.Release r) n = tt
kind_numbered p l (Kind.Event e) n = tt

no_action : (k : Kind) → (IsAction k → ⊥) → rank k ≡ 64
no_action (Kind.Action a p) n = absurd (n tt)
no_action (Kind.Claim r) n = refl
no_action (Kind.Release r) n = refl
no_action (Kind.Event e) n = refl

action_below : (k : Kind) → Numbered k → IsAction k → rank k < 64
action_below (Kind.Action a p) n h = n
action_below (Kind.Claim r) n h = absurd h
action_below (Kind.Release r) n h = absurd h
action_below (Kind.Event e) n h = absurd h

level_rank : (h k : Kind) → Level h k → rank h ≡ rank k
level_rank _ _ Level.peripheral = refl
level_rank h k (Level.others n m) = no_action h n ∙ sym (no_action k m)

action_or_other : (k : Kind) → ((a : ℕ) × (p : ℕ) × (k ≡ Kind.Action a p)) ⊎ (IsAction k → ⊥)
action_or_other (Kind.Action a p) = inl (a, p, refl)
action_or_other (Kind.Claim r) = inr (λ h. h)
action_or_other (Kind.Release r) = inr (λ h. h)
action_or_other (Kind.Event e) = inr (λ h. h)

is_action_lem : (k : Kind) (a p : ℕ) → k ≡ Kind.Action a p → IsAction k
is_action_lem k a p q = subst IsAction (sym q) tt

-- ---- two turns

nothing_left : precedes [] [] ≡ true → ⊥
unfolding precedes
nothing_left w = true≢false (sym w)

module _ (a b : Turn) (m : Numbered a.kind) (n : Numbered b.kind) where
  -- of one rank, neither is first by its kind
  rank_level : rank a.kind ≡ rank b.kind → Level a.kind b.kind
  rank_level e = go (action_or_other a.kind) (action_or_other b.kind)
    where
      same : (x p y q : ℕ) → p ≡ q → Level (Kind.Action x p) (Kind.Action y q)
      same x p y q r = subst (λ (z : ℕ). Level (Kind.Action x p) (Kind.Action y z)) r Level.peripheral

      go : ((x : ℕ) × (p : ℕ) × (a.kind ≡ Kind.Action x p)) ⊎ (IsAction a.kind → ⊥) → ((y : ℕ) × (q : ℕ) × (b.kind ≡ Kind.Action y q)) ⊎ (IsAction b.kind → ⊥) → Level a.kind b.kind
      go (inl (x, p, u)) (inl (y, q, v)) = rw (u, v) (same x p y q (sym (ap rank u) ∙ (e ∙ ap rank v)))
      go (inl (x, p, u)) (inr j) = absurd (let l = action_below a.kind m (is_action_lem a.kind x p u) in let o = no_action b.kind j in omega arith)
      go (inr i) (inl (y, q, v)) = absurd (let l = action_below b.kind n (is_action_lem b.kind y q v) in let o = no_action a.kind i in omega arith)
      go (inr i) (inr j) = Level.others i j

  -- of a lower rank, it is an action of a lower peripheral, or the other is none
  rank_lower : a.start ≡ b.start → rank a.kind < rank b.kind → Served a b
  rank_lower s l = go (action_or_other a.kind) (action_or_other b.kind)
    where
      go : ((x : ℕ) × (p : ℕ) × (a.kind ≡ Kind.Action x p)) ⊎ (IsAction a.kind → ⊥) → ((y : ℕ) × (q : ℕ) × (b.kind ≡ Kind.Action y q)) ⊎ (IsAction b.kind → ⊥) → Served a b
      go (inl (x, p, u)) (inl (y, q, v)) = Served.peripheral s u v (let g = ap rank u in let h = ap rank v in omega arith)
      go (inl (x, p, u)) (inr j) = Served.action s (is_action_lem a.kind x p u) j
      go (inr i) (inl (y, q, v)) = absurd (let k = action_below b.kind n (is_action_lem b.kind y q v) in let o = no_action a.kind i in omega arith)
      go (inr i) (inr j) = absurd (let k = no_action b.kind j in let o = no_action a.kind i in omega arith)

  -- served first, it goes first
  by_rank : a.start ≡ b.start → rank a.kind < rank b.kind → precedes (numbers_of a) (numbers_of b) ≡ true
  by_rank s l = precedes_same a.start b.start _ _ s (precedes_lower (rank a.kind) (rank b.kind) _ _ l)

  by_identity : a.start ≡ b.start → Level a.kind b.kind → precedes (a.position ∷ (a.node ∷ [])) (b.position ∷ (b.node ∷ [])) ≡ true → precedes (numbers_of a) (numbers_of b) ≡ true
  by_identity s k q = precedes_same a.start b.start _ _ s (precedes_same (rank a.kind) (rank b.kind) _ _ (level_rank a.kind b.kind k) q)

  served_goes : Served a b → precedes (numbers_of a) (numbers_of b) ≡ true
  served_goes (Served.earlier l) = precedes_lower a.start b.start _ _ l
  served_goes (Served.peripheral s u v l) = by_rank s (let g = ap rank u in let h = ap rank v in omega arith)
  served_goes (Served.action s i j) = by_rank s (let l = action_below a.kind m i in let o = no_action b.kind j in omega arith)
  served_goes (Served.position s k l) = by_identity s k (precedes_lower a.position b.position _ _ l)
  served_goes (Served.node s k p l) = by_identity s k (precedes_same a.position b.position _ _ p (precedes_lower a.node b.node _ _ l))

  -- and the other way round
  goes_served : precedes (numbers_of a) (numbers_of b) ≡ true → Served a b
  goes_served q = ⊎_elim Served.earlier (λ (s, r). ⊎_elim (rank_lower s) (λ (k, t). last s (rank_level k) t) (precedes_either _ _ _ _ r)) (precedes_either a.start b.start _ _ q)
    where
      last : a.start ≡ b.start → Level a.kind b.kind → precedes (a.position ∷ (a.node ∷ [])) (b.position ∷ (b.node ∷ [])) ≡ true → Served a b
      last s k t = ⊎_elim (Served.position s k) (λ u. ⊎_elim (Served.node s k u.0) (λ v. absurd (nothing_left v.1)) (precedes_either _ _ [] [] u.1)) (precedes_either a.position b.position _ _ t)

  pub served_iff : (precedes (numbers_of a) (numbers_of b) ≡ true) ↔ Served a b
  served_iff = (goes_served, served_goes)

  pub same_alike : numbers_of a ≡ numbers_of b → Alike a b
  same_alike q = record {
    start = ap (λ (l : List ℕ). get_or l 0 0) q;
    kind = rank_level (ap (λ (l : List ℕ). get_or l 1 0) q);
    position = ap (λ (l : List ℕ). get_or l 2 0) q;
    node = ap (λ (l : List ℕ). get_or l 3 0) q;
  }
