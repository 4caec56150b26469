-- Every test of an opening tells its condition.
use Rattle.std.specs.Prelude.{◌≡◌, refl, Bool, true, false, cond, ◌||◌, List, [], ◌∷◌, ◌⊎◌, ℕ, zero, suc, ◌+◌, ◌≤◌, ◌<◌, ltb, length, get_or, Option}
use Rattle.std.proofs.Common.{ap, subst, inl, inr, ⊎_elim, arith}
use Rattle.std.proofs.Math.Decide.{ℕ_discrete, dec_lt}
use Rattle.basis.specs.Inner.Tells.{Tells, holds, fails}
use Rattle.basis.proofs.Laws.Tells.{tells_iff, tells_and, tells_or, tells_ltb, tells_leb}
use Rattle.time.specs.Time.{horizon}
use Rattle.time.specs.declared.Clock.{Clock}
use Rattle.plan.specs.Plan.{past_node, activity_of}
use Rattle.plan.specs.declared.Kind.{Kind}
use Rattle.plan.specs.declared.Node.{Node}
use Rattle.plan.specs.declared.Plan.{Plan}
use Rattle.run_path.specs.Path.{is_work}
use Rattle.run.specs.Limits.{slack_in_limits}
use Rattle.run_opening.specs.Short.{on_short, any_short, short_from}
use Rattle.run_opening.specs.Given.{any_above}
use Rattle.demands_theory.specs.Nodes.{Working}
use Rattle.demands.specs.Openings.{TimeAbove, SlackOutside, HasShort, LowestShort}

-- ---- a test that tells P

pub is_true : {b : Bool} {P : Type 0} → Tells b P → ((P → ⊥) → ⊥) → b ≡ true
is_true (holds p) q = refl
is_true (fails n) q = absurd (q n)

-- ---- some element of a list

module _ {X : Type 0} (d : X) (P : X → Type 0) where
  abbrev pub Some : List X → Type 0
  Some xs = (i : ℕ) × (i < length xs) × P (get_or xs i d)

  some-none : Tells false (Some [])
  some-none = fails (λ s. omega (arith, s.1))

  some_more : {b c : Bool} (x : X) (xs : List X) → Tells b (P x) → Tells c (Some xs) → Tells (b || c) (Some (x ∷ xs))
  some_more x xs t u =
      tells_iff (⊎_elim (λ p. (0, omega arith, p)) (λ s. (suc s.0, omega (arith, s.1), s.2)), λ s. split s.0 s.1 s.2) (tells_or t u)
    where
      split : (i : ℕ) → i < length (x ∷ xs) → P (get_or (x ∷ xs) i d) → P x ⊎ Some xs
      split zero l p = inl p
      split (suc i) l p = inr (i, omega arith, p)

-- ---- 31 and 32

tells_above : (ts : List ℕ) → Tells (any_above ts) (Some 0 (λ t. horizon < t) ts)
unfolding any_above
tells_above [] = some-none 0 (λ t. horizon < t)
tells_above (t ∷ ts) = some_more 0 (λ t. horizon < t) t ts (tells_ltb horizon t) (tells_above ts)

pub tells_time : (psi : Clock) (ts : List ℕ) → Tells (ltb horizon psi.0 || any_above ts) (TimeAbove psi ts)
tells_time psi ts = tells_iff (⊎_elim TimeAbove.start (λ s. TimeAbove.availability s.0 s.1 s.2), back) (tells_or (tells_ltb horizon psi.0) (tells_above ts))
  where
    back : TimeAbove psi ts → (horizon < psi.0) ⊎ Some 0 (λ t. horizon < t) ts
    back (TimeAbove.start h) = inl h
    back (TimeAbove.availability r l h) = inr (r, l, h)

pub tells_slack : (slack : ℕ) → Tells (slack_in_limits slack) ((1 ≤ slack) × (slack ≤ 1_000_000))
tells_slack slack = tells_and (tells_leb 1 slack) (tells_leb slack 1_000_000)

pub outside : (slack : ℕ) → ((1 ≤ slack) × (slack ≤ 1_000_000) → ⊥) → SlackOutside slack
outside slack n = elim (ℕ_discrete slack 0) [
  | yes z ↦ SlackOutside.none z
  | no z ↦ elim (dec_lt 1_000_000 slack) [ yes l ↦ SlackOutside.above l | no l ↦ absurd (n (omega (arith, z), omega (arith, l))) ]
]

pub inside : (slack : ℕ) → (1 ≤ slack) × (slack ≤ 1_000_000) → SlackOutside slack → ⊥
inside slack h (SlackOutside.none z) = omega arith
inside slack h (SlackOutside.above l) = omega arith

-- ---- 33

tells_working : (k : Kind) → Tells (is_work k) (Working k)
tells_working (Kind.Action a x) = holds tt
tells_working (Kind.Claim r) = fails (λ h. h)
tells_working (Kind.Release r) = fails (λ h. h)
tells_working (Kind.Event e) = holds tt

-- some node of an activity is short
abbrev pub SomeShort : ℕ → List Node → Type 0
SomeShort slack = Some past_node (λ x. Working x.kind × (x.duration ≤ slack))

tells_short : (slack : ℕ) (ns : List Node) → Tells (any_short slack ns) (SomeShort slack ns)
unfolding any_short
tells_short slack [] = some-none past_node (λ x. Working x.kind × (x.duration ≤ slack))
tells_short slack (n ∷ ns) = some_more past_node (λ x. Working x.kind × (x.duration ≤ slack)) n ns (tells_and (tells_working n.kind) (tells_leb n.duration slack)) (tells_short slack ns)

-- the lowest of k numbers from a on that has P
pub data Finds (P : ℕ → Type 0) (a k : ℕ) : Option ℕ → Type 0 where
  nothing : ((b : ℕ) → a ≤ b → b < a + k → P b → ⊥) → Finds P a k Option.None
  lowest : {c : ℕ} → a ≤ c → c < a + k → P c → ((b : ℕ) → a ≤ b → b < c → P b → ⊥) → Finds P a k (Option.Some c)

find_on : (P : ℕ → Type 0) (a k : ℕ) {b : Bool} {s : Option ℕ} → Tells b (P a) → Finds P (a + 1) k s → Finds P a (suc k) (cond b (Option.Some a) s)
find_on P a k (holds p) f = lowest {c = a} (omega arith) (omega arith) p (λ b l m. absurd (omega arith))
find_on P a k (fails n) (nothing g) =
    nothing (λ b l m h. elim (ℕ_discrete b a) [ yes z ↦ n (subst P z h) | no z ↦ g b (omega (arith, z)) (omega arith) h ])
find_on P a k (fails n) (lowest {c} l m p g) =
    lowest {c = c} (omega arith) (omega arith) p (λ b u v h. elim (ℕ_discrete b a) [ yes z ↦ n (subst P z h) | no z ↦ g b (omega (arith, z)) v h ])

pub finds : (p : Plan) (slack k a : ℕ) → Finds (λ b. SomeShort slack (activity_of p b)) a k (short_from p slack a k)
unfolding short_from
finds p slack zero a = nothing (λ b l m h. omega arith)
finds p slack (suc k) a = find_on (λ b. SomeShort slack (activity_of p b)) a k (tells_short slack (activity_of p a)) (finds p slack k (a + 1))

module _ (p : Plan) (slack : ℕ) where
  has_short : (a : ℕ) → a < p.activities → SomeShort slack (activity_of p a) → HasShort p slack a
  has_short a l s = record { within = l; number = s.0; short = record { within = s.1; working = s.2.0; short = s.2.1 } }

  is_short_lem : (a : ℕ) → HasShort p slack a → SomeShort slack (activity_of p a)
  is_short_lem a h = (h.number, h.short.within, (h.short.working, h.short.short))

  pub by_finds : {A : Type 0} (Q : A → Type 0) {s : Option ℕ} (f : ℕ → A) (z : A) → Finds (λ b. SomeShort slack (activity_of p b)) 0 p.activities s
      → ((a : ℕ) → LowestShort p slack a → Q (f a)) → (((a : ℕ) → HasShort p slack a → ⊥) → Q z) → Q (on_short s f z)
  by_finds Q f z (nothing g) u v = v (λ a h. g a (omega arith) (omega (arith, h.within)) (is_short_lem a h))
  by_finds Q f z (lowest {c} l m s g) u v = u c (record { here = has_short c (omega arith) s; lower = λ b i h. g b (omega arith) i (is_short_lem b h) })

  pub lowest_is : {s : Option ℕ} (a : ℕ) → Finds (λ b. SomeShort slack (activity_of p b)) 0 p.activities s → LowestShort p slack a → s ≡ Option.Some a
  lowest_is a (nothing g) h = absurd (g a (omega arith) (omega (arith, h.here.within)) (is_short_lem a h.here))
  lowest_is a (lowest {c} l m s g) h = elim (dec_lt c a) [
    | yes u ↦ absurd (h.lower c u (has_short c (omega arith) s))
    | no u ↦ elim (dec_lt a c) [ yes v ↦ absurd (g a (omega arith) v (is_short_lem a h.here)) | no v ↦ ap Option.Some (omega (arith, u, v)) ]
  ]

  pub none_is : {s : Option ℕ} → Finds (λ b. SomeShort slack (activity_of p b)) 0 p.activities s → ((a : ℕ) → HasShort p slack a → ⊥) → s ≡ Option.None
  none_is (nothing g) n = refl
  none_is (lowest {c} l m s g) n = absurd (n c (has_short c (omega arith) s))
