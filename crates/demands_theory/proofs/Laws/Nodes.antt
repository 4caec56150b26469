-- A node is known by its position and number, an action or event is neither claim nor release, and a position has one activity,
-- of the word's.
use Rattle.std.specs.Prelude.{◌≡◌, List, ◌∷◌, ℕ, ◌<◌}
use Rattle.std.proofs.Common.{sym, ◌∙◌, arith}
use Rattle.plan.specs.declared.Kind.{Kind}
use Rattle.plan.specs.declared.Output.{Output}
use Rattle.plan.specs.declared.Plan.{Plan}
use Rattle.times_combined.specs.Combined.{identity, NotClaim, NotRelease}
use Rattle.demands_log.specs.Log.{Id}
use Rattle.demands_theory.specs.Nodes.{whose, Working, length_of, EmitsAt, here, earlier}

position_same : {q m r n : ℕ} → identity q m ≡ identity r n → q ≡ r
position_same e = cc

number_same : {q m r n : ℕ} → identity q m ≡ identity r n → m ≡ n
number_same e = cc

pub whose_same : (x y : Id) → whose x ≡ whose y → x ≡ y
whose_same x y e =
    let p : x.position ≡ y.position = (let u = position_same e in omega arith) in
    let n : x.node ≡ y.node = number_same e in
    λ i. record { position = p i; node = n i }

pub not_claim : (k : Kind) → Working k → NotClaim k
not_claim (Kind.Claim _) h = elim h [ ]
not_claim (Kind.Release _) h = elim h [ ]
not_claim (Kind.Action a p) h = tt
not_claim (Kind.Event e) h = tt

pub not_release : (k : Kind) → Working k → NotRelease k
not_release (Kind.Claim _) h = elim h [ ]
not_release (Kind.Release _) h = elim h [ ]
not_release (Kind.Action a p) h = tt
not_release (Kind.Event e) h = tt

pub emits_below_lem : (p : Plan) (is : List ℕ) (q a : ℕ) → EmitsAt p is q a → q < length_of is
emits_below_lem p mathlib.Core.List.[] q a x' = elim x' [ ]
emits_below_lem p (i ∷ is) q a (here e o) = omega arith
emits_below_lem p (i ∷ is) q a (earlier h) = let u = emits_below_lem p is q a h in omega arith

activity_same : {a b : ℕ} → Output.Activity a ≡ Output.Activity b → a ≡ b
activity_same e = cc

pub one_activity : (p : Plan) (is : List ℕ) (q a b : ℕ) → EmitsAt p is q a → EmitsAt p is q b → a ≡ b
one_activity p mathlib.Core.List.[] q a b x'' _ = elim x'' [ ]
one_activity p (i ∷ is) q a b (here e o) (here f n) = activity_same (sym o ∙ n)
one_activity p (i ∷ is) q a b (here e o) (earlier h) = absurd (let u = emits_below_lem p is q b h in omega arith)
one_activity p (i ∷ is) q a b (earlier g) (here f n) = absurd (let u = emits_below_lem p is q a g in omega arith)
one_activity p (i ∷ is) q a b (earlier g) (earlier h) = one_activity p is q a b g h
