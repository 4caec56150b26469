-- 33 "an action or event with duration not above the slack": where none is found, every one lasts longer than the slack.
use Rattle.std.specs.Prelude.{◌≡◌, refl, Bool, true, false, cond, ◌&&◌, List, [], ◌∷◌, ℕ, zero, suc, ◌+◌, ◌≤◌, ◌<◌, leb, Option, Some, None}
use Rattle.std.proofs.Common.{sym, subst, arith, leb-false}
use Rattle.std.proofs.Math.Decide.{ℕ_discrete}
use Rattle.basis.proofs.Laws.Bools.{and-false, or-false}
use Rattle.plan.specs.Plan.{activity_of}
use Rattle.plan.specs.declared.Node.{Node}
use Rattle.plan.specs.declared.Plan.{Plan}
use Rattle.run_path.specs.Path.{is_work}
use Rattle.run_opening.specs.Short.{any_short, short_from, on_short}
use Rattle.demands_theory.proofs.Laws.OfPlan.{Outlast}
use Rattle.demands_run.proofs.Laws.Loaded.{working_work}

none_short : (slack : ℕ) (ns : List Node) → any_short slack ns ≡ false → Outlast slack ns
unfolding any_short
none_short slack [] e n l w = absurd (omega arith)
none_short slack (x ∷ ns) e zero l w =
    leb-false x.duration slack (and-false (is_work x.kind) (leb x.duration slack) (or-false (is_work x.kind && leb x.duration slack) (any_short slack ns) e).0 (working_work x.kind w))
none_short slack (x ∷ ns) e (suc n) l w = none_short slack ns (or-false (is_work x.kind && leb x.duration slack) (any_short slack ns) e).1 n (omega arith) w

pub short_none : (p : Plan) (slack k a : ℕ) → short_from p slack a k ≡ None → (b : ℕ) → a ≤ b → b < a + k → Outlast slack (activity_of p b)
unfolding short_from
short_none p slack zero a e b h l = absurd (omega arith)
short_none p slack (suc k) a e b h l = go (any_short slack (activity_of p a)) refl e (ℕ_discrete b a) (λ q m. short_none p slack k (a + 1) q b m (omega arith))
  where
    go : (c : Bool) → any_short slack (activity_of p a) ≡ c → cond c (Some a) (short_from p slack (a + 1) k) ≡ None → Dec (b ≡ a)
        → (short_from p slack (a + 1) k ≡ None → a + 1 ≤ b → Outlast slack (activity_of p b)) → Outlast slack (activity_of p b)
    go true f q d more = absurd (let z : ◌≡◌ {A = ℕ} 0 1 = cc in omega arith)
    go false f q (yes z) more = subst (λ (n : ℕ). Outlast slack (activity_of p n)) (sym z) (none_short slack (activity_of p a) f)
    go false f q (no z) more = more q (omega arith)

pub by_shortest : {A : Type 0} (P : A → Type 0) (s : Option ℕ) (f : ℕ → A) (z : A) → ((a : ℕ) → P (f a)) → (s ≡ None → P z) → P (on_short s f z)
by_shortest P None f z k g = g refl
by_shortest P (Some a) f z k g = k a
