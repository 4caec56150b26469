-- 33: "an action or event with duration not above the slack, place = lowest such activity".
use Rattle.std.specs.Prelude.{Bool, false, cond, ◌&&◌, ◌||◌, List, [], ◌∷◌, ℕ, zero, suc, ◌+◌, leb, Option, Some, None}
use Rattle.plan.specs.Plan.{activity_of}
use Rattle.plan.specs.declared.Node.{Node}
use Rattle.plan.specs.declared.Plan.{Plan}
use Rattle.run_path.specs.Path.{is_work}

-- "an action or event with duration not above the slack"
abbrev pub is_short : ℕ → Node → Bool
is_short slack n = is_work n.kind && leb n.duration slack

unfoldable pub any_short : ℕ → List Node → Bool
any_short slack [] = false
any_short slack (n ∷ ns) = is_short slack n || any_short slack ns

-- "the lowest such activity": among k activities from a on
unfoldable pub short_from : Plan → ℕ → ℕ → ℕ → Option ℕ
short_from p slack a zero = None
short_from p slack a (suc k) = cond (any_short slack (activity_of p a)) (Some a) (short_from p slack (a + 1) k)

abbrev pub on_short : {A : Type 0} → Option ℕ → (ℕ → A) → A → A
on_short None f z = z
on_short (Some a) f z = f a
