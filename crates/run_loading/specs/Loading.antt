-- "Paths are loaded up to a waiting or final state; the next is loaded in the call that reports the awaited outcome, and
-- further ones while their outcomes are already reported."
use Rattle.std.specs.Prelude.{cond, List, ℕ, zero, suc, ltb, length, Option, Some, None}
use Rattle.plan.specs.declared.Plan.{Plan}
use Rattle.automaton.specs.Next.{next_of}
use Rattle.automaton.specs.declared.Next.{Next}
use Rattle.times.specs.declared.Progress.{Progress}
use Rattle.run_window.specs.Window.{placed, vacancies}
use Rattle.run_window.specs.declared.Entry.{Entry}
use Rattle.run_path.specs.Path.{Path, path_from, longest_path}
use Rattle.run_outcomes.specs.Way.{way_on}
use Rattle.run_loading.specs.declared.Failure.{Failure}
use Rattle.run_loading.specs.declared.Loading.{Loading}

abbrev pub loading : Option Failure → Progress → List Entry → Loading
loading f g w = record { failure = f; progress = g; window = w }

-- "44 ..; then 43 the window would pass 512"; "the failing path adds nothing"
abbrev pub load_path : Progress → List Entry → Path → Loading
load_path g w q =
    cond q.beyond (loading (Some Failure.Beyond) g w)
    (cond (ltb (vacancies w) (length q.entries)) (loading (Some Failure.Full) g w)
    (loading None q.progress (placed w q.entries)))

unfoldable pub load : Plan → Next → Progress → List Entry → Loading
load p next g w = load_path g w (path_from p longest_path next g)

-- ---- further paths

abbrev pub on_way : {A : Type 0} → Next → (ℕ → A) → A → A
on_way Next.Ended f z = z
on_way (Next.Goes t) f z = f t
on_way (Next.Waits e) f z = z

abbrev pub on_failure : {A : Type 0} → Option Failure → A → A → A
on_failure None l m = m
on_failure (Some f) l m = l

abbrev pub on_loading : Loading → (Progress → List Entry → Loading) → Loading
on_loading l f = on_failure l.failure l (f l.progress l.window)

-- at most k paths; each processes a reported instance, of which there are at most 128
unfoldable pub further : Plan → ℕ → Progress → List Entry → Loading
further p zero g w = loading None g w
further p (suc k) g w =
    on_way (way_on p.automaton g (next_of p.automaton g.state))
    (λ t. on_loading (load p (Next.Goes t) g w) (further p k))
    (loading None g w)

-- the most instances that can be pending
abbrev pub most_pending : ℕ
most_pending = 128
