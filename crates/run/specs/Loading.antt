-- "Paths are loaded up to a waiting or final state; the next is loaded in the call that reports the awaited outcome, and
-- further ones while their outcomes are already reported."
use Rattle.std.specs.Prelude.{cond, ℕ, zero, suc, ltb, length, Option, Some, None}
use Rattle.automaton.specs.Next.{next_of}
use Rattle.automaton.specs.declared.Next.{Next}
use Rattle.run.specs.declared.Run.{Run}
use Rattle.run_loading.specs.declared.Failure.{Failure}
pub use Rattle.run_loading.specs.Loading.{on_way, on_failure, most_pending}
use Rattle.run_window.specs.Window.{placed, vacancies}
use Rattle.run_path.specs.Path.{Path, path_from, longest_path}
use Rattle.run_outcomes.specs.Way.{way_on}

-- ---- loading

-- the run after loading; after a failure, as it was before the failing path
pub record Loading : Type 0 where
  pub failure : Option Failure
  pub run : Run

abbrev pub loading : Option Failure → Run → Loading
loading f run = record { failure = f; run = run }

abbrev pub with_path : Run → Path → Run
with_path run q = record {
  plan = run.plan;
  psi = run.psi;
  slack = run.slack;
  progress = q.progress;
  window = placed run.window q.entries;
  last = run.last;
  halt = run.halt;
}

-- "44 ..; then 43 the window would pass 512"; "the failing path adds nothing"
abbrev pub load_path : Run → Path → Loading
load_path run q =
    cond q.beyond (loading (Some Failure.Beyond) run)
    (cond (ltb (vacancies run.window) (length q.entries)) (loading (Some Failure.Full) run)
    (loading None (with_path run q)))

unfoldable pub load : Run → Next → Loading
load run next = load_path run (path_from run.plan longest_path next run.progress)

-- ---- further paths

abbrev pub on_loading : Loading → (Run → Loading) → Loading
on_loading l f = on_failure l.failure l (f l.run)

-- at most k paths; each processes a reported instance, of which there are at most 128
unfoldable pub further : ℕ → Run → Loading
further zero run = loading None run
further (suc k) run =
    on_way (way_on run.plan.automaton run.progress (next_of run.plan.automaton run.progress.state))
    (λ t. on_loading (load run (Next.Goes t)) (further k))
    (loading None run)
