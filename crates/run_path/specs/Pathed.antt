-- A path as the code hands it over: all its entries are counted, the first 512 are kept, since "at most 512" can be placed.
use Rattle.std.specs.Prelude.{◌≡◌, false, List, [], ◌∷◌, ℕ, zero, suc, ◌<◌, ◌≤◌, length, take}
use Rattle.plan.specs.declared.Plan.{Plan}
use Rattle.automaton.specs.declared.Next.{Next}
use Rattle.times.specs.declared.Progress.{Progress}
use Rattle.times.specs.Limits.{ProgressInLimits}
use Rattle.run_window.specs.Window.{vacant}
use Rattle.run_window.specs.Inner.Times.{AllInTime}
use Rattle.run_window.specs.declared.Entry.{Entry}
use Rattle.run_path.specs.declared.Pathed.{Pathed}
use Rattle.run_path.specs.Path.{Path}

-- the first n entries of a list, and vacant places past its end
unfoldable pub firsts : ℕ → List Entry → List Entry
firsts zero es = []
firsts (suc n) [] = vacant ∷ firsts n []
firsts (suc n) (e ∷ es) = e ∷ firsts n es

-- "The window holds loaded action and event nodes not yet reported complete, at most 512"
unfoldable pub pathed : Path → Pathed
pathed q = record {
  beyond = q.beyond;
  entries = firsts 512 q.entries;
  count = length q.entries;
  progress = q.progress;
}

-- ---- what is asked

-- where a behaviour stands, within its plan's limits
abbrev pub ProgressIn : Plan → Progress → Type 0
ProgressIn p g = ProgressInLimits p.resources p.events p.automaton.states p.outcomes g

-- the transition that is taken next is one of the plan's, which has so many
abbrev pub Leads : ℕ → Next → Type 0
Leads transitions Next.Ended = Unit {0}
Leads transitions (Next.Waits e) = Unit {0}
Leads transitions (Next.Goes t) = t < transitions

-- ---- what loading needs of it

-- r is the path q, of the plan p: all counted, all kept where at most 512 were counted, and within the limits unless it passes one
pub record Loads (p : Plan) (q : Path) (r : Pathed) : Type 0 where
  pub beyond : r.beyond ≡ q.beyond
  pub count : r.count ≡ length q.entries
  pub entries : r.count ≤ 512 → take r.count r.entries ≡ q.entries
  pub progress : r.progress ≡ q.progress
  pub limits : q.beyond ≡ false → ProgressIn p q.progress
  pub times : q.beyond ≡ false → AllInTime q.entries
