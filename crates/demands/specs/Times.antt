-- Demand 2, the times: "Each node's times equal those of the whole behaviour's combined activity."
use Rattle.std.specs.Prelude.{◌≡◌, List, ℕ, ◌<◌, length, get_or}
use Rattle.plan.specs.declared.Kind.{Kind}
use Rattle.plan.specs.declared.Plan.{Plan}
use Rattle.judge.specs.Judge.{accepted, judge_of}
use Rattle.times.specs.Times.{at}
use Rattle.times.specs.declared.Progress.{Progress}
use Rattle.times_combined.specs.Combined.{Ident}
use Rattle.times_combined.specs.Combined as C
use Rattle.times_combined.specs.Times.{Timing}
use Rattle.times_combined.specs.Paths.{Follows}
use Rattle.times_equal.specs.Plans.{progress_after, schedule_at}
use Rattle.run_opening.specs.Given.{at_first, availabilities}
use Rattle.demands_log.specs.Log.{Id}
use Rattle.demands_theory.specs.TheWord.{state_after, whole_of}
use Rattle.demands_theory.specs.Nodes.{whose, Work}
use Rattle.demands.specs.Accepted.{Bytes}

-- ---- the engine's way, one transition at a time; transitions stand latest first

-- what the opening stores
abbrev pub opened : Plan → List ℕ → Progress
opened p ts = at_first (availabilities ts) p.automaton.initial

abbrev pub engine_start : Plan → List ℕ → List ℕ → Id → ℕ
engine_start p ts is x = at (schedule_at p (opened p ts) is x.position).start x.node

abbrev pub engine_end : Plan → List ℕ → List ℕ → Id → ℕ
engine_end p ts is x = at (schedule_at p (opened p ts) is x.position).end x.node

-- ---- the claim

-- the engine's times are those of Def. 11 on the combined activity of the whole word, and Def. 11 has no others there
pub record TimesEqual (p : Plan) (ts is : List ℕ) : Type 0 where
  pub solved : (S : Ident → ℕ) × (E : Ident → ℕ) × Timing (whole_of p is) (λ r. get_or ts r 0) S E
  pub starts : (S E : Ident → ℕ) → Timing (whole_of p is) (λ r. get_or ts r 0) S E → (x : Id) → Work (whole_of p is) x → S (whose x) ≡ engine_start p ts is x
  pub ends : (S E : Ident → ℕ) → Timing (whole_of p is) (λ r. get_or ts r 0) S E → (x : Id) → Work (whole_of p is) x → E (whose x) ≡ engine_end p ts is x
  -- each resource has one release there
  pub releases : (r : ℕ) → r < p.resources → (x : Ident) × C.Is (whole_of p is) x (Kind.Release r) × ((y : Ident) → C.Is (whole_of p is) y (Kind.Release r) → y ≡ x)
  -- the engine's availabilities are the completions of the releases
  pub free : (S E : Ident → ℕ) → Timing (whole_of p is) (λ r. get_or ts r 0) S E → (x : Ident) (r : ℕ) → r < p.resources → C.Is (whole_of p is) x (Kind.Release r)
      → E x ≡ at (progress_after p (opened p ts) is).available r

-- for every accepted plan, availabilities and word of its automaton
abbrev pub StatementTimesEqual : Type 0
StatementTimesEqual =
    (bytes : List ℕ) (p : Plan) (ts is : List ℕ) → Bytes bytes → judge_of bytes ≡ accepted p → length ts ≡ p.resources
    → Follows p p.automaton.initial is (state_after p is) → TimesEqual p ts is
