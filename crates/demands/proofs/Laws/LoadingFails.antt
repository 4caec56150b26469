-- `loading_full`, `loading_beyond`: how loading fails in any run, one made up by the host too, which has no word: 44 or 43
-- exactly where a path that the engine comes to crosses a limit, or has no room. Of the runs of an opening `answers_by_log`
-- tells it over the word.
use Rattle.std.specs.Prelude.{◌≡◌, Bool, true, cond, List, [], ◌++◌, ◌⊎◌, ◌↔◌, ℕ, zero, suc, ◌≤◌, ◌<◌, ltb, length, Option, Some, None}
use Rattle.std.proofs.Common.{subst, inl, inr, ⊎_elim, ltb-true, ltb-false, lt-ltb, le-ltb}
use Rattle.basis.specs.Inner.Tells.{Tells, holds, fails}
use Rattle.basis.proofs.Laws.Tells.{told_true, told_false, is_false}
use Rattle.basis.proofs.Laws.Bools.{by_test}
use Rattle.automaton.specs.Next.{next_of}
use Rattle.automaton.specs.declared.Next.{Next}
use Rattle.run_window.specs.Window.{vacancies}
use Rattle.run_path.specs.Path.{Path, taken_by, entries_by, path_from, longest_path}
use Rattle.run.specs.declared.Run.{Run}
use Rattle.run_loading.specs.declared.Failure.{Failure}
use Rattle.run.specs.Loading.{Loading}
use Rattle.demands_log.proofs.Laws.ByCases.{by_way}
use Rattle.demands_run.proofs.Laws.Crosses.{Crosses, tells_crosses}
use Rattle.demands.specs.Places.{way_from}
use Rattle.demands.proofs.Laws.OpeningTests.{is_true}
use Rattle.plan.specs.declared.Plan.{Plan}
use Rattle.times.specs.declared.Progress.{Progress}
use Rattle.run_window.specs.declared.Entry.{Entry}
use Rattle.run.specs.Loading.{load, load_path, with_path, on_loading, further}

-- ---- a path that crosses a limit of 44, as the engine takes it from any progress

-- one of the transitions, at most k, of the path from g on
pub data PathCrosses (p : Plan) : ℕ → Next → Progress → Type 0 where
  here : {k t : ℕ} {g : Progress} → Crosses p t g → PathCrosses p (suc k) (Next.Goes t) g
  later : {k t : ℕ} {g : Progress} → PathCrosses p k (next_of p.automaton (taken_by p t g).progress.state) (taken_by p t g).progress → PathCrosses p (suc k) (Next.Goes t) g

-- a path passes the limits at its first transition or later
abbrev Splits : Plan → ℕ → Next → Progress → Type 0
Splits p zero next g = ⊥
Splits p (suc k) Next.Ended g = ⊥
Splits p (suc k) (Next.Waits e) g = ⊥
Splits p (suc k) (Next.Goes t) g = Crosses p t g ⊎ PathCrosses p k (next_of p.automaton (taken_by p t g).progress.state) (taken_by p t g).progress

splits : {p : Plan} {k : ℕ} {next : Next} {g : Progress} → PathCrosses p k next g → Splits p k next g
splits (PathCrosses.here h) = inl h
splits (PathCrosses.later h) = inr h

tells_path : (p : Plan) (k : ℕ) (next : Next) (g : Progress) → Tells (path_from p k next g).beyond (PathCrosses p k next g)
unfolding path_from
tells_path p zero next g = fails splits
tells_path p (suc k) Next.Ended g = fails splits
tells_path p (suc k) (Next.Waits e) g = fails splits
tells_path p (suc k) (Next.Goes t) g =
    step (entries_by p t g ++ onward.entries) onward.progress (tells_crosses p t g) (tells_path p k (next_of p.automaton (taken_by p t g).progress.state) (taken_by p t g).progress)
  where
    onward : Path
    onward = path_from p k (next_of p.automaton (taken_by p t g).progress.state) (taken_by p t g).progress

    step : {b c : Bool} (es : List Entry) (h : Progress) → Tells b (Crosses p t g)
        → Tells c (PathCrosses p k (next_of p.automaton (taken_by p t g).progress.state) (taken_by p t g).progress)
        → Tells (cond {A = Path} b (record { beyond = true; entries = []; progress = g }) (record { beyond = c; entries = es; progress = h })).beyond (PathCrosses p (suc k) (Next.Goes t) g)
    step es h (holds x) y = holds (PathCrosses.here x)
    step es h (fails n) (holds y) = holds (PathCrosses.later y)
    step es h (fails n) (fails m) = fails (λ x. ⊎_elim n m (splits x))

-- ---- loading

-- the path that begins with transition t
abbrev pub path_by : Run → ℕ → Path
path_by run t = path_from run.plan longest_path (Next.Goes t) run.progress

-- it crosses a limit; or it does not, and the window has a place for each of its nodes
abbrev pub Crossed : Run → ℕ → Type 0
Crossed run t = PathCrosses run.plan longest_path (Next.Goes t) run.progress

pub record HasRoom (run : Run) (t : ℕ) : Type 0 where
  pub within : Crossed run t → ⊥
  pub room : length (path_by run t).entries ≤ vacancies run.window

-- of at most k paths one fails, and those before it are loaded
pub data Fails : ℕ → Run → Option Failure → Type 0 where
  number44 : {k : ℕ} {run : Run} (t : ℕ) → way_from run ≡ Next.Goes t → Crossed run t → Fails (suc k) run (Some Failure.Beyond)
  number43 : {k : ℕ} {run : Run} (t : ℕ) → way_from run ≡ Next.Goes t → (Crossed run t → ⊥) → vacancies run.window < length (path_by run t).entries → Fails (suc k) run (Some Failure.Full)
  later : {k : ℕ} {run : Run} {f : Option Failure} (t : ℕ) → way_from run ≡ Next.Goes t → HasRoom run t → Fails k (with_path run (path_by run t)) f → Fails (suc k) run f

-- a failure, or none
abbrev pub FailsOrNot : ℕ → Run → Option Failure → Type 0
FailsOrNot k run None = Unit {0}
FailsOrNot k run (Some Failure.Full) = Fails k run (Some Failure.Full)
FailsOrNot k run (Some Failure.Beyond) = Fails k run (Some Failure.Beyond)

tells : (run : Run) (t : ℕ) → Tells (path_by run t).beyond (Crossed run t)
tells run t = tells_path run.plan longest_path (Next.Goes t) run.progress

-- ---- a failure comes of a path that cannot be loaded

record Comes (k : ℕ) (run : Run) (l : Loading) : Type 0 where
  comes : FailsOrNot k run l.failure

comes_later : (k : ℕ) (run : Run) (t : ℕ) → way_from run ≡ Next.Goes t → HasRoom run t → (f : Option Failure) → FailsOrNot k (with_path run (path_by run t)) f → FailsOrNot (suc k) run f
comes_later k run t w h None c = tt
comes_later k run t w h (Some Failure.Full) c = Fails.later t w h c
comes_later k run t w h (Some Failure.Beyond) c = Fails.later t w h c

record ComesOn (k : ℕ) (run : Run) (m : Run → Loading) (l : Loading) : Type 0 where
  comes : Comes k run (on_loading l m)

comes_on : (k : ℕ) (run : Run) (t : ℕ) → way_from run ≡ Next.Goes t → ((next : Run) → Comes k next (further k next)) → ComesOn (suc k) run (further k) (load_path run (path_by run t))
comes_on k run t w next =
    by_test (ComesOn (suc k) run (further k)) (path_by run t).beyond _ _ (λ b. record { comes = record { comes = Fails.number44 t w (told_true (tells run t) b) } })
    (λ b. by_test (ComesOn (suc k) run (further k)) (ltb (vacancies run.window) (length (path_by run t).entries)) _ _
    (λ l. record { comes = record { comes = Fails.number43 t w (told_false (tells run t) b) (ltb-true _ _ l) } })
    (λ l. record { comes = record { comes = comes_later k run t w (record { within = told_false (tells run t) b; room = ltb-false _ _ l }) (further k (with_path run (path_by run t))).failure (next (with_path run (path_by run t))).comes } }))

comes : (k : ℕ) (run : Run) → Comes k run (further k run)
unfolding further load
comes zero run = record { comes = tt }
comes (suc k) run = by_way (Comes (suc k) run) (way_from run) _ _ (λ t w. (comes_on k run t w (comes k)).comes) (λ n. record { comes = tt })

-- ---- a path that cannot be loaded makes the failure

ends_so : {k : ℕ} {run : Run} {f : Option Failure} → Fails k run f → (further k run).failure ≡ f
unfolding further load
ends_so (Fails.number44 {run = run} t w b) = rw (w, is_true (tells run t) (λ n. n b))
ends_so (Fails.number43 {run = run} t w b l) = rw (w, is_false (tells run t) b, lt-ltb _ _ l)
ends_so (Fails.later {run = run} t w h r) = rw (w, is_false (tells run t) h.within, le-ltb _ _ h.room) (ends_so r)

-- ---- the theorems

abbrev pub StatementLoading : Option Failure → Type 0
StatementLoading f = (k : ℕ) (run : Run) → ((further k run).failure ≡ f) ↔ Fails k run f

pub loading_full : StatementLoading (Some Failure.Full)
loading_full k run = (λ q. subst (FailsOrNot k run) q (comes k run).comes, ends_so)

pub loading_beyond : StatementLoading (Some Failure.Beyond)
loading_beyond k run = (λ q. subst (FailsOrNot k run) q (comes k run).comes, ends_so)
