-- `lowest_places`, `outcome_places`, `first_places`: the entries of a path that is loaded take the lowest free places, after an outcome
-- in the window with the reported place cleared, at an opening from place 0 on.
use Rattle.std.specs.Prelude.{◌≡◌, refl, List, ℕ, zero, suc, ◌≤◌, ◌<◌, ltb, length, get_or, Option, Some, None}
use Rattle.std.proofs.Common.{sym, ap, ◌∙◌, subst, true≢false, ⊎_elim, arith, ltb-false}
use Rattle.basis.proofs.Laws.Bools.{by_test}
use Rattle.automaton.specs.declared.Next.{Next}
use Rattle.automaton.specs.Next.{next_of}
use Rattle.plan.specs.declared.Plan.{Plan}
use Rattle.run_window.specs.declared.Entry.{Entry}
use Rattle.run_window.specs.Window.{vacant, is_held, placed, vacancies}
use Rattle.run_window.specs.Places.{Holds}
use Rattle.run_window.proofs.Laws.Tests.{free_true}
use Rattle.run_window.proofs.Laws.Placed.{free_place, place_free, placed_new, placed_cases}
use Rattle.run_window.proofs.Laws.Lowest.{free_below, all_free, placed_at_first}
use Rattle.run_path.specs.Path.{Path, path_from, longest_path}
use Rattle.run_outcomes.specs.Told.{told_of}
use Rattle.judge.specs.Judge.{judge_of}
use Rattle.run_loading.specs.declared.Failure.{Failure}
use Rattle.run.specs.declared.Run.{Run}
use Rattle.run.specs.declared.Answer.{Answer}
use Rattle.run.specs.declared.Opening.{Opening}
use Rattle.run.specs.declared.Opened.{Opened}
use Rattle.run.specs.Loading.{Loading, load_path, load, on_failure, further, most_pending}
use Rattle.run.specs.Calls.{cleared, after_loading}
use Rattle.run.specs.Opening.{open_of, after_first, begin}
use Rattle.demands_log.proofs.Laws.ByCases.{by_way}
use Rattle.demands_log.proofs.Laws.Kept.{unbegun, opened_begins}
use Rattle.demands.specs.Conditions.{entry_at}
use Rattle.demands.proofs.Laws.ConditionsGive.{outcome_call}
use Rattle.demands.specs.Places.{TakenAt, InLowest, path_of, way_from, OneByOne, first_entries, StatementLowestPlaces, StatementOutcomePlaces, StatementFirstPlaces}

-- ---- one path

-- how loading it ends: it is placed and has room, or the run is as before
abbrev Ends : Run → Path → Option Failure → Run → Type 0
Ends run q None next = (next.window ≡ placed run.window q.entries) × (length q.entries ≤ vacancies run.window)
Ends run q (Some Failure.Full) next = next ≡ run
Ends run q (Some Failure.Beyond) next = next ≡ run

record EndsSo (run : Run) (q : Path) (l : Loading) : Type 0 where
  ends : Ends run q l.failure l.run

path_ends : (run : Run) (q : Path) → EndsSo run q (load_path run q)
path_ends run q =
    by_test (EndsSo run q) q.beyond _ _ (λ b. record { ends = refl })
    (λ b. by_test (EndsSo run q) (ltb (vacancies run.window) (length q.entries)) _ _ (λ l. record { ends = refl }) (λ l. record { ends = (refl, ltb-false _ _ l) }))

abbrev path_by : Run → Next → Path
path_by run next = path_from run.plan longest_path next run.progress

load_ends : (run : Run) (next : Next) (f : Option Failure) → (load run next).failure ≡ f → Ends run (path_by run next) f (load run next).run
unfolding load
load_ends run next f e = subst (λ (x : Option Failure). Ends run (path_by run next) x (load run next).run) e (path_ends run (path_by run next)).ends

in_lowest : (w es : List Entry) → length es ≤ vacancies w → InLowest w es (placed w es)
in_lowest w es room = record {
  places = λ k l. (free_place w k, taken k l);
  others = λ j none. ⊎_elim (λ q. q) (λ t. absurd (none t.number t.listed (subst (TakenAt w es (placed w es) t.number) (sym t.place) (taken t.number t.listed)))) (placed_cases w es j);
}
  where
    taken : (k : ℕ) → k < length es → TakenAt w es (placed w es) k (free_place w k)
    taken k l =
        let f = place_free w k (omega arith) in
        record { within = f.0; free = free_true _ f.1; below = free_below w k (omega arith); entry = placed_new w es k l (omega arith) }

pub lowest_places : StatementLowestPlaces
lowest_places run next e =
    let h = load_ends run next None e in
    subst (InLowest run.window (path_of run next)) (sym h.0) (in_lowest run.window (path_of run next) h.1)

-- ---- several paths

record Reaches (run : Run) (l : Loading) : Type 0 where
  reaches : OneByOne run l.run.window

module _ (run : Run) (t : ℕ) (way : way_from run ≡ Next.Goes t) where
  unchanged : (load run (Next.Goes t)).run ≡ run → Reaches run (load run (Next.Goes t))
  unchanged q = record { reaches = subst (OneByOne run) (ap (λ (x : Run). x.window) (sym q)) OneByOne.no_more }

  by_failure : (f : Option Failure) → (load run (Next.Goes t)).failure ≡ f → (rest : Loading) → Reaches (load run (Next.Goes t)).run rest → Reaches run (on_failure f (load run (Next.Goes t)) rest)
  by_failure None e rest r = record { reaches = OneByOne.and_then t way e (lowest_places run (Next.Goes t) e) r.reaches }
  by_failure (Some Failure.Full) e rest r = unchanged (load_ends run (Next.Goes t) (Some Failure.Full) e)
  by_failure (Some Failure.Beyond) e rest r = unchanged (load_ends run (Next.Goes t) (Some Failure.Beyond) e)

one_by_one : (k : ℕ) (run : Run) → Reaches run (further k run)
unfolding further
one_by_one zero run = record { reaches = OneByOne.no_more }
one_by_one (suc k) run =
    by_way (Reaches run) (way_from run) _ _ (λ t w. by_failure run t w (load run (Next.Goes t)).failure refl _ (one_by_one k (load run (Next.Goes t)).run))
    (λ n. record { reaches = OneByOne.no_more })

after_window : (f : Option Failure) (run : Run) → (after_loading f run).run.window ≡ run.window
after_window None run = refl
after_window (Some Failure.Full) run = refl
after_window (Some Failure.Beyond) run = refl

pub outcome_places : StatementOutcomePlaces
outcome_places run t p n o i e l =
    let next = cleared run t i (told_of run.progress e (entry_at run i) o) in
    let w = ap (λ (a : Answer). a.run.window) (outcome_call run t p n o i e l) ∙ after_window (further most_pending next).failure (further most_pending next).run in
    subst (OneByOne next) (sym w) (one_by_one most_pending next).reaches

-- places held before keep what they hold
lowest_kept : (w new v : List Entry) → InLowest w new v → (j : ℕ) (e : Entry) → Holds w j e → Holds v j e
lowest_kept w new v low j e h = record { entry = low.others j (λ k l t. true≢false (sym h.held ∙ ap (λ (x : Entry). is_held x.phase) (sym h.entry) ∙ ap is_held t.free)) ∙ h.entry; held = h.held }

pub one_by_one_kept : {run : Run} {v : List Entry} → OneByOne run v → (j : ℕ) (e : Entry) → Holds run.window j e → Holds v j e
one_by_one_kept OneByOne.no_more j e h = h
one_by_one_kept (OneByOne.and_then {run} {v} t way q low rest) j e h = one_by_one_kept rest j e (lowest_kept run.window (path_of run (Next.Goes t)) (load run (Next.Goes t)).run.window low j e h)

-- ---- the first path

first_loads : (f : Option Failure) (run : Run) → (after_first f run).opening ≡ Opening.Opened → (f ≡ None) × ((after_first f run).run ≡ run)
first_loads None run e = (refl, refl)
first_loads (Some Failure.Full) run e = absurd (let z : ◌≡◌ {A = ℕ} 0 1 = cc in omega arith)
first_loads (Some Failure.Beyond) run e = absurd (let z : ◌≡◌ {A = ℕ} 0 1 = cc in omega arith)

pub first_places : StatementFirstPlaces
first_places bytes psi slack ts opened k = ap (λ (w : List Entry). get_or w k vacant) window ∙ placed_at_first 512 (first_entries p ts) room k
  where
    p : Plan
    p = (judge_of bytes).plan

    first : Loading
    first = load (unbegun p psi slack ts) (next_of p.automaton p.automaton.initial)

    begins : open_of bytes psi slack ts ≡ begin (unbegun p psi slack ts)
    begins = opened_begins bytes psi slack ts opened

    loads : (first.failure ≡ None) × ((after_first first.failure first.run).run ≡ first.run)
    loads = first_loads first.failure first.run (ap (λ (a : Opened). a.opening) (sym begins) ∙ opened)

    ends : Ends (unbegun p psi slack ts) (path_by (unbegun p psi slack ts) (next_of p.automaton p.automaton.initial)) None first.run
    ends = load_ends (unbegun p psi slack ts) (next_of p.automaton p.automaton.initial) None loads.0

    window : (open_of bytes psi slack ts).run.window ≡ placed (unbegun p psi slack ts).window (first_entries p ts)
    window = ap (λ (a : Opened). a.run.window) begins ∙ ap (λ (r : Run). r.window) loads.1 ∙ ends.0

    room : length (first_entries p ts) ≤ 512
    room = let u = ends.1 in let v = all_free 512 in omega arith
