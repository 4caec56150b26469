-- Request (h), "Fewer copies when a path is loaded": "loading must not move nodes that are already in the window. A node keeps its
-- place from its loading to its report; the nodes of a new path, by position and then node, take the lowest free places, one just
-- reported included. No reply changes in any list as in demand 3." A node's place is its index of 512.
use Rattle.std.specs.Prelude.{◌≡◌, List, [], ◌∷◌, ◌++◌, ◌⊎◌, ℕ, ◌<◌, length, get_or, take, None}
use Rattle.time.specs.declared.Clock.{Clock}
use Rattle.plan.specs.declared.Plan.{Plan}
use Rattle.automaton.specs.Next.{next_of}
use Rattle.automaton.specs.declared.Next.{Next}
use Rattle.judge.specs.Judge.{judge_of}
use Rattle.times.specs.declared.Progress.{Progress}
use Rattle.run_window.specs.declared.Entry.{Entry}
use Rattle.run_window.specs.declared.Phase.{Phase}
use Rattle.run_window.specs.Window.{vacant, started_of, vacancies}
use Rattle.run_window.specs.Places.{Holds}
use Rattle.run_path.specs.Path.{path_from, longest_path}
use Rattle.run_opening.specs.Given.{at_first, availabilities}
use Rattle.run_outcomes.specs.Told.{told_of}
use Rattle.run_outcomes.specs.Way.{way_on}
use Rattle.run.specs.declared.Run.{Run}
use Rattle.run.specs.declared.Call.{Call}
use Rattle.run.specs.declared.Reply.{Reply}
use Rattle.run.specs.declared.Opening.{Opening}
use Rattle.run.specs.Loading.{load}
use Rattle.run.specs.Calls.{call_of, cleared}
use Rattle.run.specs.Opening.{open_of}
use Rattle.demands_log.specs.Log.{Id, id, Log, Fails, Reports}
use Rattle.demands_log.specs.Drive.{drive}
use Rattle.demands.specs.Accepted.{Bytes}
use Rattle.demands.specs.Demand3.{driven_by}
use Rattle.demands.specs.Conditions.{entry_at, NodeAt, Decides}
use Rattle.demands.specs.Conditions as Conditions

-- ---- "A node keeps its place from its loading to its report"

-- place i still holds the node of entry e, started or not
abbrev pub Kept : List Entry → ℕ → Entry → Type 0
Kept w i e = Holds w i e ⊎ Holds w i (started_of e)

-- the call reports the node at place i, and its answer is taken, or stopped by 43 or 44 because loading after it fails. The
-- run was going, so the answer is no stop that it kept.
pub record ReportedAt (run : Run) (c : Call) (i : ℕ) : Type 0 where
  pub reports : Conditions.Reports run c i
  pub counts : ((call_of run c).reply ≡ Reply.Taken) ⊎ Fails (call_of run c).reply

-- in every run, a made-up one too, and at every call
abbrev pub StatementPlaceKept : Type 0
StatementPlaceKept = (run : Run) (c : Call) (i : ℕ) (e : Entry) → Holds run.window i e → Kept (call_of run c).run.window i e ⊎ ReportedAt run c i

-- node x is reported by one of the calls of the log `newer`, which come after those of `older`
abbrev pub ReportedSince : Log → Log → Id → Type 0
ReportedSince older [] x = ⊥
ReportedSince older (y ∷ newer) x = Reports y.call y.reply (newer ++ older) x ⊎ ReportedSince older newer x

-- over the list of demand 3: a node that place i holds after the calls cs is held by it after the calls ds too, or reported by
-- one of these
abbrev pub StatementPlacesKept : Type 0
StatementPlacesKept =
    (bytes : List ℕ) → Bytes bytes → (psi : Clock) (slack : ℕ) (ts : List ℕ) → (open_of bytes psi slack ts).opening ≡ Opening.Opened → (cs ds : List Call) (p n i : ℕ)
    → NodeAt (driven_by bytes psi slack ts cs).run p n i
    → NodeAt (driven_by bytes psi slack ts (cs ++ ds)).run p n i
    ⊎ ReportedSince (driven_by bytes psi slack ts cs).log (drive [] (driven_by bytes psi slack ts cs).run ds).log (id p n)

-- ---- "the nodes of a new path .. take the lowest free places"

-- entry number k of the new ones comes to stand at place j of the window w, which then is v: it was free, and exactly k free
-- places stood below it
pub record TakenAt (w new v : List Entry) (k j : ℕ) : Type 0 where
  pub within : j < length w
  pub free : (get_or w j vacant).phase ≡ Phase.Free
  pub below : vacancies (take j w) ≡ k
  pub entry : get_or v j vacant ≡ get_or new k vacant

-- each of them has such a place, and every other place is as before
pub record InLowest (w new v : List Entry) : Type 0 where
  pub places : (k : ℕ) → k < length new → (j : ℕ) × TakenAt w new v k j
  pub others : (j : ℕ) → ((k : ℕ) → k < length new → TakenAt w new v k j → ⊥) → get_or v j vacant ≡ get_or w j vacant

-- the entries of the path that a run loads next
abbrev pub path_of : Run → Next → List Entry
path_of run next = (path_from run.plan longest_path next run.progress).entries

-- a path that is loaded: neither 44 nor 43 came
abbrev pub StatementLowestPlaces : Type 0
StatementLowestPlaces =
    (run : Run) (next : Next) → (load run next).failure ≡ None → InLowest run.window (path_of run next) (load run next).run.window

-- "the next is loaded in the call that reports the awaited outcome, and further ones while their outcomes are already reported":
-- the transition that begins the next path, if its outcome is reported
abbrev pub way_from : Run → Next
way_from run = way_on run.plan.automaton run.progress (next_of run.plan.automaton run.progress.state)

-- several paths, one after the other, each into the lowest places that are free by then; the last leaves the window v
pub data OneByOne : Run → List Entry → Type 0 where
  no_more : {run : Run} → OneByOne run run.window
  and_then : {run : Run} {v : List Entry} (t : ℕ) → way_from run ≡ Next.Goes t → (load run (Next.Goes t)).failure ≡ None
      → InLowest run.window (path_of run (Next.Goes t)) (load run (Next.Goes t)).run.window → OneByOne (load run (Next.Goes t)).run v → OneByOne run v

-- "one just reported included": the paths that an outcome loads go into the window with the reported place cleared. After a
-- failed loading the places of paths loaded before stay.
abbrev pub StatementOutcomePlaces : Type 0
StatementOutcomePlaces =
    (run : Run) (t : Clock) (p n o i e : ℕ) → Decides run t p n o i e
    → OneByOne (cleared run t i (told_of run.progress e (entry_at run i) o)) (call_of run (Call.Outcome t p n o)).run.window

-- the path that an opening loads
abbrev pub first_entries : Plan → List ℕ → List Entry
first_entries p ts = (path_from p longest_path (next_of p.automaton p.automaton.initial) (at_first (availabilities ts) p.automaton.initial)).entries

-- it starts at place 0, and no other place is taken
abbrev pub StatementFirstPlaces : Type 0
StatementFirstPlaces =
    (bytes : List ℕ) (psi : Clock) (slack : ℕ) (ts : List ℕ) → (open_of bytes psi slack ts).opening ≡ Opening.Opened → (k : ℕ)
    → get_or (open_of bytes psi slack ts).run.window k vacant ≡ get_or (first_entries (judge_of bytes).plan ts) k vacant

-- ---- "by position and then node"

abbrev pub Sooner : Entry → Entry → Type 0
Sooner e f = (e.position < f.position) ⊎ ((e.position ≡ f.position) × (e.node < f.node))

abbrev pub Rising : List Entry → Type 0
Rising es = (k l : ℕ) → k < l → l < length es → Sooner (get_or es k vacant) (get_or es l vacant)

-- the entries of a path rise strictly
abbrev pub StatementInOrder : Type 0
StatementInOrder = (p : Plan) (most : ℕ) (next : Next) (g : Progress) → Rising (path_from p most next g).entries
