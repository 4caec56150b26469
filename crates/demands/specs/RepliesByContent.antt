-- Request (h), "No reply changes in any list as in demand 3": replies tell nothing of places. Of lists as in demand 3
-- `answers_by_log` says so already, since no place occurs in `ByLog`; here of any two runs.
use Rattle.std.specs.Prelude.{◌≡◌, List, [], ℕ, ◌<◌, length}
use Rattle.run_window.specs.declared.Entry.{Entry}
use Rattle.run_window.specs.Places.{Holds, Once}
use Rattle.run.specs.declared.Run.{Run}
use Rattle.run.specs.declared.Call.{Call}
use Rattle.demands_log.specs.Drive.{drive}

-- the two windows, of as many places, hold the same entries, no node twice
pub record SameContent (w v : List Entry) : Type 0 where
  pub size : length w ≡ length v
  pub there : (i : ℕ) (e : Entry) → Holds w i e → (j : ℕ) × Holds v j e
  pub back : (j : ℕ) (e : Entry) → Holds v j e → (i : ℕ) × Holds w i e
  pub once : Once w × Once v

-- two runs that differ in nothing but places. Each node of the window has a position before the next one, as in every run that
-- was opened: a run made up otherwise could load a node that it holds already, and of two like ones the lower place is taken.
pub record OtherPlaces (run other : Run) : Type 0 where
  pub plan : run.plan ≡ other.plan
  pub psi : run.psi ≡ other.psi
  pub slack : run.slack ≡ other.slack
  pub progress : run.progress ≡ other.progress
  pub last : run.last ≡ other.last
  pub halt : run.halt ≡ other.halt
  pub content : SameContent run.window other.window
  pub loaded : (i : ℕ) (e : Entry) → Holds run.window i e → e.position < run.progress.position

-- they answer every list of calls alike
abbrev pub StatementRepliesByContent : Type 0
StatementRepliesByContent = (run other : Run) → OtherPlaces run other → (cs : List Call) → (drive [] run cs).log ≡ (drive [] other cs).log
