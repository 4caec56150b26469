-- What a call looks for in the window, and the first place that holds it: one definition for all of them.
use Rattle.std.specs.Prelude.{◌≡◌, Bool, false, cond, ◌||◌, List, ℕ, ◌≤◌, eqb, Option, Some, None}
use Rattle.plan.specs.declared.Node.{Node}
use Rattle.time.specs.Time.{horizon}
use Rattle.time.specs.declared.Clock.{Clock}
use Rattle.run_window.specs.declared.Entry.{Entry}
use Rattle.run_window.specs.declared.Found.{Found}
use Rattle.run_window.specs.declared.Sought.{Sought}
use Rattle.run_window.specs.declared.Seen.{Seen}
use Rattle.run_window.specs.declared.Ranked.{Ranked}
use Rattle.run_window.specs.declared.Scan.{Scan}
use Rattle.run_window.specs.Window.{is_overdue, is_late, is_due, is_node, served, rank_at, ends_before, by_start, on_found, first, found_at}

abbrev pub is_sought : Sought → Entry → Bool
is_sought (Sought.Overdue psi t) = is_overdue psi t
is_sought (Sought.Late psi slack t) = is_late psi slack t
is_sought (Sought.Due psi t) = is_due psi t
is_sought (Sought.Node position node) = is_node position node

-- of two entries with the ranks x and y
abbrev pub goes_by : Sought → ℕ → ℕ → Entry → Entry → Bool
goes_by (Sought.Overdue psi t) x y = ends_before
goes_by (Sought.Late psi slack t) x y = served x y
goes_by (Sought.Due psi t) x y = served x y
goes_by (Sought.Node position node) x y = by_start

abbrev pub sooner : List Node → Sought → Entry → Entry → Bool
sooner nodes sought a b = goes_by sought (rank_at nodes a) (rank_at nodes b) a b

-- of the places that hold what is sought, the first in the order of ties
abbrev pub first_of : List Node → Sought → List Entry → Option Found
first_of nodes sought w = first (is_sought sought) (sooner nodes sought) 0 w

-- ---- with its rank, so that the node of each place is read once

abbrev pub ranked : Option Found → ℕ → Ranked
ranked found r = record { found = found; rank = r }

-- what was found; 0 where nothing was
abbrev pub ranked_of : List Node → Option Found → Ranked
ranked_of nodes None = ranked None 0
ranked_of nodes (Some x) = ranked (Some x) (rank_at nodes x.entry)

-- entry e of rank r at place i, unless what was found behind it goes before it
abbrev pub better_by : Sought → ℕ → Entry → ℕ → Ranked → Ranked
better_by sought i e r rest = on_found rest.found (λ j f. cond (goes_by sought rest.rank r f e) rest (ranked (found_at i e) r)) (ranked (found_at i e) r)

-- of place i with entry e and of what was found behind it
abbrev pub kept_by : Sought → ℕ → Entry → ℕ → Ranked → Ranked
kept_by sought i e r rest = cond (is_sought sought e) (better_by sought i e r rest) rest

-- whether entry e, where it is sought, has the same start as what was found behind it
abbrev pub is_tied : Sought → Entry → Ranked → Bool
is_tied sought e rest = on_found rest.found (λ j f. cond (eqb f.start.0 e.start.0) (is_sought sought e) false) false

-- among those that are late, or among what is sought
abbrev pub either_tied : Clock → ℕ → Clock → Sought → Entry → Ranked → Ranked → Bool
either_tied psi slack t sought e late best = is_tied (Sought.Late psi slack t) e late || is_tied sought e best

-- ---- what a call finds in the window

-- whether entry e is overdue, late, or what is sought
abbrev pub is_noticed : Clock → ℕ → Clock → Sought → Entry → Bool
is_noticed psi slack t sought e = is_overdue psi t e || (is_late psi slack t e || is_sought sought e)

abbrev pub seen_by : Ranked → Ranked → Ranked → Seen
seen_by overdue late best = record { overdue = overdue.found; late = late.found; sought = best.found }

abbrev pub seen_of : List Node → Clock → ℕ → Clock → Sought → List Entry → Seen
seen_of nodes psi slack t sought w = record {
  overdue = first_of nodes (Sought.Overdue psi t) w;
  late = first_of nodes (Sought.Late psi slack t) w;
  sought = first_of nodes sought w;
}

-- where no start ties it is found whatever the nodes are
abbrev pub Scanned : Clock → ℕ → Clock → Sought → List Entry → Scan → Type 0
Scanned psi slack t sought w Scan.Tied = Unit {0}
Scanned psi slack t sought w (Scan.Untied seen) = (nodes : List Node) → seen ≡ seen_of nodes psi slack t sought w

-- the times that are added to what a place stores lie within the horizon, so that every sum fits
abbrev pub SoughtInTime : Sought → Type 0
SoughtInTime (Sought.Overdue psi t) = psi.0 ≤ horizon
SoughtInTime (Sought.Late psi slack t) = (psi.0 ≤ horizon) × (slack ≤ horizon)
SoughtInTime (Sought.Due psi t) = psi.0 ≤ horizon
SoughtInTime (Sought.Node position node) = Unit {0}
