-- The window: "loaded action and event nodes not yet reported complete, at most 512".
use Rattle.std.specs.Prelude.{Bool, true, false, cond, ◌&&◌, List, [], ◌∷◌, ℕ, suc, ◌+◌, ◌*◌, ltb, leb, eqb, get_or, Option, Some, None}
use Rattle.plan.specs.Plan.{past_node}
use Rattle.plan.specs.declared.Kind.{Kind}
use Rattle.plan.specs.declared.Node.{Node}
use Rattle.time.specs.Time.{to_clock}
use Rattle.time.specs.declared.Clock.{Clock}
use Rattle.run_window.specs.declared.Phase.{Phase}
use Rattle.run_window.specs.declared.Entry.{Entry}
use Rattle.run_window.specs.declared.Found.{Found}

-- a place that holds nothing: zeros
abbrev pub vacant : Entry
vacant = record { phase = Phase.Free; position = 0; activity = 0; node = 0; start = record { 0 = 0 }; end = record { 0 = 0 } }

abbrev pub is_free : Phase → Bool
is_free Phase.Free = true
is_free Phase.Loaded = false
is_free Phase.Started = false

abbrev pub is_loaded : Phase → Bool
is_loaded Phase.Free = false
is_loaded Phase.Loaded = true
is_loaded Phase.Started = false

abbrev pub is_started : Phase → Bool
is_started Phase.Free = false
is_started Phase.Loaded = false
is_started Phase.Started = true

abbrev pub is_held : Phase → Bool
is_held Phase.Free = false
is_held Phase.Loaded = true
is_held Phase.Started = true

abbrev pub started_of : Entry → Entry
started_of e =
    record { phase = Phase.Started; position = e.position; activity = e.activity; node = e.node; start = e.start; end = e.end }

-- ---- tests of one place

-- "the reading is at or past Ψ + completion of a started, unreported node"
unfoldable pub is_overdue : Clock → Clock → Entry → Bool
is_overdue psi t e = is_started e.phase && leb (to_clock psi e.end).0 t.0

-- "the reading exceeds Ψ + start + slack of an unstarted node"
unfoldable pub is_late : Clock → ℕ → Clock → Entry → Bool
is_late psi slack t e = is_loaded e.phase && ltb ((to_clock psi e.start).0 + slack) t.0

-- "the due, unstarted node": its specified clock start has come
unfoldable pub is_due : Clock → Clock → Entry → Bool
is_due psi t e = is_loaded e.phase && leb (to_clock psi e.start).0 t.0

-- "A node's identity is its position and its node number."
unfoldable pub is_node : ℕ → ℕ → Entry → Bool
is_node position node e = is_held e.phase && (eqb e.position position && eqb e.node node)

-- ---- the order of ties

-- whether the first list of numbers goes before the second: by the first number in which they differ
unfoldable pub precedes : List ℕ → List ℕ → Bool
precedes [] [] = false
precedes [] (y ∷ ys) = true
precedes (x ∷ xs) [] = false
precedes (x ∷ xs) (y ∷ ys) = cond (eqb x y) (precedes xs ys) (ltb x y)

-- "A node's identity is its position and its node number."
abbrev pub identity_of : Entry → List ℕ
identity_of e = e.position ∷ (e.node ∷ [])

-- of two entries with the numbers x and y: by number, "then position, then node"
abbrev pub before : ℕ → ℕ → Entry → Entry → Bool
before x y a b = precedes (x ∷ identity_of a) (y ∷ identity_of b)

-- "by peripheral number, events after all actions": peripherals are 0 to 63. Claims and releases, which only the window of a
-- made-up run holds, go with the events.
abbrev pub rank : Kind → ℕ
rank (Kind.Action a p) = p
rank (Kind.Claim r) = 64
rank (Kind.Release r) = 64
rank (Kind.Event e) = 64

-- where the node of an entry stands among the nodes of the plan
abbrev pub node_place : Entry → ℕ
node_place e = 64 * e.activity + e.node

abbrev pub rank_at : List Node → Entry → ℕ
rank_at nodes e = rank (get_or nodes (node_place e) past_node).kind

-- of two entries with the ranks x and y: "Ties in specified start now go by peripheral number, events after all actions, then
-- position, then node."
abbrev pub served : ℕ → ℕ → Entry → Entry → Bool
served x y a b = precedes (a.start.0 ∷ (x ∷ identity_of a)) (b.start.0 ∷ (y ∷ identity_of b))

-- "the earliest specified start": "Ask and stop 41 both follow"
abbrev pub starts_before : List Node → Entry → Entry → Bool
starts_before nodes a b = served (rank_at nodes a) (rank_at nodes b) a b

-- "the earliest completion": "ties of stop 42 remain by position and node"
abbrev pub ends_before : Entry → Entry → Bool
ends_before a b = before a.end.0 b.end.0 a b

-- A report finds its node by start, position and node: those that it compares have one position and node, and only a made-up
-- run holds two of them.
abbrev pub by_start : Entry → Entry → Bool
by_start a b = before a.start.0 b.start.0 a b

-- ---- the first of those that pass a test

abbrev pub found_at : ℕ → Entry → Option Found
found_at i e = Some (record { place = i; entry = e })

abbrev pub on_found : {A : Type 0} → Option Found → (ℕ → Entry → A) → A → A
on_found None f z = z
on_found (Some x) f z = f x.place x.entry

-- entry e at place i, unless what was found behind it goes before it
abbrev pub better : (Entry → Entry → Bool) → ℕ → Entry → Option Found → Option Found
better sooner i e None = found_at i e
better sooner i e (Some x) = cond (sooner x.entry e) (Some x) (found_at i e)

-- of the places from i on whose entry passes the test, the first by `sooner`
unfoldable pub first : (Entry → Bool) → (Entry → Entry → Bool) → ℕ → List Entry → Option Found
first p sooner i [] = None
first p sooner i (e ∷ es) = cond (p e) (better sooner i e (first p sooner (suc i) es)) (first p sooner (suc i) es)

-- no place is held
unfoldable pub is_empty : List Entry → Bool
is_empty [] = true
is_empty (e ∷ es) = is_free e.phase && is_empty es

-- ---- new nodes take places: "a reported node's place is used again"

-- entries take the lowest free places, in order
unfoldable pub placed : List Entry → List Entry → List Entry
placed [] es = []
placed (w ∷ ws) [] = w ∷ ws
placed (w ∷ ws) (e ∷ es) = cond (is_free w.phase) (e ∷ placed ws es) (w ∷ placed ws (e ∷ es))

-- how many places are free
unfoldable pub vacancies : List Entry → ℕ
vacancies [] = 0
vacancies (w ∷ ws) = cond (is_free w.phase) (suc (vacancies ws)) (vacancies ws)
