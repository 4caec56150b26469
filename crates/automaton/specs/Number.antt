-- The verdict on the automaton, worked out: numbers 21 to 26 with their places, each over all states before the next.
use Rattle.std.specs.Prelude.{Bool, true, false, not, cond, ◌&&◌, List, [], ◌∷◌, ℕ, zero, suc, ◌+◌, ◌-◌, ◌*◌, eqb, leb, ltb, set, replicate, Ok}
use Rattle.std.specs.Option.{is_some}
use Rattle.basis.specs.Tests.{falses}
use Rattle.basis.specs.Tests.{flag}
use Rattle.plan.specs.declared.Input.{Input}
use Rattle.plan.specs.declared.Output.{Output}
use Rattle.plan.specs.declared.Transition.{Transition}
use Rattle.plan.specs.declared.Automaton.{Automaton}
use Rattle.plan.specs.declared.Plan.{Plan}
use Rattle.plan.specs.declared.Fault.{Fault}
use Rattle.plan.specs.Verdict.{Verdict, faulty}
use Rattle.plan.specs.Plan.{move, moves_of, is_final, outcomes_of}
use Rattle.automaton.specs.declared.Next.{Next}
use Rattle.automaton.specs.declared.Explored.{Explored}
use Rattle.automaton.specs.Tests.{at, all}
use Rattle.automaton.specs.Rules.{takes, emits}
use Rattle.automaton.specs.Next.{first_of, chosen_of}

-- ---- 21 to 24: tests of one state

-- the first of the n states from s on that fails the test; s + n if none does
unfoldable pub lowest : (ℕ → Bool) → ℕ → ℕ → ℕ
lowest test s zero = s
lowest test s (suc n) = cond (test s) (lowest test (s + 1) n) s

abbrev pub is_ended : Next → Bool
is_ended Next.Ended = true
is_ended (Next.Goes i) = false
is_ended (Next.Waits e) = false

-- 21: a final state has no way out
unfoldable pub no_way_out : Automaton → ℕ → Bool
no_way_out a s = cond (is_final a s) (is_ended (first_of a s)) true

-- two inputs process the same event with different outcomes
abbrev pub apart : Input → Input → Bool
apart Input.Nothing n = false
apart (Input.Outcome e o) Input.Nothing = false
apart (Input.Outcome e o) (Input.Outcome f q) = eqb e f && not (eqb o q)

-- the input m branches from those of all the transitions that leave s
unfoldable pub apart_from : Input → List Transition → ℕ → Bool
apart_from m [] s = true
apart_from m (u ∷ us) s = cond (eqb u.from s) (apart m u.input && apart_from m us s) (apart_from m us s)

-- any two of the transitions that leave s branch
unfoldable pub branches_in : List Transition → ℕ → Bool
branches_in [] s = true
branches_in (t ∷ ts) s = cond (eqb t.from s) (apart_from t.input ts s && branches_in ts s) (branches_in ts s)

-- 22: two transitions of a state process the same event with different outcomes
abbrev pub branches : Automaton → ℕ → Bool
branches a s = branches_in (moves_of a) s

abbrev pub serves_next : Automaton → (ℕ → ℕ) → ℕ → Next → Bool
serves_next a outcomes s Next.Ended = true
serves_next a outcomes s (Next.Goes i) = true
serves_next a outcomes s (Next.Waits e) = all (outcomes e) (λ q. is_some (chosen_of a s e q))

-- 23: a state that processes an event has a transition for each outcome of it
unfoldable pub serves : Automaton → (ℕ → ℕ) → ℕ → Bool
serves a outcomes s = serves_next a outcomes s (first_of a s)

-- ---- passes over all transitions, until one changes nothing

-- y is x after a pass; `left` is how much passes can still change
unfoldable pub again : {X : Type 0} → (X → X) → (X → ℕ) → ℕ → X → X → X
again pass left zero x y = y
again pass left (suc n) x y = cond (eqb (left y) (left x)) y (again pass left n y (pass y))

abbrev pub rounds : {X : Type 0} → (X → X) → (X → ℕ) → ℕ → X → X
rounds pass left n x = again pass left n x (pass x)

-- ---- 24: back from the final states

-- which of the n states are final
unfoldable pub finals_of : Automaton → ℕ → ℕ → List Bool
finals_of a s zero = []
finals_of a s (suc n) = is_final a s ∷ finals_of a (s + 1) n

-- a transition into a marked state marks the state that it leaves
unfoldable pub pass_back : List Transition → List Bool → List Bool
pass_back [] D = D
pass_back (t ∷ ts) D = pass_back ts (cond (flag D t.to) (set D t.from true) D)

-- the states with a path to a final one
abbrev pub to_final : Automaton → List Bool
to_final a = rounds (pass_back (moves_of a)) falses 64 (finals_of a 0 64)

-- ---- 25 and 26: the pending counts of each reached state, at 16 * state + event

-- what the input processes is pending at s
abbrev pub is_ready : List ℕ → ℕ → Input → Bool
is_ready C s Input.Nothing = true
is_ready C s (Input.Outcome e o) = ltb 0 (at C (16 * s + e))

-- the first n counts of state `to`, from those of state `from`: a transition processes first, then emits
unfoldable pub advanced : (Output → ℕ → ℕ) → List ℕ → Transition → ℕ → List ℕ
advanced gives C t zero = C
advanced gives C t (suc n) = set (advanced gives C t n) (16 * t.to + n) (at C (16 * t.from + n) - takes t.input n + gives t.output n)

-- a transition that can be taken from a reached state reaches its other end
abbrev pub is_new : Transition → Explored → Bool
is_new t x = flag x.reached t.from && (not (flag x.reached t.to) && is_ready x.counts t.from t.input)

unfoldable pub pass_on : (Output → ℕ → ℕ) → List Transition → Explored → Explored
pass_on gives [] x = x
pass_on gives (t ∷ ts) x = pass_on gives ts (cond (is_new t x) (record { reached = set x.reached t.to true; counts = advanced gives x.counts t 16 }) x)

-- nothing is pending at the initial state
abbrev pub outset : Automaton → Explored
outset a = record { reached = set (replicate 64 false) a.initial true; counts = replicate 1024 0 }

abbrev pub explored : Automaton → (Output → ℕ → ℕ) → Explored
explored a gives = rounds (pass_on gives (moves_of a)) (λ x. falses x.reached) 64 (outset a)

-- the transition brings the counts of one state to those of the other
abbrev pub fits : (Output → ℕ → ℕ) → List ℕ → Transition → ℕ → Bool
fits gives C t e =
    leb (takes t.input e) (at C (16 * t.from + e)) && eqb (at C (16 * t.to + e) + takes t.input e) (at C (16 * t.from + e) + gives t.output e)

abbrev pub keeps_move : (Output → ℕ → ℕ) → Explored → Transition → Bool
keeps_move gives x t = cond (flag x.reached t.from) (all 16 (fits gives x.counts t)) true

abbrev pub keeps : Automaton → (Output → ℕ → ℕ) → Explored → Bool
keeps a gives x = all a.count (λ i. keeps_move gives x (move a i))

abbrev pub clear : Automaton → Explored → Bool
clear a x = all a.states (λ s. cond (flag x.reached s && is_final a s) (all 16 (λ e. eqb (at x.counts (16 * s + e)) 0)) true)

abbrev pub few : Automaton → Explored → Bool
few a x = all a.states (λ s. cond (flag x.reached s) (all 16 (λ e. leb (at x.counts (16 * s + e)) 8)) true)

unfoldable pub judge_counts : Automaton → (Output → ℕ → ℕ) → Explored → Verdict
judge_counts a gives x =
    cond (keeps a gives x && clear a x)
    (cond (few a x) (Ok tt) (faulty Fault.TooManyPending 0))
    (faulty Fault.Unbalanced 0)

-- numbers 25 and 26
unfoldable pub path_verdict : Automaton → (Output → ℕ → ℕ) → Verdict
path_verdict a gives = judge_counts a gives (explored a gives)

-- ---- the whole

-- the fault at the lowest state that fails the test; otherwise what comes after
abbrev pub or_else : Automaton → Fault → ℕ → Verdict → Verdict
or_else a f s after = cond (ltb s a.states) (faulty f s) after

-- numbers 24 to 26
unfoldable pub way_verdict : Automaton → (Output → ℕ → ℕ) → Verdict
way_verdict a gives = or_else a Fault.NoWayToFinal (lowest (flag (to_final a)) 0 a.states) (path_verdict a gives)

-- numbers 21 to 23, and what comes after them
unfoldable pub state_verdict : Automaton → (ℕ → ℕ) → Verdict → Verdict
state_verdict a outcomes after =
    or_else a Fault.WayOutOfFinal (lowest (no_way_out a) 0 a.states)
    (or_else a Fault.ForbiddenBranch (lowest (branches a) 0 a.states)
    (or_else a Fault.OutcomeMissing (lowest (serves a outcomes) 0 a.states) after))

unfoldable pub automaton_verdict : Plan → Verdict
automaton_verdict p = state_verdict p.automaton (outcomes_of p) (way_verdict p.automaton (emits p))
