-- The fault of an activity, as a computation: each rule of `Rules` as a test, in document 01's order of numbers.
-- `words` holds, for each node, the word of the nodes before it.
use Rattle.std.specs.Prelude.{List, Bool, true, false, not, ◌&&◌, ◌||◌, ℕ, zero, suc, ◌+◌, length, get_or, eqb, Result, Ok, Err}
use Rattle.basis.specs.Tests.{every, some}
use Rattle.plan.specs.Plan.{predecessors, resource_of, activity_of}
use Rattle.plan.specs.declared.Kind.{Kind}
use Rattle.plan.specs.declared.Node.{Node}
use Rattle.plan.specs.declared.Plan.{Plan}
use Rattle.plan.specs.declared.Fault.{Fault}
use Rattle.plan.specs.Verdict.{Verdict, faulty}
use Rattle.activity.specs.Rules.{node}
use Rattle.activity.specs.Tests.{implies, none, bit, is_action, is_claim, is_release, is_event, of_action, of_claim, of_release, of_event, before_words}

-- the kind of node n
abbrev pub kind_of : List Node → ℕ → Kind
kind_of a n = (node a n).kind

-- m is before n
abbrev pub before : List ℕ → ℕ → ℕ → Bool
before words m n = bit (get_or words n 0) m

-- one of the two is before the other
abbrev pub ordered : List ℕ → ℕ → ℕ → Bool
ordered words m n = before words m n || before words n m

-- No cycle.
unfoldable pub no_cycle : List ℕ → List Node → Bool
no_cycle words a = every (length a) (λ n. not (before words n n))

-- Two actions on one peripheral are ordered (I).
unfoldable pub rule_i : List ℕ → List Node → Bool
rule_i words a = every (length a) (λ n. of_action (kind_of a n) (λ p. every (length a) (λ m. implies (is_action p (kind_of a m)) (eqb m n || ordered words m n))))

-- A resource is claimed at most once and released at most once (II, III).
unfoldable pub rule_ii : List Node → Bool
rule_ii a = every (length a) (λ n. of_claim (kind_of a n) (λ r. every (length a) (λ m. implies (is_claim r (kind_of a m)) (eqb m n))))

unfoldable pub rule_iii : List Node → Bool
rule_iii a = every (length a) (λ n. of_release (kind_of a n) (λ r. every (length a) (λ m. implies (is_release r (kind_of a m)) (eqb m n))))

-- An action has a claim of its peripheral's resource before it and a release after it (IV, V).
unfoldable pub rule_iv : (ℕ → ℕ) → List ℕ → List Node → Bool
rule_iv belongs words a =
    every (length a) (λ n. of_action (kind_of a n) (λ p. some (length a) (λ m. is_claim (belongs p) (kind_of a m) && before words m n)))

unfoldable pub rule_v : (ℕ → ℕ) → List ℕ → List Node → Bool
rule_v belongs words a =
    every (length a) (λ n. of_action (kind_of a n) (λ p. some (length a) (λ m. is_release (belongs p) (kind_of a m) && before words n m)))

-- A release has its claim before it and a claim its release after it (VI, VII).
unfoldable pub rule_vi : List ℕ → List Node → Bool
rule_vi words a = every (length a) (λ n. of_release (kind_of a n) (λ r. some (length a) (λ m. is_claim r (kind_of a m) && before words m n)))

unfoldable pub rule_vii : List ℕ → List Node → Bool
rule_vii words a = every (length a) (λ n. of_claim (kind_of a n) (λ r. some (length a) (λ m. is_release r (kind_of a m) && before words n m)))

-- Claims have no predecessor, releases no successor (VIII, IX).
unfoldable pub rule_viii : List Node → Bool
rule_viii a = every (length a) (λ n. of_claim (kind_of a n) (λ r. none (predecessors (node a n))))

unfoldable pub rule_ix : List ℕ → List Node → Bool
rule_ix words a = every (length a) (λ n. of_release (kind_of a n) (λ r. every (length a) (λ m. not (before words n m))))

-- An event has a predecessor (X).
unfoldable pub rule_x : List Node → Bool
rule_x a = every (length a) (λ n. of_event (kind_of a n) (λ e. not (none (predecessors (node a n)))))

-- Two different nodes of one event are ordered (XI).
unfoldable pub rule_xi : List ℕ → List Node → Bool
rule_xi words a = every (length a) (λ n. of_event (kind_of a n) (λ e. every (length a) (λ m. implies (is_event e (kind_of a m)) (eqb m n || ordered words m n))))

-- the fault if the rule is broken, and otherwise what comes next
abbrev pub unless : Bool → Fault → Result (Unit {0}) Fault → Result (Unit {0}) Fault
unless true f next = next
unless false f next = Err f

-- "11 cycle; 12 breaks I; 13 breaks II or III; 14 IV or V; 15 VI or VII; 16 VIII or IX; 17 X; 18 XI"
unfoldable pub fault_by : (ℕ → ℕ) → List ℕ → List Node → Result (Unit {0}) Fault
fault_by belongs words a =
    unless (no_cycle words a) Fault.Cycle
    (unless (rule_i words a) Fault.ActionsUnordered
    (unless (rule_ii a && rule_iii a) Fault.NamedTwice
    (unless (rule_iv belongs words a && rule_v belongs words a) Fault.ActionUnheld
    (unless (rule_vi words a && rule_vii words a) Fault.ClaimUnpaired
    (unless (rule_viii a && rule_ix words a) Fault.ArrowPastEnd
    (unless (rule_x a) Fault.EventFirst
    (unless (rule_xi words a) Fault.EventsUnordered
    (Ok tt))))))))

-- the fault of an activity; `belongs` gives the resource of each peripheral
unfoldable pub fault_of : (ℕ → ℕ) → List Node → Result (Unit {0}) Fault
fault_of belongs a = fault_by belongs (before_words a) a

-- a fault of activity i, or the verdict on the activities after it
abbrev pub or_next : Result (Unit {0}) Fault → ℕ → Verdict → Verdict
or_next (Ok u) i next = next
or_next (Err f) i next = faulty f i

-- the k activities from i on
unfoldable pub verdict_from : Plan → ℕ → ℕ → Verdict
verdict_from p i zero = Ok tt
verdict_from p i (suc k) = or_next (fault_of (resource_of p) (activity_of p i)) i (verdict_from p (i + 1) k)

-- "Then activities in order, place = activity"
unfoldable pub activities_verdict : Plan → Verdict
activities_verdict p = verdict_from p 0 p.activities
