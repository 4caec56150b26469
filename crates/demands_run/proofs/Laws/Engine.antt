-- What the run needs of one transition: the engine goes the way whose times are those of the combined activity, queues what the
-- transition emits, and stays within the limits. The record of these laws is what the proofs rest on; Laws.EngineHolds proves it.
use Rattle.std.specs.Prelude.{◌≡◌, false, cond, List, [], ◌∷◌, ◌++◌, map, ℕ, zero, suc, ◌+◌, ◌≤◌, ◌<◌, eqb, length, Some}
use Rattle.plan.specs.Plan.{move, emitted_by, events_in, outcomes_of}
use Rattle.plan.specs.declared.Input.{Input}
use Rattle.plan.specs.declared.Plan.{Plan}
use Rattle.plan.specs.declared.Automaton.{Automaton}
use Rattle.automaton.specs.Next.{next_of, chosen_of}
use Rattle.automaton.specs.Rules.{MeetsAutomaton}
use Rattle.automaton.specs.declared.Next.{Next}
use Rattle.times_combined.proofs.Laws.Engine.{Steps}
use Rattle.times_combined.specs.Paths.{step_of, Lawful}
use Rattle.times.specs.Times.{at}
use Rattle.times.specs.Queues.{pending_of, queue_of, floor_of, emission}
use Rattle.times.specs.declared.Instance.{Instance}
use Rattle.times.specs.declared.Progress.{Progress}
use Rattle.times_equal.proofs.Laws.Seen.{seen, Whole, Pending}
use Rattle.run_path.specs.Path.{taken_by}
use Rattle.run_path.specs.Pathed.{ProgressIn}

abbrev pub rest : List Instance → List Instance
rest [] = []
rest (x ∷ xs) = xs

-- the instances of each event, less the one that is processed
abbrev pub left : Input → (ℕ → List Instance) → ℕ → List Instance
left Input.Nothing q f = q f
left (Input.Outcome e o) q f = cond (eqb e f) (rest (q f)) (q f)

abbrev pub remaining : Input → Progress → ℕ → List Instance
remaining i g f = left i (queue_of g) f

-- transition t can be taken at g
pub record Possible (p : Plan) (t : ℕ) (g : Progress) : Type 0 where
  pub low : t < p.automaton.count
  pub sized : Whole g
  pub within : ProgressIn p g
  pub pending : Pending (move p.automaton t).input g
  -- "at most 8 of one event are pending": before it, and after it
  pub few : (e : ℕ) → pending_of g e ≤ 8
  pub room : (e : ℕ) → length (remaining (move p.automaton t).input g e) + events_in e (emitted_by p (move p.automaton t).output) ≤ 8

-- what taking it gives; within the limits unless it passes those of number 44
pub record Advances (p : Plan) (t : ℕ) (g : Progress) : Type 0 where
  -- the nodes of each event, in the order of "before"
  pub emitted : ℕ → List ℕ
  pub steps : Steps p.resources (step_of p (move p.automaton t)) (seen g) (floor_of (move p.automaton t).input g)
      (λ n. at (taken_by p t g).schedule.start n) (λ n. at (taken_by p t g).schedule.end n) emitted (seen (taken_by p t g).progress)
  pub queues : (e : ℕ) → queue_of (taken_by p t g).progress e
      ≡ remaining (move p.automaton t).input g e ++ map (λ n. emission g.position n (at (taken_by p t g).schedule.end n)) (emitted e)
  pub sized : Whole (taken_by p t g).progress
  pub within : (taken_by p t g).beyond ≡ false → ProgressIn p (taken_by p t g).progress

-- at most k transitions that await nothing lead from state s to one that waits or is final
abbrev pub Settles : Automaton → ℕ → ℕ → Type 0
Settles a zero s = (t : ℕ) → next_of a s ≡ Next.Goes t → ⊥
Settles a (suc k) s = (t : ℕ) → next_of a s ≡ Next.Goes t → Settles a k (move a t).to

-- what holds of the engine and of the automaton of an accepted plan
pub record EngineLaws : Type 0 where
  pub advances : (p : Plan) → Lawful p → (t : ℕ) (g : Progress) → Possible p t g → Advances p t g
  pub settles : (p : Plan) → Lawful p → MeetsAutomaton p → (s k : ℕ) → s < p.automaton.states → 63 ≤ k → Settles p.automaton k s
  pub chosen : (p : Plan) → Lawful p → MeetsAutomaton p → (s e o : ℕ) → s < p.automaton.states → next_of p.automaton s ≡ Next.Waits e → o < outcomes_of p e
      → (t : ℕ) × (chosen_of p.automaton s e o ≡ Some t)
