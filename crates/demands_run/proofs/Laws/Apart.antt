-- Nodes of different events are different nodes; so the report of a marker, which no state awaits, takes the word no further.
use Rattle.std.specs.Prelude.{◌≡◌, List, ◌∷◌, ℕ, ◌<◌}
use Rattle.std.proofs.Common.{ap, subst, ⊎_elim, arith}
use Rattle.plan.specs.Plan.{outcomes_of, resource_of}
use Rattle.plan.specs.declared.Kind.{Kind}
use Rattle.plan.specs.declared.Plan.{Plan}
use Rattle.automaton.specs.Rules.{MeetsAutomaton}
use Rattle.automaton.proofs.Laws.Later.{waits_several}
use Rattle.times_combined.specs.Combined.{Is}
use Rattle.times_combined.specs.Paths.{word_of, Lawful}
use Rattle.times_combined.proofs.Laws.Shape.{event_same}
use Rattle.times_combined.proofs.Laws.Unique.{shape_of}
use Rattle.times_combined.proofs.Laws.Plans.{good_path}
use Rattle.run.specs.declared.Call.{Call}
use Rattle.run.specs.declared.Reply.{Reply}
use Rattle.demands_log.specs.Log.{Id, Log, said, Tells}
use Rattle.demands_theory.specs.Nodes.{whose}
use Rattle.demands_theory.specs.TheWord.{state_after, whole_of, Takes, Stuck, ended, waits}
use Rattle.demands_theory.proofs.Laws.TheWord.{takes_follows}
use Rattle.demands_run.proofs.Laws.Words.{low_state}

-- node x of the word is of event ev
module _ (p : Plan) (lawful : Lawful p) (log : Log) (is : List ℕ) (taken : Takes p log is) (x : Id) (ev : ℕ) (event : Is (whole_of p is) (whose x) (Kind.Event ev)) where
  pub other_node : (f : ℕ) → (f ≡ ev → ⊥) → (y : Id) → Is (whole_of p is) (whose y) (Kind.Event f) → x ≡ y → ⊥
  other_node f n y i e =
      let j : Is (whole_of p is) (whose y) (Kind.Event ev) = subst (λ (z : Id). Is (whole_of p is) (whose z) (Kind.Event ev)) e event in
      n (event_same ((shape_of p.resources (resource_of p) (word_of p is) (good_path p lawful p.automaton.initial is (state_after p is) (takes_follows p log is taken))).labels (whose y) _ _ i.0 j.0 i.1 j.1))

  module _ (marker : outcomes_of p ev ≡ 1) where
    -- an event with more outcomes is another one
    pub another : (f : ℕ) → 1 < outcomes_of p f → f ≡ ev → ⊥
    another f several e = let u = ap (outcomes_of p) e in omega arith

    -- what the state awaits, if anything, is another event
    pub stuck_marked : MeetsAutomaton p → (c : Call) (r : Reply) → ((y : Id) (o : ℕ) → Tells c r log y o → x ≡ y) → Stuck p log is → Stuck p (said c r ∷ log) is
    stuck_marked automaton c r tells (ended e) = ended e
    stuck_marked automaton c r tells (waits f n none) = waits f n (λ y u old. ⊎_elim (λ k. other_node f (another f several) y old.event (tells y u k)) (λ k. none y u old k))
      where
        several : 1 < outcomes_of p f
        several = waits_several p lawful.file.limits automaton (state_after p is) f (low_state p lawful automaton log is taken) n
