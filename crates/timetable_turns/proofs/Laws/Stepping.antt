-- A turn from its parts, as they are looked up, is the turn of the plan. Assumes nothing.
use Rattle.std.specs.Prelude.{◌≡◌, Bool, cond, ℕ, ◌<◌, ltb, Option, None, Some}
use Rattle.std.proofs.Math.Path.{refl, sym, ap}
use Rattle.std.proofs.Common.{◌∙◌, subst}
use Rattle.std.proofs.Math.Bool.{true, false}
use mathlib.Core.List.{List}
use Rattle.basis.proofs.Laws.Bools.{clash}
use Rattle.plan.specs.Plan.{outcomes_of, emitted_by, nodes_of, move}
use Rattle.plan.specs.Limits.{InLimits, OutputNames}
use Rattle.plan.specs.declared.Node.{Node}
use Rattle.plan.specs.declared.Activity.{Activity}
use Rattle.plan.specs.declared.Transition.{Transition}
use Rattle.plan.specs.declared.Plan.{Plan}
use Rattle.automaton.specs.Next.{next_of, chosen_of}
use Rattle.automaton.specs.declared.Next.{Next}
use Rattle.times.specs.Limits.{StepFits}
use Rattle.times.specs.declared.Progress.{Progress}
use Rattle.run_path.specs.Inner.Path.{emitted_of}
use Rattle.run_path.proofs.Laws.Emitting.{emitted_nodes, step_fits}
use Rattle.run_path.proofs.Laws.Stepping.{next_leads}
use Rattle.run_path.specs.Pathed.{Leads}
use Rattle.timetable_lines.specs.Lines.{refused}
use Rattle.timetable_steps.specs.declared.Step.{Step}
use Rattle.timetable_steps.specs.Inner.Steps.{chosen_step, heard_step, next_step, step_of, output_of}
use Rattle.timetable_steps.proofs.Laws.Steps.{chosen_below}
use Rattle.timetable_turns.specs.Inner.Turn.{OneTurn, closes, takes, chooses, hears, turn_by, turn_of, Open}
use Rattle.timetable_turns.specs.Inner.Stepped.{taking, stepped}

-- ---- the turn

module _ (p : Plan) (g : Progress) (read : ℕ) where
  by_parts : Step → OneTurn
  by_parts x = stepped p.resources (emitted_by p (output_of x)) g read x

  takes_parts : (heard : Bool) (t : ℕ) → takes p g heard t ≡ by_parts (Step.Takes (move p.automaton t) heard)
  unfolding by_parts takes stepped taking
  takes_parts heard t = refl

  chooses_parts : (e : ℕ) (c : Option ℕ) → chooses p g e c ≡ by_parts (chosen_step p.automaton e c)
  unfolding by_parts chooses stepped
  chooses_parts e None = refl
  chooses_parts e (Some t) = takes_parts true t

  hears_parts : (e : ℕ) (heard : Option ℕ) → hears p g e read heard ≡ by_parts (heard_step p.automaton p.outcomes g.state e heard)
  unfolding by_parts hears stepped
  hears_parts e None = refl
  hears_parts e (Some o) = go (ltb o (outcomes_of p e))
    where
      c : Option ℕ
      c = chosen_of p.automaton g.state e o

      go : (b : Bool) → cond b (chooses p g e c) (closes g (refused 55 read)) ≡ by_parts (cond b (chosen_step p.automaton e c) Step.Lacks)
      go true = chooses_parts e c
      go false = refl

  next_parts : (heard : Option ℕ) (n : Next) → turn_by p g read heard n ≡ by_parts (next_step p.automaton p.outcomes g.state heard n)
  unfolding by_parts turn_by stepped
  next_parts heard Next.Ended = refl
  next_parts heard (Next.Goes t) = takes_parts false t
  next_parts heard (Next.Waits e) = hears_parts e heard

  -- the parts that the code has: the step, and the activity that it emits
  pub turn_parts : (heard : Option ℕ) (x : Step) (a : Activity) → x ≡ step_of p.automaton p.outcomes g.state heard → a ≡ emitted_of p (output_of x) → stepped p.resources (nodes_of a) g read x ≡ turn_of p g read heard
  unfolding by_parts turn_of step_of
  turn_parts heard x a e f =
      ap (λ (ns : List Node). stepped p.resources ns g read x) (ap nodes_of f ∙ emitted_nodes p (output_of x))
      ∙ ap by_parts e
      ∙ sym (next_parts heard (next_of p.automaton g.state))

-- ---- what is asked of the parts

-- a step that takes a transition takes one of the plan's
pub record Moves (p : Plan) (m : Transition) : Type 0 where
  pub index : ℕ
  pub low : index < p.automaton.count
  pub is : m ≡ move p.automaton index

module _ (p : Plan) (m : Transition) (heard : Bool) where
  -- nothing, where x takes no transition
  Within : Step → Type 0
  Within x = x ≡ Step.Takes m heard → Moves p m

  taken_heard : Step → Bool
  taken_heard (Step.Takes k b) = true
  taken_heard Step.Ends = false
  taken_heard (Step.Waits e) = false
  taken_heard Step.Lacks = false

  taken_move : Step → Transition
  taken_move (Step.Takes k b) = k
  taken_move Step.Ends = m
  taken_move (Step.Waits e) = m
  taken_move Step.Lacks = m

  closes_within : (x : Step) → taken_heard x ≡ false → Within x
  unfolding Within taken_heard
  closes_within x n e = clash (sym (ap taken_heard e) ∙ n)

  move_within : (t : ℕ) (b : Bool) → t < p.automaton.count → Within (Step.Takes (move p.automaton t) b)
  unfolding Within taken_move
  move_within t b l e = record { index = t; low = l; is = sym (ap taken_move e) }

  chosen_within : (s e o : ℕ) (c : Option ℕ) → c ≡ chosen_of p.automaton s e o → Within (chosen_step p.automaton e c)
  unfolding taken_heard
  chosen_within s e o None q = closes_within (Step.Waits e) refl
  chosen_within s e o (Some t) q = move_within t true (chosen_below p.automaton s e o t (sym q))

  heard_within : (s e : ℕ) (h : Option ℕ) → Within (heard_step p.automaton p.outcomes s e h)
  unfolding taken_heard
  heard_within s e None = closes_within (Step.Waits e) refl
  heard_within s e (Some o) = go (ltb o (outcomes_of p e))
    where
      go : (b : Bool) → Within (cond b (chosen_step p.automaton e (chosen_of p.automaton s e o)) Step.Lacks)
      go true = chosen_within s e o (chosen_of p.automaton s e o) refl
      go false = closes_within Step.Lacks refl

  next_within : (s : ℕ) (h : Option ℕ) (n : Next) → Leads p.automaton.count n → Within (next_step p.automaton p.outcomes s h n)
  unfolding taken_heard
  next_within s h Next.Ended l = closes_within Step.Ends refl
  next_within s h (Next.Goes t) l = move_within t false l
  next_within s h (Next.Waits e) l = heard_within s e h

  pub step_moves : (s : ℕ) (h : Option ℕ) → step_of p.automaton p.outcomes s h ≡ Step.Takes m heard → Moves p m
  unfolding Within step_of
  step_moves s h = next_within s h (next_of p.automaton s) (next_leads p.automaton s)

-- the activity that a step emits is one of the plan's
pub step_output : (p : Plan) → InLimits p → (s : ℕ) (h : Option ℕ) (x : Step) → x ≡ step_of p.automaton p.outcomes s h → OutputNames p (output_of x)
step_output p limits s h Step.Ends e = tt
step_output p limits s h (Step.Waits n) e = tt
step_output p limits s h Step.Lacks e = tt
step_output p limits s h (Step.Takes m b) e =
    let k = step_moves p m b s h (sym e) in
    subst (λ (t : Transition). OutputNames p t.output) (sym k.is) (limits.moves k.index k.low).output

-- and its transition can be taken
pub step_fitting : (p : Plan) (g : Progress) → Open p g → (h : Option ℕ) (x : Step) (a : Activity) → x ≡ step_of p.automaton p.outcomes g.state h → a ≡ emitted_of p (output_of x) → (m : Transition) (b : Bool) → x ≡ Step.Takes m b → StepFits p.resources a m.input g
step_fitting p g within h x a e f m b q =
    let k = step_moves p m b g.state h (sym e ∙ q) in
    let o = f ∙ ap (λ (y : Step). emitted_of p (output_of y)) q in
    subst (λ (y : Activity). StepFits p.resources y m.input g) (sym o)
    (subst (λ (t : Transition). StepFits p.resources (emitted_of p t.output) t.input g) (sym k.is)
    (step_fits p within.plan k.index k.low g within.progress))
