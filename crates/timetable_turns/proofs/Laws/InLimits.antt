-- An open table stays open: what a turn leaves is within the plan's limits. Assumes nothing.
use Rattle.std.specs.Prelude.{◌≡◌, Bool, cond, List, [], ℕ, ◌<◌, ltb, get_or, Option, None, Some, Ok}
use Rattle.std.proofs.Math.Path.{refl}
use Rattle.std.proofs.Common.{sym, ◌∙◌}
use Rattle.std.proofs.Math.Bool.{true, false}
use Rattle.basis.proofs.Laws.Bools.{clash}
use Rattle.plan.specs.Plan.{outcomes_of}
use Rattle.plan.specs.Limits.{InLimits}
use Rattle.plan.specs.declared.Plan.{Plan}
use Rattle.plan.specs.declared.PlanRead.{PlanRead}
use Rattle.judge.specs.Judge.{judge_of}
use Rattle.judge.proofs.Laws.Judge.{passed, read_limits}
use Rattle.automaton.specs.Next.{next_of, chosen_of}
use Rattle.automaton.specs.declared.Next.{Next}
use Rattle.times.specs.declared.Progress.{Progress}
use Rattle.run_path.specs.Path.{taken_by, entries_by}
use Rattle.run_path.specs.Pathed.{Leads}
use Rattle.run_path.proofs.Laws.Stepping.{next_leads, taken_kept}
use Rattle.run_opening.specs.Given.{any_above}
use Rattle.run_opening.proofs.Laws.Given.{first_in}
use Rattle.timetable_lines.specs.Lines.{rows, refused}
use Rattle.timetable_steps.proofs.Laws.Steps.{chosen_below}
use Rattle.timetable_turns.specs.Inner.Turn.{OneTurn, closes, takes, chooses, hears, turn_by, turn_of, first_progress, Open}

-- ---- before the first turn

-- a plan that was judged good is within the limits
pub judged_limits : (bytes : List ℕ) → ((k : ℕ) → get_or bytes k 0 < 256) → (r : PlanRead) → r ≡ judge_of bytes → r.verdict ≡ Ok tt → InLimits r.plan
judged_limits bytes small r e v =
    let q = passed r.plan bytes (sym e ∙ (λ i. record { verdict = v i; plan = r.plan })) in
    read_limits bytes small r.plan q.read

pub first_open : (p : Plan) → InLimits p → Open p (first_progress p)
unfolding any_above
first_open p limits = record { plan = limits; progress = first_in p limits [] refl }

-- ---- one turn

module _ (p : Plan) (g : Progress) (within : Open p g) where
  Stays : OneTurn → Type 0
  Stays x = x.closed ≡ false → Open p x.progress

  takes_open : (heard : Bool) (t : ℕ) → t < p.automaton.count → Stays (takes p g heard t)
  unfolding Stays takes
  takes_open heard t l = go (taken_by p t g).beyond refl
    where
      go : (b : Bool) → (taken_by p t g).beyond ≡ b → Stays (cond b (closes g (refused 44 g.position)) (record { text = rows (entries_by p t g); closed = false; heard = heard; progress = (taken_by p t g).progress }))
      go true d e = clash e
      go false d e = record { plan = within.plan; progress = taken_kept p t g within.plan l within.progress d }

  chooses_open : (e : ℕ) (c : Option ℕ) → ((t : ℕ) → c ≡ Some t → t < p.automaton.count) → Stays (chooses p g e c)
  unfolding Stays chooses
  chooses_open e None l = λ k. clash k
  chooses_open e (Some t) l = takes_open true t (l t refl)

  hears_open : (e read : ℕ) (h : Option ℕ) → Stays (hears p g e read h)
  unfolding Stays hears
  hears_open e read None = λ k. clash k
  hears_open e read (Some o) = go (ltb o (outcomes_of p e))
    where
      go : (b : Bool) → Stays (cond b (chooses p g e (chosen_of p.automaton g.state e o)) (closes g (refused 55 read)))
      go true = chooses_open e (chosen_of p.automaton g.state e o) (λ t q. chosen_below p.automaton g.state e o t q)
      go false = λ k. clash k

  by_open : (read : ℕ) (h : Option ℕ) (n : Next) → Leads p.automaton.count n → Stays (turn_by p g read h n)
  unfolding Stays turn_by
  by_open read h Next.Ended l = λ k. clash k
  by_open read h (Next.Goes t) l = takes_open false t l
  by_open read h (Next.Waits e) l = hears_open e read h

  pub turn_open : (read : ℕ) (h : Option ℕ) → (turn_of p g read h).closed ≡ false → Open p (turn_of p g read h).progress
  unfolding Stays turn_of
  turn_open read h = by_open read h (next_of p.automaton g.state) (next_leads p.automaton g.state)
