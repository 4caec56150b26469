-- What the functions of the table answer: the text is put into the lent buffer, and the rest is as it is defined.
use Rattle.std.specs.Prelude.{◌≡◌, Bool, false, List, ℕ, ◌≤◌}
use Rattle.wire.specs.Puts.{Puts}
use Rattle.plan.specs.declared.Activity.{Activity}
use Rattle.plan.specs.declared.Transition.{Transition}
use Rattle.plan.specs.declared.Plan.{Plan}
use Rattle.judge.specs.Judge.{judge_of}
use Rattle.times.specs.Limits.{StepFits}
use Rattle.times.specs.declared.Progress.{Progress}
use Rattle.timetable_steps.specs.declared.Step.{Step}
use Rattle.timetable_turns.specs.declared.Begun.{Begun}
use Rattle.timetable_turns.specs.declared.Drafted.{Drafted}
use Rattle.timetable_turns.specs.declared.Turned.{Turned}
use Rattle.timetable_text.specs.Lent.{Lends}
use Rattle.timetable_turns.specs.Inner.Turn.{OneTurn, is_refused, first_text, first_progress, Open}

-- the table of the plan `bytes` is begun at the front of a buffer
pub record Begins (bytes before after : List ℕ) (r : Begun) : Type 0 where
  pub text : Lends before 0 (first_text (judge_of bytes).verdict) after r.put
  pub closed : r.closed ≡ is_refused (judge_of bytes).verdict
  pub plan : r.plan ≡ (judge_of bytes).plan
  pub progress : r.progress ≡ first_progress (judge_of bytes).plan
  -- what the first turn needs of it
  pub stays : r.closed ≡ false → Open r.plan r.progress

-- the turn x is put at `at`
pub record Turns (p : Plan) (before : List ℕ) (at : ℕ) (x : OneTurn) (after : List ℕ) (r : Turned) : Type 0 where
  pub text : Lends before at x.text after r.put
  pub closed : r.closed ≡ x.closed
  pub heard : r.heard ≡ x.heard
  pub progress : r.progress ≡ x.progress
  -- what the next turn needs of it
  pub stays : r.closed ≡ false → Open p r.progress

-- ---- before the text is lent

-- the turn x is put at `at` of a buffer of the table's own
pub record Drafts (before : List ℕ) (at : ℕ) (x : OneTurn) (after : List ℕ) (r : Drafted) : Type 0 where
  pub text : Puts before at x.text after r.next
  pub closed : r.closed ≡ x.closed
  pub heard : r.heard ≡ x.heard
  pub progress : r.progress ≡ x.progress

-- ---- what is asked

-- a turn is put where its text has room in the largest buffer
pub record Turnable (p : Plan) (g : Progress) (at : ℕ) : Type 0 where
  pub within : Open p g
  pub room : at ≤ 61_440

-- the parts of a turn: where it takes a transition, that one can be taken
pub record Steppable (resources : ℕ) (a : Activity) (g : Progress) (at : ℕ) (x : Step) : Type 0 where
  pub room : at ≤ 61_440
  pub few : resources ≤ 16
  pub fits : (m : Transition) (heard : Bool) → x ≡ Step.Takes m heard → StepFits resources a m.input g
