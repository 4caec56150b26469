-- "every number of an opening or a call, and done, occurs in its stated condition and order and in no other": the
-- condition of each answer to an opening, over its bytes, Ψ, slack and availabilities and the words of its plan.
use Rattle.std.specs.Prelude.{◌≡◌, List, ◌↔◌, ℕ, ◌≤◌, ◌<◌, length, get_or, Ok}
use Rattle.time.specs.Time.{horizon}
use Rattle.time.specs.declared.Clock.{Clock}
use Rattle.plan.specs.Plan.{activity_of}
use Rattle.plan.specs.declared.Fault.{Fault}
use Rattle.plan.specs.declared.Plan.{Plan}
use Rattle.plan.specs.Verdict.{faulty}
use Rattle.judge.specs.Judge.{judge_of}
use Rattle.activity.specs.Rules.{node}
use Rattle.run.specs.declared.Unopened.{Unopened}
use Rattle.run.specs.declared.Opening.{Opening}
use Rattle.run.specs.Numbers.{open_number, open_place}
use Rattle.run.specs.Opening.{open_of}
use Rattle.demands_theory.specs.Nodes.{Working}
use Rattle.demands_theory.specs.Loading.{FirstBeyond, FirstMany}
use Rattle.demands.specs.Accepted.{Bytes}
use Rattle.demands.specs.Verdicts.{Judged}

-- ---- what the host that opens can get wrong

-- 31 "Ψ or one of them above 10^15"
pub data TimeAbove (psi : Clock) (ts : List ℕ) : Type 0 where
  start : horizon < psi.0 → TimeAbove psi ts
  availability : (r : ℕ) → r < length ts → horizon < get_or ts r 0 → TimeAbove psi ts

-- 32, against "a slack of 1 to 1,000,000"
pub data SlackOutside (slack : ℕ) : Type 0 where
  none : slack ≡ 0 → SlackOutside slack
  above : 1_000_000 < slack → SlackOutside slack

-- 33 "an action or event with duration not above the slack": node n of activity a
pub record ShortNode (p : Plan) (slack a n : ℕ) : Type 0 where
  pub within : n < length (activity_of p a)
  pub working : Working (node (activity_of p a) n).kind
  pub short : (node (activity_of p a) n).duration ≤ slack

pub record HasShort (p : Plan) (slack a : ℕ) : Type 0 where
  pub within : a < p.activities
  pub number : ℕ
  pub short : ShortNode p slack a number

-- "place = lowest such activity"
pub record LowestShort (p : Plan) (slack a : ℕ) : Type 0 where
  pub here : HasShort p slack a
  pub lower : (b : ℕ) → b < a → HasShort p slack b → ⊥

-- ---- the order at an opening

module _ (bytes : List ℕ) where
  -- "The plan comes as bytes and is judged first; the run keeps it."
  abbrev pub plan_of : Plan
  plan_of = (judge_of bytes).plan

  -- neither a fault of the plan nor 30
  pub record Counted (ts : List ℕ) : Type 0 where
    pub accepted : Judged bytes (Ok tt)
    pub each : length ts ≡ plan_of.resources

  -- nor 31
  pub record InTime (psi : Clock) (ts : List ℕ) : Type 0 where
    pub earlier : Counted ts
    pub none : TimeAbove psi ts → ⊥

  -- nor 32
  pub record WithSlack (psi : Clock) (slack : ℕ) (ts : List ℕ) : Type 0 where
    pub earlier : InTime psi ts
    pub none : SlackOutside slack → ⊥

  -- nor 33
  pub record Lasting (psi : Clock) (slack : ℕ) (ts : List ℕ) : Type 0 where
    pub earlier : WithSlack psi slack ts
    pub none : (a : ℕ) → HasShort plan_of slack a → ⊥

  -- nor 44
  pub record WithinHorizon (psi : Clock) (slack : ℕ) (ts : List ℕ) : Type 0 where
    pub earlier : Lasting psi slack ts
    pub none : FirstBeyond plan_of (λ r. get_or ts r 0) → ⊥

-- "Opening checks run 30 to 33, then 44, 43 as refusals.": after the plan's own faults
pub data OpensBy (bytes : List ℕ) (psi : Clock) (slack : ℕ) (ts : List ℕ) : Opening → Type 0 where
  -- "The plan's author": its fault and place
  author : {f : Fault} {place : ℕ} → Judged bytes (faulty f place) → OpensBy bytes psi slack ts (Opening.Refused (Unopened.Plan f place))
  -- "30 wrong number of availabilities"
  number30 : Judged bytes (Ok tt) → (length ts ≡ (plan_of bytes).resources → ⊥) → OpensBy bytes psi slack ts (Opening.Refused Unopened.Availabilities)
  number31 : Counted bytes ts → TimeAbove psi ts → OpensBy bytes psi slack ts (Opening.Refused Unopened.Time)
  number32 : InTime bytes psi ts → SlackOutside slack → OpensBy bytes psi slack ts (Opening.Refused Unopened.Slack)
  number33 : WithSlack bytes psi slack ts → {a : ℕ} → LowestShort (plan_of bytes) slack a → OpensBy bytes psi slack ts (Opening.Refused (Unopened.Short a))
  -- a transition of the first path passes a limit
  number44 : Lasting bytes psi slack ts → FirstBeyond (plan_of bytes) (λ r. get_or ts r 0) → OpensBy bytes psi slack ts (Opening.Refused Unopened.Beyond)
  -- it has more than 512 actions and events
  number43 : WithinHorizon bytes psi slack ts → FirstMany (plan_of bytes) → OpensBy bytes psi slack ts (Opening.Refused Unopened.Full)
  opened : WithinHorizon bytes psi slack ts → (FirstMany (plan_of bytes) → ⊥) → OpensBy bytes psi slack ts Opening.Opened

abbrev pub StatementOpeningBy : Type 0
StatementOpeningBy =
    (bytes : List ℕ) → Bytes bytes → (psi : Clock) (slack : ℕ) (ts : List ℕ) (o : Opening) → ((open_of bytes psi slack ts).opening ≡ o) ↔ OpensBy bytes psi slack ts o

-- ---- by number and place

-- the opening is refused with this number and this place
pub record RefusedWith (bytes : List ℕ) (psi : Clock) (slack : ℕ) (ts : List ℕ) (number place : ℕ) : Type 0 where
  pub refusal : Unopened
  pub answered : (open_of bytes psi slack ts).opening ≡ Opening.Refused refusal
  pub numbered : open_number refusal ≡ number
  pub placed : open_place refusal ≡ place

abbrev pub StatementOpeningNumbers : Type 0
StatementOpeningNumbers =
    (bytes : List ℕ) → Bytes bytes → (psi : Clock) (slack : ℕ) (ts : List ℕ) (u : Unopened) → RefusedWith bytes psi slack ts (open_number u) (open_place u) ↔ OpensBy bytes psi slack ts (Opening.Refused u)
