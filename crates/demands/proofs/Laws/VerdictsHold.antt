-- `verdict`: a file gets each verdict in its condition and in no other. `refused_plan_lem`: a refused file hands on a plan of zeros.
-- `verdict_numbers`: the same by number and place. From the file's description (planfile), the activities and the automaton.
use Rattle.std.specs.Prelude.{◌≡◌, Result, Ok, Err, List, ◌∷◌, ℕ, ◌≤◌}
use Rattle.std.proofs.Math.Path.{refl}
use Rattle.std.proofs.Common.{sym, ap, ◌∙◌, subst, inl, inr, arith}
use Rattle.basis.specs.Lists.{Among}
use Rattle.basis.proofs.Laws.Lists.{among_right}
use Rattle.plan.specs.Fault.{number_of}
use Rattle.plan.proofs.Laws.Faults.{same_fault}
use Rattle.plan.specs.Limits.{InLimits}
use Rattle.plan.specs.Reading.{read_plan, zero_plan}
use Rattle.plan.specs.declared.Fault.{Fault}
use Rattle.plan.specs.declared.FaultAt.{FaultAt}
use Rattle.plan.specs.Plan.{resource_of, activity_of}
use Rattle.plan.specs.declared.Node.{Node}
use Rattle.plan.specs.declared.Plan.{Plan}
use Rattle.plan.specs.Verdict.{Verdict}
use Rattle.plan.specs.Fields as fields
use Rattle.plan.specs.declared.PlanRead.{PlanRead}
use Rattle.format.specs.Format as F
use Rattle.format.specs.Format.{faulty, more, Faulty, short, wrong, result}
use Rattle.plan_file.specs.PlanFile.{fault_order, plan_file}
use Rattle.plan_file.proofs.Laws.Accepted as W
use Rattle.plan_file.proofs.Laws.HoldsPlan.{plan_iff}
use Rattle.plan_file.proofs.Laws.Refused.{refused_exactly}
use Rattle.activity.specs.Number.{activities_verdict}
use Rattle.activity.proofs.Laws.Activities as A
use Rattle.activity.specs.Activities.{FirstAt}
use Rattle.activity.specs.Judged.{Rule}
use Rattle.automaton.specs.Number.{automaton_verdict}
use Rattle.automaton.specs.Rules.{Judges, number21, number22, number23, number24, number25, number26}
use Rattle.automaton.proofs.Laws.Decides as D
use Rattle.judge.specs.Judge.{on_verdict, on_read, accepted, refused_plan, judge_automaton, judge_plan, judge_of}
use Rattle.demands.specs.Accepted.{Bytes}
use Rattle.judge.proofs.Laws.Judge.{passed}
use Rattle.demands.specs.Alike.{SamePlan}
use Rattle.demands.proofs.Laws.ReadAlike.{read_alike}
use Rattle.demands.proofs.Laws.Only.{turned_plan, both, each_meets, first_at, automaton_judges}
use Rattle.demands.specs.Verdicts.{FileOf, EachMeets, Judged, Meeting, StatementVerdict, StatementAcceptedPlain, StatementOnlyPlan, StatementHandedOn, StatementRefusedPlan, StatementVerdictNumbers, StatementReadingNumbers, StatementActivityNumbers, StatementAutomatonNumbers}

file_of : (b : List ℕ) → Bytes b → (p : Plan) → read_plan b ≡ Ok p → FileOf b p
file_of b bytes p e = let h = (W.accepted_iff b bytes p).0 e in record { holds = h.holds; printed = h.written }

-- the limits, which the activities and the automaton start from
limits : (b : List ℕ) (p : Plan) → FileOf b p → InLimits p
limits b p h = ((plan_iff p).0 h.holds).limits

-- ---- from the verdict to its condition

module _ (b : List ℕ) (q : Plan) (h : FileOf b q) where
  by_automaton : EachMeets q → (v : Verdict) → automaton_verdict q ≡ v → Judged b (on_verdict v (accepted q) refused_plan).verdict
  by_automaton m (Ok u) e = Judged.accepted h m ((D.accepted_iff q (limits b q h)).0 e)
  by_automaton m (Err x) e = Judged.automaton h m ((D.verdict_iff q (limits b q h) (Err x)).0 e)

  by_activities : (v : Verdict) → activities_verdict q ≡ v → Judged b (on_verdict v (judge_automaton q) refused_plan).verdict
  by_activities (Ok u) e = by_automaton ((A.accepted_iff q).0 e) (automaton_verdict q) refl
  by_activities (Err x) e = Judged.activity h ((A.refused_iff q x.fault x.place).0 e)

module _ (b : List ℕ) (bytes : Bytes b) where
  by_reading : (r : Result Plan FaultAt) → read_plan b ≡ r → Judged b (on_read r judge_plan refused_plan).verdict
  by_reading (Ok q) e = by_activities b q (file_of b bytes q e) (activities_verdict q) refl
  by_reading (Err x) e = Judged.reading ((refused_exactly b bytes x.fault x.place).0 e)

  forward : Judged b (judge_of b).verdict
  unfolding judge_of
  forward = by_reading (read_plan b) refl

  -- ---- from the condition to the verdict

  -- what is read from the file of p is p but for its spare room, so it is judged as p is
  module _ (p : Plan) (h : FileOf b p) where
    abbrev q : Plan
    q = result plan_file p

    read : read_plan b ≡ Ok q
    read = W.read_printed b bytes p h.holds h.printed

    same : SamePlan p q
    same = read_alike p h.holds

    in_limits_lem : InLimits q
    in_limits_lem = limits b q (file_of b bytes q read)

    each : EachMeets p → activities_verdict q ≡ Ok tt
    each m = (A.accepted_iff q).1 (each_meets p q same (limits b p h) m)

    first : (f : Fault) (i : ℕ) → FirstAt p f i → activities_verdict q ≡ fields.faulty f i
    first f i x = (A.refused_iff q f i).1 (first_at p q same (limits b p h) f i x)

    judges : (v : Verdict) → Judges p v → automaton_verdict q ≡ v
    judges v x = (D.verdict_iff q in_limits_lem v).1 (automaton_judges p q same (limits b p h) v x)

  backward : (v : Verdict) → Judged b v → (judge_of b).verdict ≡ v
  unfolding judge_of
  backward v (Judged.reading {f} {k} x) = let e = (refused_exactly b bytes f k).1 x in rw e
  backward v (Judged.activity {p} {f} {i} h x) = rw (read p h, first p h f i x)
  backward v (Judged.automaton {p} {f} {s} h m x) = rw (read p h, each p h m, judges p h (fields.faulty f s) x)
  backward v (Judged.accepted {p} h m x) = rw (read p h, each p h m, judges p h (Ok tt) (Judges.accepted x))

pub verdict : StatementVerdict
verdict b v bytes = (λ e. subst (Judged b) e (forward b bytes), backward b bytes v)

-- ---- acceptance

meeting : (b : List ℕ) → Judged b (Ok tt) → Meeting b
meeting b (Judged.accepted {p} h m x) = record { plan = p; file = h; activities = m; automaton = x }

pub accepted_plain : StatementAcceptedPlain
accepted_plain b bytes = (
  λ e. meeting b ((verdict b (Ok tt) bytes).0 e),
  λ h. (verdict b (Ok tt) bytes).1 (Judged.accepted h.file h.activities h.automaton),
)

ok_is : {p q : Plan} → ◌≡◌ {A = Result Plan FaultAt} (Ok p) (Ok q) → p ≡ q
ok_is e = cc

pub only_plan : StatementOnlyPlan
only_plan b p q bytes h k =
    let e = ok_is (sym (read b bytes p h) ∙ read b bytes q k) in
    both (same b bytes p h) (rw e (turned_plan (same b bytes q k)))

pub handed_on : StatementHandedOn
handed_on b bytes e =
    let p = (judge_of b).plan in
    let x = passed p b (λ i. record { verdict = e i; plan = p }) in
    let h = file_of b bytes p x.read in
    (h, (A.accepted_iff p).0 x.activities, (D.accepted_iff p (limits b p h)).0 x.automaton)

-- ---- a refused file

abbrev Zeros : PlanRead → Type 0
Zeros r = (f : Fault) (place : ℕ) → r.verdict ≡ fields.faulty f place → r.plan ≡ zero_plan

zeros : (v : Verdict) (x : PlanRead) → Zeros x → Zeros (on_verdict v x refused_plan)
zeros (Ok u) x h = h
zeros (Err r) x h = λ f place e. refl

none_refused : (q : Plan) → Zeros (accepted q)
none_refused q f place e = cc

pub refused_plan_lem : StatementRefusedPlan
unfolding judge_of
refused_plan_lem b = by (read_plan b)
  where
    by : (r : Result Plan FaultAt) → Zeros (on_read r judge_plan refused_plan)
    by (Ok q) = zeros (activities_verdict q) (judge_automaton q) (zeros (automaton_verdict q) (accepted q) (none_refused q))
    by (Err x) = λ f place e. refl

-- ---- by number

pub verdict_numbers : StatementVerdictNumbers
verdict_numbers b f place bytes = (
  λ r. (verdict b (fields.faulty f place) bytes).0 (r.answered ∙ ap (λ (g : Fault). fields.faulty g place) (same_fault r.fault f r.numbered)),
  λ h. record { fault = f; answered = (verdict b (fields.faulty f place) bytes).1 h; numbered = refl },
)

of_order : (n : ℕ) → Among n fault_order → (1 ≤ n) × (n ≤ 8) × (n ≡ 6 → ⊥)
of_order n (inl e) = (omega arith, omega arith, λ z. omega arith)
of_order n (inr (inl e)) = (omega arith, omega arith, λ z. omega arith)
of_order n (inr (inr (inl e))) = (omega arith, omega arith, λ z. omega arith)
of_order n (inr (inr (inr (inl e)))) = (omega arith, omega arith, λ z. omega arith)
of_order n (inr (inr (inr (inr (inl e))))) = (omega arith, omega arith, λ z. omega arith)
of_order n (inr (inr (inr (inr (inr (inl e)))))) = (omega arith, omega arith, λ z. omega arith)
of_order n (inr (inr (inr (inr (inr (inr z)))))) = absurd z

-- a field's fault is 1 to 8, and not 6
pub of_field : (b : List ℕ) (w p : ℕ) (rules : ℕ → List F.Rule) (n : ℕ) → Faulty 1 fault_order b w p rules n → (1 ≤ n) × (n ≤ 8) × (n ≡ 6 → ⊥)
of_field b w p rules n (short h) = (omega arith, omega arith, λ z. omega arith)
of_field b w p rules n (wrong h o) = of_order n (subst (Among n) (sym o.stands) (among_right n o.before (n ∷ o.behind) (inl refl)))

pub reading_numbers : StatementReadingNumbers
reading_numbers b n k (faulty r) = let h = of_field b r.width k r.rules n r.faulty in (h.0, h.1)
reading_numbers b n k (more a r l) = (omega arith, omega arith)

-- a fault whose rule can be broken is one of an activity
of_activity : (belongs : ℕ → ℕ) (a : List Node) (f : Fault) → (Rule belongs a f → ⊥) → (11 ≤ number_of f) × (number_of f ≤ 18)
of_activity belongs a Fault.Ends n = absurd (n tt)
of_activity belongs a Fault.Map n = absurd (n tt)
of_activity belongs a Fault.NoAutomaton n = absurd (n tt)
of_activity belongs a Fault.Count n = absurd (n tt)
of_activity belongs a Fault.Names n = absurd (n tt)
of_activity belongs a Fault.Duration n = absurd (n tt)
of_activity belongs a Fault.NotRising n = absurd (n tt)
of_activity belongs a Fault.LeftOver n = absurd (n tt)
of_activity belongs a Fault.Cycle n = (omega arith, omega arith)
of_activity belongs a Fault.ActionsUnordered n = (omega arith, omega arith)
of_activity belongs a Fault.NamedTwice n = (omega arith, omega arith)
of_activity belongs a Fault.ActionUnheld n = (omega arith, omega arith)
of_activity belongs a Fault.ClaimUnpaired n = (omega arith, omega arith)
of_activity belongs a Fault.ArrowPastEnd n = (omega arith, omega arith)
of_activity belongs a Fault.EventFirst n = (omega arith, omega arith)
of_activity belongs a Fault.EventsUnordered n = (omega arith, omega arith)
of_activity belongs a Fault.WayOutOfFinal n = absurd (n tt)
of_activity belongs a Fault.ForbiddenBranch n = absurd (n tt)
of_activity belongs a Fault.OutcomeMissing n = absurd (n tt)
of_activity belongs a Fault.NoWayToFinal n = absurd (n tt)
of_activity belongs a Fault.Unbalanced n = absurd (n tt)
of_activity belongs a Fault.TooManyPending n = absurd (n tt)

pub activity_numbers : StatementActivityNumbers
activity_numbers p f i x = of_activity (resource_of p) (activity_of p i) f x.fault.broken

pub automaton_numbers : StatementAutomatonNumbers
automaton_numbers p f s (number21 x) = (omega arith, omega arith)
automaton_numbers p f s (number22 e x) = (omega arith, omega arith)
automaton_numbers p f s (number23 e b x) = (omega arith, omega arith)
automaton_numbers p f s (number24 e b c x) = (omega arith, omega arith)
automaton_numbers p f s (number25 e b c w x) = (omega arith, omega arith)
automaton_numbers p f s (number26 e b c w n x) = (omega arith, omega arith)
