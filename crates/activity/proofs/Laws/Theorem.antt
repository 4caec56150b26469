-- "it is returned iff its rule is broken and no earlier one is": `fault_of` judges every activity right, whatever it holds.
-- Assumes nothing.
use Rattle.std.specs.Prelude.{◌≡◌, refl, Bool, List, ◌↔◌, ℕ, Result, Ok, Err}
use Rattle.std.proofs.Common.{ap, subst, arith}
use Rattle.std.proofs.Math.Decide.{dec_lt}
use Rattle.basis.specs.Inner.Tells.{Tells, holds, fails}
use Rattle.basis.proofs.Laws.Tells.{tells_and}
use Rattle.plan.specs.Fault.{number_of}
use Rattle.plan.proofs.Laws.Faults.{same_fault}
use Rattle.plan.specs.declared.Node.{Node}
use Rattle.plan.specs.declared.Fault.{Fault}
use Rattle.activity.specs.Rules.{NoCycle, RuleI, RuleII, RuleIII, RuleIV, RuleV, RuleVI, RuleVII, RuleVIII, RuleIX, RuleX, RuleXI, Meets}
use Rattle.activity.specs.Number.{unless, fault_by, fault_of}
use Rattle.activity.specs.Tests.{before_words}
use Rattle.activity.specs.Judged.{Rule, First, Judged}
use Rattle.activity.proofs.Laws.TestsRight.{tells_no_cycle, tells_I, tells_II, tells_III, tells_IV, tells_V, tells_VI, tells_VII, tells_VIII, tells_IX, tells_X, tells_XI}
use Rattle.activity.specs.Inner.Closure.{Closure}
use Rattle.activity.proofs.Laws.Closure.{words_right}
use Rattle.activity.specs.Inner.Order.{Below}
use Rattle.activity.proofs.Laws.Order.{up}

module _ (belongs : ℕ → ℕ) (a : List Node) where
  -- no number below 11 is an activity's
  pub start : Below (Rule belongs a) 11
  start Fault.Ends l = tt
  start Fault.Map l = tt
  start Fault.NoAutomaton l = tt
  start Fault.Count l = tt
  start Fault.Names l = tt
  start Fault.Duration l = tt
  start Fault.NotRising l = tt
  start Fault.LeftOver l = tt
  start Fault.Cycle l = absurd (omega arith)
  start Fault.ActionsUnordered l = absurd (omega arith)
  start Fault.NamedTwice l = absurd (omega arith)
  start Fault.ActionUnheld l = absurd (omega arith)
  start Fault.ClaimUnpaired l = absurd (omega arith)
  start Fault.ArrowPastEnd l = absurd (omega arith)
  start Fault.EventFirst l = absurd (omega arith)
  start Fault.EventsUnordered l = absurd (omega arith)
  start Fault.WayOutOfFinal l = tt
  start Fault.ForbiddenBranch l = tt
  start Fault.OutcomeMissing l = tt
  start Fault.NoWayToFinal l = tt
  start Fault.Unbalanced l = tt
  start Fault.TooManyPending l = tt

  -- a test that is broken, or what comes after it
  one_more :
      {b : Bool} (f : Fault) (n : Result (Unit {0}) Fault) → Tells b (Rule belongs a f) → Below (Rule belongs a) (number_of f) → (Rule belongs a f → Judged belongs a n)
      → Judged belongs a (unless b f n)
  one_more f n (holds r) e k = k r
  one_more f n (fails d) e k = record { broken = d; earlier = e }

  judged_by : (words : List ℕ) → Closure a words → Judged belongs a (fault_by belongs words a)
  unfolding fault_by
  judged_by words h =
      one_more Fault.Cycle _ (tells_no_cycle a words h) start (λ r1.
      let e2 = up Fault.Cycle start r1 in
      one_more Fault.ActionsUnordered _ (tells_I a words h) e2 (λ r2.
      let e3 = up Fault.ActionsUnordered e2 r2 in
      one_more Fault.NamedTwice _ (tells_and (tells_II a) (tells_III a)) e3 (λ r3.
      let e4 = up Fault.NamedTwice e3 r3 in
      one_more Fault.ActionUnheld _ (tells_and (tells_IV a words h belongs) (tells_V a words h belongs)) e4 (λ r4.
      let e5 = up Fault.ActionUnheld e4 r4 in
      one_more Fault.ClaimUnpaired _ (tells_and (tells_VI a words h) (tells_VII a words h)) e5 (λ r5.
      let e6 = up Fault.ClaimUnpaired e5 r5 in
      one_more Fault.ArrowPastEnd _ (tells_and (tells_VIII a) (tells_IX a words h)) e6 (λ r6.
      let e7 = up Fault.ArrowPastEnd e6 r6 in
      one_more Fault.EventFirst _ (tells_X a) e7 (λ r7.
      let e8 = up Fault.EventFirst e7 r7 in
      one_more Fault.EventsUnordered _ (tells_XI a words h) e8 (λ r8. all r1 r2 r3 r4 r5 r6 r7 r8))))))))
    where
      all :
          NoCycle a → RuleI a → RuleII a × RuleIII a → RuleIV belongs a × RuleV belongs a → RuleVI a × RuleVII a
          → RuleVIII a × RuleIX a → RuleX a → RuleXI a → Meets belongs a
      all r1 r2 r3 r4 r5 r6 r7 r8 =
          record {
            no_cycle_lem = r1;
            rule_I = r2;
            rule_II = r3.0;
            rule_III = r3.1;
            rule_IV = r4.0;
            rule_V = r4.1;
            rule_VI = r5.0;
            rule_VII = r5.1;
            rule_VIII = r6.0;
            rule_IX = r6.1;
            rule_X = r7;
            rule_XI = r8;
          }

  pub judged : Judged belongs a (fault_of belongs a)
  unfolding fault_of
  judged = judged_by (before_words a) (words_right a)

  -- an activity that meets all rules meets that of each number
  pub meets_rule : Meets belongs a → (f : Fault) → Rule belongs a f
  meets_rule m Fault.Ends = tt
  meets_rule m Fault.Map = tt
  meets_rule m Fault.NoAutomaton = tt
  meets_rule m Fault.Count = tt
  meets_rule m Fault.Names = tt
  meets_rule m Fault.Duration = tt
  meets_rule m Fault.NotRising = tt
  meets_rule m Fault.LeftOver = tt
  meets_rule m Fault.Cycle = m.no_cycle_lem
  meets_rule m Fault.ActionsUnordered = m.rule_I
  meets_rule m Fault.NamedTwice = (m.rule_II, m.rule_III)
  meets_rule m Fault.ActionUnheld = (m.rule_IV, m.rule_V)
  meets_rule m Fault.ClaimUnpaired = (m.rule_VI, m.rule_VII)
  meets_rule m Fault.ArrowPastEnd = (m.rule_VIII, m.rule_IX)
  meets_rule m Fault.EventFirst = m.rule_X
  meets_rule m Fault.EventsUnordered = m.rule_XI
  meets_rule m Fault.WayOutOfFinal = tt
  meets_rule m Fault.ForbiddenBranch = tt
  meets_rule m Fault.OutcomeMissing = tt
  meets_rule m Fault.NoWayToFinal = tt
  meets_rule m Fault.Unbalanced = tt
  meets_rule m Fault.TooManyPending = tt

  -- a finding that is right is the only one
  pub only : (f g : Result (Unit {0}) Fault) → Judged belongs a f → Judged belongs a g → f ≡ g
  only (Ok u) (Ok v) p q = refl
  only (Ok u) (Err g) p q = absurd (q.broken (meets_rule p g))
  only (Err f) (Ok u) p q = absurd (p.broken (meets_rule q f))
  only (Err f) (Err g) p q =
      elim (dec_lt (number_of f) (number_of g)) [
        | yes l ↦ absurd (p.broken (q.earlier f l))
        | no n ↦
            elim (dec_lt (number_of g) (number_of f)) [
              | yes l ↦ absurd (q.broken (p.earlier g l))
              | no k ↦ let e : number_of f ≡ number_of g = omega arith in ap Err (same_fault f g e)
            ]
      ]

  -- a number is returned iff its rule is broken and no earlier one is
  pub bad_iff : (f : Fault) → (fault_of belongs a ≡ Err f) ↔ First belongs a f
  bad_iff f = (λ e. subst (Judged belongs a) e judged, λ p. only (fault_of belongs a) (Err f) judged p)
