-- `opening_by`: each answer of an opening occurs in its stated condition and order and in no other. `opening_numbers`: so does
-- each number with its place. Forwards by cases of the tests; backwards each condition settles the tests before it.
use Rattle.std.specs.Prelude.{◌≡◌, true, false, ◌||◌, List, ℕ, ◌≤◌, ltb, eqb, None, Ok, Err}
use Rattle.std.proofs.Math.Path.{refl}
use Rattle.std.proofs.Common.{ap, ◌∙◌, subst}
use Rattle.std.proofs.Math.ListN.{length}
use Rattle.basis.proofs.Laws.Tells.{told_true, told_false, tells_eqb, by_tells, is_false}
use Rattle.basis.proofs.Laws.Bools.{by_test}
use Rattle.time.specs.Time.{horizon}
use Rattle.time.specs.declared.Clock.{Clock}
use Rattle.plan.specs.Verdict.{Verdict}
use Rattle.judge.specs.Judge.{judge_of}
use Rattle.run.specs.Limits.{slack_in_limits}
use Rattle.run.specs.Loading.{load}
use Rattle.numbers.proofs.Laws.Openings.{same_refusal}
use Rattle.run_opening.specs.Given.{any_above}
use Rattle.run_opening.specs.Short.{short_from}
use Rattle.run.specs.Opening.{first_loaded, begin, fresh, open_plan, open_judged, open_of}
use Rattle.run.specs.Loading.{Loading}
use Rattle.run.specs.declared.Opening.{Opening}
use Rattle.run.specs.declared.Opened.{Opened}
use Rattle.demands.specs.Openings.{TimeAbove, plan_of, Counted, InTime, WithSlack, Lasting, WithinHorizon, OpensBy, StatementOpeningBy, StatementOpeningNumbers}
use Rattle.demands.proofs.Laws.OpeningTests.{is_true, tells_time, tells_slack, outside, inside, finds, by_finds, lowest_is, none_is}
use Rattle.demands.specs.Accepted.{Bytes}
use Rattle.demands.specs.Verdicts.{Judged}
use Rattle.demands.proofs.Laws.VerdictsHold.{verdict}
use Rattle.demands.proofs.Laws.FirstPath.{at_opening, first_path, tells_44, tells_43}

-- ---- from the tests to the condition

module _ (bytes : List ℕ) (are : Bytes bytes) (psi : Clock) (slack : ℕ) (ts : List ℕ) where
  record OpensOf (a : Opened) : Type 0 where
    opens : OpensBy bytes psi slack ts a.opening

  begins : Lasting bytes psi slack ts → OpensOf (begin (fresh (plan_of bytes) psi slack (at_opening (plan_of bytes) ts)))
  unfolding load
  begins l =
      by_test (λ (x : Loading). OpensOf (first_loaded x)) (first_path (plan_of bytes) ts).beyond _ _ (λ b. record { opens = OpensBy.number44 l (told_true (tells_44 bytes are psi slack ts l) b) }) λ b.
      by_tells (λ (x : Loading). OpensOf (first_loaded x)) _ _ (tells_43 bytes are psi slack ts l b)
      (λ h. record { opens = OpensBy.number43 (record { earlier = l; none = told_false (tells_44 bytes are psi slack ts l) b }) h })
      (λ h. record { opens = OpensBy.opened (record { earlier = l; none = told_false (tells_44 bytes are psi slack ts l) b }) h })

  open_plan_lem : Judged bytes (Ok tt) → OpensOf (open_plan (plan_of bytes) psi slack ts)
  unfolding open_plan
  open_plan_lem e =
      by_tells OpensOf _ _ (tells_eqb (length ts) (plan_of bytes).resources) (λ c.
      by_tells OpensOf _ _ (tells_time psi ts) (λ h. record { opens = OpensBy.number31 (counted c) h }) (λ n.
      by_tells OpensOf _ _ (tells_slack slack) (λ i.
      by_finds (plan_of bytes) slack OpensOf _ _ (finds (plan_of bytes) slack (plan_of bytes).activities 0)
      (λ a h. record { opens = OpensBy.number33 (slackened c n i) h }) (λ m. begins (record { earlier = slackened c n i; none = m })))
      (λ o. record { opens = OpensBy.number32 (record { earlier = counted c; none = n }) (outside slack o) })))
      (λ n. record { opens = OpensBy.number30 e n })
    where
      counted : length ts ≡ (plan_of bytes).resources → Counted bytes ts
      counted c = record { accepted = e; each = c }

      slackened : length ts ≡ (plan_of bytes).resources → (TimeAbove psi ts → ⊥) → (1 ≤ slack) × (slack ≤ 1_000_000) → WithSlack bytes psi slack ts
      slackened c n i = record { earlier = record { earlier = counted c; none = n }; none = inside slack i }

  open_judged_lem : (v : Verdict) → (judge_of bytes).verdict ≡ v → OpensOf (open_judged v (plan_of bytes) psi slack ts)
  open_judged_lem (Ok u) e = open_plan_lem ((verdict bytes (Ok tt) are).0 e)
  open_judged_lem (Err x) e = record { opens = OpensBy.author ((verdict bytes (Err x) are).0 e) }

  forward : OpensOf (open_of bytes psi slack ts)
  unfolding open_of
  forward = open_judged_lem (judge_of bytes).verdict refl

-- ---- from the condition to the answer

module _ (bytes : List ℕ) (are : Bytes bytes) (psi : Clock) (slack : ℕ) (ts : List ℕ) where
  judged : {v : Verdict} → Judged bytes v → (judge_of bytes).verdict ≡ v
  judged {v} h = (verdict bytes v are).1 h

  passed_30 : Counted bytes ts → eqb (length ts) (plan_of bytes).resources ≡ true
  passed_30 h = is_true (tells_eqb (length ts) (plan_of bytes).resources) (λ n. n h.each)

  passed_31 : InTime bytes psi ts → ltb horizon psi.0 || any_above ts ≡ false
  passed_31 h = is_false (tells_time psi ts) h.none

  passed_32 : WithSlack bytes psi slack ts → slack_in_limits slack ≡ true
  passed_32 h = is_true (tells_slack slack) (λ n. h.none (outside slack n))

  passed_33 : Lasting bytes psi slack ts → short_from (plan_of bytes) slack 0 (plan_of bytes).activities ≡ None
  passed_33 h = none_is (plan_of bytes) slack (finds (plan_of bytes) slack (plan_of bytes).activities 0) h.none

  passed_44 : WithinHorizon bytes psi slack ts → (first_path (plan_of bytes) ts).beyond ≡ false
  passed_44 h = is_false (tells_44 bytes are psi slack ts h.earlier) h.none

  backward : {o : Opening} → OpensBy bytes psi slack ts o → (open_of bytes psi slack ts).opening ≡ o
  unfolding open_of open_plan load
  backward (OpensBy.author e) = rw (judged e)
  backward (OpensBy.number30 e n) = rw (judged e, is_false (tells_eqb (length ts) (plan_of bytes).resources) n)
  backward (OpensBy.number31 c h) = rw (judged c.accepted, passed_30 c, is_true (tells_time psi ts) (λ n. n h))
  backward (OpensBy.number32 t h) =
      rw (judged t.earlier.accepted, passed_30 t.earlier, passed_31 t, is_false (tells_slack slack) (λ i. inside slack i h))
  backward (OpensBy.number33 w {a} h) =
      rw (
        judged w.earlier.earlier.accepted,
        passed_30 w.earlier.earlier,
        passed_31 w.earlier,
        passed_32 w,
        lowest_is (plan_of bytes) slack a (finds (plan_of bytes) slack (plan_of bytes).activities 0) h,
      )
  backward (OpensBy.number44 l h) =
      let w = l.earlier in
      rw (
        judged w.earlier.earlier.accepted,
        passed_30 w.earlier.earlier,
        passed_31 w.earlier,
        passed_32 w,
        passed_33 l,
        is_true (tells_44 bytes are psi slack ts l) (λ n. n h),
      )
  backward (OpensBy.number43 r h) =
      let l = r.earlier in
      let w = l.earlier in
      rw (
        judged w.earlier.earlier.accepted,
        passed_30 w.earlier.earlier,
        passed_31 w.earlier,
        passed_32 w,
        passed_33 l,
        passed_44 r,
        is_true (tells_43 bytes are psi slack ts l (passed_44 r)) (λ n. n h),
      )
  backward (OpensBy.opened r h) =
      let l = r.earlier in
      let w = l.earlier in
      rw (
        judged w.earlier.earlier.accepted,
        passed_30 w.earlier.earlier,
        passed_31 w.earlier,
        passed_32 w,
        passed_33 l,
        passed_44 r,
        is_false (tells_43 bytes are psi slack ts l (passed_44 r)) h,
      )

pub opening_by : StatementOpeningBy
opening_by bytes are psi slack ts o = (λ e. subst (OpensBy bytes psi slack ts) e (forward bytes are psi slack ts).opens, backward bytes are psi slack ts)

-- ---- by number and place

pub opening_numbers : StatementOpeningNumbers
opening_numbers bytes are psi slack ts u = (
  λ r. (opening_by bytes are psi slack ts (Opening.Refused u)).0 (r.answered ∙ ap Opening.Refused (same_refusal r.refusal u r.numbered r.placed)),
  λ h. record { refusal = u; answered = (opening_by bytes are psi slack ts (Opening.Refused u)).1 h; numbered = refl; placed = refl },
)
