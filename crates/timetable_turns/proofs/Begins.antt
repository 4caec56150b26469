-- The table before its first turn, by the verdict on the plan.
use Rattle.std.specs.Prelude.{Result, Ok, Err}
use mathlib.Core.Path.{◌≡◌, refl, sym, ap, ◌∙◌, subst}
use mathlib.Core.Bool.{Bool, false}
use mathlib.Core.List.{List}
use Prim.Native.Nat.{ℕ, ◌<◌}
use lib.ListN.{get_or}
use Rattle.basis.proofs.Laws.Bools.{clash}
use Rattle.plan.specs.Fault.{number_of}
use Rattle.plan.specs.declared.Fault.{Fault}
use Rattle.plan.specs.declared.PlanRead.{PlanRead}
use Rattle.plan.specs.Verdict.{Verdict, faulty}
use Rattle.judge.specs.Judge.{judge_of}
use Rattle.times.specs.declared.Progress.{Progress}
use Rattle.timetable_lines.specs.Lines.{refused}
use Rattle.timetable_turns.specs.Inner.Turn.{is_refused, first_text, first_progress, Open}
use Rattle.timetable_text.specs.declared.NotPut.{NotPut}
use Rattle.timetable_text.specs.Lent.{Lends}
use Rattle.timetable_turns.specs.Inner.Answers.{Begins}
use Rattle.timetable_text.proofs.Laws.Lent.{lends_as}
use Rattle.timetable_turns.proofs.Laws.InLimits.{judged_limits, first_open}

pub lends_refused : (before after : List ℕ) (r : Result ℕ NotPut) (v : Verdict) (f : Fault) (place number : ℕ) → number ≡ number_of f → v ≡ faulty f place → Lends before 0 (refused number place) after r → Lends before 0 (first_text v) after r
lends_refused before after r v f place number n e l = lends_as before 0 _ _ after r (ap (λ (x : ℕ). refused x place) n ∙ ap first_text (sym e)) l

module _ (bytes : List ℕ) (small : (k : ℕ) → get_or bytes k 0 < 256) (before after : List ℕ) (r : PlanRead) (e : r ≡ judge_of bytes) (put : Result ℕ NotPut) (closed : Bool) (g : Progress) where
  accepted_if : (v : Verdict) → is_refused v ≡ false → v ≡ Ok tt
  accepted_if (Ok u) k = refl
  accepted_if (Err e) k = clash k

  verdict_is : r.verdict ≡ (judge_of bytes).verdict
  verdict_is = ap (λ (x : PlanRead). x.verdict) e

  pub begins : g ≡ first_progress r.plan → closed ≡ is_refused r.verdict → Lends before 0 (first_text r.verdict) after put → Begins bytes before after (record { put = put; closed = closed; plan = r.plan; progress = g })
  begins first c l = record {
    text = subst (λ (v : Verdict). Lends before 0 (first_text v) after put) verdict_is l;
    closed = c ∙ ap is_refused verdict_is;
    plan = ap (λ (x : PlanRead). x.plan) e;
    progress = first ∙ ap (λ (x : PlanRead). first_progress x.plan) e;
    stays = λ d. subst (Open r.plan) (sym first) (first_open r.plan (judged_limits bytes small r e (accepted_if r.verdict (sym c ∙ d))));
  }
