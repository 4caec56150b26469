-- `times_equal`: the engine's times are those of Def. 11 on the combined activity of the whole word, for every accepted plan,
-- availabilities and word. From acceptance (AcceptedIff), the engine over a word (specified) and the combined activity
-- (behaviour).
use Rattle.std.specs.Prelude.{◌≡◌, refl, List, [], ◌∷◌, ◌++◌, map, ℕ, zero, suc, ◌+◌, ◌-◌, ◌≤◌, length, get_or, replicate}
use Rattle.std.proofs.Common.{ap, arith}
use Rattle.basis.proofs.Laws.Lists.{all_same}
use Rattle.time.specs.declared.Specified.{Specified}
use Rattle.plan.specs.declared.Plan.{Plan}
use Rattle.times.specs.Times.{specified, at}
use Rattle.times_combined.proofs.Laws.Engine.{start_at, end_at}
use Rattle.times_combined.specs.Paths.{word_of, Follows, Lawful}
use Rattle.times_equal.proofs.Laws.Words.{Opening, trace_by}
use Rattle.times_equal.specs.Plans.{schedule_at}
use Rattle.times_equal.proofs.Laws.Plans.{AtMostEight, progress_at, plan_equal, plan_times, plan_free}
use Rattle.demands_theory.specs.TheWord.{state_after}
use Rattle.demands_theory.proofs.Laws.Along.{lawful, few_pending}
use Rattle.plan_file.proofs.Laws.HoldsPlan.{plan_iff}
use Rattle.demands.proofs.Laws.AcceptedIff.{accepted_iff}
use Rattle.demands.specs.Times.{opened, TimesEqual, StatementTimesEqual}
use Rattle.run_opening.proofs.Laws.Given.{given_at}

-- ---- what an opening stores

pub none_at : (n r : ℕ) → at (replicate n (specified 0)) r ≡ 0
none_at n r = ap (λ (s : Specified). s.0) (all_same n r (specified 0))

given_length : (ts : List ℕ) (n : ℕ) → length (map specified ts ++ replicate n (specified 0)) ≡ length ts + n
given_length [] n = zeros_length n
  where
    zeros_length : (n : ℕ) → length (replicate n (specified 0)) ≡ 0 + n
    zeros_length zero = refl
    zeros_length (suc n) = let e = zeros_length n in omega arith
given_length (t ∷ ts) n = let e = given_length ts n in omega arith

stored : (p : Plan) (ts : List ℕ) → length ts ≡ p.resources → p.resources ≤ 16 → Opening (λ r. get_or ts r 0) (opened p ts)
stored p ts e l = record {
  whole = record { available = (let h = given_length ts (16 - length ts) in omega arith); latest = refl; lengths = refl; pending = refl };
  free = given_at ts (16 - length ts);
  last = none_at 16;
  none = λ e. all_same {A = ℕ} 16 e 0;
}

-- ---- the theorem

module _ (p : Plan) (ts is : List ℕ) (l : Lawful p) (eight : AtMostEight p) (long : length ts ≡ p.resources) (path : Follows p p.automaton.initial is (state_after p is)) where
  start : Opening (λ r. get_or ts r 0) (opened p ts)
  start = stored p ts long l.file.limits.resources

  equal : TimesEqual p ts is
  equal = record {
    solved = (
      start_at (trace_by (progress_at p (opened p ts) is) (schedule_at p (opened p ts) is) (word_of p is)),
      end_at (trace_by (progress_at p (opened p ts) is) (schedule_at p (opened p ts) is) (word_of p is)),
      (plan_equal p l eight (λ r. get_or ts r 0) (opened p ts) start is (state_after p is) path).timing,
    );
    starts = λ S E t x w. (plan_times p l eight (λ r. get_or ts r 0) (opened p ts) start is (state_after p is) path S E t x.position x.node w.0 w.1.0 w.1.1).0;
    ends = λ S E t x w. (plan_times p l eight (λ r. get_or ts r 0) (opened p ts) start is (state_after p is) path S E t x.position x.node w.0 w.1.0 w.1.1).1;
    releases = λ r h.
        let q = plan_equal p l eight (λ r. get_or ts r 0) (opened p ts) start is (state_after p is) path in
        let x = q.free r h in
        (x.0, x.1, λ y i. q.one_release y x.0 r i x.1);
    free = λ S E t x r k h. plan_free p l eight (λ r. get_or ts r 0) (opened p ts) start is (state_after p is) path S E t x r k h;
  }

pub times_equal : StatementTimesEqual
times_equal b p ts is bytes e long path =
    let a = (accepted_iff b p bytes).0 e in
    equal p ts is (lawful p ((plan_iff p).0 a.holds) a.activities a.automaton.first) (λ js q ev f. few_pending p a.automaton.few js q ev f) long path
