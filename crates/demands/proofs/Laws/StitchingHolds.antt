-- `same_stitching`, `same_outcomes`: two runs of one plan with equal processed outcomes, both ending in done, start the same nodes,
-- each within the slack of the other. Their words are one, so each node has one specified start S, and both readings lie between
-- Ψ + S and that plus the slack. `processed`: each log has its processed outcomes, and no others.
use Rattle.std.specs.Prelude.{◌≡◌, refl, true, List, ◌∷◌, ◌↔◌, ℕ, ◌+◌, ◌≤◌, get_or, Ok}
use Rattle.std.proofs.Common.{sym, ap, ◌∙◌, subst, inl, inr, arith}
use Rattle.time.specs.declared.Clock.{Clock}
use Rattle.plan.specs.Plan.{is_final}
use Rattle.plan.specs.Limits.{InLimits}
use Rattle.plan.specs.declared.Plan.{Plan}
use Rattle.plan_file.proofs.Laws.HoldsPlan.{plan_iff}
use Rattle.automaton.specs.Rules.{MeetsAutomaton}
use Rattle.judge.specs.Judge.{judge_of}
use Rattle.times_combined.specs.Combined.{Ident}
use Rattle.times_combined.specs.Times.{Timing}
use Rattle.times_combined.specs.Paths.{Follows}
use Rattle.run.specs.declared.Call.{Call}
use Rattle.run.specs.declared.Reply.{Reply}
use Rattle.run.specs.declared.Opening.{Opening}
use Rattle.run.specs.Opening.{open_of}
use Rattle.demands_log.specs.Log.{Id, Log, Always, reading, Starts, Started, Reports, Reported, Finishes}
use Rattle.demands_log.specs.Drive.{Driven}
use Rattle.demands_theory.specs.Nodes.{whose, Work, EmitsAt}
use Rattle.demands_theory.specs.TheWord.{state_after, whole_of, TheWord}
use Rattle.demands_theory.specs.Demand.{Ends}
use Rattle.demands_theory.proofs.Laws.Nodes.{one_activity}
use Rattle.demands_theory.proofs.Laws.TheWord.{takes_follows}
use Rattle.demands.specs.Accepted.{Bytes}
use Rattle.demands.specs.Verdicts.{Judged}
use Rattle.demands.specs.Openings.{OpensBy}
use Rattle.demands.specs.Demand3.{Demand3, driven_by}
use Rattle.demands.specs.Stitching.{processed_in, EndsInDone, StartedAt, NamedWith, SameStitching, log_after, StatementSame, StatementSameOutcomes, StatementProcessed, StatementStartReading}
use Rattle.demands.proofs.Laws.VerdictsHold.{verdict, handed_on}
use Rattle.demands.proofs.Laws.OpeningsHold.{opening_by}
use Rattle.demands.proofs.Laws.Demand3Holds.{demand_3}
use Rattle.demands.proofs.Laws.NeverStopped.{GoesOn, EndsGoing, unfailed}
use Rattle.demands.proofs.Laws.SameWord.{same_word}

-- ---- what a log says

started_in : (N : Id → Type 0) (log : Log) → Always (λ y older. (x : Id) → Starts y.reply x → N x) log → (x : Id) → Started log x → N x
started_in N mathlib.Core.List.[] h x x4 = elim x4 [ ]
started_in N (y ∷ log) h x (inl q) = h.0 x q
started_in N (y ∷ log) h x (inr q) = started_in N log h.1 x q

reported_started : (log : Log) → Always (λ y older. (x : Id) → Reports y.call y.reply older x → Started older x) log → (x : Id) → Reported log x → Started log x
reported_started mathlib.Core.List.[] h x x4 = elim x4 [ ]
reported_started (y ∷ log) h x (inl q) = inr (h.0 x q)
reported_started (y ∷ log) h x (inr q) = inr (reported_started log h.1 x q)

at_started : (P : Id → ℕ → Type 0) (log : Log) → Always (λ y older. (x : Id) → Starts y.reply x → P x (reading y.call)) log → (x : Id) (t : ℕ) → StartedAt log x t → P x t
at_started P mathlib.Core.List.[] h x t x4 = elim x4 [ ]
at_started P (y ∷ log) h x t (inl q) = subst (P x) q.1 (h.0 x q.0)
at_started P (y ∷ log) h x t (inr q) = at_started P log h.1 x t q

pub start_reading : StatementStartReading
start_reading log x = (there log, λ q. back log q.0 q.1)
  where
    there : (l : Log) → Started l x → (t : ℕ) × StartedAt l x t
    there mathlib.Core.List.[] q = elim q [ ]
    there (y ∷ l) (inl q) = (reading y.call, inl (q, refl))
    there (y ∷ l) (inr q) = let r = there l q in (r.0, inr r.1)

    back : (l : Log) (t : ℕ) → StartedAt l x t → Started l x
    back mathlib.Core.List.[] t q = elim q [ ]
    back (y ∷ l) t (inl q) = inl q.0
    back (y ∷ l) t (inr q) = inr (back l t q)

named_in : (p : Plan) (is : List ℕ) (log : Log) → Always (λ y older. (q a n : ℕ) → y.reply ≡ Reply.Start q a n → EmitsAt p is q a) log → (x : Id) (a : ℕ) → NamedWith log x a → EmitsAt p is x.position a
named_in p is mathlib.Core.List.[] h x a x4 = elim x4 [ ]
named_in p is (y ∷ log) h x a (inl e) = h.0 x.position a x.node e
named_in p is (y ∷ log) h x a (inr e) = named_in p is log h.1 x a e

-- ---- one list that ends in done

-- it started the actions and events of its word, each from Ψ + S on and not later than that plus the slack
record Whole (p : Plan) (psi slack : ℕ) (is : List ℕ) (S : Ident → ℕ) (log : Log) : Type 0 where
  started : (x : Id) → Work (whole_of p is) x ↔ Started log x
  named : (x : Id) (a : ℕ) → NamedWith log x a → EmitsAt p is x.position a
  from : (x : Id) (t : ℕ) → StartedAt log x t → psi + S (whose x) ≤ t
  until : (x : Id) (t : ℕ) → StartedAt log x t → t ≤ psi + S (whose x) + slack

at-end : (p : Plan) (is : List ℕ) (log : Log) → EndsInDone log → Ends p is log → is_final p.automaton (state_after p is) ≡ true
at-end p is mathlib.Core.List.[] f e = elim f [ ]
at-end p is (y ∷ older) f e = e.final f

all_started : (p : Plan) (is : List ℕ) (log : Log) → EndsInDone log → Ends p is log → Always (λ y older. (x : Id) → Reports y.call y.reply older x → Started older x) log → (x : Id) → Work (whole_of p is) x → Started log x
all_started p is mathlib.Core.List.[] f e h x n = elim f [ ]
all_started p is (y ∷ older) f e h x n = inr (reported_started older h.1 x (e.all f x n))

done_goes_on : (log : Log) → EndsInDone log → EndsGoing log
done_goes_on mathlib.Core.List.[] f = elim f [ ]
done_goes_on (y ∷ older) f = go y.reply f
  where
    go : (r : Reply) → Finishes r → GoesOn r
    go Reply.Done f = tt
    go (Reply.Start _ _ _) f = elim f [ ]
    go Reply.Wait f = elim f [ ]
    go Reply.Taken f = elim f [ ]
    go (Reply.Refused _) f = elim f [ ]
    go (Reply.Stopped _) f = elim f [ ]

module _ (bytes : List ℕ) (are : Bytes bytes) (psi : Clock) (slack : ℕ) (ts : List ℕ) (opened : (open_of bytes psi slack ts).opening ≡ Opening.Opened) (cs : List Call) (f : EndsInDone (log_after bytes psi slack ts cs)) (is : List ℕ) (w : TheWord (judge_of bytes).plan (log_after bytes psi slack ts cs) is) where
  abbrev plan : Plan
  plan = (judge_of bytes).plan

  abbrev driven : Driven
  driven = driven_by bytes psi slack ts cs

  module _ (S C : Ident → ℕ) (times : Timing (whole_of plan is) (λ r. get_or ts r 0) S C) where
    claim : Demand3 plan psi.0 slack (λ r. get_or ts r 0) is S C driven
    claim = (demand_3 bytes are psi slack ts opened cs).claim is w S C times

    ends : Ends plan is driven.log
    ends = claim.done (unfailed (open_of bytes psi slack ts).run cs (done_goes_on driven.log f))

    whole : Whole plan psi.0 slack is S driven.log
    whole = record {
      started = λ x. (all_started plan is driven.log f ends claim.reported_started x, started_in (Work (whole_of plan is)) driven.log claim.in_word x);
      named = named_in plan is driven.log claim.in_activity;
      from = at_started (λ x t. psi.0 + S (whose x) ≤ t) driven.log claim.from;
      until = at_started (λ x t. t ≤ psi.0 + S (whose x) + slack) driven.log claim.until;
    }

  final : is_final plan.automaton (state_after plan is) ≡ true
  final = let T = (demand_3 bytes are psi slack ts opened cs).times is w in at-end plan is driven.log f (ends T.0 T.1 T.2)

  path : Follows plan plan.automaton.initial is (state_after plan is)
  path = takes_follows plan driven.log is w.taken

-- ---- two lists with one word

both : (p : Plan) (psi chi slack : ℕ) (is : List ℕ) (S : Ident → ℕ) (one other : Log) → Whole p psi slack is S one → Whole p chi slack is S other → SameStitching psi chi slack one other
both p psi chi slack is S one other a b = record {
  nodes = λ x. (λ q. (b.started x).0 ((a.started x).1 q), λ q. (a.started x).0 ((b.started x).1 q));
  activities = λ x v w e f. one_activity p is x.position v w (a.named x v e) (b.named x w f);
  times = λ x t u q r.
      let k = a.from x t q in
      let l = a.until x t q in
      let m = b.from x u r in
      let n = b.until x u r in
      (omega arith, omega arith);
  from = λ x t u q r. let k = a.from x t q in let m = b.from x u r in (omega arith, omega arith);
}

-- ---- the theorems

-- the plan of an accepted opening meets the rules of the file and of the automaton
accepted_by : (bytes : List ℕ) (psi : Clock) (slack : ℕ) (ts : List ℕ) → OpensBy bytes psi slack ts Opening.Opened → Judged bytes (Ok tt)
accepted_by bytes psi slack ts (OpensBy.opened h n) = h.earlier.earlier.earlier.earlier.accepted

rules : (bytes : List ℕ) → Bytes bytes → (psi : Clock) (slack : ℕ) (ts : List ℕ) → (open_of bytes psi slack ts).opening ≡ Opening.Opened → InLimits (judge_of bytes).plan × MeetsAutomaton (judge_of bytes).plan
rules bytes are psi slack ts e =
    let j = accepted_by bytes psi slack ts ((opening_by bytes are psi slack ts Opening.Opened).0 e) in
    let h = handed_on bytes are ((verdict bytes (Ok tt) are).1 j) in
    (((plan_iff (judge_of bytes).plan).0 h.0.holds).limits, h.2)

pub same_stitching : StatementSame
same_stitching bytes are psi chi slack ts cs ds opened begun f g is us w v e =
    let p = (judge_of bytes).plan in
    let r = rules bytes are psi slack ts opened in
    let one = path bytes are psi slack ts opened cs f is w in
    let other = path bytes are chi slack ts begun ds g us v in
    let ended = final bytes are psi slack ts opened cs f is w in
    let ends = final bytes are chi slack ts begun ds g us v in
    let same : is ≡ us = same_word p r.0 r.1 is us (state_after p is) (state_after p us) one other ended ends e in
    let T = (demand_3 bytes are psi slack ts opened cs).times is w in
    both p psi.0 chi.0 slack is T.0 (log_after bytes psi slack ts cs) (log_after bytes chi slack ts ds)
    (whole bytes are psi slack ts opened cs f is w T.0 T.1 T.2)
    (whole bytes are chi slack ts begun ds g is (subst (TheWord p (log_after bytes chi slack ts ds)) (sym same) v) T.0 T.1 T.2)

pub same_outcomes : StatementSameOutcomes
same_outcomes bytes are psi chi slack ts cs ds opened begun f g os a b =
    same_stitching bytes are psi chi slack ts cs ds opened begun f g a.word b.word a.the_word b.the_word (a.outcomes ∙ sym b.outcomes)

pub processed : StatementProcessed
processed bytes are psi slack ts opened cs =
    let p = (judge_of bytes).plan in
    let d = demand_3 bytes are psi slack ts opened cs in
    let is = d.word.0 in
    (processed_in p is, record { word = is; the_word = d.word.1; outcomes = refl }, λ us q. sym q.outcomes ∙ ap (processed_in p) (d.one q.word is q.the_word d.word.1))
