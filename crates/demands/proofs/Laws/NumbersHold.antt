-- `refusal_numbers`, `stop_numbers`, `unopened_numbers`, from the conditions of each reply and of each opening.
use Rattle.std.specs.Prelude.{refl, List, ℕ}
use Rattle.std.proofs.Common.{subst}
use Rattle.time.specs.declared.Clock.{Clock}
use Rattle.run.specs.declared.Run.{Run}
use Rattle.run.specs.declared.Call.{Call}
use Rattle.run_checks.specs.declared.Stop.{Stop}
use Rattle.run.specs.declared.Reply.{Reply}
use Rattle.run_checks.specs.declared.Refusal.{Refusal}
use Rattle.run.specs.declared.Opening.{Opening}
use Rattle.run.specs.declared.Unopened.{Unopened}
use Rattle.run.specs.Numbers.{refusal_number, stop_number, open_number, open_place}
use Rattle.demands.specs.Accepted.{Bytes}
use Rattle.demands.specs.Conditions.{Refuses, Halts}
use Rattle.demands.proofs.Laws.ConditionsHold.{replies, refusals}
use Rattle.demands.specs.Openings as Openings
use Rattle.demands.specs.Openings.{OpensBy}
use Rattle.demands.proofs.Laws.OpeningsHold.{opening_by}
use Rattle.demands.specs.Numbers.{RefusedFor, RefusedWith, StoppedFor, StoppedWith, StatementRefusalNumbers, StatementStopNumbers, UnopenedFor, StatementUnopenedNumbers}

-- no call gets the refusals of a message that is no call
pub no_unlisted : (run : Run) (c : Call) → Refuses run c Refusal.Unlisted → ⊥
no_unlisted run c q = elim q [ ]

pub no_length : (run : Run) (c : Call) → Refuses run c Refusal.Length → ⊥
no_length run c q = elim q [ ]

module _ (run : Run) (c : Call) where
  refused_for : (f : Refusal) → Refuses run c f → RefusedFor run c (refusal_number f)
  refused_for Refusal.OutOfLimits q = RefusedFor.number50 q
  refused_for Refusal.ReadingBelow q = RefusedFor.number51 q
  refused_for Refusal.NoSuchNode q = RefusedFor.number52 q
  refused_for Refusal.NotStarted q = RefusedFor.number53 q
  refused_for Refusal.OtherKind q = RefusedFor.number54 q
  refused_for Refusal.OutcomeLacking q = RefusedFor.number55 q
  refused_for Refusal.Unlisted q = absurd (no_unlisted run c q)
  refused_for Refusal.Length q = absurd (no_length run c q)

  refused_with : (f : Refusal) → Refuses run c f → RefusedWith run c (refusal_number f)
  refused_with f q = record { refusal = f; answered = (refusals run c f).1 q; numbered = refl }

  from_number_lem : (n : ℕ) → RefusedFor run c n → RefusedWith run c n
  from_number_lem _ (RefusedFor.number50 q) = refused_with Refusal.OutOfLimits q
  from_number_lem _ (RefusedFor.number51 q) = refused_with Refusal.ReadingBelow q
  from_number_lem _ (RefusedFor.number52 q) = refused_with Refusal.NoSuchNode q
  from_number_lem _ (RefusedFor.number53 q) = refused_with Refusal.NotStarted q
  from_number_lem _ (RefusedFor.number54 q) = refused_with Refusal.OtherKind q
  from_number_lem _ (RefusedFor.number55 q) = refused_with Refusal.OutcomeLacking q

  stopped_for : (s : Stop) → Halts run c s → StoppedFor run c (stop_number s)
  stopped_for (Stop.Late p n) q = StoppedFor.number41 p n q
  stopped_for (Stop.Overdue p n) q = StoppedFor.number42 p n q
  stopped_for Stop.Full q = StoppedFor.number43 q
  stopped_for Stop.Beyond q = StoppedFor.number44 q

  stopped_with : (s : Stop) → Halts run c s → StoppedWith run c (stop_number s)
  stopped_with s q = record { stop = s; answered = (replies run c (Reply.Stopped s)).1 q; numbered = refl }

  from_stop : (n : ℕ) → StoppedFor run c n → StoppedWith run c n
  from_stop _ (StoppedFor.number41 p n q) = stopped_with (Stop.Late p n) q
  from_stop _ (StoppedFor.number42 p n q) = stopped_with (Stop.Overdue p n) q
  from_stop _ (StoppedFor.number43 q) = stopped_with Stop.Full q
  from_stop _ (StoppedFor.number44 q) = stopped_with Stop.Beyond q

pub refusal_numbers : StatementRefusalNumbers
refusal_numbers run c n = (
  (λ r. subst (RefusedFor run c) r.numbered (refused_for run c r.refusal ((refusals run c r.refusal).0 r.answered))),
  from_number_lem run c n,
)

pub stop_numbers : StatementStopNumbers
stop_numbers run c n = (
  (λ r. subst (StoppedFor run c) r.numbered (stopped_for run c r.stop ((replies run c (Reply.Stopped r.stop)).0 r.answered))),
  from_stop run c n,
)

module _ (bytes : List ℕ) (are : Bytes bytes) (psi : Clock) (slack : ℕ) (ts : List ℕ) where
  unopened_for : (u : Unopened) → OpensBy bytes psi slack ts (Opening.Refused u) → UnopenedFor bytes psi slack ts (open_number u) (open_place u)
  unopened_for (Unopened.Plan f place) q = UnopenedFor.author f place q
  unopened_for Unopened.Availabilities q = UnopenedFor.number30 q
  unopened_for Unopened.Time q = UnopenedFor.number31 q
  unopened_for Unopened.Slack q = UnopenedFor.number32 q
  unopened_for (Unopened.Short a) q = UnopenedFor.number33 a q
  unopened_for Unopened.Beyond q = UnopenedFor.number44 q
  unopened_for Unopened.Full q = UnopenedFor.number43 q

  unopened_with : (u : Unopened) → OpensBy bytes psi slack ts (Opening.Refused u) → Openings.RefusedWith bytes psi slack ts (open_number u) (open_place u)
  unopened_with u q = record { refusal = u; answered = (opening_by bytes are psi slack ts (Opening.Refused u)).1 q; numbered = refl; placed = refl }

  from_unopened : (n place : ℕ) → UnopenedFor bytes psi slack ts n place → Openings.RefusedWith bytes psi slack ts n place
  from_unopened _ _ (UnopenedFor.author f place q) = unopened_with (Unopened.Plan f place) q
  from_unopened _ _ (UnopenedFor.number30 q) = unopened_with Unopened.Availabilities q
  from_unopened _ _ (UnopenedFor.number31 q) = unopened_with Unopened.Time q
  from_unopened _ _ (UnopenedFor.number32 q) = unopened_with Unopened.Slack q
  from_unopened _ _ (UnopenedFor.number33 a q) = unopened_with (Unopened.Short a) q
  from_unopened _ _ (UnopenedFor.number44 q) = unopened_with Unopened.Beyond q
  from_unopened _ _ (UnopenedFor.number43 q) = unopened_with Unopened.Full q

  to_unopened : (n place : ℕ) → Openings.RefusedWith bytes psi slack ts n place → UnopenedFor bytes psi slack ts n place
  to_unopened n place r =
      subst (UnopenedFor bytes psi slack ts n) r.placed
      (subst (λ (m : ℕ). UnopenedFor bytes psi slack ts m (open_place r.refusal)) r.numbered
      (unopened_for r.refusal ((opening_by bytes are psi slack ts (Opening.Refused r.refusal)).0 r.answered)))

pub unopened_numbers : StatementUnopenedNumbers
unopened_numbers bytes are psi slack ts n place = (to_unopened bytes are psi slack ts n place, from_unopened bytes are psi slack ts n place)
