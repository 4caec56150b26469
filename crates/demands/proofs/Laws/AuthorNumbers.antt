-- `author_numbers`, from the verdict.
use Rattle.std.specs.Prelude.{refl, List, ℕ}
use Rattle.std.proofs.Common.{subst}
use Rattle.plan.specs.Fault.{number_of}
use Rattle.plan.specs.declared.Fault.{Fault}
use Rattle.plan.specs.Verdict.{faulty}
use Rattle.demands.specs.Accepted.{Bytes}
use Rattle.demands.specs.Verdicts.{Judged, RefusedAs}
use Rattle.demands.proofs.Laws.VerdictsHold.{verdict}
use Rattle.demands.specs.AuthorNumbers.{RefusedFor, StatementAuthorNumbers}

module _ (b : List ℕ) (place : ℕ) where
  refused_for : (f : Fault) → Judged b (faulty f place) → RefusedFor b place (number_of f)
  refused_for Fault.Ends q = RefusedFor.number1 q
  refused_for Fault.Map q = RefusedFor.number2 q
  refused_for Fault.Count q = RefusedFor.number3 q
  refused_for Fault.Names q = RefusedFor.number4 q
  refused_for Fault.NotRising q = RefusedFor.number5 q
  refused_for Fault.LeftOver q = RefusedFor.number6 q
  refused_for Fault.NoAutomaton q = RefusedFor.number7 q
  refused_for Fault.Duration q = RefusedFor.number8 q
  refused_for Fault.Cycle q = RefusedFor.number11 q
  refused_for Fault.ActionsUnordered q = RefusedFor.number12 q
  refused_for Fault.NamedTwice q = RefusedFor.number13 q
  refused_for Fault.ActionUnheld q = RefusedFor.number14 q
  refused_for Fault.ClaimUnpaired q = RefusedFor.number15 q
  refused_for Fault.ArrowPastEnd q = RefusedFor.number16 q
  refused_for Fault.EventFirst q = RefusedFor.number17 q
  refused_for Fault.EventsUnordered q = RefusedFor.number18 q
  refused_for Fault.WayOutOfFinal q = RefusedFor.number21 q
  refused_for Fault.ForbiddenBranch q = RefusedFor.number22 q
  refused_for Fault.OutcomeMissing q = RefusedFor.number23 q
  refused_for Fault.NoWayToFinal q = RefusedFor.number24 q
  refused_for Fault.Unbalanced q = RefusedFor.number25 q
  refused_for Fault.TooManyPending q = RefusedFor.number26 q

  module _ (are : Bytes b) where
    refused_as : (f : Fault) → Judged b (faulty f place) → RefusedAs b (number_of f) place
    refused_as f q = record { fault = f; answered = (verdict b (faulty f place) are).1 q; numbered = refl }

    from_number_lem : (n : ℕ) → RefusedFor b place n → RefusedAs b n place
    from_number_lem _ (RefusedFor.number1 q) = refused_as Fault.Ends q
    from_number_lem _ (RefusedFor.number2 q) = refused_as Fault.Map q
    from_number_lem _ (RefusedFor.number3 q) = refused_as Fault.Count q
    from_number_lem _ (RefusedFor.number4 q) = refused_as Fault.Names q
    from_number_lem _ (RefusedFor.number5 q) = refused_as Fault.NotRising q
    from_number_lem _ (RefusedFor.number6 q) = refused_as Fault.LeftOver q
    from_number_lem _ (RefusedFor.number7 q) = refused_as Fault.NoAutomaton q
    from_number_lem _ (RefusedFor.number8 q) = refused_as Fault.Duration q
    from_number_lem _ (RefusedFor.number11 q) = refused_as Fault.Cycle q
    from_number_lem _ (RefusedFor.number12 q) = refused_as Fault.ActionsUnordered q
    from_number_lem _ (RefusedFor.number13 q) = refused_as Fault.NamedTwice q
    from_number_lem _ (RefusedFor.number14 q) = refused_as Fault.ActionUnheld q
    from_number_lem _ (RefusedFor.number15 q) = refused_as Fault.ClaimUnpaired q
    from_number_lem _ (RefusedFor.number16 q) = refused_as Fault.ArrowPastEnd q
    from_number_lem _ (RefusedFor.number17 q) = refused_as Fault.EventFirst q
    from_number_lem _ (RefusedFor.number18 q) = refused_as Fault.EventsUnordered q
    from_number_lem _ (RefusedFor.number21 q) = refused_as Fault.WayOutOfFinal q
    from_number_lem _ (RefusedFor.number22 q) = refused_as Fault.ForbiddenBranch q
    from_number_lem _ (RefusedFor.number23 q) = refused_as Fault.OutcomeMissing q
    from_number_lem _ (RefusedFor.number24 q) = refused_as Fault.NoWayToFinal q
    from_number_lem _ (RefusedFor.number25 q) = refused_as Fault.Unbalanced q
    from_number_lem _ (RefusedFor.number26 q) = refused_as Fault.TooManyPending q

pub author_numbers : StatementAuthorNumbers
author_numbers b n place are = (
  (λ r. subst (RefusedFor b place) r.numbered (refused_for b place r.fault ((verdict b (faulty r.fault place) are).0 r.answered))),
  from_number_lem b place are n,
)
