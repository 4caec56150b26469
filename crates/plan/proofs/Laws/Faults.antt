-- A fault of the plan's author is told by its number. Assumes nothing.
use Rattle.std.specs.Prelude.{◌≡◌, refl, [], ◌∷◌, ℕ, get_or}
use Rattle.std.proofs.Common.{sym, ap, ◌∙◌}
use Rattle.plan.specs.Fault.{number_of}
use Rattle.plan.specs.declared.Fault.{Fault}

-- the plan's fault of a number, and any fault where it has none
abbrev pub fault_at : ℕ → Fault
fault_at n =
    get_or
    (Fault.Ends ∷ Fault.Ends ∷ Fault.Map ∷ Fault.Count ∷ Fault.Names ∷ Fault.NotRising ∷ Fault.LeftOver ∷ Fault.NoAutomaton ∷ Fault.Duration
    ∷ Fault.Ends ∷ Fault.Ends ∷ Fault.Cycle ∷ Fault.ActionsUnordered ∷ Fault.NamedTwice ∷ Fault.ActionUnheld ∷ Fault.ClaimUnpaired
    ∷ Fault.ArrowPastEnd ∷ Fault.EventFirst ∷ Fault.EventsUnordered ∷ Fault.Ends ∷ Fault.Ends
    ∷ Fault.WayOutOfFinal ∷ Fault.ForbiddenBranch ∷ Fault.OutcomeMissing ∷ Fault.NoWayToFinal ∷ Fault.Unbalanced ∷ Fault.TooManyPending ∷ [])
    n Fault.Ends

pub fault_at_lem : (f : Fault) → fault_at (number_of f) ≡ f
fault_at_lem Fault.Ends = refl
fault_at_lem Fault.Map = refl
fault_at_lem Fault.NoAutomaton = refl
fault_at_lem Fault.Count = refl
fault_at_lem Fault.Names = refl
fault_at_lem Fault.Duration = refl
fault_at_lem Fault.NotRising = refl
fault_at_lem Fault.LeftOver = refl
fault_at_lem Fault.Cycle = refl
fault_at_lem Fault.ActionsUnordered = refl
fault_at_lem Fault.NamedTwice = refl
fault_at_lem Fault.ActionUnheld = refl
fault_at_lem Fault.ClaimUnpaired = refl
fault_at_lem Fault.ArrowPastEnd = refl
fault_at_lem Fault.EventFirst = refl
fault_at_lem Fault.EventsUnordered = refl
fault_at_lem Fault.WayOutOfFinal = refl
fault_at_lem Fault.ForbiddenBranch = refl
fault_at_lem Fault.OutcomeMissing = refl
fault_at_lem Fault.NoWayToFinal = refl
fault_at_lem Fault.Unbalanced = refl
fault_at_lem Fault.TooManyPending = refl

-- two faults with one number are one
pub same_fault : (f g : Fault) → number_of f ≡ number_of g → f ≡ g
same_fault f g n = sym (fault_at_lem f) ∙ rw n (fault_at_lem g)

-- a number that has none is no fault's
pub no_fault : (f : Fault) (n : ℕ) → fault_at n ≡ Fault.Ends → (number_of Fault.Ends ≡ n → ⊥) → number_of f ≡ n → ⊥
no_fault f n none other e = other (ap number_of (sym none ∙ ap fault_at (sym e) ∙ fault_at_lem f) ∙ e)
