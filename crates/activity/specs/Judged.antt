-- What a finding says of an activity, over the statements of `Rules`.
use Rattle.std.specs.Prelude.{List, ℕ, ◌<◌, Result, Ok, Err}
use Rattle.plan.specs.Fault.{number_of}
use Rattle.plan.specs.declared.Node.{Node}
use Rattle.plan.specs.declared.Fault.{Fault}
use Rattle.activity.specs.Rules.{NoCycle, RuleI, RuleII, RuleIII, RuleIV, RuleV, RuleVI, RuleVII, RuleVIII, RuleIX, RuleX, RuleXI, Meets}

-- "11 cycle; 12 breaks I; 13 breaks II or III; 14 IV or V; 15 VI or VII; 16 VIII or IX; 17 X; 18 XI"; no other number is an activity's
abbrev pub Rule : (ℕ → ℕ) → List Node → Fault → Type 0
Rule belongs a Fault.Cycle = NoCycle a
Rule belongs a Fault.ActionsUnordered = RuleI a
Rule belongs a Fault.NamedTwice = RuleII a × RuleIII a
Rule belongs a Fault.ActionUnheld = RuleIV belongs a × RuleV belongs a
Rule belongs a Fault.ClaimUnpaired = RuleVI a × RuleVII a
Rule belongs a Fault.ArrowPastEnd = RuleVIII a × RuleIX a
Rule belongs a Fault.EventFirst = RuleX a
Rule belongs a Fault.EventsUnordered = RuleXI a
Rule belongs a Fault.Ends = Unit {0}
Rule belongs a Fault.Map = Unit {0}
Rule belongs a Fault.NoAutomaton = Unit {0}
Rule belongs a Fault.Count = Unit {0}
Rule belongs a Fault.Names = Unit {0}
Rule belongs a Fault.Duration = Unit {0}
Rule belongs a Fault.NotRising = Unit {0}
Rule belongs a Fault.LeftOver = Unit {0}
Rule belongs a Fault.WayOutOfFinal = Unit {0}
Rule belongs a Fault.ForbiddenBranch = Unit {0}
Rule belongs a Fault.OutcomeMissing = Unit {0}
Rule belongs a Fault.NoWayToFinal = Unit {0}
Rule belongs a Fault.Unbalanced = Unit {0}
Rule belongs a Fault.TooManyPending = Unit {0}

-- the rule of f is broken, and that of no smaller number
pub record First (belongs : ℕ → ℕ) (a : List Node) (f : Fault) : Type 0 where
  pub broken : Rule belongs a f → ⊥
  pub earlier : (g : Fault) → number_of g < number_of f → Rule belongs a g

-- no fault: the activity meets all rules; a fault: it is the first
abbrev pub Judged : (ℕ → ℕ) → List Node → Result (Unit {0}) Fault → Type 0
Judged belongs a (Ok u) = Meets belongs a
Judged belongs a (Err f) = First belongs a f
