-- From the lowest number of each node to the fault of the activity. Assumes nothing.
use mathlib.Core.Path.{◌≡◌, sym, subst}
use mathlib.Core.List.{List}
use Prim.Native.Nat.{ℕ, ◌+◌, ◌<◌}
use native.Mathlib.Omega.{arith}
use lib.ListN.{length}
use Rattle.std.specs.Prelude.{Result, Ok, Err}
use Rattle.plan.specs.declared.Node.{Node}
use Rattle.plan.specs.declared.Fault.{Fault}
use Rattle.activity.specs.Rules.{Meets}
use Rattle.activity.specs.Number.{fault_of}
use Rattle.activity.specs.Judged.{Rule, First}
use Rattle.activity.proofs.Laws.Theorem.{judged, only}
use Rattle.activity.specs.Inner.Nodes.{At}
use Rattle.activity.proofs.Laws.Nodes.{each_within}
use Rattle.activity.specs.Inner.Order.{Lowest, earlier}
use Rattle.activity.proofs.Laws.Order.{lowest_more}

module _ (belongs : ℕ → ℕ) (a : List Node) where
  -- what the nodes below n ask
  abbrev pub Asked : ℕ → Fault → Type 0
  Asked n f = (j : ℕ) → j < n → At belongs a j f

  pub no_nodes : Lowest (Asked 0) (Ok tt)
  no_nodes f j l = absurd (omega arith)

  pub more_nodes : (n : ℕ) (i k r : Result (Unit {0}) Fault) → r ≡ earlier i k → Lowest (Asked n) i → Lowest (At belongs a n) k → Lowest (Asked (n + 1)) r
  more_nodes n i k r e old new = subst (Lowest (Asked (n + 1))) (sym e) (lowest_more (At belongs a) n i k old new)

  pub all_nodes : (n : ℕ) (r : Result (Unit {0}) Fault) → n ≡ length a → Lowest (Asked n) r → r ≡ fault_of belongs a
  all_nodes n (Ok u) e h = only belongs a (Ok u) (fault_of belongs a) ok (judged belongs a)
    where
      all : (f : Fault) → Rule belongs a f
      all f = (each_within belongs a f).0 (λ j m. h f j (omega arith))

      ok : Meets belongs a
      ok =
          record {
            no_cycle_lem = all Fault.Cycle;
            rule_I = all Fault.ActionsUnordered;
            rule_II = (all Fault.NamedTwice).0;
            rule_III = (all Fault.NamedTwice).1;
            rule_IV = (all Fault.ActionUnheld).0;
            rule_V = (all Fault.ActionUnheld).1;
            rule_VI = (all Fault.ClaimUnpaired).0;
            rule_VII = (all Fault.ClaimUnpaired).1;
            rule_VIII = (all Fault.ArrowPastEnd).0;
            rule_IX = (all Fault.ArrowPastEnd).1;
            rule_X = all Fault.EventFirst;
            rule_XI = all Fault.EventsUnordered;
          }
  all_nodes n (Err f) e h =
      let first : First belongs a f =
      record {
        broken = λ r. h.fails (λ j m. (each_within belongs a f).1 r j (omega arith));
        earlier = λ g l. (each_within belongs a g).0 (λ j m. h.below g l j (omega arith));
      } in
      only belongs a (Err f) (fault_of belongs a) first (judged belongs a)
