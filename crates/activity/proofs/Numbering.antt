-- The first rule that a node of each kind breaks, from what holds of it and the first thing that does not. Assumes nothing.
use mathlib.Core.List.{List}
use mathlib.Core.Logic.{◌↔◌}
use Prim.Native.Nat.{ℕ}
use Rattle.std.specs.Prelude.{Ok, Err}
use Rattle.plan.specs.declared.Kind.{Kind}
use Rattle.plan.specs.declared.Node.{Node}
use Rattle.plan.specs.declared.Fault.{Fault}
use Rattle.activity.specs.Rules.{Is, Before}
use Rattle.activity.specs.Inner.Sight.{InLine, Alone, Claimed, Released}
use Rattle.activity.specs.Inner.Order.{Below, Lowest}
use Rattle.activity.proofs.Laws.Order.{up, stop}
use Rattle.activity.specs.Inner.Nodes.{At}
use Rattle.activity.proofs.Laws.Nodes.{start_at_lem, all_at}
use Rattle.activity.proofs.ByKind as kind

-- a node on a cycle
pub on_cycle : (belongs : ℕ → ℕ) (a : List Node) (n : ℕ) → Before a n n → Lowest (At belongs a n) (Err Fault.Cycle)
on_cycle belongs a n b = stop Fault.Cycle (start_at_lem belongs a n) (λ h. h b)

-- what the rules ask of a claim or a release: C of its partner, and E of its free end
pub record End (belongs : ℕ → ℕ) (a : List Node) (n : ℕ) (C E : Type 0) : Type 0 where
  pub actions : At belongs a n Fault.ActionsUnordered
  pub alone : Alone a n ↔ At belongs a n Fault.NamedTwice
  pub held : At belongs a n Fault.ActionUnheld
  pub paired : C ↔ At belongs a n Fault.ClaimUnpaired
  pub free_end : E ↔ At belongs a n Fault.ArrowPastEnd
  pub predecessor : At belongs a n Fault.EventFirst
  pub events : At belongs a n Fault.EventsUnordered

pub claim_end :
    (belongs : ℕ → ℕ) (a : List Node) (n r : ℕ) → Is a n (Kind.Claim r) → End belongs a n (Released belongs a n) ((m : ℕ) → Before a m n → ⊥)
claim_end belongs a n r i =
    record {
      actions = kind.claim_I belongs a n r i;
      alone = kind.claim_II belongs a n r i;
      held = kind.claim_IV belongs a n r i;
      paired = kind.claim_VII belongs a n r i;
      free_end = kind.claim_VIII belongs a n r i;
      predecessor = kind.claim_X belongs a n r i;
      events = kind.claim_XI belongs a n r i;
    }

pub release_end :
    (belongs : ℕ → ℕ) (a : List Node) (n r : ℕ) → Is a n (Kind.Release r) → End belongs a n (Claimed belongs a n) ((m : ℕ) → Before a n m → ⊥)
release_end belongs a n r i =
    record {
      actions = kind.release_I belongs a n r i;
      alone = kind.release_III belongs a n r i;
      held = kind.release_IV belongs a n r i;
      paired = kind.release_VI belongs a n r i;
      free_end = kind.release_IX belongs a n r i;
      predecessor = kind.release_X belongs a n r i;
      events = kind.release_XI belongs a n r i;
    }

module _ (belongs : ℕ → ℕ) (a : List Node) (n : ℕ) (free : Before a n n → ⊥) where
  from_12 : Below (At belongs a n) 12
  from_12 = up Fault.Cycle (start_at_lem belongs a n) free

  module _ (x p : ℕ) (i : Is a n (Kind.Action x p)) where
    pub action_unordered : (InLine a n → ⊥) → Lowest (At belongs a n) (Err Fault.ActionsUnordered)
    action_unordered d = stop Fault.ActionsUnordered from_12 (λ h. d ((kind.action_I belongs a n x p i).1 h))

    module _ (line : InLine a n) where
      to_14 : Below (At belongs a n) 14
      to_14 = up Fault.NamedTwice (up Fault.ActionsUnordered from_12 ((kind.action_I belongs a n x p i).0 line)) (kind.action_II belongs a n x p i)

      pub action_unheld : (Claimed belongs a n × Released belongs a n → ⊥) → Lowest (At belongs a n) (Err Fault.ActionUnheld)
      action_unheld d = stop Fault.ActionUnheld to_14 (λ h. d ((kind.action_IV belongs a n x p i).1 h))

      pub action_good : Claimed belongs a n × Released belongs a n → Lowest (At belongs a n) (Ok tt)
      action_good h =
          all_at belongs a n
          (up Fault.EventsUnordered
          (up Fault.EventFirst
          (up Fault.ArrowPastEnd
          (up Fault.ClaimUnpaired (up Fault.ActionUnheld to_14 ((kind.action_IV belongs a n x p i).0 h)) (kind.action_VI belongs a n x p i))
          (kind.action_VIII belongs a n x p i))
          (kind.action_X belongs a n x p i))
          (kind.action_XI belongs a n x p i))

  module _ (C E : Type 0) (k : End belongs a n C E) where
    from_13 : Below (At belongs a n) 13
    from_13 = up Fault.ActionsUnordered from_12 k.actions

    pub end_twice : (Alone a n → ⊥) → Lowest (At belongs a n) (Err Fault.NamedTwice)
    end_twice d = stop Fault.NamedTwice from_13 (λ h. d (k.alone.1 h))

    module _ (alone : Alone a n) where
      to_15 : Below (At belongs a n) 15
      to_15 = up Fault.ActionUnheld (up Fault.NamedTwice from_13 (k.alone.0 alone)) k.held

      pub end_unpaired : (C → ⊥) → Lowest (At belongs a n) (Err Fault.ClaimUnpaired)
      end_unpaired d = stop Fault.ClaimUnpaired to_15 (λ h. d (k.paired.1 h))

      pub end_passed : C → (E → ⊥) → Lowest (At belongs a n) (Err Fault.ArrowPastEnd)
      end_passed c d = stop Fault.ArrowPastEnd (up Fault.ClaimUnpaired to_15 (k.paired.0 c)) (λ h. d (k.free_end.1 h))

      pub end_good : C → E → Lowest (At belongs a n) (Ok tt)
      end_good c e =
          all_at belongs a n
          (up Fault.EventsUnordered
          (up Fault.EventFirst
          (up Fault.ArrowPastEnd (up Fault.ClaimUnpaired to_15 (k.paired.0 c)) (k.free_end.0 e))
          k.predecessor)
          k.events)

  module _ (v : ℕ) (i : Is a n (Kind.Event v)) where
    to_17 : Below (At belongs a n) 17
    to_17 =
        up Fault.ArrowPastEnd
        (up Fault.ClaimUnpaired
        (up Fault.ActionUnheld (up Fault.NamedTwice (up Fault.ActionsUnordered from_12 (kind.event_I belongs a n v i)) (kind.event_II belongs a n v i)) (kind.event_IV belongs a n v i))
        (kind.event_VI belongs a n v i))
        (kind.event_VIII belongs a n v i)

    pub event_first : ((m : ℕ) × Before a m n → ⊥) → Lowest (At belongs a n) (Err Fault.EventFirst)
    event_first d = stop Fault.EventFirst to_17 (λ h. d ((kind.event_X belongs a n v i).1 h))

    module _ (b : (m : ℕ) × Before a m n) where
      to_18 : Below (At belongs a n) 18
      to_18 = up Fault.EventFirst to_17 ((kind.event_X belongs a n v i).0 b)

      pub event_unordered : (InLine a n → ⊥) → Lowest (At belongs a n) (Err Fault.EventsUnordered)
      event_unordered d = stop Fault.EventsUnordered to_18 (λ h. d ((kind.event_XI belongs a n v i).1 h))

      pub event_good : InLine a n → Lowest (At belongs a n) (Ok tt)
      event_good h = all_at belongs a n (up Fault.EventsUnordered to_18 ((kind.event_XI belongs a n v i).0 h))
