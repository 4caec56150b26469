-- What a call does, carried out on the numbers, gives the answer to the call.
use Rattle.std.specs.Prelude.{Option, Some, None, Result, Ok, Err}
use mathlib.Core.Path.{◌≡◌, refl}
use mathlib.Core.List.{[], ◌∷◌}
use mathlib.Core.Logic.{⊎_elim}
use Prim.Native.Nat.{ℕ}
use native.Mathlib.Omega.{arith}
use types.Run.{OneOf}
use denote.Enum.Declared.{tag_of}
use lib.ListN.{length}
use Rattle.basis.proofs.Laws.Bools.{by_cond}
use Rattle.plan.specs.declared.Kind.{Kind}
use Rattle.run_window.specs.declared.Found.{Found}
use Rattle.run_window.specs.Window.{is_started}
use Rattle.run_checks.specs.declared.Objection.{Objection}
use Rattle.run_checks.specs.declared.Refusal.{Refusal}
use Rattle.run.specs.contracts.Effect as effect-type
use Rattle.run.specs.declared.Call.{Call}
use Rattle.run.specs.declared.Checked.{Checked}
use Rattle.run.specs.declared.Effect.{Effect}
use Rattle.run.specs.Calls.{is_done, call_of, reading_of}
use Rattle.run.specs.Inner.Effects.{sought_by, checked_of, refusing, completes_by, effect_by, effect_of, acted, Named}
use Rattle.run.proofs.Laws.Acting.{call_acted, call_named}
use Rattle.held.specs.declared.Held.{Held}
use Rattle.held.specs.Held.{run_of}
use Rattle.jidlekuvo.specs.Inner.Steps.{Carries, carried_by, Plain, stepped_to}
use Rattle.jidlekuvo.proofs.Stepping.{rest_accepts, stays, changes}

-- ---- who loads

-- an effect that is no outcome that loads
abbrev pub Settles : Effect → Type 0
Settles (Effect.Stays told) = Unit {0}
Settles (Effect.Stops s) = Unit {0}
Settles Effect.Rests = Unit {0}
Settles (Effect.Stores i e told) = Unit {0}
Settles (Effect.Learns i x e o) = ⊥

completion_settles : (i : ℕ) (k : Kind) → Settles (completes_by i k)
completion_settles i (Kind.Action a x) = tt
completion_settles i (Kind.Claim r) = tt
completion_settles i (Kind.Release r) = tt
completion_settles i (Kind.Event e) = tt

check_settles : (c : Call) → Plain c → (check : Result (Option Found) Objection) (kind : Kind) (most : ℕ) → Settles (effect_by c check kind most)
check_settles c p (Err (Objection.Refuses f)) kind most = tt
check_settles c p (Err (Objection.Keeps s)) kind most = tt
check_settles c p (Err (Objection.Stops s)) kind most = tt
check_settles (Call.Ask t) p (Ok None) kind most = tt
check_settles (Call.Ask t) p (Ok (Some x)) kind most = tt
check_settles (Call.Completion t m n) p (Ok None) kind most = tt
check_settles (Call.Completion t m n) p (Ok (Some x)) kind most = by_cond Settles (is_started x.entry.phase) (completes_by x.place kind) (refusing Refusal.NotStarted) (completion_settles x.place kind) tt
check_settles (Call.Outcome t m n o) p (Ok found) kind most = absurd p

pub plain_settles : (c : Call) → Plain c → (checked : Checked) → Settles (effect_of c checked)
plain_settles c p checked = check_settles c p checked.check checked.kind checked.most

-- an effect with the tag of another case
pub tag_settles : (x : Effect) → OneOf (0 ∷ (1 ∷ (2 ∷ (3 ∷ [])))) (tag_of effect-type.the_type x) → Settles x
tag_settles (Effect.Stays told) h = tt
tag_settles (Effect.Stops s) h = tt
tag_settles Effect.Rests h = tt
tag_settles (Effect.Stores i e told) h = tt
tag_settles (Effect.Learns i x e o) h = absurd (⊎_elim (λ e. omega arith) (⊎_elim (λ e. omega arith) (⊎_elim (λ e. omega arith) (λ e. omega arith))) h)

-- ---- carried out

module _ (h : Held) (c : Call) (effect : Effect) (q : effect ≡ effect_of c (checked_of (run_of h) (reading_of c) (sought_by (run_of h).psi c))) where
  pub answered : (x : Effect) → effect ≡ x → acted (run_of h) (reading_of c) x ≡ call_of (run_of h) c
  answered = call_acted (run_of h) c (reading_of c) effect refl q

  module _ (long : length (run_of h).window ≡ 512) where
    pub named : (x : Effect) → effect ≡ x → Named (run_of h) x
    named = call_named (run_of h) c (reading_of c) effect refl q long

    by_effect : (x : Effect) → effect ≡ x → Settles x → Carries h.rest x × (carried_by h.plan.finals h.rest c x ≡ stepped_to h (call_of (run_of h) c))
    unfolding run_of
    by_effect (Effect.Stays told) e s = (tt, stays h c (run_of h) refl told (answered (Effect.Stays told) e) (named (Effect.Stays told) e))
    by_effect (Effect.Stops x) e s = (tt, changes h c (run_of h) refl _ (answered (Effect.Stops x) e) (named (Effect.Stops x) e) tt)
    by_effect Effect.Rests e s =
        let k = named Effect.Rests e in
        (k.0, changes h c (run_of h) refl _ (answered Effect.Rests e) k.1 (rest_accepts (is_done (run_of h))))
    by_effect (Effect.Stores i x told) e s =
        let k = named (Effect.Stores i x told) e in
        (k.0, changes h c (run_of h) refl _ (answered (Effect.Stores i x told) e) k.2 k.1)
    by_effect (Effect.Learns i x e' o) e s = absurd s

    pub carries : Settles effect → Carries h.rest effect
    carries s = (by_effect effect refl s).0

    pub carried_out : Settles effect → carried_by h.plan.finals h.rest c effect ≡ stepped_to h (call_of (run_of h) c)
    carried_out s = (by_effect effect refl s).1
