-- The match of the map byte by value and range gives the kind that the bits ask for.
use mathlib.Core.Path.{◌≡◌, refl, sym}
use lib.Dec.{eqb}
use Prim.Native.Nat.{ℕ, ◌<◌}
use mathlib.Core.Bool.{Bool, true, false}
use Rattle.plan_nodes.proofs.Below.{either, or, all, all-at}
use Rattle.plan.specs.declared.fields.Asks.{Asks}
use Rattle.std.specs.Prelude.{Option, Some, None}
use mathlib.Core.Logic.{◌⊎◌, ⊎_elim}
use borrow.Author.Tests.{le-ltb, eqb-true}
use Rattle.plan.specs.Nodes.{asks_of}
use Rattle.plan_nodes.proofs.asks_of.Goals as goal

-- below 64 the map is one of the keys, or asks for nothing: a test that is computed at each
abbrev Key : ℕ → Type 0
Key m =
    ((m ≡ 1) ⊎ ((m ≡ 17) ⊎ ((m ≡ 33) ⊎ (m ≡ 49))))
    ⊎ (((m ≡ 2) ⊎ (m ≡ 34)) ⊎ (((m ≡ 4) ⊎ (m ≡ 36)) ⊎ ((m ≡ 8) ⊎ ((m ≡ 24) ⊎ ((m ≡ 40) ⊎ (m ≡ 56))))))

abbrev nothing : Option Asks → Bool
nothing (Some Asks.Action) = false
nothing (Some Asks.Claim) = false
nothing (Some Asks.Release) = false
nothing (Some Asks.Event) = false
nothing None = true

nothing_is : (a : Option Asks) → nothing a ≡ true → a ≡ None
nothing_is (Some Asks.Action) t = cc
nothing_is (Some Asks.Claim) t = cc
nothing_is (Some Asks.Release) t = cc
nothing_is (Some Asks.Event) t = cc
nothing_is None t = refl

key : ℕ → Bool
key m =
    either (either (eqb m 1) (either (eqb m 17) (either (eqb m 33) (eqb m 49))))
    (either (either (eqb m 2) (eqb m 34))
    (either (either (eqb m 4) (eqb m 36)) (either (eqb m 8) (either (eqb m 24) (either (eqb m 40) (eqb m 56))))))

is_key : (m : ℕ) → key m ≡ true → Key m
unfolding key
is_key m =
    or _ _ (or _ _ (eqb-true m 1) (or _ _ (eqb-true m 17) (or _ _ (eqb-true m 33) (eqb-true m 49))))
    (or _ _ (or _ _ (eqb-true m 2) (eqb-true m 34))
    (or _ _ (or _ _ (eqb-true m 4) (eqb-true m 36)) (or _ _ (eqb-true m 8) (or _ _ (eqb-true m 24) (or _ _ (eqb-true m 40) (eqb-true m 56))))))

right : ℕ → Bool
right m = either (key m) (nothing (asks_of m))

checked : all right 64 ≡ true
unfolding right key asks_of
checked = refl

rest : (m : ℕ) → m < 64 → (Key m → ⊥) → asks_of m ≡ None
unfolding right
rest m h no_key =
    ⊎_elim (λ k. absurd (no_key k)) (λ e. e)
    (or (key m) (nothing (asks_of m)) (is_key m) (nothing_is (asks_of m)) (all-at right 64 checked m h))

pub returns-in-1 : goal.returns-in-1
unfolding asks_of
returns-in-1 c = ⊎_elim (λ e. rw e) (⊎_elim (λ e. rw e) (⊎_elim (λ e. rw e) (λ e. rw e))) c.in-1.is

pub returns-in-2 : goal.returns-in-2
unfolding asks_of
returns-in-2 c = ⊎_elim (λ e. rw e) (λ e. rw e) c.in-2.is

pub returns-in-4 : goal.returns-in-4
unfolding asks_of
returns-in-4 c = ⊎_elim (λ e. rw e) (λ e. rw e) c.in-4.is

pub returns-in-8 : goal.returns-in-8
unfolding asks_of
returns-in-8 c = ⊎_elim (λ e. rw e) (⊎_elim (λ e. rw e) (⊎_elim (λ e. rw e) (λ e. rw e))) c.in-8.is

pub returns-in_default : goal.returns-in_default
returns-in_default c = let r = c.in_default.in_default-own.rest in
    sym (rest c.args.m c.in_default.if-m-lt64-own.true (⊎_elim r.0.0.0.1 (⊎_elim r.0.0.1 (⊎_elim r.0.1 r.1))))

pub returns-in-64-to-255 : goal.returns-in-64-to-255
unfolding asks_of
returns-in-64-to-255 c = rw (le-ltb _ _ c.in-64-to-255.if-m-lt64-own.false)
