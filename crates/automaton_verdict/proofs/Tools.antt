-- Scans of the transitions of a state, and the verdict by the lowest state at fault.
use mathlib.Core.Path.{◌≡◌, refl, sym, ap, ◌∙◌, subst}
use Rattle.std.specs.Prelude.{MatchBool, Ok, Err}
use mathlib.Core.Bool.{Bool, true, false, cond, ◌&&◌}
use mathlib.Core.List.{List, [], ◌∷◌}
use Prim.Native.Nat.{ℕ, zero, suc, ◌+◌, ◌≤◌, ◌<◌}
use native.Mathlib.Omega.{arith}
use borrow.Author.Tests.{eq-eqb, ne_eqb, lt-ltb, le-ltb}
use lib.Dec.{eqb, ltb}
use lib.ListN.{length, get_or, drop}
use Rattle.basis.proofs.Laws.Bools.{clash}
use Rattle.plan.specs.declared.Input.{Input}
use Rattle.plan.specs.declared.Transition.{Transition}
use Rattle.plan.specs.declared.Automaton.{Automaton}
use Rattle.plan.specs.declared.Fault.{Fault}
use Rattle.plan.specs.Verdict.{Verdict, faulty}
use Rattle.plan.specs.Plan.{past_move}
use Rattle.automaton.specs.Tests.{all}
use Rattle.automaton.specs.declared.Next.{Next}
use Rattle.automaton.specs.Next.{first_of}
use Rattle.automaton.proofs.Laws.Ways.{FirstIs, waits, first-is}
use Rattle.automaton.specs.Number.{lowest, no_way_out, apart, apart_from, branches_in, branches, is_ended, serves_next, serves, or_else, state_verdict}
use Rattle.automaton.proofs.Laws.Tests.{all_true}
use Rattle.automaton.specs.Inner.Counts.{InputOk, InRange}
use Rattle.std.proofs.lemmas.List.{at_drop_more, at_drop_all}

-- ---- a test of each transition of s together with those after it

pub record Scans (s : ℕ) (f : List Transition → Bool) (g : Transition → List Transition → Bool) : Type 0 where
  pub end : f [] ≡ true
  pub step : (t : Transition) (ts : List Transition) → f (t ∷ ts) ≡ cond (eqb t.from s) (g t ts && f ts) (f ts)

pub apart_scans : (m : Input) (s : ℕ) → Scans s (λ ts. apart_from m ts s) (λ t ts. apart m t.input)
unfolding apart_from
apart_scans m s = record { end = refl; step = λ t ts. refl }

pub branches_scans : (s : ℕ) → Scans s (λ ts. branches_in ts s) (λ t ts. apart_from t.input ts s)
unfolding branches_in
branches_scans s = record { end = refl; step = λ t ts. refl }

module _ {s : ℕ} {f : List Transition → Bool} {g : Transition → List Transition → Bool} (x : Scans s f g) (l : List Transition) (i : ℕ) where
  abbrev t : Transition
  t = get_or l i past_move

  abbrev later : List Transition
  later = drop (i + 1) l

  pub scan-other : i < length l → (t.from ≡ s → ⊥) → f (drop i l) ≡ f later
  scan-other h e = at_drop_more f l i past_move h ∙ x.step t later ∙ ap (λ (b : Bool). cond b (g t later && f later) (f later)) (ne_eqb t.from s e)

  own : i < length l → t.from ≡ s → f (drop i l) ≡ (g t later && f later)
  own h e = at_drop_more f l i past_move h ∙ x.step t later ∙ ap (λ (b : Bool). cond b (g t later && f later) (f later)) (eq-eqb t.from s e)

  pub scan_good : i < length l → t.from ≡ s → g t later ≡ true → f (drop i l) ≡ f later
  scan_good h e t = own h e ∙ ap (λ (b : Bool). (b && f later)) t

  pub scan_bad : i < length l → t.from ≡ s → g t later ≡ false → f (drop i l) ≡ false
  scan_bad h e t = own h e ∙ ap (λ (b : Bool). (b && f later)) t

  pub scan_done : length l ≤ i → f (drop i l) ≡ true
  scan_done h = at_drop_all f l i h ∙ x.end

-- ---- all of n

pub all_of : (f : ℕ → Bool) (n : ℕ) (r : Bool) → MatchBool r ((k : ℕ) → 0 ≤ k → k < n → f k ≡ true) ((k : ℕ) × (0 ≤ k) × (k < n) × (f k ≡ false)) → r ≡ all n f
unfolding all
all_of f n true h = sym (every n (λ k l. h k (omega arith) l))
  where
    every : (m : ℕ) → ((k : ℕ) → k < m → f k ≡ true) → all m f ≡ true
    every zero h = refl
    every (suc m) h = ap (λ (b : Bool). (b && f m)) (every m (λ k l. h k (omega arith))) ∙ h m (omega arith)
all_of f n false (k, z, l, e) = go (all n f) refl
  where
    go : (b : Bool) → all n f ≡ b → false ≡ all n f
    go true h = absurd (clash (sym (all_true n f h k l) ∙ e))
    go false h = sym h

-- ---- the other cases of what a state does next

pub not_ended : (n : Next) → (n ≡ Next.Ended → ⊥) → is_ended n ≡ false
not_ended Next.Ended h = absurd (h refl)
not_ended (Next.Goes i) h = refl
not_ended (Next.Waits e) h = refl

pub no_event : (a : Automaton) (outcomes : ℕ → ℕ) (s : ℕ) (n : Next) → ((e : ℕ) → n ≡ Next.Waits e → ⊥) → serves_next a outcomes s n ≡ true
no_event a outcomes s Next.Ended h = refl
no_event a outcomes s (Next.Goes i) h = refl
no_event a outcomes s (Next.Waits e) h = absurd (h e refl)

-- ---- the awaited event is one of the events 0 to 15

pub awaited_low : (a : Automaton) → InRange a → (s e : ℕ) → first_of a s ≡ Next.Waits e → e < 16
awaited_low a ok s e h = go (subst (FirstIs a s) h (first-is a s))
  where
    go : FirstIs a s (Next.Waits e) → e < 16
    go (waits o x) = subst InputOk x.input (ok.moves x.index x.leaves.low).input

-- ---- the lowest state at fault, or what comes after

module _ (a : Automaton) (f : Fault) (low x : ℕ) (same : x ≡ low) (after : Verdict) where
  pub or_stops : x < a.states → or_else a f low after ≡ faulty f x
  or_stops l =
      ap (λ (b : Bool). cond b (faulty f low) after) (lt-ltb low a.states (subst (λ (q : ℕ). q < a.states) same l)) ∙
      ap (faulty f) (sym same)

  pub or_goes : (x < a.states → ⊥) → or_else a f low after ≡ after
  or_goes n = ap (λ (b : Bool). cond b (faulty f low) after) (le-ltb low a.states (omega (arith, n)))

-- numbers 21 to 23, by the three lowest states at fault
module _ (a : Automaton) (outcomes : ℕ → ℕ) (after : Verdict) (x : ℕ) (same : x ≡ lowest (no_way_out a) 0 a.states) where
  pub state_21 : x < a.states → state_verdict a outcomes after ≡ faulty Fault.WayOutOfFinal x
  unfolding state_verdict
  state_21 l = or_stops a Fault.WayOutOfFinal _ x same _ l

  module _ (n : x < a.states → ⊥) (y : ℕ) (also : y ≡ lowest (branches a) 0 a.states) where
    pub state_22 : y < a.states → state_verdict a outcomes after ≡ faulty Fault.ForbiddenBranch y
    unfolding state_verdict
    state_22 l = or_goes a Fault.WayOutOfFinal _ x same _ n ∙ or_stops a Fault.ForbiddenBranch _ y also _ l

    module _ (m : y < a.states → ⊥) (z : ℕ) (too : z ≡ lowest (serves a outcomes) 0 a.states) where
      pub state_23 : z < a.states → state_verdict a outcomes after ≡ faulty Fault.OutcomeMissing z
      unfolding state_verdict
      state_23 l = or_goes a Fault.WayOutOfFinal _ x same _ n ∙ or_goes a Fault.ForbiddenBranch _ y also _ m ∙ or_stops a Fault.OutcomeMissing _ z too after l

      pub state_on : (z < a.states → ⊥) → state_verdict a outcomes after ≡ after
      unfolding state_verdict
      state_on l = or_goes a Fault.WayOutOfFinal _ x same _ n ∙ or_goes a Fault.ForbiddenBranch _ y also _ m ∙ or_goes a Fault.OutcomeMissing _ z too after l

-- what follows numbers 21 to 23
abbrev pub and_then : Verdict → Verdict → Verdict
and_then (Ok u) after = after
and_then (Err e) after = Err e

or_then : (a : Automaton) (f : Fault) (s : ℕ) (v after : Verdict) → or_else a f s (and_then v after) ≡ and_then (or_else a f s v) after
or_then a f s v after = go (ltb s a.states)
  where
    go : (b : Bool) → cond b (faulty f s) (and_then v after) ≡ and_then (cond b (faulty f s) v) after
    go true = refl
    go false = refl

pub state_then : (a : Automaton) (outcomes : ℕ → ℕ) (after : Verdict) → state_verdict a outcomes after ≡ and_then (state_verdict a outcomes (Ok tt)) after
unfolding state_verdict
state_then a outcomes after =
    ap (λ (v : Verdict). or_else a Fault.WayOutOfFinal (lowest (no_way_out a) 0 a.states) (or_else a Fault.ForbiddenBranch (lowest (branches a) 0 a.states) v))
    (or_then a Fault.OutcomeMissing (lowest (serves a outcomes) 0 a.states) (Ok tt) after) ∙
    ap (or_else a Fault.WayOutOfFinal (lowest (no_way_out a) 0 a.states)) (or_then a Fault.ForbiddenBranch (lowest (branches a) 0 a.states) _ after) ∙
    or_then a Fault.WayOutOfFinal (lowest (no_way_out a) 0 a.states) _ after
