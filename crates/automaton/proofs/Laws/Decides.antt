-- The verdict that specs/Number.antt computes is the one that the rules give, for every plan within the limits; and the rules give no other.
use Rattle.std.specs.Prelude.{◌≡◌, refl, Bool, true, false, cond, ℕ, ◌+◌, ◌<◌, ltb, Ok}
use Rattle.std.proofs.Common.{ap, ◌∙◌, subst, arith, ltb-true, ltb-false}
use Rattle.std.proofs.Math.Decide.{dec_lt}
use Rattle.basis.specs.Tests.{flag}
use Rattle.basis.specs.Inner.Tells.{Tells}
use Rattle.plan.specs.declared.Output.{Output}
use Rattle.plan.specs.declared.Automaton.{Automaton}
use Rattle.plan.specs.declared.Plan.{Plan}
use Rattle.plan.specs.declared.Fault.{Fault}
use Rattle.plan.specs.Verdict.{Verdict, faulty}
use Rattle.plan.specs.Plan.{outcomes_of, move}
use Rattle.plan.specs.Limits.{InLimits}
use Rattle.automaton.specs.Rules.{Rule21, Rule22, Rule23, Rule24, NoWayOut, Branches, Serves, ToFinal, EveryState, EmittedFirst, NoneLeft, AtMostEight, processed, emitted, emits, MeetsAutomaton, LowestAtFault, Breaks25, unemitted, leftover, Breaks26, Judges, number21, number22, number23, number24, number25, number26, accepted}
use Rattle.automaton.specs.Number.{lowest, no_way_out, branches, serves, to_final, path_verdict, or_else, way_verdict, state_verdict, automaton_verdict}
use Rattle.automaton.proofs.Laws.Bounds.{in_range, emits_bounded, emits_small}
use Rattle.automaton.proofs.Laws.Works.{Small, back_done}
use Rattle.automaton.proofs.Laws.States.{tells_21, tells_22, tells_23}
use Rattle.automaton.proofs.Laws.Lowest.{fault_found, none_found, fault_there, none_there}
use Rattle.automaton.specs.Inner.Counts.{InRange}
use Rattle.automaton.proofs.Laws.Counts.{Bounded}
use Rattle.automaton.specs.Inner.OnPaths.{OnPaths, broken25, broken26, neither}
use Rattle.automaton.proofs.Laws.OnPaths.{same_on_paths, path_verdict_lem, paths_same}

-- ---- one number over all states

module _ (a : Automaton) (P : ℕ → Type 0) (test : ℕ → Bool) (t : (q : ℕ) → q < a.states → Tells (test q) (P q)) (f : Fault) (after : Verdict) where
  abbrev here : Verdict
  here = or_else a f (lowest test 0 a.states) after

  -- the fault at its lowest state, or what comes after
  stage : (Q : Verdict → Type 0) → ((s : ℕ) → LowestAtFault a P s → Q (faulty f s)) → (EveryState a P → Q after) → Q here
  stage Q found passed = go (ltb (lowest test 0 a.states) a.states) refl
    where
      go : (b : Bool) → ltb (lowest test 0 a.states) a.states ≡ b → Q (cond b (faulty f (lowest test 0 a.states)) after)
      go true e = found (lowest test 0 a.states) (fault_found a P test t (ltb-true (lowest test 0 a.states) a.states e))
      go false e = passed (none_found a P test t (λ l. omega (arith, ltb-false (lowest test 0 a.states) a.states e)))

  at_fault : (s : ℕ) → LowestAtFault a P s → here ≡ faulty f s
  at_fault s x = go (ltb (lowest test 0 a.states) a.states) refl
    where
      same : lowest test 0 a.states ≡ s
      same = fault_there a P test t s x

      go : (b : Bool) → ltb (lowest test 0 a.states) a.states ≡ b → cond b (faulty f (lowest test 0 a.states)) after ≡ faulty f s
      go true e = ap (faulty f) same
      go false e = absurd (omega (arith, same, x.low, ltb-false (lowest test 0 a.states) a.states e))

  passes : EveryState a P → here ≡ after
  passes h = go (ltb (lowest test 0 a.states) a.states) refl
    where
      go : (b : Bool) → ltb (lowest test 0 a.states) a.states ≡ b → cond b (faulty f (lowest test 0 a.states)) after ≡ after
      go true e = absurd (none_there a P test t h (ltb-true (lowest test 0 a.states) a.states e))
      go false e = refl

-- ---- 24 to 26

pub tells_24 : (a : Automaton) → InRange a → (q : ℕ) → q < a.states → Tells (flag (to_final a) q) (ToFinal a q)
tells_24 a ok q l = (back_done a ok).tells q (omega (arith, ok.states))

-- the verdict does not depend on how it is said what the transitions emit
pub way_same : (a : Automaton) (f g : Output → ℕ → ℕ) → InRange a → Small a f → Bounded a f → Small a g → Bounded a g
    → ((i e : ℕ) → i < a.count → f (move a i).output e ≡ g (move a i).output e) → way_verdict a f ≡ way_verdict a g
unfolding way_verdict
way_same a f g ok sf bf sg bg same = go (ltb low a.states) refl
  where
    low : ℕ
    low = lowest (flag (to_final a)) 0 a.states

    go : (b : Bool) → ltb low a.states ≡ b
        → cond b (faulty Fault.NoWayToFinal low) (path_verdict a f) ≡ cond b (faulty Fault.NoWayToFinal low) (path_verdict a g)
    go true e = refl
    go false e =
        let ways = none_found a (ToFinal a) (flag (to_final a)) (tells_24 a ok) (λ l. omega (arith, ltb-false low a.states e)) in
        same_on_paths (paths_same a f g same (path_verdict_lem a f ok sf bf ways)) (path_verdict_lem a g ok sg bg ways)

-- ---- the whole verdict

-- no path breaks 25: an event is processed only while more have been emitted, and none is left at a final state
fine_first : (a : Automaton) (gives : Output → ℕ → ℕ) → (Breaks25 a gives → ⊥) → EmittedFirst a gives
fine_first a gives n s w e o x = elim (dec_lt (processed a e w) (emitted a gives e w)) [ yes l ↦ l | no l ↦ absurd (n (unemitted w e o x (omega arith))) ]

fine_clear : (a : Automaton) (gives : Output → ℕ → ℕ) → (Breaks25 a gives → ⊥) → NoneLeft a gives
fine_clear a gives n s w f e = elim (dec_lt (processed a e w) (emitted a gives e w)) [ yes l ↦ absurd (n (leftover w e f (omega arith))) | no l ↦ omega arith ]

fine_few : (a : Automaton) (gives : Output → ℕ → ℕ) → (Breaks26 a gives → ⊥) → AtMostEight a gives
fine_few a gives n s w e = elim (dec_lt (processed a e w + 8) (emitted a gives e w)) [ yes l ↦ absurd (n record { state = s; path = w; event = e; many = omega arith }) | no l ↦ omega arith ]

pub none_breaks_25 : {p : Plan} → MeetsAutomaton p → Breaks25 p.automaton (emits p) → ⊥
none_breaks_25 m (unemitted {s} w e o x z) = omega (arith, m.first s w e o x)
none_breaks_25 m (leftover {s} w e f z) = omega (arith, m.clear s w f e)

module _ (p : Plan) (limits : InLimits p) where
  abbrev a : Automaton
  a = p.automaton

  t23 : Rule22 p → (q : ℕ) → q < a.states → Tells (serves a (outcomes_of p) q) (Serves a (outcomes_of p) q)
  t23 b q l = tells_23 a (outcomes_of p) q (b q l)

  t24 : (q : ℕ) → q < a.states → Tells (flag (to_final a) q) (ToFinal a q)
  t24 = tells_24 a (in_range p limits)

  paths : Rule24 p → OnPaths a (emits p) (path_verdict a (emits p))
  paths w = path_verdict_lem a (emits p) (in_range p limits) (emits_small p limits) (emits_bounded p limits) w

  last : Rule21 p → Rule22 p → Rule23 p → Rule24 p
      → (v : Verdict) → OnPaths a (emits p) v → Judges p v
  last e b c w v (broken25 x) = number25 e b c w x
  last e b c w v (broken26 n x) = number26 e b c w n x
  last e b c w v (neither n m) = accepted record {
    ends = e;
    branches = b;
    serves = c;
    ways = w;
    first = fine_first a (emits p) n;
    clear = fine_clear a (emits p) n;
    few = fine_few a (emits p) m;
  }

  -- the computed verdict is one that the rules give
  pub judged : Judges p (automaton_verdict p)
  unfolding automaton_verdict state_verdict way_verdict
  judged =
      stage a (NoWayOut a) (no_way_out a) (λ q l. tells_21 a q) Fault.WayOutOfFinal _ (Judges p) (λ s x. number21 x) (λ e.
      stage a (Branches a) (branches a) (λ q l. tells_22 a q) Fault.ForbiddenBranch _ (Judges p) (λ s x. number22 e x) (λ b.
      stage a (Serves a (outcomes_of p)) (serves a (outcomes_of p)) (t23 b) Fault.OutcomeMissing _ (Judges p) (λ s x. number23 e b x) (λ c.
      stage a (ToFinal a) (flag (to_final a)) t24 Fault.NoWayToFinal _ (Judges p) (λ s x. number24 e b c x) (λ w.
      last e b c w (path_verdict a (emits p)) (paths w)))))

  abbrev from24 : Verdict
  from24 = or_else a Fault.NoWayToFinal (lowest (flag (to_final a)) 0 a.states) (path_verdict a (emits p))

  abbrev from23 : Verdict
  from23 = or_else a Fault.OutcomeMissing (lowest (serves a (outcomes_of p)) 0 a.states) from24

  abbrev from22 : Verdict
  from22 = or_else a Fault.ForbiddenBranch (lowest (branches a) 0 a.states) from23

  past21 : Rule21 p → automaton_verdict p ≡ from22
  unfolding automaton_verdict state_verdict way_verdict
  past21 e = passes a (NoWayOut a) (no_way_out a) (λ q l. tells_21 a q) Fault.WayOutOfFinal from22 e

  past22 : Rule21 p → Rule22 p → automaton_verdict p ≡ from23
  past22 e b = past21 e ∙ passes a (Branches a) (branches a) (λ q l. tells_22 a q) Fault.ForbiddenBranch from23 b

  past23 : Rule21 p → Rule22 p → Rule23 p → automaton_verdict p ≡ from24
  past23 e b c = past22 e b ∙ passes a (Serves a (outcomes_of p)) (serves a (outcomes_of p)) (t23 b) Fault.OutcomeMissing from24 c

  past24 : Rule21 p → Rule22 p → Rule23 p → Rule24 p
      → automaton_verdict p ≡ path_verdict a (emits p)
  past24 e b c w = past23 e b c ∙ passes a (ToFinal a) (flag (to_final a)) t24 Fault.NoWayToFinal (path_verdict a (emits p)) w

  -- and they give no other
  pub determined : (v : Verdict) → Judges p v → automaton_verdict p ≡ v
  unfolding automaton_verdict state_verdict way_verdict
  determined v (number21 {s} x) = at_fault a (NoWayOut a) (no_way_out a) (λ q l. tells_21 a q) Fault.WayOutOfFinal from22 s x
  determined v (number22 {s} e x) = past21 e ∙ at_fault a (Branches a) (branches a) (λ q l. tells_22 a q) Fault.ForbiddenBranch from23 s x
  determined v (number23 {s} e b x) = past22 e b ∙ at_fault a (Serves a (outcomes_of p)) (serves a (outcomes_of p)) (t23 b) Fault.OutcomeMissing from24 s x
  determined v (number24 {s} e b c x) = past23 e b c ∙ at_fault a (ToFinal a) (flag (to_final a)) t24 Fault.NoWayToFinal (path_verdict a (emits p)) s x
  determined v (number25 e b c w x) = past24 e b c w ∙ same_on_paths (paths w) (broken25 x)
  determined v (number26 e b c w n x) = past24 e b c w ∙ same_on_paths (paths w) (broken26 n x)
  determined v (accepted m) =
      past24 m.ends m.branches m.serves m.ways ∙
      same_on_paths (paths m.ways) (neither (none_breaks_25 m) (λ x. omega (arith, x.many, m.few x.state x.path x.event)))

  pub verdict_iff : (v : Verdict) → (automaton_verdict p ≡ v → Judges p v) × (Judges p v → automaton_verdict p ≡ v)
  verdict_iff v = (λ e. subst (Judges p) e judged, determined v)

  meets : Judges p (Ok tt) → MeetsAutomaton p
  meets (accepted m) = m

  pub accepted_iff : (automaton_verdict p ≡ Ok tt → MeetsAutomaton p) × (MeetsAutomaton p → automaton_verdict p ≡ Ok tt)
  accepted_iff = (λ e. meets (subst (Judges p) e judged), λ m. determined (Ok tt) (accepted m))
