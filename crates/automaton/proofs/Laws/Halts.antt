-- A path from any state meets a waiting or final state within 64 transitions, and never waits in between.
use Rattle.std.specs.Prelude.{◌≡◌, Bool, List, ◌⊎◌, ℕ, suc, ◌+◌, ◌≤◌, ◌<◌, length, set, replicate}
use Rattle.std.proofs.Math.Path.{refl, subst}
use Rattle.std.proofs.Common.{sym, ap, ◌∙◌, arith}
use Rattle.std.proofs.Math.Bool.{true, false}
use Rattle.std.proofs.Math.Logic.{inl, inr}
use Rattle.std.proofs.Math.ListN.{length-set}
use Rattle.basis.proofs.Laws.Flags.{falses_set, grown, no_flag}
use Rattle.basis.specs.Tests.{flag, falses}
use Rattle.basis.proofs.Laws.Bools.{clash}
use Rattle.plan.specs.declared.Automaton.{Automaton}
use Rattle.plan.specs.declared.Plan.{Plan}
use Rattle.plan.specs.Plan.{move}
use Rattle.plan.specs.Limits.{InLimits}
use Rattle.automaton.specs.declared.Next.{Next}
use Rattle.automaton.specs.Rules.{Leaves, Path, none, more, MeetsAutomaton}
use Rattle.automaton.specs.Next.{next_of}
use Rattle.automaton.proofs.Laws.Later.{Stops, ends, awaits, Goes, stay, go, final_ends, goes_only, no_further}

-- a path of n transitions that meets no state twice; D flags those that it meets
data Simple (a : Automaton) (s : ℕ) : ℕ → ℕ → List Bool → Type 0 where
  one : Simple a s s 0 (set (replicate 64 false) s true)
  add : {q r n : ℕ} {D : List Bool} → Simple a s q n D → (i : ℕ) → Leaves a q i → (move a i).to ≡ r → flag D r ≡ false → Simple a s r (suc n) (set D r true)

module _ (p : Plan) (limits : InLimits p) (m : MeetsAutomaton p) (s : ℕ) (low : s < p.automaton.states) where
  abbrev a : Automaton
  a = p.automaton

  -- ---- a path without repeated states has at most 63 transitions

  counted : {q n : ℕ} {D : List Bool} → Simple a s q n D → (length D ≡ 64) × (falses D + suc n ≡ 64) × (q < a.states)
  unfolding falses
  counted one = (simp length-set refl, omega (arith, falses_set (replicate 64 false) s (omega (arith, limits.states.1)) (no_flag 64 s)), low)
  counted (add {q} {r} {n} {D} w i l t new) =
      let h = counted w in
      let inside : r < a.states = subst (λ (x : ℕ). x < a.states) t (limits.moves i l.low).to in
      (simp length-set h.0, omega (arith, h.1, falses_set D r (omega (arith, h.0, limits.states.1)) new), inside)

  Reach : ℕ → Type 0
  Reach q = (n : ℕ) × ((D : List Bool) × Simple a s q n D)

  -- a state that a path meets has such a path of its own
  cut : {q n : ℕ} {D : List Bool} → Simple a s q n D → (r : ℕ) → flag D r ≡ true → Reach r
  unfolding Reach
  cut one r h = grown (λ r. Reach r) (replicate 64 false) s (0, (_, one)) (λ r h. absurd (clash (sym h ∙ no_flag 64 r))) r h
  cut (add {q} {r} {n} {D} w i l t new) x h = grown (λ x. Reach x) D r (suc n, (_, add w i l t new)) (λ x h. cut w x h) x h

  onward : {q r : ℕ} (i : ℕ) → Leaves a q i → (move a i).to ≡ r → Reach q → Reach r
  unfolding Reach
  onward {q} {r} i l t (n, (D, w)) = choose (flag D r) refl
    where
      choose : (b : Bool) → flag D r ≡ b → Reach r
      choose true h = cut w r h
      choose false h = (suc n, (_, add w i l t h))

  simple : {q : ℕ} → Path a s q → Reach q
  unfolding Reach
  simple none = (0, (_, one))
  simple (more w i l t) = onward i l t (simple w)

  -- ---- on it a waiting or final state is met

  pub record Halts (n : ℕ) : Type 0 where
    pub steps : ℕ
    pub state : ℕ
    pub few : steps ≤ n
    pub goes : Goes a s steps state
    pub stops : Stops a state

  along : {q n r : ℕ} (i : ℕ) → q < a.states → Leaves a q i → (move a i).to ≡ r → (x : Next) → next_of a q ≡ x → Halts n ⊎ Goes a s n q → Halts (suc n) ⊎ Goes a s (suc n) r
  along i l f t x h (inl y) = inl record { steps = y.steps; state = y.state; few = omega (arith, y.few); goes = y.goes; stops = y.stops }
  along {q} {n} i l f t Next.Ended h (inr c) = inl record { steps = n; state = q; few = omega arith; goes = c; stops = ends h }
  along {q} {n} i l f t (Next.Waits e) h (inr c) = inl record { steps = n; state = q; few = omega arith; goes = c; stops = awaits h }
  along {q} {n} i l f t (Next.Goes j) h (inr c) = inr (go c h (ap (λ (k : ℕ). (move a k).to) (sym ((goes_only p limits m q j l h).1 i f)) ∙ t))

  first : {q n : ℕ} {D : List Bool} → Simple a s q n D → Halts n ⊎ Goes a s n q
  first one = inr stay
  first (add {q} w i l t new) = along i (counted w).2 l t (next_of a q) refl (first w)

  pub halts : Halts 63
  unfolding Reach
  halts = finish (simple (m.ways s low).way)
    where
      finish : Reach (m.ways s low).end → Halts 63
      finish (n, (D, w)) =
          let b = (counted w).1 in
          elim (first w) [
            | inl y ↦ record { steps = y.steps; state = y.state; few = omega (arith, y.few); goes = y.goes; stops = y.stops }
            | inr c ↦ record { steps = n; state = (m.ways s low).end; few = omega arith; goes = c; stops = ends (final_ends p limits m (m.ways s low).end (counted w).2 (m.ways s low).final) }
          ]

  -- no run of transitions that await nothing is longer
  pub goes_few : {n q : ℕ} → Goes a s n q → n < 64
  goes_few c = omega (arith, halts.few, no_further p limits m halts.goes halts.stops c)

  pub goes_inside : {n q : ℕ} → Goes a s n q → q < a.states
  goes_inside stay = low
  goes_inside (go {q = q} {i} c h t) = subst (λ (x : ℕ). x < a.states) t (limits.moves i (goes_only p limits m q i (goes_inside c) h).0.low).to
