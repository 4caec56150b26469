-- What holds of the automaton of a plan that meets the rules: what a state does next is what its transitions say, the awaited
-- event is pending, at most 8 of each are, and within 64 transitions a state waits or is final.
use Rattle.std.specs.Prelude.{◌≡◌, refl, true, ◌⊎◌, ℕ, zero, suc, ◌≤◌, ◌<◌, Option, None, Some}
use Rattle.std.proofs.Common.{sym, ap, ◌∙◌, subst, inl, inr, arith}
use Rattle.std.proofs.Math.Decide.{ℕ_discrete, dec_lt}
use Rattle.plan.specs.declared.Input.{Input}
use Rattle.plan.specs.declared.Automaton.{Automaton}
use Rattle.plan.specs.declared.Plan.{Plan}
use Rattle.plan.specs.Plan.{move, is_final, outcomes_of}
use Rattle.plan.specs.Limits.{InLimits, InputNames}
use Rattle.automaton.specs.declared.Next.{Next}
use Rattle.automaton.specs.Rules.{Leaves, Processes, Path, none, more, emits, pending, MeetsAutomaton}
use Rattle.automaton.specs.Next.{next_of, chosen_of}
use Rattle.automaton.proofs.Laws.States.{ChosenIs, nothing, moves, chosen_is, one_event}
use Rattle.automaton.proofs.Laws.Ways.{Another, NextIs, ended, alone, silent, waits, next_is}
use Rattle.automaton.proofs.Laws.Cases.{goes_same, ended_goes, waits_goes, unlike, same_event, same_outcome}

-- "only a state with more than one way out is a waiting state"
abbrev pub Waiting : Automaton → ℕ → ℕ → Type 0
Waiting a s e = next_of a s ≡ Next.Waits e

-- "up to a waiting or final state"
pub data Stops (a : Automaton) (s : ℕ) : Type 0 where
  ends : next_of a s ≡ Next.Ended → Stops a s
  awaits : {e : ℕ} → Waiting a s e → Stops a s

-- n transitions that await nothing, from s to r
pub data Goes (a : Automaton) (s : ℕ) : ℕ → ℕ → Type 0 where
  stay : Goes a s 0 s
  go : {n q i r : ℕ} → Goes a s n q → next_of a q ≡ Next.Goes i → (move a i).to ≡ r → Goes a s (suc n) r

-- a path ends where it starts, or its start has a way out
way_out : {a : Automaton} {s q : ℕ} → Path a s q → (s ≡ q) ⊎ ((i : ℕ) × Leaves a s i)
way_out none = inl refl
way_out {a} (more w i l t) = elim (way_out w) [ inl e ↦ inr (i, subst (λ (q : ℕ). Leaves a q i) (sym e) l) | inr x ↦ inr x ]

module _ (p : Plan) (limits : InLimits p) (m : MeetsAutomaton p) where
  abbrev a : Automaton
  a = p.automaton

  -- ---- states

  -- a final state ends, and only a final state does
  pub final_ends : (s : ℕ) → s < a.states → is_final a s ≡ true → next_of a s ≡ Next.Ended
  final_ends s low f = by (next_of a s) (next_is a s)
    where
      by : (n : Next) → NextIs a s n → n ≡ Next.Ended
      by Next.Ended (ended h) = refl
      by (Next.Goes i) (alone l h) = absurd (m.ends s low f i l)
      by (Next.Goes i) (silent l h x) = absurd (m.ends s low f i l)
      by (Next.Waits e) (waits o x y) = absurd (m.ends s low f x.index x.leaves)

  pub ended_final : (s : ℕ) → s < a.states → next_of a s ≡ Next.Ended → is_final a s ≡ true
  ended_final s low h = by (subst (NextIs a s) h (next_is a s))
    where
      by : NextIs a s Next.Ended → is_final a s ≡ true
      by (ended n) =
          let z = m.ways s low in
          elim (way_out z.way) [ inl e ↦ subst (λ (q : ℕ). is_final a q ≡ true) (sym e) z.final | inr x ↦ absurd (n x.0 x.1) ]

  -- a transition that is taken without an outcome is the state's only one
  pub goes_only : (s i : ℕ) → s < a.states → next_of a s ≡ Next.Goes i → Leaves a s i × ((j : ℕ) → Leaves a s j → j ≡ i)
  goes_only s i low h = by (subst (NextIs a s) h (next_is a s))
    where
      by : NextIs a s (Next.Goes i) → Leaves a s i × ((j : ℕ) → Leaves a s j → j ≡ i)
      by (alone l only) = (l, only)
      by (silent l x y) = absurd (unlike (sym x ∙ (m.branches s low i y.index l y.leaves (λ e. y.other (sym e))).first))

  names : (i e o : ℕ) → i < a.count → (move a i).input ≡ Input.Outcome e o → o < outcomes_of p e
  names i e o l h = (subst (InputNames p) h (limits.moves i l).input).1

  -- "Customers use one-outcome events as markers": what it processes has one outcome
  pub goes_one : (s i e o : ℕ) → s < a.states → next_of a s ≡ Next.Goes i → (move a i).input ≡ Input.Outcome e o → outcomes_of p e ≡ 1
  goes_one s i e o low h x =
      let g = goes_only s i low h in
      let n = names i e o g.0.low x in
      elim (dec_lt 1 (outcomes_of p e)) [
        | no l ↦ omega arith
        | yes l ↦
            let y = m.serves s low e o (record { index = i; leaves = g.0; input = x }) in
            let zeroth = y 0 (omega arith) in
            let first = y 1 l in
            let same : zeroth.index ≡ first.index = g.1 zeroth.index zeroth.leaves ∙ sym (g.1 first.index first.leaves) in
            absurd (let z = same_outcome (sym zeroth.input ∙ ap (λ (k : ℕ). (move a k).input) same ∙ first.input) in omega arith)
      ]

  -- two different transitions process one event, which has more than one outcome
  several : (s e o : ℕ) → s < a.states → (x : Processes a s e o) → Another a s x.index → 1 < outcomes_of p e
  several s e o low x y =
      let b = m.branches s low x.index y.index x.leaves y.leaves (λ q. y.other (sym q)) in
      let same : b.event ≡ e = same_event (sym b.first ∙ x.input) in
      let u = names x.index b.event b.one x.leaves.low b.first in
      let v = names y.index b.event b.other y.leaves.low b.second in
      let w = ap (outcomes_of p) same in
      let d = b.differ in
      elim (ℕ_discrete b.one b.other) [ yes z ↦ absurd (d z) | no z ↦ omega (arith, z) ]

  -- what is awaited has more than one outcome
  pub waits_several : (s e : ℕ) → s < a.states → Waiting a s e → 1 < outcomes_of p e
  waits_several s e low h = by (subst (NextIs a s) h (next_is a s))
    where
      by : NextIs a s (Next.Waits e) → 1 < outcomes_of p e
      by (waits o x y) = several s e o low x y

  -- a state that processes an event with more than one outcome awaits it
  pub processes_waits : (s e o : ℕ) → s < a.states → Processes a s e o → 1 < outcomes_of p e → Waiting a s e
  processes_waits s e o low x two = by (next_of a s) refl (next_is a s)
    where
      by : (n : Next) → next_of a s ≡ n → NextIs a s n → next_of a s ≡ Next.Waits e
      by Next.Ended q (ended h) = absurd (h x.index x.leaves)
      by (Next.Goes i) q n =
          let only = (goes_only s i low q).1 x.index x.leaves in
          let one = goes_one s i e o low q (ap (λ (j : ℕ). (move a j).input) (sym only) ∙ x.input) in
          absurd (omega arith)
      by (Next.Waits f) q (waits u y z) = q ∙ ap Next.Waits (one_event a s (m.branches s low) y x)

  -- a state that awaits an event has a transition for each outcome of it
  pub waits_chosen : (s e o : ℕ) → s < a.states → Waiting a s e → o < outcomes_of p e
      → (i : ℕ) × (chosen_of a s e o ≡ Some i) × Leaves a s i × ((move a i).input ≡ Input.Outcome e o)
  waits_chosen s e o low h l = by (subst (NextIs a s) h (next_is a s))
    where
      pick : (c : Option ℕ) → ChosenIs a s e o c → Processes a s e o → (i : ℕ) × (c ≡ Some i) × Leaves a s i × ((move a i).input ≡ Input.Outcome e o)
      pick None (nothing n) x = absurd (n x)
      pick (Some i) (moves k n) x = (i, refl, k, n)

      by : NextIs a s (Next.Waits e) → (i : ℕ) × (chosen_of a s e o ≡ Some i) × Leaves a s i × ((move a i).input ≡ Input.Outcome e o)
      by (waits u x y) = pick (chosen_of a s e o) (chosen_is a s e o) (m.serves s low e u x o l)

  -- ---- events

  -- the awaited event of a reachable waiting state is pending
  pub awaited_pending : {s : ℕ} (w : Path a a.initial s) (e : ℕ) → Waiting a s e → 0 < pending a (emits p) e w
  awaited_pending {s} w e h = by (subst (NextIs a s) h (next_is a s))
    where
      by : NextIs a s (Next.Waits e) → 0 < pending a (emits p) e w
      by (waits o x y) = omega (arith, m.first s w e o x)

  pub few_pending : {s : ℕ} (w : Path a a.initial s) (e : ℕ) → pending a (emits p) e w ≤ 8
  few_pending {s} w e = m.few s w e

  -- ---- a waiting or final state within 64 transitions

  -- from one state there is one way on
  pub same_goes_to : {s n q r : ℕ} → Goes a s n q → Goes a s n r → q ≡ r
  same_goes_to {s} {n} c d = walk n c d
    where
      walk : (n : ℕ) {q r : ℕ} → Goes a s n q → Goes a s n r → q ≡ r
      walk zero stay stay = refl
      walk (suc n) (go c h t) (go d k u) =
          let x = walk n c d in
          let y = goes_same (sym h ∙ ap (next_of a) x ∙ k) in
          sym t ∙ ap (λ (z : ℕ). (move a z).to) y ∙ u

  stuck : {s i : ℕ} {A : Type 0} → next_of a s ≡ Next.Goes i → Stops a s → A
  stuck h (ends e) = ended_goes (sym e ∙ h)
  stuck h (awaits w) = waits_goes (sym w ∙ h)

  -- and none past a waiting or final state
  pub no_further : {s n r : ℕ} → Goes a s n r → Stops a r → {k q : ℕ} → Goes a s k q → k ≤ n
  no_further c x stay = omega arith
  no_further {s} {n} {r} c x (go {n = k} {q} d h t) = elim (dec_lt k n) [
    | yes l ↦ omega arith
    | no l ↦
        let same : k ≡ n = omega (arith, no_further c x d) in
        stuck h (subst (Stops a) (same_goes_to c (subst (λ (z : ℕ). Goes a s z q) same d)) x)
  ]
