-- The ways out of a state say what it does next: `waiting_iff`.
use Rattle.std.specs.Prelude.{◌≡◌, refl, ℕ, ◌<◌, Some}
use Rattle.std.proofs.Common.{sym, ap, ◌∙◌, subst}
use Rattle.std.proofs.Math.Decide.{ℕ_discrete}
use Rattle.plan.specs.Plan.{move}
use Rattle.plan.specs.Limits.{InputNames, InLimits}
use Rattle.plan.specs.declared.Input.{Input}
use Rattle.plan.specs.declared.Automaton.{Automaton}
use Rattle.plan.specs.declared.Plan.{Plan}
use Rattle.automaton.specs.Rules.{Leaves, Processes, MeetsAutomaton}
use Rattle.automaton.specs.Next.{next_of, chosen_of}
use Rattle.automaton.proofs.Laws.States.{one_event}
use Rattle.automaton.proofs.Laws.Ways.{NextIs, ended, waits, next_is}
use Rattle.automaton.proofs.Laws.Following.{next_leaves, awaited}
use Rattle.automaton.proofs.Laws.Later.{goes_only, processes_waits, waits_several, waits_chosen}
use Rattle.automaton.specs.declared.Next.{Next}
use Rattle.automaton.proofs.Laws.Cases.{same_outcome}
use Rattle.demands.specs.Markers.{Alone, Several, ProcessesIn, ByWaysOut}

module _ (p : Plan) (limits : InLimits p) (m : MeetsAutomaton p) where
  abbrev a : Automaton
  a = p.automaton

  -- a way out that stands alone is taken
  pub goes_next : (s t : ℕ) → Leaves a s t → Alone a s t → next_of a s ≡ Next.Goes t
  goes_next s t h only = by (next_of a s) refl (next_is a s)
    where
      by : (n : Next) → next_of a s ≡ n → NextIs a s n → next_of a s ≡ Next.Goes t
      by Next.Ended q (ended x) = absurd (x t h)
      by (Next.Goes i) q n = q ∙ ap Next.Goes (only i (next_leaves a s i q))
      by (Next.Waits e) q (waits o x y) = absurd (y.other (only y.index y.leaves ∙ sym (only x.index x.leaves)))

  -- at several ways out the event that they process is awaited
  pub waits_next : (s e o : ℕ) → s < a.states → Processes a s e o → Several a s → next_of a s ≡ Next.Waits e
  waits_next s e o low x k = by (next_of a s) refl (next_is a s)
    where
      by : (n : Next) → next_of a s ≡ n → NextIs a s n → next_of a s ≡ Next.Waits e
      by Next.Ended q (ended h) = absurd (h k.one k.leaves)
      by (Next.Goes i) q n = let only = (goes_only p limits m s i low q).1 in absurd (k.differ (only k.one k.leaves ∙ sym (only k.other k.leaves_too)))
      by (Next.Waits f) q (waits u y z) = q ∙ ap Next.Waits (one_event a s (m.branches s low) y x)

  pub waits_ways : (s e : ℕ) → next_of a s ≡ Next.Waits e → Several a s
  waits_ways s e h = by (subst (NextIs a s) h (next_is a s))
    where
      by : NextIs a s (Next.Waits e) → Several a s
      by (waits o x y) = record { one = x.index; other = y.index; leaves = x.leaves; leaves_too = y.leaves; differ = λ z. y.other (sym z) }

  -- of two ways out the first processes an event
  ways_process : (s : ℕ) → s < a.states → Several a s → (e : ℕ) × ProcessesIn a s e
  ways_process s low k =
      let b = m.branches s low k.one k.other k.leaves k.leaves_too k.differ in
      (b.event, (b.one, record { index = k.one; leaves = k.leaves; input = b.first }))

  pub by_ways_out : (s : ℕ) → s < a.states → ByWaysOut p s
  by_ways_out s low = record {
    by_outcomes = λ e. (λ h. (awaited a s e h, waits_several p limits m s e low h), λ h. processes_waits p limits m s e h.0.0 low h.0.1 h.1);
    by_ways = λ e. (λ h. (awaited a s e h, waits_ways s e h), λ h. waits_next s e h.0.0 low h.0.1 h.1);
    at_all = (λ h. waits_ways s h.0 h.1, λ h. let x = ways_process s low h in (x.0, waits_next s x.0 x.1.0 low x.1.1 h));
    goes_on = λ t. (λ h. goes_only p limits m s t low h, λ h. goes_next s t h.0 h.1);
  }

  pub chosen_is : (s t e u : ℕ) → s < a.states → Leaves a s t → Several a s → (move a t).input ≡ Input.Outcome e u → chosen_of a s e u ≡ Some t
  chosen_is s t e u low h k x =
      let q = (subst (InputNames p) x (limits.moves t h.low).input).1 in
      let c = waits_chosen p limits m s e u low (waits_next s e u low (record { index = t; leaves = h; input = x }) k) q in
      elim (ℕ_discrete c.0 t) [
        | yes z ↦ c.1 ∙ ap Some z
        | no z ↦
            let b = m.branches s low c.0 t c.2 h z in
            absurd (b.differ (same_outcome (sym b.first ∙ c.3) ∙ same_outcome (sym x ∙ b.second)))
      ]
