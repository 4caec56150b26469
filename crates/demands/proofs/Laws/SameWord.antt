-- `same_word`: two words of a plan that both end in final states and process the same outcomes in order are one. Where they part,
-- rule 22 gives two outcomes at one place of the list; where one is shorter, rule 21 refuses a way out of its final state.
use Rattle.std.specs.Prelude.{◌≡◌, refl, true, List, [], ◌∷◌, ◌⊎◌, ℕ}
use Rattle.std.proofs.Common.{sym, ◌∙◌, subst, inl, inr}
use Rattle.std.proofs.Math.Decide.{ℕ_discrete}
use Rattle.plan.specs.Plan.{move, is_final}
use Rattle.plan.specs.Limits.{InLimits}
use Rattle.plan.specs.declared.Input.{Input}
use Rattle.plan.specs.declared.Plan.{Plan}
use Rattle.automaton.specs.Rules.{Leaves, MeetsAutomaton}
use Rattle.times_combined.specs.Paths.{Follows}
use Rattle.demands_theory.proofs.Laws.Growth.{Tail, here, later, tail_empty, tail_next, tail_on, one_next}
use Rattle.demands.specs.Stitching.{processed_by, processed_in}

-- ---- what one transition processes

processed_drop : (i : Input) (os zs : List ℕ) → Tail (processed_by i os) zs → Tail os zs
processed_drop Input.Nothing os zs h = h
processed_drop (Input.Outcome e o) os zs h = tail_on os (o ∷ os) zs (later here) h

processed_grows : (i : Input) (os zs : List ℕ) → Tail zs os → Tail zs (processed_by i os)
processed_grows Input.Nothing os zs h = h
processed_grows (Input.Outcome e o) os zs h = later h

-- ---- two words

module _ (p : Plan) (limits : InLimits p) (m : MeetsAutomaton p) where
  abbrev From : List ℕ → ℕ → Type 0
  From is q = Follows p p.automaton.initial is q

  one_end : (is : List ℕ) (q r : ℕ) → From is q → From is r → q ≡ r
  one_end [] q r f g = sym f ∙ g
  one_end (i ∷ is) q r f g = sym f.1.1 ∙ g.1.1

  -- two ways on that process the same are one: of a branch they process different outcomes
  one_way : (is us : List ℕ) (q r t u : ℕ) → From (t ∷ is) q → From (u ∷ is) r → Tail (processed_in p (t ∷ is)) (processed_in p us) → Tail (processed_in p (u ∷ is)) (processed_in p us) → t ≡ u
  one_way is us q r t u f g h k = elim (ℕ_discrete t u) [
    | yes e ↦ e
    | no ne ↦ absurd (differ ne)
  ]
    where
      s : ℕ
      s = (move p.automaton t).from

      leaves : Leaves p.automaton s t
      leaves = record { low = f.1.0; from = refl }

      differ : (t ≡ u → ⊥) → ⊥
      differ ne =
          let os = processed_in p is in
          let other : Leaves p.automaton s u = record { low = g.1.0; from = one_end is (move p.automaton u).from s g.0 f.0 } in
          let c = m.branches s (limits.moves t f.1.0).from t u leaves other ne in
          let one : Tail (c.one ∷ os) (processed_in p us) = subst (λ (i : Input). Tail (processed_by i os) (processed_in p us)) c.first h in
          let two : Tail (c.other ∷ os) (processed_in p us) = subst (λ (i : Input). Tail (processed_by i os) (processed_in p us)) c.second k in
          c.differ (one_next c.one c.other os (processed_in p us) one two)

  -- a word that ends in a final state does not go on: it has no way out
  no_way_on : (is : List ℕ) (q r t : ℕ) → From is r → From (t ∷ is) q → is_final p.automaton r ≡ true → ⊥
  no_way_on is q r t g f final = m.ends r (limits.finals r final) final t (record { low = f.1.0; from = one_end is (move p.automaton t).from r f.0 g })

  -- ---- beginnings of a word

  processed_tail : (is us : List ℕ) → Tail is us → Tail (processed_in p is) (processed_in p us)
  processed_tail is us here = here
  processed_tail is us (later {us = vs} {t} b) = processed_grows (move p.automaton t).input (processed_in p vs) (processed_in p is) (processed_tail is vs b)

  tail_follows : (is us : List ℕ) (r : ℕ) → Tail is us → From us r → (q : ℕ) × From is q
  tail_follows is us r here f = (r, f)
  tail_follows is us r (later {us = vs} {t} b) f = tail_follows is vs (move p.automaton t).from b f.0

  -- a word that processes the first outcomes of an ended one, and no others, is a beginning of it
  beginning : (is us : List ℕ) (q r : ℕ) → From is q → From us r → is_final p.automaton r ≡ true → Tail (processed_in p is) (processed_in p us) → Tail is us
  beginning [] us q r f g final h = tail_empty us
  beginning (t ∷ is) us q r f g final h =
      go (tail_next is us (beginning is us (move p.automaton t).from r f.0 g final (processed_drop (move p.automaton t).input (processed_in p is) (processed_in p us) h)))
    where
      go : (is ≡ us) ⊎ ((u : ℕ) × Tail (u ∷ is) us) → Tail (t ∷ is) us
      go (inl e) = absurd (no_way_on is q r t (subst (λ (l : List ℕ). From l r) (sym e) g) f final)
      go (inr (u, b)) =
          let w = tail_follows (u ∷ is) us r b g in
          let same : t ≡ u = one_way is us q w.0 t u f w.1 h (processed_tail (u ∷ is) us b) in
          subst (λ (n : ℕ). Tail (n ∷ is) us) (sym same) b

  pub same_word : (is us : List ℕ) (q r : ℕ) → From is q → From us r → is_final p.automaton q ≡ true → is_final p.automaton r ≡ true → processed_in p is ≡ processed_in p us → is ≡ us
  same_word is us q r f g final ended e = go (tail_next is us (beginning is us q r f g ended (subst (λ (l : List ℕ). Tail (processed_in p is) l) e here)))
    where
      go : (is ≡ us) ⊎ ((u : ℕ) × Tail (u ∷ is) us) → is ≡ us
      go (inl z) = z
      go (inr (u, b)) = let w = tail_follows (u ∷ is) us r b g in absurd (no_way_on is w.0 q u f w.1 final)
