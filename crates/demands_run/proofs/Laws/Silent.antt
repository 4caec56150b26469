-- Transitions that await nothing: there is one way to go on by them, up to a waiting or final state.
use Rattle.std.specs.Prelude.{◌≡◌, refl, List, ◌∷◌, ◌⊎◌, ℕ}
use Rattle.std.proofs.Common.{sym, ◌∙◌, subst, inl, inr}
use Rattle.plan.specs.declared.Plan.{Plan}
use Rattle.automaton.specs.declared.Next.{Next}
use Rattle.automaton.proofs.Laws.Cases.{goes_same}
use Rattle.demands_theory.specs.Loading.{Silently, stays, goes_on}
use Rattle.demands_theory.specs.TheWord.{next_after, Rests}

module _ (p : Plan) where
  pub silent_first : (us : List ℕ) (t : ℕ) → next_after p us ≡ Next.Goes t → (vs : List ℕ) → Silently p (t ∷ us) vs → Silently p us vs
  silent_first us t e vs stays = goes_on stays e
  silent_first us t e vs (goes_on {vs = ws} h n) = goes_on (silent_first us t e ws h) n

  -- it stays, or goes one transition on and then further
  pub silent_next : (us vs : List ℕ) → Silently p us vs → (us ≡ vs) ⊎ ((t : ℕ) × (next_after p us ≡ Next.Goes t) × Silently p (t ∷ us) vs)
  silent_next us vs stays = inl refl
  silent_next us vs (goes_on {vs = ws} {t} h n) = go (silent_next us ws h)
    where
      go : (us ≡ ws) ⊎ ((u : ℕ) × (next_after p us ≡ Next.Goes u) × Silently p (u ∷ us) ws) → (us ≡ t ∷ ws) ⊎ ((u : ℕ) × (next_after p us ≡ Next.Goes u) × Silently p (u ∷ us) (t ∷ ws))
      go (inl e) = inr (t, subst (λ (l : List ℕ). next_after p l ≡ Next.Goes t) (sym e) n, subst (λ (l : List ℕ). Silently p (t ∷ l) (t ∷ ws)) (sym e) stays)
      go (inr r) = inr (r.0, r.1, goes_on r.2 n)

  -- what is on the way leads on to where it rests
  silent_on : (us vs ws : List ℕ) → Silently p us vs → Silently p us ws → Rests p ws → Silently p vs ws
  silent_on us vs ws stays b r = b
  silent_on us vs ws (goes_on {vs = xs} {t} h n) b r = go (silent_next xs ws (silent_on us xs ws h b r))
    where
      go : (xs ≡ ws) ⊎ ((u : ℕ) × (next_after p xs ≡ Next.Goes u) × Silently p (u ∷ xs) ws) → Silently p (t ∷ xs) ws
      go (inl e) = absurd (r t (subst (λ (l : List ℕ). next_after p l ≡ Next.Goes t) e n))
      go (inr q) = subst (λ (u : ℕ). Silently p (u ∷ xs) ws) (goes_same (sym q.1 ∙ n)) q.2

  pub one_rest : (us vs ws : List ℕ) → Silently p us vs → Rests p vs → Silently p us ws → Rests p ws → vs ≡ ws
  one_rest us vs ws a r b s = go (silent_next vs ws (silent_on us vs ws a b s))
    where
      go : (vs ≡ ws) ⊎ ((u : ℕ) × (next_after p vs ≡ Next.Goes u) × Silently p (u ∷ vs) ws) → vs ≡ ws
      go (inl e) = e
      go (inr q) = absurd (r q.0 q.1)
