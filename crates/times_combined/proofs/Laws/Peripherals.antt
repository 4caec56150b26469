-- Two different actions of a word on one peripheral never overlap: one has completed when the other starts. Those of one activity
-- are ordered (rule I). Those of different ones are kept apart by the peripheral's resource: it is available again only when the
-- earlier action has completed (rule V), and the later one does not start before (rule IV).
use Rattle.std.specs.Prelude.{◌≡◌, ◌⊎◌, [], ℕ, suc, ◌≤◌}
use Rattle.std.proofs.Common.{ap, ◌∙◌, sym, inl, inr, arith}
use Rattle.basis.specs.Lists.{one, more}
use Rattle.plan.specs.declared.Kind.TheVariants.{Action, Claim, Release}
use Rattle.plan.specs.Plan.{predecessors}
use Rattle.activity.specs.Rules.{node, Is, Arrow, Before}
use Rattle.times_combined.specs.Word.{Step, Word, τ, ◌▷◌, size}
use Rattle.times_combined.proofs.Laws.Accepted.{Good, GoodWord}
use Rattle.times_combined.specs.Combined.{Ident, Nodes, Joined, combined, identity}
use Rattle.times_combined.proofs.Laws.Engine.{State, Timed, Available}
use Rattle.times_combined.proofs.Laws.Exec.{floor_of, raised_of, starts_of, ends_of, next_of, state_of, start_in, end_in}
use Rattle.times_combined.proofs.Laws.Shape.{not_claim, node_place_lem, sort}
use Rattle.times_combined.proofs.Laws.OneActivity.{latest_bound}
use Rattle.times_combined.proofs.Laws.TimesEqual.{none}
use Rattle.times_combined.proofs.Laws.Computed.{timed, released}
use Rattle.times_combined.proofs.Laws.Exists.{last_start, last_end, kept_start, kept_end}
use Rattle.times_combined.proofs.Laws.Unique.{shape_of}

-- ---- one transition

module _ (R : ℕ) (belongs : ℕ → ℕ) (x : Step) (ok : Good R belongs x.output) (s : State) where
  times : Timed x.output (raised_of x s) s.last (starts_of x s) (ends_of x s)
  times = timed R belongs x.output ok (raised_of x s) s.last

  -- what is before a node has completed when it starts
  arrow_ends : (m n : ℕ) → Arrow x.output m n → ends_of x s m ≤ starts_of x s n
  arrow_ends m n h =
      let nc = not_claim (node x.output n).kind (λ r e. ok.meets.rule_VIII m n r (record { within = h.within; kind = e }) h) in
      let u = times.others n h.within nc in
      let v = latest_bound (ends_of x s) m (predecessors (node x.output n)) h.from in
      omega arith

  chain_ends : (m n : ℕ) → Before x.output m n → ends_of x s m ≤ starts_of x s n
  chain_ends m n (one h) = arrow_ends m n h
  chain_ends m n (more {k} c h) =
      let u = chain_ends m k c in
      let v = times.ends k (ok.inside k n h) in
      let z = arrow_ends k n h in
      omega arith

  -- what comes after a claim starts when the resource is available, or later
  claimed_from : (n r : ℕ) → (m : ℕ) × Is x.output m (Claim r) × Before x.output m n → s.free r ≤ starts_of x s n
  claimed_from n r c =
      let u = times.claims c.0 r c.1 in
      let v = times.ends c.0 c.1.within in
      let z = chain_ends c.0 n c.2 in
      omega arith

  -- so does an action on a peripheral of the resource
  action_from : (n y p : ℕ) → Is x.output n (Action y p) → s.free (belongs p) ≤ starts_of x s n
  action_from n y p i = claimed_from n (belongs p) (ok.meets.rule_IV n y p i)

  -- when a resource is available after the transition
  abbrev After : ℕ → Type 0
  After r = Available x.output (ends_of x s) s (floor_of x.input s) r ((next_of x s).free r)

  after : (r : ℕ) → After r
  after r = released R belongs x.output ok (ends_of x s) s (floor_of x.input s) r

  -- not earlier than it was before
  free_grows : (r : ℕ) → s.free r ≤ (next_of x s).free r
  free_grows r = go (after r)
    where
      go : After r → s.free r ≤ (next_of x s).free r
      go (inl i) =
          let u = claimed_from i.0 r (ok.meets.rule_VI i.0 r i.1) in
          let v = times.ends i.0 i.1.within in
          let z = i.2 in
          omega arith
      go (inr i) = let z = i.1 in omega arith

  -- and not before an action on one of its peripherals has completed
  free_after : (n y p : ℕ) → Is x.output n (Action y p) → ends_of x s n ≤ (next_of x s).free (belongs p)
  free_after n y p i = go (ok.meets.rule_V n y p i) (after (belongs p))
    where
      go : (m : ℕ) × Is x.output m (Release (belongs p)) × Before x.output n m → After (belongs p)
          → ends_of x s n ≤ (next_of x s).free (belongs p)
      go k (inl j) =
          let u = chain_ends n k.0 k.2 in
          let v = times.ends k.0 k.1.within in
          let e = ap (ends_of x s) (ok.meets.rule_III k.0 j.0 (belongs p) k.1 j.1) in
          let z = j.2 in
          omega arith
      go k (inr j) = absurd (j.0.unreleased k.0 k.1)

-- ---- a word

-- one of two nodes has completed when the other starts
abbrev pub Apart : (ℕ → ℕ) → Word → Ident → Ident → Type 0
Apart available w y z = (end_in available w y ≤ start_in available w z) ⊎ (end_in available w z ≤ start_in available w y)

-- an action of the empty word: there is none
no_action : {A : Type 0} (R g n y p d : ℕ) → (combined R τ).Holds (identity g n) (Action y p) d → A
no_action R g n y p d h = none (sort R 0 [] (identity g n) (Action y p) d h).0

-- an action of the last transition
module _ (R : ℕ) (available : ℕ → ℕ) (w : Word) (x : Step) (g n y p d : ℕ)
    (h : Nodes R (suc (size w)) x.output (identity g n) (Action y p) d) where
  position_is : g ≡ size w
  position_is = let e = node_place_lem R (suc (size w)) x.output (identity g n) (Action y p) d h in omega arith

  is : Is x.output n (Action y p)
  is = let s = sort R (suc (size w)) x.output (identity g n) (Action y p) d h in record { within = s.0; kind = s.1 }

  start_is : start_in available (w ▷ x) (identity g n) ≡ starts_of x (state_of available w) n
  start_is = ap (λ (q : ℕ). start_in available (w ▷ x) (identity q n)) position_is ∙ last_start available w x n

  end_is : end_in available (w ▷ x) (identity g n) ≡ ends_of x (state_of available w) n
  end_is = ap (λ (q : ℕ). end_in available (w ▷ x) (identity q n)) position_is ∙ last_end available w x n

module _ (R : ℕ) (belongs available : ℕ → ℕ) where
  -- an action of an earlier transition has the times that it had
  module _ (w : Word) (x : Step) (ok : GoodWord R belongs w) (g n y p d : ℕ) (h : (combined R w).Holds (identity g n) (Action y p) d) where
    start_kept : start_in available (w ▷ x) (identity g n) ≡ start_in available w (identity g n)
    start_kept = let l = (shape_of R belongs w ok).places (identity g n) (Action y p) d h in kept_start available w x g n (omega arith)

    end_kept : end_in available (w ▷ x) (identity g n) ≡ end_in available w (identity g n)
    end_kept = let l = (shape_of R belongs w ok).places (identity g n) (Action y p) d h in kept_end available w x g n (omega arith)

  -- every action has completed when its peripheral's resource is available after the word
  done_when_free : (w : Word) → GoodWord R belongs w → (g n y p d : ℕ) → (combined R w).Holds (identity g n) (Action y p) d
      → end_in available w (identity g n) ≤ (state_of available w).free (belongs p)
  done_when_free τ ok g n y p d h = no_action R g n y p d h
  done_when_free (w ▷ x) ok g n y p d (Joined.left h nr) =
      let e = end_kept w x ok.0 g n y p d h in
      let u = done_when_free w ok.0 g n y p d h in
      let v = free_grows R belongs x ok.1 (state_of available w) (belongs p) in
      omega arith
  done_when_free (w ▷ x) ok g n y p d (Joined.right h nc) =
      let e = end_is R available w x g n y p d h in
      let u = free_after R belongs x ok.1 (state_of available w) n y p (is R available w x g n y p d h) in
      omega arith

  module _ (w : Word) (x : Step) (ok : GoodWord R belongs (w ▷ x)) (g n y h m z p d e : ℕ) where
    -- an earlier action has completed when one of the last transition starts
    between : (combined R w).Holds (identity g n) (Action y p) d → Nodes R (suc (size w)) x.output (identity h m) (Action z p) e
        → end_in available (w ▷ x) (identity g n) ≤ start_in available (w ▷ x) (identity h m)
    between a b =
        let c = end_kept w x ok.0 g n y p d a in
        let u = done_when_free w ok.0 g n y p d a in
        let v = action_from R belongs x ok.1 (state_of available w) m z p (is R available w x h m z p e b) in
        let s = start_is R available w x h m z p e b in
        omega arith

    -- two actions of the last transition
    within : Nodes R (suc (size w)) x.output (identity g n) (Action y p) d → Nodes R (suc (size w)) x.output (identity h m) (Action z p) e
        → (identity g n ≡ identity h m → ⊥) → Apart available (w ▷ x) (identity g n) (identity h m)
    within a b differ =
        let s1 = start_is R available w x g n y p d a in
        let e1 = end_is R available w x g n y p d a in
        let s2 = start_is R available w x h m z p e b in
        let e2 = end_is R available w x h m z p e b in
        let i = is R available w x g n y p d a in
        let j = is R available w x h m z p e b in
        let one_place = position_is R available w x g n y p d a ∙ sym (position_is R available w x h m z p e b) in
        let apart : (n ≡ m → ⊥) = λ q. differ (ap (identity g) q ∙ ap (λ (v : ℕ). identity v m) one_place) in
        elim (ok.1.meets.rule_I n m y z p i j apart) [
          | inl c ↦ inl (let u = chain_ends R belongs x ok.1 (state_of available w) n m c in omega arith)
          | inr c ↦ inr (let u = chain_ends R belongs x ok.1 (state_of available w) m n c in omega arith)
        ]

  -- two different actions of a word on one peripheral: one has completed when the other starts
  pub one_peripheral : (w : Word) → GoodWord R belongs w → (g n y h m z p d e : ℕ)
      → (combined R w).Holds (identity g n) (Action y p) d → (combined R w).Holds (identity h m) (Action z p) e
      → (identity g n ≡ identity h m → ⊥) → Apart available w (identity g n) (identity h m)
  one_peripheral τ ok g n y h m z p d e a b differ = no_action R g n y p d a
  one_peripheral (w ▷ x) ok g n y h m z p d e (Joined.left a na) (Joined.left b nb) differ =
      let s1 = start_kept w x ok.0 g n y p d a in
      let e1 = end_kept w x ok.0 g n y p d a in
      let s2 = start_kept w x ok.0 h m z p e b in
      let e2 = end_kept w x ok.0 h m z p e b in
      elim (one_peripheral w ok.0 g n y h m z p d e a b differ) [ inl l ↦ inl (omega arith) | inr l ↦ inr (omega arith) ]
  one_peripheral (w ▷ x) ok g n y h m z p d e (Joined.left a na) (Joined.right b nb) differ = inl (between w x ok g n y h m z p d e a b)
  one_peripheral (w ▷ x) ok g n y h m z p d e (Joined.right a na) (Joined.left b nb) differ = inr (between w x ok h m z g n y p e d b a)
  one_peripheral (w ▷ x) ok g n y h m z p d e (Joined.right a na) (Joined.right b nb) differ = within w x ok g n y h m z p d e a b differ
