-- The nodes of a word by their places; and nothing that a transition or a later one emits starts before what the transition
-- processes has completed.
use Rattle.std.specs.Prelude.{◌≡◌, refl, ◌⊎◌, List, [], ◌∷◌, ◌++◌, map, ℕ, zero, suc, ◌+◌, ◌≤◌, ◌<◌, length}
use Rattle.std.proofs.Common.{sym, ap, ◌∙◌, subst, inl, inr, arith, length-append}
use Rattle.plan.specs.declared.Kind.{Kind}
use Rattle.plan.specs.declared.Kind.TheVariants.{Claim}
use Rattle.plan.specs.declared.Node.{Node}
use Rattle.plan.specs.Plan.{predecessors}
use Rattle.activity.specs.Rules.{node}
use Rattle.times_combined.specs.Word.{Step, Word, τ, ◌▷◌, Begins, here, longer, size}
use Rattle.times_combined.proofs.Laws.Accepted.{Good, GoodWord}
use Rattle.times_combined.specs.Combined.{Graph, Ident, named, claimed, freed, NotClaim, Nodes, Joined, Instance, combined, identity}
use Rattle.times_combined.proofs.Laws.Engine.{State, Timed, Available}
use Rattle.times_combined.proofs.Laws.Exec.{rank_of, oldest_of, floor_of, raised_of, starts_of, ends_of, next_of, state_of, start_in}
use Rattle.times_combined.proofs.Laws.Shape.{place, is_claim_lem, node_place_lem}
use Rattle.times_combined.proofs.Laws.OneActivity.{latest_bound, some_arrow}
use Rattle.times_combined.proofs.Laws.Ranks.{rises}
use Rattle.times_combined.proofs.Laws.Instances.{Listing, only_instance, instance_cut}
use Rattle.times_combined.proofs.Laws.TimesEqual.{Emitted}
use Rattle.times_combined.proofs.Laws.Computed.{timed, released}
use Rattle.times_combined.proofs.Laws.Exists.{last_start, kept_start}
use Rattle.times_combined.proofs.Laws.Unique.{shape_of, good_beginning}

-- ---- places

-- claims stand at the opening alone
pub claim_place : (R : ℕ) (w : Word) (y : Ident) (k : Kind) (r d : ℕ) → k ≡ Claim r → (combined R w).Holds y k d → place y ≡ 0
claim_place R τ y k r d c h = node_place_lem R 0 [] y k d h
claim_place R (w ▷ x) y k r d c (Joined.left h nr) = claim_place R w y k r d c h
claim_place R (w ▷ x) y k r d c (Joined.right h nc) = absurd (subst NotClaim c nc)

-- ---- starts

module _ (R : ℕ) (belongs : ℕ → ℕ) (a : List Node) (ok : Good R belongs a) (free last S C : ℕ → ℕ) (t : Timed a free last S C) (c : ℕ) (low : (r : ℕ) → r < R → c ≤ free r) where
  -- no node starts before the earliest of its activity's resources is available
  from_rank : (b n : ℕ) → n < length a → rank_of a n < b → c ≤ S n
  from_rank zero n l h = absurd (omega arith)
  from_rank (suc b) n l h = go (is_claim_lem (node a n).kind) (λ m i r. from_rank b m i r)
    where
      go : ((r : ℕ) × ((node a n).kind ≡ Claim r)) ⊎ NotClaim (node a n).kind → ((m : ℕ) → m < length a → rank_of a m < b → c ≤ S m) → c ≤ S n
      go (inl i) rec =
          let e = t.claims n i.0 (record { within = l; kind = i.1 }) in
          let u = low i.0 (ok.named n i.0 (record { within = l; kind = i.1 })) in
          omega arith
      go (inr nc) rec =
          let m = some_arrow R belongs a ok n (node a n).kind l refl nc in
          let u = rec m.0 (ok.inside m.0 n m.1) (let r = rises ok m.0 n m.1 in omega arith) in
          let e = t.ends m.0 (ok.inside m.0 n m.1) in
          let v = latest_bound C m.0 (predecessors (node a n)) m.1.from in
          let z = t.others n l nc in
          omega arith

  pub not-before : (n : ℕ) → n < length a → c ≤ S n
  not-before n l = from_rank (suc (rank_of a n)) n l (omega arith)

module _ (R : ℕ) (belongs : ℕ → ℕ) (x : Step) (ok : Good R belongs x.output) (s : State) (c : ℕ) (low : (r : ℕ) → r < R → c ≤ raised_of x s r) where
  start_low : (n : ℕ) → n < length x.output → c ≤ starts_of x s n
  start_low = not-before R belongs x.output ok (raised_of x s) s.last (starts_of x s) (ends_of x s) (timed R belongs x.output ok (raised_of x s) s.last) c low

  free_low : (r : ℕ) → r < R → c ≤ (next_of x s).free r
  free_low r l = go (released R belongs x.output ok (ends_of x s) s (floor_of x.input s) r)
    where
      go : Available x.output (ends_of x s) s (floor_of x.input s) r ((next_of x s).free r) → c ≤ (next_of x s).free r
      go (inl i) =
          let u = start_low i.0 i.1.within in
          let e = (timed R belongs x.output ok (raised_of x s) s.last).ends i.0 i.1.within in
          let z = i.2 in
          omega arith
      go (inr i) = let u = low r l in let z = i.1 in omega arith

-- ---- the instance that is processed

-- the oldest of a queue is the completion of the next instance
pub oldest_is : (G : Graph) (e n : ℕ) (C : Ident → ℕ) (queue : List ℕ) → Emitted G e n C queue → (y : Ident) → Instance G e (n + 1) y → oldest_of queue ≡ C y
oldest_is G e n C queue em y h = go em.pending refl
  where
    go : (is : List Ident) → em.pending ≡ is → oldest_of queue ≡ C y
    go [] g =
        let q = instance_cut G e (em.past ++ em.pending) em.listing n y h in
        let l1 = length-append em.past em.pending in
        let l2 = ap length g in
        let l3 = ap length q.2 in
        let l4 = length-append q.0 (y ∷ q.1) in
        let l5 = q.3 in
        let l6 = em.count in
        absurd (omega arith)
    go (i ∷ is) g =
        ap oldest_of (em.completions ∙ ap (map C) g)
        ∙ ap C (only_instance G e em.past i is (subst (λ (l : List Ident). Listing G e (em.past ++ l)) g em.listing) y (subst (λ (k : ℕ). Instance G e (k + 1) y) (sym em.count) h))

-- ---- words

named_claimed : {A : Type 0} {q r p n : ℕ} → claimed q r ≡ named p n → A
named_claimed e = absurd (let z : ◌≡◌ {A = ℕ} 0 1 = cc in omega arith)

named_freed : {A : Type 0} {q r p n : ℕ} → freed q r ≡ named p n → A
named_freed e = absurd (let z : ◌≡◌ {A = ℕ} 0 1 = cc in omega arith)

-- a node of the last transition, or of an earlier one
module _ (R : ℕ) (belongs available : ℕ → ℕ) (c : ℕ) (w : Word) (x : Step) (ok : GoodWord R belongs (w ▷ x)) (low : (r : ℕ) → r < R → c ≤ raised_of x (state_of available w) r) where
  pub by_side : (q n : ℕ) (k : Kind) (d : ℕ) → (combined R (w ▷ x)).Holds (identity q n) k d → ((combined R w).Holds (identity q n) k d → c ≤ start_in available w (identity q n)) → c ≤ start_in available (w ▷ x) (identity q n)
  by_side q n k d (Joined.left h nr) before =
      let l = (shape_of R belongs w ok.0).places (identity q n) k d h in
      let e = kept_start available w x q n (omega arith) in
      let b = before h in
      omega arith
  by_side q n k d (Joined.right h nc) before = own (identity q n) k d h refl
    where
      own : (y : Ident) (k : Kind) (d : ℕ) → Nodes R (suc (size w)) x.output y k d → y ≡ identity q n → c ≤ start_in available (w ▷ x) (identity q n)
      own y k d (Nodes.own {n = m} l f g) e =
          let u = last_start available w x m in
          let v = start_low R belongs x ok.1 (state_of available w) c low m l in
          let z = ap (start_in available (w ▷ x)) e in
          omega arith
      own y k d (Nodes.claim l u) e = named_claimed e
      own y k d (Nodes.release l u) e = named_freed e

module _ (R : ℕ) (belongs available : ℕ → ℕ) (c : ℕ) where
  -- resources that are not available before c after a word are not so after a longer one
  pub free_later : (w v : Word) → Begins w v → GoodWord R belongs v → ((r : ℕ) → r < R → c ≤ (state_of available w).free r) → (r : ℕ) → r < R → c ≤ (state_of available v).free r
  free_later w v here ok low r l = low r l
  free_later w v (longer {w = u} {x} b) ok low r l =
      free_low R belongs x ok.1 (state_of available u) c (λ z i. let q = free_later w u b ok.0 low z i in omega arith) r l

  raised_low : (w : Word) (x : Step) → c ≤ floor_of x.input (state_of available w) → (r : ℕ) → r < R → c ≤ raised_of x (state_of available w) r
  raised_low w x low r l = omega arith

  -- from the transition x on, which processes something that completes at c or later
  pub start_from : (w : Word) (x : Step) (v : Word) → Begins (w ▷ x) v → GoodWord R belongs v → c ≤ floor_of x.input (state_of available w) → (q n : ℕ) (k : Kind) (d : ℕ) → size w ≤ q → (combined R v).Holds (identity q n) k d → c ≤ start_in available v (identity q n)
  start_from w x v here ok low q n k d l h =
      by_side R belongs available c w x ok (raised_low w x low) q n k d h
      (λ g. absurd (let u = (shape_of R belongs w ok.0).places (identity q n) k d g in omega arith))
  start_from w x v (longer {w = u} {x = z} b) ok low q n k d l h =
      let first = good_beginning R belongs available (w ▷ x) u ok.0 b in
      by_side R belongs available c u z ok
      (λ r i. let f = free_later (w ▷ x) u b ok.0 (free_low R belongs x first.1 (state_of available w) c (raised_low w x low)) r i in omega arith) q n k d h
      (λ g. start_from w x u b ok.0 low q n k d l g)
