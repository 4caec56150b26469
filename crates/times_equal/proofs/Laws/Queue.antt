-- The queue of one event after an instance of some event has left it or joined it. Assumes nothing.
use Rattle.std.specs.Prelude.{◌≡◌, cond, ◌⊎◌, List, [], ◌∷◌, ◌++◌, map, ℕ, zero, suc, ◌+◌, ◌-◌, ◌*◌, ◌≤◌, ◌<◌, length, get_or, set, eqb, ltb}
use Rattle.std.proofs.Math.Path.{refl, ap}
use Rattle.std.proofs.Common.{sym, ap₂, ◌∙◌, subst, arith, get_or-set_same}
use Rattle.std.proofs.Math.Logic.{inl, inr}
use Rattle.std.proofs.Math.Decide.{ℕ_discrete, dec_lt}
use Rattle.std.proofs.Math.ListN.{length-set, get_or-eq_default}
use Rattle.std.proofs.Math.Seq.{get_or-set_other}
use borrow.Author.Tests.{lt-ltb, ltb-true, eq-eqb, ne_eqb}
use Rattle.basis.specs.Parts.{part}
use Rattle.basis.proofs.Laws.Parts.{part_same, part_set_apart, part_snoc}
use Rattle.plan.specs.declared.Input.{Input}
use Rattle.times_combined.proofs.Laws.Engine.{Floor, behind, taken}
use Rattle.times.specs.declared.Instance.{Instance}
use Rattle.times.specs.declared.Progress.{Progress}
use Rattle.times.specs.Queues.{no_instance, pending_of, queue_of, shifted_of, oldest_gone, processed_of, floor_of, queued_of}
use Rattle.times.proofs.Laws.Places.{shifted_outside, shifted_inside}
use Rattle.times.proofs.Laws.Fits.{by_test}
use Rattle.times_equal.proofs.Laws.Seen.{completion, seen, Whole, Pending}

-- an event of which one is pending has a queue
pub has_queue : (g : Progress) (e : ℕ) → Whole g → 0 < pending_of g e → e < 16
has_queue g e w p = elim (dec_lt e 16) [ yes l ↦ l | no l ↦ (let u = get_or-eq_default g.lengths 0 {n = e} (let v = w.lengths in omega arith) in absurd (omega arith)) ]

shifted_length : (k i : ℕ) (q : List Instance) → length (shifted_of i k q) ≡ length q
unfolding shifted_of
shifted_length zero i q = length-set q i no_instance
shifted_length (suc k) i q = shifted_length k (i + 1) (set q i (get_or q (i + 1) no_instance)) ∙ length-set q i (get_or q (i + 1) no_instance)

-- two queues share no place
pub apart : (f e i : ℕ) → (f ≡ e → ⊥) → i < 8 → (8 * f + i < 8 * e) ⊎ (8 * e + 7 < 8 * f + i)
apart f e i d l = elim (dec_lt f e) [ yes q ↦ inl (omega arith) | no q ↦ inr (omega arith) ]

-- ---- the oldest of e leaves

module _ (g : Progress) (e : ℕ) (w : Whole g) (p : 0 < pending_of g e) where
  pub gone_length : (f : ℕ) → pending_of (oldest_gone e g) f ≡ cond (eqb e f) (pending_of g f - 1) (pending_of g f)
  gone_length f = elim (ℕ_discrete f e) [
    | yes q ↦ ap (pending_of (oldest_gone e g)) q ∙ get_or-set_same g.lengths e (pending_of g e - 1) 0 (let u = has_queue g e w p in let v = w.lengths in omega arith) ∙ sym (rw (eq-eqb e f (sym q)) (ap (λ (z : ℕ). pending_of g z - 1) q))
    | no q ↦ get_or-set_other g.lengths e f (pending_of g e - 1) 0 q ∙ sym (rw (ne_eqb e f (λ s. q (sym s))))
  ]

  moved_up : (k : ℕ) → k ≤ 7 → part no_instance (shifted_of (8 * e) 7 g.pending) (8 * e) k ≡ part no_instance g.pending (8 * e + 1) k
  moved_up k l =
      part_same no_instance (shifted_of (8 * e) 7 g.pending) g.pending k (8 * e) (8 * e + 1)
      (λ n q. shifted_inside 7 (8 * e) g.pending (8 * e + n) (omega arith) (omega arith)
      ∙ (let z : 8 * e + n + 1 ≡ 8 * e + 1 + n = omega arith in ap (λ (i : ℕ). get_or g.pending i no_instance) z))

  left_alone : (f k : ℕ) → (f ≡ e → ⊥) → k ≤ 8 → part no_instance (shifted_of (8 * e) 7 g.pending) (8 * f) k ≡ part no_instance g.pending (8 * f) k
  left_alone f k d l =
      part_same no_instance (shifted_of (8 * e) 7 g.pending) g.pending k (8 * f) (8 * f)
      (λ n q. shifted_outside 7 (8 * e) g.pending (8 * f + n) (apart f e n d (omega arith)))

  -- what is left of a queue that is not empty
  behind_part : (q : List Instance) (i k : ℕ) → 0 < k → map completion (part no_instance q (i + 1) (k - 1)) ≡ behind (map completion (part no_instance q i k))
  behind_part q i zero l = absurd (omega arith)
  behind_part q i (suc k) l = let z : suc k - 1 ≡ k = omega arith in ap (λ (j : ℕ). map completion (part no_instance q (i + 1) j)) z

  pub gone_queue : ((f : ℕ) → pending_of g f ≤ 8) → (f : ℕ) → map completion (queue_of (oldest_gone e g) f) ≡ cond (eqb e f) (behind (map completion (queue_of g f))) (map completion (queue_of g f))
  gone_queue few f = elim (ℕ_discrete f e) [
    | yes q ↦
        (let x = few e in
        let z : pending_of (oldest_gone e g) e ≡ pending_of g e - 1 = gone_length e ∙ rw (eq-eqb e e refl) in
        rw (eq-eqb e f (sym q))
        (subst (λ (n : ℕ). map completion (queue_of (oldest_gone e g) n) ≡ behind (map completion (queue_of g n))) (sym q)
        (ap (λ (n : ℕ). map completion (part no_instance (shifted_of (8 * e) 7 g.pending) (8 * e) n)) z
        ∙ ap (map completion) (moved_up (pending_of g e - 1) (omega arith))
        ∙ behind_part g.pending (8 * e) (pending_of g e) p)))
    | no q ↦
        (let x = few f in
        let z : pending_of (oldest_gone e g) f ≡ pending_of g f = gone_length f ∙ rw (ne_eqb e f (λ s. q (sym s))) in
        rw (ne_eqb e f (λ s. q (sym s)))
        (ap (λ (n : ℕ). map completion (part no_instance (shifted_of (8 * e) 7 g.pending) (8 * f) n)) z
        ∙ ap (map completion) (left_alone f (pending_of g f) q x)))
  ]

  gone_whole : Whole (oldest_gone e g)
  gone_whole = record { available = w.available; latest = w.latest; lengths = length-set g.lengths e (pending_of g e - 1) ∙ w.lengths; pending = shifted_length 7 (8 * e) g.pending ∙ w.pending }

-- ---- what a transition processes

-- a queue that is not empty has an oldest instance
first-of : (q : List Instance) (i k : ℕ) → 0 < k → map completion (part no_instance q i k) ≡ (get_or q (i + 0) no_instance).end.0 ∷ map completion (part no_instance q (i + 1) (k - 1))
first-of q i zero l = absurd (omega arith)
first-of q i (suc k) l =
    let z : i ≡ i + 0 = omega arith in
    let y : k ≡ suc k - 1 = omega arith in
    ap₂ (λ (n j : ℕ). (get_or q n no_instance).end.0 ∷ map completion (part no_instance q (i + 1) j)) z y

pub processed_floor : (i : Input) (g : Progress) → Pending i g → Floor i (seen g) (floor_of i g)
unfolding floor_of
processed_floor Input.Nothing g p = refl
processed_floor (Input.Outcome e o) g p =
    (map completion (part no_instance g.pending (8 * e + 1) (pending_of g e - 1)), rw (lt-ltb 0 (pending_of g e) p) (first-of g.pending (8 * e) (pending_of g e) p))

pub processed_queue : (i : Input) (g : Progress) → Whole g → Pending i g → ((f : ℕ) → pending_of g f ≤ 8) → (f : ℕ) → map completion (queue_of (processed_of i g) f) ≡ taken i (seen g) f
unfolding processed_of
processed_queue Input.Nothing g w p few f = refl
processed_queue (Input.Outcome e o) g w p few f = rw (lt-ltb 0 (pending_of g e) p) (gone_queue g e w p few f)

pub processed_whole : (i : Input) (g : Progress) → Whole g → Pending i g → Whole (processed_of i g)
unfolding processed_of
processed_whole Input.Nothing g w p = w
processed_whole (Input.Outcome e o) g w p = rw (lt-ltb 0 (pending_of g e) p) (gone_whole g e w p)

-- ---- an instance joins

module _ (g : Progress) (f : ℕ) (x : Instance) (w : Whole g) (l : f < 16) where
  pub joined_queue : pending_of g f < 8 → queue_of (queued_of f x g) f ≡ queue_of g f ++ (x ∷ [])
  unfolding queued_of
  joined_queue p =
      rw (lt-ltb (pending_of g f) 8 p)
      (ap (part no_instance (set g.pending (8 * f + pending_of g f) x) (8 * f)) (get_or-set_same g.lengths f (pending_of g f + 1) 0 (let v = w.lengths in omega arith))
      ∙ part_snoc no_instance g.pending (8 * f) (pending_of g f) x (let v = w.pending in omega arith))

  pub joined_length : pending_of g f < 8 → pending_of (queued_of f x g) f ≡ pending_of g f + 1
  unfolding queued_of
  joined_length p = rw (lt-ltb (pending_of g f) 8 p) (get_or-set_same g.lengths f (pending_of g f + 1) 0 (let v = w.lengths in omega arith))

module _ (g : Progress) (f : ℕ) (x : Instance) where
  -- another event's queue
  pub other_length : (e : ℕ) → (e ≡ f → ⊥) → pending_of (queued_of f x g) e ≡ pending_of g e
  unfolding queued_of
  other_length e d = by_test (λ (h : Progress). pending_of h e ≡ pending_of g e) (ltb (pending_of g f) 8) (λ b. get_or-set_other g.lengths f e (pending_of g f + 1) 0 d) refl

  pub other_queue : (e : ℕ) → (e ≡ f → ⊥) → pending_of g e ≤ 8 → queue_of (queued_of f x g) e ≡ queue_of g e
  unfolding queued_of
  other_queue e d few =
      by_test (λ (h : Progress). queue_of h e ≡ queue_of g e) (ltb (pending_of g f) 8)
      (λ b. let p = ltb-true (pending_of g f) 8 b in
      ap (part no_instance (set g.pending (8 * f + pending_of g f) x) (8 * e)) (get_or-set_other g.lengths f e (pending_of g f + 1) 0 d)
      ∙ part_set_apart no_instance g.pending (8 * e) (pending_of g e) (8 * f + pending_of g f) x
      (elim (apart f e (pending_of g f) (λ q. d (sym q)) p) [ inl u ↦ inl u | inr u ↦ inr (omega arith) ]))
      refl

  pub queued_whole : Whole g → Whole (queued_of f x g)
  unfolding queued_of
  queued_whole w =
      by_test Whole (ltb (pending_of g f) 8)
      (λ b. record { available = w.available; latest = w.latest; lengths = length-set g.lengths f (pending_of g f + 1) ∙ w.lengths; pending = length-set g.pending (8 * f + pending_of g f) x ∙ w.pending })
      w

  pub queued_available : (queued_of f x g).available ≡ g.available
  unfolding queued_of
  queued_available = by_test (λ (h : Progress). h.available ≡ g.available) (ltb (pending_of g f) 8) (λ b. refl) refl

  pub queued_latest : (queued_of f x g).latest ≡ g.latest
  unfolding queued_of
  queued_latest = by_test (λ (h : Progress). h.latest ≡ g.latest) (ltb (pending_of g f) 8) (λ b. refl) refl
