-- What rounds keep: the nodes that are done are those of the order, each once and after its predecessors, and their
-- times are right. Assumes nothing.
use Rattle.std.specs.Prelude.{◌≡◌, refl, Bool, cond, ◌⊎◌, List, [], ◌∷◌, ◌++◌, ℕ, ◌+◌, ◌≤◌, ◌<◌, max, length, set}
use Rattle.std.proofs.Common.{sym, ap₂, ◌∙◌, subst, inl, inr}
use Rattle.std.proofs.Math.Path.{ap}
use Rattle.std.proofs.Math.Bool.{true, false}
use native.Mathlib.Omega.{arith}
use Rattle.std.proofs.Math.Decide.{ℕ_discrete}
use Rattle.std.proofs.Math.ListN.{length-set}
use Rattle.std.proofs.Math.Seq.{get_or-set_same, get_or-set_other}
use Rattle.basis.specs.Lists.{Among, Distinct}
use Rattle.basis.specs.Parts.{part}
use Rattle.basis.proofs.Laws.Lists.{among_left, among_right, among_either, fewer, distinct_both, seam, cut, upto, among_upto, length_upto, cut_one}
use Rattle.basis.proofs.Laws.Parts.{part_snoc}
use Rattle.basis.proofs.Laws.Bools.{clash}
use Rattle.basis.proofs.Laws.Flags.{no_flag}
use Rattle.basis.specs.Tests.{flag}
use Rattle.basis.proofs.Laws.PartsHold.{length_part}
use Rattle.time.specs.declared.Specified.{Specified}
use Rattle.plan.specs.Plan.{predecessors}
use Rattle.plan.specs.declared.Node.{Node}
use Rattle.activity.specs.Rules.{node}
use Rattle.times.specs.declared.Schedule.{Schedule}
use Rattle.times.specs.Times.{specified, at, ready_of, largest_of, start_by, start_of, placed_of, unscheduled, order_of}

-- ---- a start depends on the completions of the predecessors alone

largest_same : (E F : List Specified) (ms : List ℕ) → ((m : ℕ) → Among m ms → at E m ≡ at F m) → largest_of E ms ≡ largest_of F ms
unfolding largest_of
largest_same E F [] h = refl
largest_same E F (m ∷ ms) h = ap₂ max (h m (inl refl)) (largest_same E F ms (λ k i. h k (inr i)))

pub start-same : (available latest E F : List Specified) (x : Node) → ((m : ℕ) → Among m (predecessors x) → at E m ≡ at F m) → start_of available latest E x ≡ start_of available latest F x
unfolding start_of
start-same available latest E F x h = ap (λ (m : ℕ). start_by available latest m x.kind) (largest_same E F (predecessors x) h)

-- ---- which nodes are ready

pub ready_all : (done : List Bool) (ms : List ℕ) → ready_of done ms ≡ true → (m : ℕ) → Among m ms → flag done m ≡ true
unfolding ready_of
ready_all done [] e m i = absurd i
ready_all done (k ∷ ms) e m i = go (flag done k) refl e i (λ f j. ready_all done ms f m j)
  where
    go : (b : Bool) → flag done k ≡ b → cond b (ready_of done ms) false ≡ true → Among m (k ∷ ms) → (ready_of done ms ≡ true → Among m ms → flag done m ≡ true) → flag done m ≡ true
    go true q f (inl s) rest = ap (flag done) s ∙ q
    go true q f (inr j) rest = rest f j
    go false q f j rest = clash (sym f)

pub all_ready : (done : List Bool) (ms : List ℕ) → ((m : ℕ) → Among m ms → flag done m ≡ true) → ready_of done ms ≡ true
unfolding ready_of
all_ready done [] h = refl
all_ready done (k ∷ ms) h = rw (h k (inl refl)) (all_ready done ms (λ m i. h m (inr i)))

-- ---- the invariant

module _ (available latest : List Specified) (a : List Node) where
  pub record Laid (t : Schedule) : Type 0 where
    pub starts : length t.start ≡ 64
    pub ends : length t.end ≡ 64
    pub dones : length t.done ≡ 64
    pub orders : length t.order ≡ 64
    pub listed : (n : ℕ) → flag t.done n ≡ true → Among n (order_of t)
    pub done : (n : ℕ) → Among n (order_of t) → flag t.done n ≡ true
    pub within : (n : ℕ) → Among n (order_of t) → n < length a
    pub distinct : Distinct (order_of t)
    pub sorted : (ms : List ℕ) (n : ℕ) (os : List ℕ) → order_of t ≡ ms ++ (n ∷ os) → (m : ℕ) → Among m (predecessors (node a n)) → Among m ms
    pub start : (n : ℕ) → Among n (order_of t) → at t.start n ≡ start_of available latest t.end (node a n)
    pub end : (n : ℕ) → Among n (order_of t) → at t.end n ≡ at t.start n + (node a n).duration

  pub unscheduled_laid : Laid unscheduled
  unscheduled_laid = record {
    starts = refl;
    ends = refl;
    dones = refl;
    orders = refl;
    listed = λ n e. clash (sym e ∙ no_flag 64 n);
    done = λ n i. absurd i;
    within = λ n i. absurd i;
    distinct = tt;
    sorted = λ ms n os e m i. empty ms n os e;
    start = λ n i. absurd i;
    end = λ n i. absurd i;
  }
    where
      empty : {A : Type 0} (ms : List ℕ) (n : ℕ) (os : List ℕ) → [] ≡ ms ++ (n ∷ os) → A
      empty [] n os e = absurd (let u = ap (length {A = ℕ}) e in omega arith)
      empty (m ∷ ms) n os e = absurd (let u = ap (length {A = ℕ}) e in omega arith)

  -- ---- one node more

  module _ (few : length a ≤ 64) (t : Schedule) (ok : Laid t) (n : ℕ) (l : n < length a) (e : flag t.done n ≡ false) where
    fresh : Among n (order_of t) → ⊥
    fresh i = clash (sym (ok.done n i) ∙ e)

    counted : length (order_of t) ≡ t.count
    counted = length_part 0 t.order 0 t.count

    pub fits : t.count < length a
    fits =
        let u = fewer (n ∷ order_of t) (upto (length a)) (fresh, ok.distinct) (λ m i. elim i [ inl q ↦ among_upto (length a) m (omega arith) | inr j ↦ among_upto (length a) m (ok.within m j) ]) in
        let v = length_upto (length a) in
        omega (arith, counted)

    module _ (r : ready_of t.done (predecessors (node a n)) ≡ true) where
      abbrev s : ℕ
      s = start_of available latest t.end (node a n)

      abbrev u : Schedule
      u = placed_of n (node a n).duration s t

      longer : order_of u ≡ order_of t ++ (n ∷ [])
      unfolding placed_of
      longer = let z : t.count ≡ 0 + t.count = omega arith in ap (λ (k : ℕ). part 0 (set t.order k n) 0 (t.count + 1)) z ∙ part_snoc 0 t.order 0 t.count n (let v = ok.orders in let w = fits in omega arith)

      -- a member of the longer order
      either : (m : ℕ) → Among m (order_of u) → Among m (order_of t) ⊎ (m ≡ n)
      either m i = elim (among_either m (order_of t) (n ∷ []) (subst (Among m) longer i)) [ inl j ↦ inl j | inr j ↦ elim j [ inl q ↦ inr q | inr x ↦ absurd x ] ]

      -- a predecessor of n is done
      ahead : (m : ℕ) → Among m (predecessors (node a n)) → Among m (order_of t)
      ahead m i = ok.listed m (ready_all t.done (predecessors (node a n)) r m i)

      -- a node of the order is not n, and so is its predecessor
      other : (m : ℕ) → Among m (order_of t) → m ≡ n → ⊥
      other m i q = fresh (subst (λ (k : ℕ). Among k (order_of t)) q i)

      end_kept : (m : ℕ) → Among m (order_of t) → at u.end m ≡ at t.end m
      unfolding placed_of
      end_kept m i = ap (λ (z : Specified). z.0) (get_or-set_other t.end n m (specified (s + (node a n).duration)) (specified 0) (other m i))

      start_kept : (m : ℕ) → Among m (order_of t) → at u.start m ≡ at t.start m
      unfolding placed_of
      start_kept m i = ap (λ (z : Specified). z.0) (get_or-set_other t.start n m (specified s) (specified 0) (other m i))

      start_new : at u.start n ≡ s
      unfolding placed_of
      start_new = ap (λ (z : Specified). z.0) (get_or-set_same t.start n (specified s) (specified 0) (let v = ok.starts in omega arith))

      end_new : at u.end n ≡ s + (node a n).duration
      unfolding placed_of
      end_new = ap (λ (z : Specified). z.0) (get_or-set_same t.end n (specified (s + (node a n).duration)) (specified 0) (let v = ok.ends in omega arith))

      -- predecessors of a node of the order are in the order
      earlier : (k : ℕ) → Among k (order_of t) → (m : ℕ) → Among m (predecessors (node a k)) → Among m (order_of t)
      earlier k i m j =
          let c = cut k (order_of t) i in
          subst (Among m) (sym c.2) (among_left m c.0 (k ∷ c.1) (ok.sorted c.0 k c.1 c.2 m j))

      flag_kept : (m : ℕ) → (m ≡ n → ⊥) → flag u.done m ≡ flag t.done m
      unfolding placed_of
      flag_kept m d = get_or-set_other t.done n m true false d

      flag_new : flag u.done n ≡ true
      unfolding placed_of
      flag_new = get_or-set_same t.done n true false (let v = ok.dones in omega arith)

      lengths_kept : (length u.start ≡ 64) × (length u.end ≡ 64) × (length u.done ≡ 64) × (length u.order ≡ 64)
      unfolding placed_of
      lengths_kept = (
        length-set t.start n (specified s) ∙ ok.starts,
        length-set t.end n (specified (s + (node a n).duration)) ∙ ok.ends,
        length-set t.done n true ∙ ok.dones,
        length-set t.order t.count n ∙ ok.orders,
      )

      pub placed_laid : Laid u
      placed_laid = record {
        starts = lengths_kept.0;
        ends = lengths_kept.1;
        dones = lengths_kept.2;
        orders = lengths_kept.3;
        listed = λ m f. elim (ℕ_discrete m n) [
          | yes q ↦ subst (Among m) (sym longer) (among_right m (order_of t) (n ∷ []) (inl q))
          | no q ↦ subst (Among m) (sym longer) (among_left m (order_of t) (n ∷ []) (ok.listed m (sym (flag_kept m q) ∙ f)))
        ];
        done = λ m i. elim (either m i) [
          | inl j ↦ flag_kept m (other m j) ∙ ok.done m j
          | inr q ↦ ap (flag u.done) q ∙ flag_new
        ];
        within = λ m i. elim (either m i) [ inl j ↦ ok.within m j | inr q ↦ omega arith ];
        distinct = subst Distinct (sym longer) (distinct_both (order_of t) (n ∷ []) ok.distinct (λ i. i, tt) (λ m i j. elim j [ inl q ↦ other m i q | inr x ↦ x ]));
        sorted = λ ms k os f m i. elim (seam (order_of t) (n ∷ []) ms k os (sym longer ∙ f)) [
          | inl c ↦ ok.sorted ms k c.0 c.1 m i
          | inr c ↦
              (let o = cut_one n c.0 k os c.2 in
              subst (Among m) (sym c.1) (among_left m (order_of t) c.0 (ahead m (subst (λ (z : ℕ). Among m (predecessors (node a z))) o.1 i))))
        ];
        start = λ m i. elim (either m i) [
          | inl j ↦ start_kept m j ∙ ok.start m j ∙ start-same available latest t.end u.end (node a m) (λ k q. sym (end_kept k (earlier m j k q)))
          | inr q ↦ subst (λ (z : ℕ). at u.start z ≡ start_of available latest u.end (node a z)) (sym q) (start_new ∙ start-same available latest t.end u.end (node a n) (λ k p. sym (end_kept k (ahead k p))))
        ];
        end = λ m i. elim (either m i) [
          | inl j ↦ end_kept m j ∙ ok.end m j ∙ ap (λ (z : ℕ). z + (node a m).duration) (sym (start_kept m j))
          | inr q ↦ subst (λ (z : ℕ). at u.end z ≡ at u.start z + (node a z).duration) (sym q) (end_new ∙ ap (λ (z : ℕ). z + (node a n).duration) (sym start_new))
        ];
      }
