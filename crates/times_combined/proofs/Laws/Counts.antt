-- An instance can be processed exactly while more of its event have been emitted than processed.
use Rattle.std.proofs.Common.{◌∙◌, sym, ap, subst, arith, length-append}
use Rattle.std.specs.Prelude.{◌≡◌, refl, Bool, true, false, cond, ◌↔◌, List, [], ◌∷◌, ◌++◌, map, ℕ, zero, suc, ◌+◌, ◌<◌, length, ltb}
use Rattle.std.proofs.lemmas.List.{length-map}
use Rattle.basis.proofs.Laws.Lists.{cut_same}
use Rattle.plan.specs.declared.Node.{Node}
use Rattle.plan.specs.declared.Input.TheVariants.{Outcome, Nothing}
use Rattle.plan.specs.declared.Input.{Input}
use Rattle.plan.specs.Plan.{is_event, events_in}
use Rattle.activity.specs.Rules.{node}
use Rattle.times_combined.specs.Word.{emissions, Word, τ, ◌▷◌, size, times}
use Rattle.times_combined.proofs.Laws.Accepted.{GoodWord, Enough, Counted}
use Rattle.times_combined.specs.Combined.{Ident, named, Instance, processing, combined}
use Rattle.times_combined.proofs.Laws.Exec.{insert, emits_below, emits_of, rank_of}
use Rattle.times_combined.proofs.Laws.Instances.{Listing, instance_cut, next_instance, listing_grows}
use Rattle.times_combined.proofs.Laws.TimesEqual.{empty_listing}
use Rattle.times_combined.proofs.Laws.Unique.{shape_of}
use Rattle.times_combined.proofs.Laws.Exists.{Emitted-before, Ready}
use Rattle.times_combined.proofs.Laws.Computed.{emits}

-- how many of the first k nodes emit e
abbrev below : List Node → ℕ → ℕ → ℕ
below a e zero = 0
below a e (suc k) = below a e k + cond (is_event e (node a k).kind) 1 0

below_cons : (n : Node) (ns : List Node) (e k : ℕ) → below (n ∷ ns) e (suc k) ≡ cond (is_event e n.kind) 1 0 + below ns e k
below_cons n ns e zero = omega arith
below_cons n ns e (suc k) = let u = below_cons n ns e k in omega arith

below_all : (e : ℕ) (a : List Node) → below a e (length a) ≡ events_in e a
below_all e [] = refl
below_all e (n ∷ ns) = let u = below_all e ns in let v = below_cons n ns e (length ns) in omega arith

-- ---- lengths

length-insert : (rank : ℕ → ℕ) (n : ℕ) (ns : List ℕ) → length (insert rank n ns) ≡ suc (length ns)
unfolding insert
length-insert rank n [] = refl
length-insert rank n (k ∷ ns) = go (ltb (rank n) (rank k)) (length-insert rank n ns)
  where
    go : (b : Bool) → length (insert rank n ns) ≡ suc (length ns) → length (cond b (n ∷ k ∷ ns) (k ∷ insert rank n ns)) ≡ suc (suc (length ns))
    go true e = refl
    go false e = ap suc e

length_emits : (a : List Node) (e k : ℕ) → length (emits_below a e k) ≡ below a e k
unfolding emits_below
length_emits a e zero = refl
length_emits a e (suc k) = go (is_event e (node a k).kind) (length_emits a e k)
  where
    go : (b : Bool) → length (emits_below a e k) ≡ below a e k → length (cond b (insert (rank_of a) k (emits_below a e k)) (emits_below a e k)) ≡ below a e k + cond b 1 0
    go true h = let u = length-insert (rank_of a) k (emits_below a e k) in omega arith
    go false h = omega arith

-- the member with n before it
split_at : {X : Type 0} (n : ℕ) (xs : List X) → n < length xs → (ys : List X) × (x : X) × (zs : List X) × (xs ≡ ys ++ (x ∷ zs)) × (length ys ≡ n)
split_at n [] l = absurd (omega arith)
split_at zero (x ∷ xs) l = ([], x, xs, refl, refl)
split_at (suc n) (x ∷ xs) l = let c = split_at n xs (omega arith) in (x ∷ c.0, c.1, c.2, ap (λ z. x ∷ z) c.3, ap suc c.4)

module _ (R : ℕ) (belongs : ℕ → ℕ) where
  -- the nodes of e in the combined activity, in order
  pub listed : (e : ℕ) (w : Word) → GoodWord R belongs w → (xs : List Ident) × Listing (combined R w) e xs × (length xs ≡ emissions e w)
  listed e τ ok = ([], empty_listing R e, refl)
  listed e (w ▷ x) ok =
      let o = listed e w ok.0 in (
        o.0 ++ map (named (suc (size w))) (emits_of x.output e),
        listing_grows R belongs (combined R w) (processing w x.input) (size w) x.output (shape_of R belongs w ok.0) ok.1 e o.0 o.1 (emits_of x.output e) (emits R belongs x.output ok.1 e),
        (let l1 = length-append o.0 (map (named (suc (size w))) (emits_of x.output e)) in
            let l2 = length-map (emits_of x.output e) (named (suc (size w))) in
            let l3 = length_emits x.output e (length x.output) in
            let l5 = below_all e x.output in
            let l4 = o.2 in
            omega arith),
      )

  -- there is at most one instance k
  pub one_instance : (w : Word) → GoodWord R belongs w → (e k : ℕ) (y z : Ident) → Instance (combined R w) e (k + 1) y → Instance (combined R w) e (k + 1) z → y ≡ z
  one_instance w ok e k y z g h =
      let o = listed e w ok in
      let c = instance_cut (combined R w) e o.0 o.1 k y g in
      let d = instance_cut (combined R w) e o.0 o.1 k z h in
      cut_same c.0 d.0 y z c.1 d.1 (c.3 ∙ sym d.3) (sym c.2 ∙ d.2)

  -- the next instance to process exists exactly if more have been emitted
  pub enough_iff : (w : Word) → GoodWord R belongs w → (i : Input) → Emitted-before R w i ↔ Enough w i
  enough_iff w ok Nothing = (λ u. u, λ u. u)
  enough_iff w ok (Outcome e u) = (there, back)
    where
      o : (xs : List Ident) × Listing (combined R w) e xs × (length xs ≡ emissions e w)
      o = listed e w ok

      there : (y : Ident) × Instance (combined R w) e (times e w + 1) y → times e w < emissions e w
      there y =
          let c = instance_cut (combined R w) e o.0 o.1 (times e w) y.0 y.1 in
          let l1 = ap length c.2 in
          let l2 = length-append c.0 (y.0 ∷ c.1) in
          let l3 = c.3 in
          omega (arith, o.2)

      back : times e w < emissions e w → (y : Ident) × Instance (combined R w) e (times e w + 1) y
      back l =
          let c = split_at (times e w) o.0 (omega (arith, o.2)) in
          (c.1, subst (λ (n : ℕ). Instance (combined R w) e (n + 1) c.1) c.4 (next_instance (combined R w) e c.0 c.1 c.2 (subst (Listing (combined R w) e) c.3 o.1)))

  pub ready_iff : (w : Word) → GoodWord R belongs w → Ready R w ↔ Counted w
  ready_iff τ ok = (λ u. u, λ u. u)
  ready_iff (w ▷ x) ok =
      let r = ready_iff w ok.0 in
      let s = enough_iff w ok.0 x.input in
      (λ u. (r.0 u.0, s.0 u.1), λ u. (r.1 u.0, s.1 u.1))
