-- What is read holds every number in the file: of a node, a transition, the automaton and the plan.
use Rattle.std.proofs.Math.Path.{◌≡◌, refl}
use Rattle.std.proofs.Common.{sym, ◌∙◌, ap, arith, ltb-true}
use Rattle.std.specs.Prelude.{Bool, cond, List, [], ◌∷◌, ◌++◌, ℕ, zero, suc, ◌+◌, ◌≤◌, ◌<◌, length, replicate, ltb}
use Rattle.std.proofs.Math.Bool.{true, false, not}
use Rattle.std.proofs.Math.ListN.{get_or}
use Rattle.wire.specs.Number.{present}
use Rattle.wire.proofs.Laws.Fields.{present_some}
use Rattle.wire.specs.Map.{bit, map_of}
use Rattle.wire.proofs.Laws.Maps.{map_bits}
use Rattle.format.specs.Format.{◌when◌, done, number, ◌>>=◌, part_of, optional, good, fault, first, Every}
use Rattle.format.proofs.Laws.Knowing.{Knows, Part, the_number, the_part, the_optional, Facts, weaken, assoc}
use Rattle.plan.specs.declared.Kind.{Kind}
use Rattle.plan.specs.declared.Node.{Node}
use Rattle.plan_file.proofs.Laws.Stages.{node_last, counted, timed, kinded}
use Rattle.plan_file.specs.PlanFile.{kind_bits, node_map, pred_rules, fault_order, outside, count, name, kind_stands, node_rule, rising, kind, node, padded}
pub use Rattle.plan_file.proofs.Laws.Basis.{inside, two, three, four, eight, filled_before, filled_at}

abbrev pub self : {A : Type 0} → A → A
self a = a

abbrev pub nothing : {A : Type 0} → A → Type 0
nothing a = Unit {0}

-- arrays filled from the front
module _ {A : Type 0} (d : A) where
  pub facts_at : {S : Type 0} (back : S → S) (get : ℕ → S → A) (s : S) (xs : List A) (i : ℕ) → ((k : ℕ) → k < length xs → get (i + k) s ≡ get_or xs k d) → Facts fault_order back (λ j x u. get j u ≡ x) i xs s
  facts_at back get s [] i h = tt
  facts_at back get s (x ∷ xs) i h =
      let e : i + 0 ≡ i = omega arith in
      ((rw e at (h 0 (omega arith))), facts_at back get s xs (i + 1) (λ k l. let f : i + suc k ≡ i + 1 + k = omega arith in rw f at (h (suc k) (omega arith))))

-- optional counts and the like: 0 where the bit does not stand
pub optional_is : {S B : Type 0} (back : B → S) (n w below : ℕ) (get : S → ℕ) (stands : Bool) → ((t : Bool) → first fault_order (n when t) ≡ cond t (fault n) good) → 0 < below
    → Part fault_order back (λ x. (present x ≡ stands) × (x < below)) (λ x s. get s ≡ x) (optional stands 0 (number w get (λ x. n when outside 1 below x)))
optional_is back n w below get stands told some =
    the_optional fault_order back (λ x. (present x ≡ stands) × (x < below)) (λ x s. get s ≡ x) stands 0 (number w get (λ x. n when outside 1 below x))
    (λ e.
    the_number fault_order back (λ x. (present x ≡ stands) × (x < below)) w get (λ x. n when outside 1 below x)
    (λ x i g. let r = inside n 1 below x told g in (present_some x r.0 ∙ sym e, r.1)))
    (λ e. (sym e, some))

pub name_is : {S B : Type 0} (back : B → S) (many : ℕ) (get : S → ℕ) → Part fault_order back (λ x. x < many) (λ x s. get s ≡ x) (name many get)
name_is back many get = the_number fault_order back (λ x. x < many) 1 get (λ x. 4 when outside 0 many x) (λ x i g. (inside 4 0 many x four g).1)

pub count_is : {S B : Type 0} (back : B → S) (most : ℕ) (get : S → ℕ) → Part fault_order back (λ x. (1 ≤ x) × (x < most + 1)) (λ x s. get s ≡ x) (count most get)
count_is back most get = the_number fault_order back (λ x. (1 ≤ x) × (x < most + 1)) 1 get (λ x. 3 when outside 1 (most + 1) x) (λ x i g. inside 3 1 (most + 1) x three g)

pub rising_is : {B : Type 0} (back : B → Node) (size k i low : ℕ)
    → Part fault_order back (λ xs. length xs ≡ k) (Facts fault_order back (λ j x s. get_or s.preds j 0 ≡ x) i) (rising size i low k)
rising_is back size zero i low = record { go_on = λ K follow h. weaken fault_order back (λ s. K s × Unit {0}) K (λ s k. k.0) (follow []) (h [] refl) }
rising_is {B} back size (suc k) i low =
    record {
      go_on = λ K follow h.
          (the_number fault_order back nothing 1 (λ n. get_or n.preds i 0) (pred_rules size low) (λ x j g. tt)
          ).go_on K (λ x. (rising size (i + 1) (x + 1) k >>= λ more. done (x ∷ more)) >>= follow)
          (λ x u.
          assoc fault_order back (λ s. K s × (get_or s.preds i 0 ≡ x)) (rising size (i + 1) (x + 1) k) (λ more. done (x ∷ more)) follow
          ((rising_is back size k (i + 1) (x + 1)).go_on (λ s. K s × (get_or s.preds i 0 ≡ x)) (λ more. follow (x ∷ more))
          (λ more q.
          weaken fault_order back (λ s. K s × Facts fault_order back (λ j x s. get_or s.preds j 0 ≡ x) i (x ∷ more) s)
          (λ s. (K s × (get_or s.preds i 0 ≡ x)) × Facts fault_order back (λ j x s. get_or s.preds j 0 ≡ x) (i + 1) more s) (λ s k. ((k.0, k.1.0), k.1.1)) (follow (x ∷ more))
          (h (x ∷ more) (ap suc q)))));
    }

module _ (peripherals resources events : ℕ) where
  kind_knows : (action claim release : Bool) → Knows fault_order self nothing (kind peripherals resources events action claim release)
  unfolding Knows
  kind_knows true claim release = λ a i g x j h. ((tt, refl), refl)
  kind_knows false true release = λ r i g. (tt, refl)
  kind_knows false false true = λ r i g. (tt, refl)
  kind_knows false false false = λ r i g. (tt, refl)

  kind_bits_lem : (action claim release event long : Bool) → kind_stands action claim release event long ≡ true
      → Every fault_order (λ k. kind_bits k ≡ action ∷ claim ∷ release ∷ event ∷ []) (kind peripherals resources events action claim release)
  unfolding Every
  kind_bits_lem true false false false w e = λ a i g x j h. refl
  kind_bits_lem false false false true w e = λ a i g. refl
  kind_bits_lem false true false false false e = λ a i g. refl
  kind_bits_lem false false true false false e = λ a i g. refl
  kind_bits_lem false false false false w e = absurd (let z : ◌≡◌ {A = ℕ} 0 1 = cc in omega arith)
  kind_bits_lem false true false false true e = absurd (let z : ◌≡◌ {A = ℕ} 0 1 = cc in omega arith)
  kind_bits_lem false false true false true e = absurd (let z : ◌≡◌ {A = ℕ} 0 1 = cc in omega arith)
  kind_bits_lem false false true true w e = absurd (let z : ◌≡◌ {A = ℕ} 0 1 = cc in omega arith)
  kind_bits_lem false true false true w e = absurd (let z : ◌≡◌ {A = ℕ} 0 1 = cc in omega arith)
  kind_bits_lem false true true v w e = absurd (let z : ◌≡◌ {A = ℕ} 0 1 = cc in omega arith)
  kind_bits_lem true false false true w e = absurd (let z : ◌≡◌ {A = ℕ} 0 1 = cc in omega arith)
  kind_bits_lem true false true v w e = absurd (let z : ◌≡◌ {A = ℕ} 0 1 = cc in omega arith)
  kind_bits_lem true true u v w e = absurd (let z : ◌≡◌ {A = ℕ} 0 1 = cc in omega arith)

  -- a good map of a node
  pub good_map : (m : ℕ) → first fault_order (2 when not (node_rule m)) ≡ good → (m < 64) × (kind_stands (bit 0 m) (bit 1 m) (bit 2 m) (bit 3 m) (bit 4 m) ≡ true)
  good_map m g = by_size (ltb m 64) refl
    where
      clash : {C : Type 0} → fault 2 ≡ good → C
      clash d = absurd (let z : ◌≡◌ {A = ℕ} 0 1 = cc in omega arith)

      by_kind : (t : Bool) → kind_stands (bit 0 m) (bit 1 m) (bit 2 m) (bit 3 m) (bit 4 m) ≡ t → ltb m 64 ≡ true → (m < 64) × (kind_stands (bit 0 m) (bit 1 m) (bit 2 m) (bit 3 m) (bit 4 m) ≡ true)
      by_kind true e s = (ltb-true m 64 s, e)
      by_kind false e s = clash (sym (rw (s, e)) ∙ g)

      by_size : (t : Bool) → ltb m 64 ≡ t → (m < 64) × (kind_stands (bit 0 m) (bit 1 m) (bit 2 m) (bit 3 m) (bit 4 m) ≡ true)
      by_size true s = by_kind (kind_stands (bit 0 m) (bit 1 m) (bit 2 m) (bit 3 m) (bit 4 m)) refl s
      by_size false s = clash (sym (rw s) ∙ g)

  joined : (xs ys : List Bool) (t u v w : Bool) → xs ≡ ys → t ≡ u → v ≡ w → xs ++ (t ∷ v ∷ []) ≡ ys ++ (u ∷ w ∷ [])
  joined xs ys t u v w e f g = rw (e, f, g)

  map_is : (m : ℕ) (k : Kind) (d c : ℕ) → m < 64 → kind_bits k ≡ bit 0 m ∷ bit 1 m ∷ bit 2 m ∷ bit 3 m ∷ [] → present d ≡ bit 4 m → present c ≡ bit 5 m
      → map_of (kind_bits k ++ (present d ∷ present c ∷ [])) ≡ m
  map_is m k d c h e f g = ap map_of (joined (kind_bits k) (bit 0 m ∷ bit 1 m ∷ bit 2 m ∷ bit 3 m ∷ []) (present d) (bit 4 m) (present c) (bit 5 m) e f g) ∙ sym (map_bits 6 m h)

  pub node_knows : (size : ℕ) → Knows fault_order self nothing (node peripherals resources events size)
  unfolding Knows node_map
  node_knows size =
      (the_number fault_order self (λ m. (m < 64) × (kind_stands (bit 0 m) (bit 1 m) (bit 2 m) (bit 3 m) (bit 4 m) ≡ true)) 1 node_map (λ m. 2 when not (node_rule m)) (λ m i g. good_map m g)
      ).go_on nothing (λ m. part_of (λ n. n.kind) (kind peripherals resources events (bit 0 m) (bit 1 m) (bit 2 m)) >>= kinded size m)
      (λ m good-m.
      (the_part fault_order self (λ k. kind_bits k ≡ bit 0 m ∷ bit 1 m ∷ bit 2 m ∷ bit 3 m ∷ []) self (λ (n : Node). n.kind) (kind peripherals resources events (bit 0 m) (bit 1 m) (bit 2 m))
      (kind_knows (bit 0 m) (bit 1 m) (bit 2 m)) (kind_bits_lem (bit 0 m) (bit 1 m) (bit 2 m) (bit 3 m) (bit 4 m) good-m.1)
      ).go_on _ (kinded size m)
      (λ k bits-k.
      (optional_is self 8 4 60_000_001 (λ (n : Node). n.duration) (bit 4 m) eight (omega arith)
      ).go_on _ (timed size m k)
      (λ d good-d.
      (optional_is self 3 1 9 (λ (n : Node). n.count) (bit 5 m) three (omega arith)
      ).go_on _ (counted size k d)
      (λ c good-c.
      (rising_is self size c 0 0
      ).go_on _ (node_last k d c)
      (λ preds long. (
        ((((tt, map_is m k d c good-m.0 bits-k good-d.0 good-c.0), refl), refl), refl),
        facts_at 0 self (λ j (s : Node). get_or s.preds j 0) (record { kind = k; duration = d; count = c; preds = padded 8 0 preds }) preds 0
            (λ j l. filled_at 0 preds (replicate 8 0) 0 j l (omega (arith, good-c.1))),
      ))))))
