-- What the description asks of a number and of a node: the limits that it sets them.
use Rattle.std.specs.Prelude.{◌≡◌, Bool, cond, [], ◌∷◌, ◌++◌, ◌↔◌, ℕ, zero, suc, ◌+◌, ◌^◌, ◌≤◌, ◌<◌, get_or, eqb}
use Rattle.std.proofs.Math.Path.{refl}
use Rattle.std.proofs.Common.{sym, ◌∙◌, subst, inl, inr, eq-or-lt_of_le, arith}
use Rattle.std.proofs.Math.Bool.{true, false, not}
use Rattle.std.proofs.Math.Decide.{dec_lt}
use borrow.Author.Tests.{le-leb, lt-ltb, le-ltb}
use Rattle.wire.specs.Number.{present}
use Rattle.wire.proofs.Laws.Fields.{present_none, present_is}
use Rattle.wire.specs.Map.{bit}
use Rattle.wire.proofs.Laws.Maps.{map_below}
use Rattle.format.specs.Format.{◌when◌, Format, done, number, ◌>>=◌, good, fault, first, Holds, result}
use Rattle.format.proofs.Laws.Format.{then_iff, last_iff, part_iff}
use Rattle.plan.specs.declared.Kind.{Kind}
use Rattle.plan.specs.declared.Node.{Node}
use Rattle.plan.specs.declared.Plan.{Plan}
use Rattle.plan.specs.Limits.{KindNames, NodeInLimits, Brief, ByteAction, NodeWritten}
use Rattle.plan_file.specs.PlanFile.{fault_order, outside, name, one, other, kind_place, kind_bits, node_map, kind_stands, node_rule, pred_rules, rising, duration, arrow_count, node}
use Rattle.plan_file.proofs.Laws.Basis.{inside, three, four, eight, below_among, among_below}
use Rattle.plan_file.proofs.Laws.Stages.{node_last, counted, timed, kinded}
use Rattle.plan_file.proofs.Laws.Reads.{may, node_bit, duration_read, count_read, told, kind_part, is_told_lem, kind_read}

-- a number
module _ {S : Type 0} (n w below : ℕ) (get : S → ℕ) (s : S) (by : (t : Bool) → first fault_order (n when t) ≡ cond t (fault n) good) (wide : below ≤ 256 ^ w) where
  pub bounded : (low : ℕ) → Holds fault_order (number w get (λ x. n when outside low below x)) s ↔ ((low ≤ get s) × (get s < below))
  unfolding Holds
  bounded low = (
    (λ h. inside n low below (get s) by h.1),
    (λ q. (omega (arith, q.1), rw (by (outside low below (get s)), le-leb low (get s) q.0, lt-ltb (get s) below q.1), tt)),
  )

  -- that is absent where it is 0
  pub may_iff : (stands : Bool) → stands ≡ present (get s) → 0 < below → Holds fault_order (may n w below get s stands) s ↔ (get s < below)
  unfolding Holds
  may_iff true e some = ((λ h. ((bounded 1).0 h).1), (λ l. (bounded 1).1 (present_is (get s) (sym e), l)))
  may_iff false e some = ((λ h. let z = present_none (get s) (sym e) in omega arith), (λ l. tt))

pub named : {S : Type 0} (many : ℕ) (get : S → ℕ) (s : S) → many ≤ 256 → Holds fault_order (name many get) s ↔ (get s < many)
named many get s wide = let b = bounded 4 1 many get s four wide 0 in ((λ h. (b.0 h).1), (λ l. b.1 (omega arith, l)))

-- k predecessors from place i on, the first at least `low`
record Climbs (n : Node) (size i low k : ℕ) : Type 0 where
  below : (j : ℕ) → i ≤ j → j < i + k → get_or n.preds j 0 < size
  rises : (j : ℕ) → i ≤ j → j + 1 < i + k → get_or n.preds j 0 < get_or n.preds (j + 1) 0
  least : 0 < k → low ≤ get_or n.preds i 0

pred_good : (size low x : ℕ) → first fault_order (pred_rules size low x) ≡ good → (x < size) × (low ≤ x)
pred_good size low x g =
    elim (dec_lt x size) [
      | no u ↦
          let d : fault 4 ≡ good = sym (rw (le-leb 0 x (omega arith), le-ltb x size (omega arith))) ∙ g in
          absurd (let z : ◌≡◌ {A = ℕ} 0 1 = cc in omega arith)
      | yes u ↦
          elim (dec_lt x low) [
            | yes l ↦
                let d : fault 5 ≡ good = sym (rw (le-leb 0 x (omega arith), lt-ltb x size u, lt-ltb x low l)) ∙ g in
                absurd (let z : ◌≡◌ {A = ℕ} 0 1 = cc in omega arith)
            | no l ↦ (u, omega arith)
          ]
    ]

rising_iff : (n : Node) (size : ℕ) → size ≤ 256 → (i low k : ℕ) → Holds fault_order (rising size i low k) n ↔ Climbs n size i low k
unfolding Holds
rising_iff n size wide i low zero =
    ((λ h. record { below = λ j a b. absurd (omega arith); rises = λ j a b. absurd (omega arith); least = λ l. absurd (omega arith) }), (λ c. tt))
rising_iff n size wide i low (suc k) =
    let x = get_or n.preds i 0 in
    let t = rising size (i + 1) (x + 1) k in
    let r = last_iff fault_order t (λ more. done (x ∷ more)) n (λ more. tt) (rising_iff n size wide (i + 1) (x + 1) k) in (
      (λ h. step (pred_good size low x h.1) (r.0 h.2)),
      (λ c.
          let a = c.below i (omega arith) (omega arith) in
          let b = c.least (omega arith) in (
            omega arith,
            rw (le-leb 0 x (omega arith), lt-ltb x size a, le-ltb x low b),
            r.1 (record {
              below = λ j l m. c.below j (omega arith) (omega arith);
              rises = λ j l m. c.rises j (omega arith) (omega arith);
              least = λ l. omega (arith, c.rises i (omega arith) (omega arith));
            }),
          )),
    )
  where
    step : (get_or n.preds i 0 < size) × (low ≤ get_or n.preds i 0) → Climbs n size (i + 1) (get_or n.preds i 0 + 1) k → Climbs n size i low (suc k)
    step g c = record {
      below = λ j l m. elim (eq-or-lt_of_le l) [ inl e ↦ subst (λ (q : ℕ). get_or n.preds q 0 < size) e g.0 | inr h ↦ c.below j (omega arith) (omega arith) ];
      rises = λ j l m.
          elim (eq-or-lt_of_le l) [
            | inl e ↦ subst (λ (q : ℕ). get_or n.preds q 0 < get_or n.preds (q + 1) 0) e (omega (arith, c.least (omega arith)))
            | inr h ↦ c.rises j (omega arith) (omega arith)
          ];
      least = λ h. g.1;
    }

-- the map
rule_is : (m : ℕ) (s t u v w : Bool) → m < 64 → bit 0 m ≡ s → bit 1 m ≡ t → bit 2 m ≡ u → bit 3 m ≡ v → bit 4 m ≡ w → node_rule m ≡ kind_stands s t u v w
rule_is m s t u v w l a b c d e = rw (lt-ltb m 64 l, a, b, c, d, e)

brief_iff : (k : Kind) (d : ℕ) → (first fault_order (2 when not (kind_stands (eqb (kind_place k) 0) (eqb (kind_place k) 1) (eqb (kind_place k) 2) (eqb (kind_place k) 3) (present d))) ≡ good) ↔ Brief k d
brief_iff k d = by k (present d) refl
  where
    none : (t : Bool) → present d ≡ t → (first fault_order (2 when not (not t)) ≡ good) ↔ (d ≡ 0)
    none true e = ((λ h. absurd (let z : ◌≡◌ {A = ℕ} 0 1 = cc in omega arith)), (λ z. absurd (omega (arith, present_is d e))))
    none false e = ((λ h. present_none d e), (λ z. refl))

    by : (k : Kind) (t : Bool) → present d ≡ t → (first fault_order (2 when not (kind_stands (eqb (kind_place k) 0) (eqb (kind_place k) 1) (eqb (kind_place k) 2) (eqb (kind_place k) 3) t)) ≡ good) ↔ Brief k d
    by (Kind.Action a x) t e = ((λ h. tt), (λ u. refl))
    by (Kind.Claim r) t e = none t e
    by (Kind.Release r) t e = none t e
    by (Kind.Event v) t e = ((λ h. tt), (λ u. refl))

below_64 : (n : Node) → node_map n < 64
unfolding node_map
below_64 n = map_below (kind_bits n.kind ++ (present n.duration ∷ present n.count ∷ []))

map_iff : (n : Node) → Holds fault_order (number 1 node_map (λ m. 2 when not (node_rule m))) n ↔ Brief n.kind n.duration
unfolding Holds
map_iff n =
    let b = brief_iff n.kind n.duration in
    let e = rule_is (node_map n) _ _ _ _ _ (below_64 n) (node_bit n 0) (node_bit n 1) (node_bit n 2) (node_bit n 3) (node_bit n 4) in
    ((λ h. b.0 (subst (λ (t : Bool). first fault_order (2 when not t) ≡ good) e h.1)), (λ q. (omega (arith, below_64 n), subst (λ (t : Bool). first fault_order (2 when not t) ≡ good) (sym e) (b.1 q), tt)))

module _ (p : Plan) (px : p.peripherals < 65) (pr : p.resources < 17) (pe : p.events < 17) where
  abbrev X : ℕ
  X = p.peripherals

  abbrev R : ℕ
  R = p.resources

  abbrev E : ℕ
  E = p.events

  kind_iff : (k : Kind) → Holds fault_order (told X R E k) k ↔ (ByteAction k × KindNames p k)
  unfolding Holds
  kind_iff (Kind.Action a x) = let b = named X other (Kind.Action a x) (omega arith) in ((λ h. (h.0, b.0 h.2)), (λ q. (q.0, refl, b.1 q.1)))
  kind_iff (Kind.Claim r) = let b = named R one (Kind.Claim r) (omega arith) in ((λ h. (tt, b.0 h)), (λ q. b.1 q.1))
  kind_iff (Kind.Release r) = let b = named R one (Kind.Release r) (omega arith) in ((λ h. (tt, b.0 h)), (λ q. b.1 q.1))
  kind_iff (Kind.Event e) = let b = named E one (Kind.Event e) (omega arith) in ((λ h. (tt, b.0 h)), (λ q. b.1 q.1))

  module _ (size : ℕ) (small : size < 65) (n : Node) where
    abbrev m : ℕ
    m = node_map n

    abbrev Asked : Type 0
    Asked = Brief n.kind n.duration × ((ByteAction n.kind × KindNames p n.kind) × ((n.duration < 60_000_001) × ((n.count < 9) × Climbs n size 0 0 n.count)))

    asked : Holds fault_order (node X R E size) n ↔ Asked
    unfolding Holds result
    asked =
        then_iff fault_order (number 1 node_map (λ m. 2 when not (node_rule m))) (λ m. kind_part X R E m >>= kinded size m) n m refl (map_iff n)
        (λ a.
        then_iff fault_order (kind_part X R E m) (kinded size m) n n.kind (kind_read X R E n)
        (subst (λ (t : Format Node Kind). Holds fault_order t n ↔ (ByteAction n.kind × KindNames p n.kind)) (sym (is_told_lem X R E n)) (part_iff fault_order (λ (n : Node). n.kind) (told X R E n.kind) n (kind_iff n.kind)))
        (λ b.
        then_iff fault_order (duration m) (timed size m n.kind) n n.duration (duration_read n) (may_iff 8 4 60_000_001 (λ n. n.duration) n eight (omega arith) (bit 4 m) (node_bit n 4) (omega arith))
        (λ c.
        then_iff fault_order (arrow_count m) (counted size n.kind n.duration) n n.count (count_read n) (may_iff 3 1 9 (λ n. n.count) n three (omega arith) (bit 5 m) (node_bit n 5) (omega arith))
        (λ d. last_iff fault_order (rising size 0 0 n.count) (node_last n.kind n.duration n.count) n (λ xs. tt) (rising_iff n size (omega arith) 0 0 n.count)))))

    pub node_iff : Holds fault_order (node X R E size) n ↔ (NodeInLimits p size n × NodeWritten n)
    node_iff = (
      (λ h.
          let q = asked.0 h in
          let c = q.1.1.1.1 in (
            record { names = q.1.0.1; duration = omega (arith, q.1.1.0); few = omega (arith, q.1.1.1.0); arrows = below_among size n.count n.preds (λ j l. c.below j (omega arith) (omega arith)) },
            record { rising = λ j l. c.rises j (omega arith) (omega arith); brief = q.0; action = q.1.0.0 },
          )),
      (λ q.
          let l = q.0 in
          let w = q.1 in
          asked.1 (
            w.brief,
            (
              (w.action, l.names),
              (
                omega (arith, l.duration),
                (
                  omega (arith, l.few),
                  record { below = λ j a b. among_below size n.count n.preds l.arrows j (omega arith); rises = λ j a b. w.rising j (omega arith); least = λ h. omega arith },
                ),
              ),
            ),
          )),
    )
