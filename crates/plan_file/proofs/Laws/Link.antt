-- The reader of crate plan gives the answers of the description: the plan, or its fault's number and place.
use Rattle.std.specs.Prelude.{◌≡◌, Bool, cond, not, None, Result, Ok, Err, set, leb, ltb}
use Rattle.std.proofs.Math.Path.{refl, ap}
use Rattle.std.proofs.Common.{◌∙◌, add-one}
use Rattle.std.proofs.Math.Bool.{true, false}
use mathlib.Core.List.{List, [], ◌∷◌}
use Prim.Native.Nat.{ℕ, zero, suc, ◌+◌, ◌≤◌, ◌<◌}
use native.Mathlib.Omega.{arith}
use Rattle.std.proofs.Math.Decide.{dec_le, dec_lt}
use Rattle.std.proofs.Math.ListN.{length, get_or}
use Rattle.std.proofs.lemmas.List.Edits.{sets}
use borrow.Author.Tests.{le-leb, lt-leb, le-ltb, lt-ltb}
use Rattle.wire.specs.Number.{little}
use Rattle.wire.specs.Number as wire
use Rattle.format.specs.Format.{Rule, ◌when◌, Format, done, field, number, ◌>>=◌, part_of, optional, each, Found, good, fault, first, Answer, read, refused, on_found, parse}
use Rattle.format.specs.Writing.{Bytes}
use Rattle.format.proofs.Laws.Format.{parse_assoc}
use Rattle.format.proofs.Laws.Writing.{little_below}
use Rattle.plan.specs.declared.Fault.{Fault}
use Rattle.plan.specs.declared.Kind.{Kind}
use Rattle.plan.specs.declared.Node.{Node}
use Rattle.plan.specs.declared.FaultAt.{FaultAt}
use Rattle.plan.specs.declared.fields.Preds.{Preds}
use Rattle.plan.specs.Fault.{number_of}
use Rattle.plan.specs.Fields.{Read, found, faulty, and_then, byte_at, any_at, name_at, count_at, optional_count, numbers_then}
use Rattle.plan.specs.Nodes.{asks_by, kind_by, preds_loop}
use Rattle.plan_file.proofs.Laws.Basis.{three, four}
use Rattle.plan_file.specs.PlanFile.{pred_rules, fault_order, outside, count, name, kind_stands, rising, kind}

-- the answer of the description for what the reader answers
abbrev pub told : {A : Type 0} → Read A → Answer A
told (Ok x) = read x.0 x.1
told (Err e) = refused (number_of e.fault) e.place

-- `W` is what becomes of the answer at last: nothing for a part, the test for bytes left over for the whole
module _ (b : List ℕ) (bytes : Bytes b) {A B : Type 0} (W : Answer A → Answer B) (still : (n p : ℕ) → W (refused n p) ≡ refused n p) where
  abbrev pub at_place : {S : Type 0} → Format S A → ℕ → Answer B
  at_place t at = W (parse 1 fault_order b t at)

  -- a field: short, or its number in hand
  pub on_field_lem : {S : Type 0} (w : ℕ) (get : S → ℕ) (rules : ℕ → List Rule) (rest : ℕ → Format S A) (at : ℕ) (r : Answer B)
      → (length b < at + w → refused 1 at ≡ r)
      → (at + w ≤ length b → on_found (first fault_order (rules (little w b at))) (at_place (rest (little w b at)) (at + w)) (λ n. refused n at) ≡ r)
      → at_place (field w get rules rest) at ≡ r
  unfolding parse
  on_field_lem w get rules rest at r s f =
      elim (dec_le (at + w) (length b)) [
        | no h ↦ let l : length b < at + w = omega arith in rw (lt-leb (at + w) (length b) l) (still 1 at ∙ s l)
        | yes h ↦ rw (le-leb (at + w) (length b) h) (pull (first fault_order (rules (little w b at))) (parse 1 fault_order b (rest (little w b at)) (at + w)) ∙ f h)
      ]
    where
      pull : (f : Found) (u : Answer A) → W (on_found f u (λ n. refused n at)) ≡ on_found f (W u) (λ n. refused n at)
      pull good u = refl
      pull (fault n) u = still n at

  -- a number within limits; `T` is what the reader makes of the field
  module _ {S X : Type 0} (value : ℕ → ℕ → X) (wrongly : Fault → ℕ → X) (T : X → Answer B)
      (bad : (f : Fault) (p : ℕ) → refused (number_of f) p ≡ T (wrongly f p)) (n : ℕ) (wrong : Fault) (is : n ≡ number_of wrong)
      (told : (t : Bool) → first fault_order (n when t) ≡ cond t (fault n) good)
      (w low below : ℕ) (get : S → ℕ) (rest : ℕ → Format S A) where
    pub on_number : (at : ℕ) → ((x : ℕ) → x < below → at_place (rest x) (at + w) ≡ T (value x (at + w)))
        → at_place (field w get (λ x. n when outside low below x) rest) at ≡ T (wire.number value wrongly Fault.Ends w low below wrong b at)
    unfolding wire.number
    on_number at fine =
        on_field_lem w get (λ x. n when outside low below x) rest at (T (wire.number value wrongly Fault.Ends w low below wrong b at))
        (λ h. rw (lt-leb (at + w) (length b) h) (bad Fault.Ends at))
        (λ h.
        rw (le-leb (at + w) (length b) h, told (outside low below (little w b at)))
        (go (little w b at)))
      where
        go : (x : ℕ) → on_found (cond (outside low below x) (fault n) good) (at_place (rest x) (at + w)) (λ n. refused n at)
            ≡ T (cond (leb low x) (cond (ltb x below) (value x (at + w)) (wrongly wrong at)) (wrongly wrong at))
        go x =
            elim (dec_le low x) [
              | no l ↦ rw (lt-leb low x (omega arith), is) (bad wrong at)
              | yes l ↦
                  elim (dec_lt x below) [
                    | no u ↦ rw (le-leb low x l, le-ltb x below (omega arith), is) (bad wrong at)
                    | yes u ↦ rw (le-leb low x l, lt-ltb x below u) (fine x u)
                  ]
            ]

    -- one that stands iff its bit does
    pub on_optional : (stands : Bool) (at : ℕ) → 0 < below → ((x next : ℕ) → x < below → at_place (rest x) next ≡ T (value x next))
        → at_place (optional stands 0 (number w get (λ x. n when outside low below x)) >>= rest) at ≡ T (wire.optional value wrongly Fault.Ends w low below wrong stands b at)
    unfolding wire.optional
    on_optional true at some fine = on_number at (λ x h. fine x (at + w) h)
    on_optional false at some fine = fine 0 at some

  module _ (T : Read ℕ → Answer B) (bad : (f : Fault) (p : ℕ) → refused (number_of f) p ≡ T (faulty f p)) {S : Type 0} where
    -- "a number that names nothing"
    pub on_name : (many : ℕ) (get : S → ℕ) (rest : ℕ → Format S A) (at : ℕ) → ((x : ℕ) → x < many → at_place (rest x) (at + 1) ≡ T (found x (at + 1)))
        → at_place (name many get >>= rest) at ≡ T (name_at many b at)
    unfolding byte_at
    on_name many get rest at fine = on_number found faulty T bad 4 Fault.Names refl four 1 0 many get rest at fine

    -- "a count outside its limits"
    pub on_count_lem : (most : ℕ) (get : S → ℕ) (rest : ℕ → Format S A) (at : ℕ) → ((x : ℕ) → x < most + 1 → at_place (rest x) (at + 1) ≡ T (found x (at + 1)))
        → at_place (count most get >>= rest) at ≡ T (count_at most b at)
    unfolding byte_at
    on_count_lem most get rest at fine = on_number found faulty T bad 3 Fault.Count refl three 1 1 (most + 1) get rest at fine

    pub on_optional_count : (most : ℕ) (get : S → ℕ) (rest : ℕ → Format S A) (stands : Bool) (at : ℕ) → ((x next : ℕ) → x < most + 1 → at_place (rest x) next ≡ T (found x next))
        → at_place (optional stands 0 (count most get) >>= rest) at ≡ T (optional_count most stands b at)
    unfolding optional_count
    on_optional_count most get rest stands at fine = on_optional found faulty T bad 3 Fault.Count refl three 1 1 (most + 1) get rest stands at (omega arith) fine

    -- any byte
    pub on_any : (get : S → ℕ) (rules : ℕ → List Rule) (rest : ℕ → Format S A) (at : ℕ)
        → ((x : ℕ) → on_found (first fault_order (rules x)) (at_place (rest x) (at + 1)) (λ n. refused n at) ≡ T (found x (at + 1)))
        → at_place (field 1 get rules rest) at ≡ T (any_at b at)
    unfolding byte_at wire.number
    on_any get rules rest at fine =
        on_field_lem 1 get rules rest at (T (any_at b at))
        (λ h. rw (lt-leb (at + 1) (length b) h) (bad Fault.Ends at))
        (λ h.
        let x = little 1 b at in
        rw (le-leb (at + 1) (length b) h, le-leb 0 x (omega arith), lt-ltb x 256 (omega (arith, little_below b bytes 1 at))) (fine x))

  -- numbers in a row
  module _ {S X : Type 0} (T : Result X FaultAt → Answer B) (bad : (f : Fault) (p : ℕ) → refused (number_of f) p ≡ T (faulty f p))
      (n : ℕ) (wrong : Fault) (is : n ≡ number_of wrong) (told : (t : Bool) → first fault_order (n when t) ≡ cond t (fault n) good)
      (low below : ℕ) (get : ℕ → S → ℕ) (follow : ℕ → List ℕ → Result X FaultAt) where
    pub on_numbers : (k at i : ℕ) (values : List ℕ) (rest : List ℕ → Format S A)
        → ((xs : List ℕ) (next : ℕ) → length xs ≡ k → at_place (rest xs) next ≡ T (follow next (sets values i xs)))
        → at_place (each (λ j. number 1 (get j) (λ x. n when outside low below x)) i k >>= rest) at ≡ T (numbers_then low below wrong b follow k at i values)
    unfolding numbers_then byte_at
    on_numbers zero at i values rest fine = fine [] at refl
    on_numbers (suc k) at i values rest fine =
        on_number found faulty (λ r. T (and_then r (λ x next. numbers_then low below wrong b follow k next (i + 1) (set values i x)))) bad n wrong is told 1 low below
        (get i) (λ x. (each (λ j. number 1 (get j) (λ x. n when outside low below x)) (i + 1) k >>= λ more. done (x ∷ more)) >>= rest) at
        (λ x h.
        ap W (parse_assoc 1 fault_order b (each (λ j. number 1 (get j) (λ x. n when outside low below x)) (i + 1) k) (λ more. done (x ∷ more)) rest (at + 1))
        ∙ on_numbers k (at + 1) (i + 1) (set values i x) (λ more. rest (x ∷ more)) (λ xs next e. rw (add-one i) (fine (x ∷ xs) next (ap suc e))))

  -- a kind, by bits 0 to 4 of the map and whether it is below 64
  module _ (peripherals resources events : ℕ) (after : Kind → Format Node A) (T : Read Kind → Answer B)
      (bad : (f : Fault) (p : ℕ) → refused (number_of f) p ≡ T (faulty f p)) (fine : (k : Kind) (end : ℕ) → at_place (after k) end ≡ T (found k end)) where
    pub on_kind_lem : (small action claim release event long : Bool) (at next : ℕ)
        → on_found (first fault_order (2 when not (cond small (kind_stands action claim release event long) false)))
        (at_place (part_of (λ n. n.kind) (kind peripherals resources events action claim release) >>= after) next) (λ n. refused n at)
        ≡ T (kind_by (cond small (asks_by action claim release event long) None) peripherals resources events b at next)
    unfolding kind_by
    on_kind_lem false s t u v w at next = bad Fault.Map at
    on_kind_lem true true false false false w at next =
        on_any (λ r. T (and_then r (λ a mid. and_then (name_at peripherals b mid) (λ x end. found (Kind.Action a x) end))))
        bad _ _ _ next
        (λ a. on_name (λ r. T (and_then r (λ x end. found (Kind.Action a x) end))) bad peripherals _ _ (next + 1) (λ x h. fine (Kind.Action a x) (next + 1 + 1)))
    on_kind_lem true false false false true w at next =
        on_name (λ r. T (and_then r (λ e end. found (Kind.Event e) end))) bad events _ _ next (λ e h. fine (Kind.Event e) (next + 1))
    on_kind_lem true false true false false false at next =
        on_name (λ r. T (and_then r (λ e end. found (Kind.Claim e) end))) bad resources _ _ next (λ e h. fine (Kind.Claim e) (next + 1))
    on_kind_lem true false false true false false at next =
        on_name (λ r. T (and_then r (λ e end. found (Kind.Release e) end))) bad resources _ _ next (λ e h. fine (Kind.Release e) (next + 1))
    on_kind_lem true false false false false w at next = bad Fault.Map at
    on_kind_lem true false true false false true at next = bad Fault.Map at
    on_kind_lem true false false true false true at next = bad Fault.Map at
    on_kind_lem true false false true true w at next = bad Fault.Map at
    on_kind_lem true false true false true w at next = bad Fault.Map at
    on_kind_lem true false true true v w at next = bad Fault.Map at
    on_kind_lem true true false false true w at next = bad Fault.Map at
    on_kind_lem true true false true v w at next = bad Fault.Map at
    on_kind_lem true true true u v w at next = bad Fault.Map at

  -- the predecessors
  pub on_rising : (size c : ℕ) (T : Read Preds → Answer B) → ((f : Fault) (p : ℕ) → refused (number_of f) p ≡ T (faulty f p))
      → (k i low : ℕ) (before : List ℕ) (rest : List ℕ → Format Node A) (at : ℕ)
      → ((xs : List ℕ) (next : ℕ) → at_place (rest xs) next ≡ T (found (record { count = c; preds = sets before i xs }) next))
      → at_place (rising size i low k >>= rest) at ≡ T (preds_loop size b c k at i low before)
  unfolding preds_loop byte_at wire.number
  on_rising size c T bad zero i low before rest at fine = fine [] at
  on_rising size c T bad (suc k) i low before rest at fine =
      on_field_lem 1 (λ n. get_or n.preds i 0) (pred_rules size low)
      (λ x. (rising size (i + 1) (x + 1) k >>= λ more. done (x ∷ more)) >>= rest) at
      (T (preds_loop size b c (suc k) at i low before))
      (λ h. rw (lt-leb (at + 1) (length b) h) (bad Fault.Ends at))
      (λ h.
      there h (little 1 b at) refl
      (on_rising size c T bad k (i + 1) (little 1 b at + 1) (set before i (little 1 b at)) (λ more. rest (little 1 b at ∷ more)) (at + 1)
      (λ xs next. rw (add-one i) (fine (little 1 b at ∷ xs) next))))
    where
      there : at + 1 ≤ length b → (x : ℕ) → little 1 b at ≡ x
          → at_place (rising size (i + 1) (x + 1) k >>= λ more. rest (x ∷ more)) (at + 1) ≡ T (preds_loop size b c k (at + 1) (i + 1) (x + 1) (set before i x))
          → on_found (first fault_order (pred_rules size low x)) (at_place ((rising size (i + 1) (x + 1) k >>= λ more. done (x ∷ more)) >>= rest) (at + 1)) (λ n. refused n at)
          ≡ T (preds_loop size b c (suc k) at i low before)
      there h x e ih =
          elim (dec_lt x size) [
            | no u ↦ rw (le-leb (at + 1) (length b) h, e, le-leb 0 x (omega arith), le-ltb x size (omega arith)) (bad Fault.Names at)
            | yes u ↦
                elim (dec_lt x low) [
                  | yes l ↦ rw (le-leb (at + 1) (length b) h, e, le-leb 0 x (omega arith), lt-ltb x size u, lt-ltb x low l) (bad Fault.NotRising at)
                  | no l ↦
                      rw (le-leb (at + 1) (length b) h, e, le-leb 0 x (omega arith), lt-ltb x size u, le-ltb x low (omega arith))
                      (ap W (parse_assoc 1 fault_order b (rising size (i + 1) (x + 1) k) (λ more. done (x ∷ more)) rest (at + 1)) ∙ ih)
                ]
          ]
