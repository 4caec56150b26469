-- "No accepted plan exceeds 34,433 bytes.": the sum of the description's widths.
use Rattle.std.specs.Prelude.{◌≡◌, Bool, cond, List, ◌∷◌, ℕ, zero, suc, ◌+◌, ◌*◌, ◌-◌, ◌≤◌, ◌<◌}
use Rattle.std.proofs.Math.Path.{refl, subst}
use Rattle.std.proofs.Math.Bool.{true, false}
use native.Mathlib.Omega.{arith}
use Rattle.wire.specs.Map.{bit}
use Rattle.format.specs.Format.{◌when◌, Format, done, field, number, ◌>>=◌, part_of, optional, each, good, fault, first, Within}
use Rattle.format.proofs.Laws.Format.{every_all, within_more, within_then, within_part, within_each}
use Rattle.plan.specs.declared.Node.{Node}
use Rattle.plan.specs.declared.Input.{Input}
use Rattle.plan.specs.declared.Output.{Output}
use Rattle.plan.specs.declared.Automaton.{Automaton}
use Rattle.plan.specs.declared.Plan.{Plan}
use Rattle.plan.specs.Plan.{size_of, resource_of, outcomes_of, move}
use Rattle.plan.specs.Limits.{node_at}
use Rattle.plan_file.specs.PlanFile.{fault_order, outside, count, name, rising, kind, node, activity, transition, automaton, plan_file, processing, emitting}
use Rattle.plan_file.proofs.Laws.Known.{inside, three, eight}
use Rattle.plan_file.proofs.Laws.Stages.{node_last, counted, timed, kinded, move_last, inputs, end, turns, last, lastly, acting, outcoming, eventing, belonging, having, resourced}

-- a field, and what follows it
one : {S A : Type 0} (n low below w m : ℕ) (get : S → ℕ) (rest : ℕ → Format S A) → ((t : Bool) → first fault_order (n when t) ≡ cond t (fault n) good) → ((x : ℕ) → x < below → Within fault_order m (rest x))
    → Within fault_order (w + m) (field w get (λ x. n when outside low below x) rest)
unfolding Within
one n low below w m get rest told f = (m, refl, λ x i g. f x (inside n low below x told g).1)

-- at most `most` of n bytes each
up_to : {S A B : Type 0} (item : ℕ → Format S A) (n most k m : ℕ) (follow : List A → Format S B) → ((i : ℕ) → Within fault_order n (item i)) → k ≤ most → ((xs : List A) → Within fault_order m (follow xs))
    → Within fault_order (most * n + m) (each item 0 k >>= follow)
up_to item n most k m follow h l f =
    within_then fault_order (most * n) m (each item 0 k) follow (within_each fault_order item n h 0 k most l) (every_all fault_order (λ xs. Within fault_order m (follow xs)) f (each item 0 k))

-- a count or duration that may be absent
maybe : {S B : Type 0} (stands : Bool) (n below w m : ℕ) (get : S → ℕ) (follow : ℕ → Format S B) → ((t : Bool) → first fault_order (n when t) ≡ cond t (fault n) good) → 0 < below
    → ((x : ℕ) → x < below → Within fault_order m (follow x)) → Within fault_order (w + m) (optional stands 0 (number w get (λ x. n when outside 1 below x)) >>= follow)
maybe true n below w m get follow told some f = one n 1 below w m get follow told f
maybe false n below w m get follow told some f = let z : w + m ≡ m + w = omega arith in rw z (within_more fault_order m w (follow 0) (f 0 some))

rising_long : (size i low k : ℕ) → Within fault_order k (rising size i low k)
unfolding Within
rising_long size i low zero = tt
rising_long size i low (suc k) = (
  k,
  omega arith,
  λ x j g.
      let e : k + 0 ≡ k = omega arith in
      subst (λ (n : ℕ). Within fault_order n (rising size (i + 1) (x + 1) k >>= λ more. done (x ∷ more))) e
      (within_then fault_order k 0 (rising size (i + 1) (x + 1) k) (λ more. done (x ∷ more)) (rising_long size (i + 1) (x + 1) k)
      (every_all fault_order (λ more. Unit {0}) (λ more. tt) (rising size (i + 1) (x + 1) k))),
)

module _ (peripherals resources events : ℕ) where
  kind_long : (action claim release : Bool) → Within fault_order 2 (kind peripherals resources events action claim release)
  unfolding Within
  kind_long true claim release = (1, refl, λ a i g. (0, refl, λ x j h. tt))
  kind_long false true release = (1, refl, λ a i g. tt)
  kind_long false false true = (1, refl, λ a i g. tt)
  kind_long false false false = (1, refl, λ a i g. tt)

  node_long : (size : ℕ) → Within fault_order 16 (node peripherals resources events size)
  unfolding Within
  node_long size = (
    15,
    refl,
    λ m i g.
        within_then fault_order 2 13 (part_of (λ n. n.kind) (kind peripherals resources events (bit 0 m) (bit 1 m) (bit 2 m))) (kinded size m)
        (within_part fault_order 2 (λ (n : Node). n.kind) (kind peripherals resources events (bit 0 m) (bit 1 m) (bit 2 m)) (kind_long (bit 0 m) (bit 1 m) (bit 2 m)))
        (every_all fault_order (λ k. Within fault_order 13 (kinded size m k))
        (λ k.
        maybe (bit 4 m) 8 60_000_001 4 9 (λ n. n.duration) (timed size m k) eight (omega arith)
        (λ d h.
        maybe (bit 5 m) 3 9 1 8 (λ n. n.count) (counted size k d) three (omega arith)
        (λ c few.
        let e : c + 0 + (8 - c) ≡ 8 = omega arith in
        subst (λ (n : ℕ). Within fault_order n (counted size k d c)) e
        (within_more fault_order (c + 0) (8 - c) (counted size k d c)
        (within_then fault_order c 0 (rising size 0 0 c) (node_last k d c) (rising_long size 0 0 c) (every_all fault_order (λ more. Unit {0}) (λ more. tt) (rising size 0 0 c)))))))
        (part_of (λ n. n.kind) (kind peripherals resources events (bit 0 m) (bit 1 m) (bit 2 m)))),
  )

  activity_long : (a : ℕ) → Within fault_order 1025 (activity peripherals resources events a)
  unfolding Within
  activity_long a =
      one 3 1 65 1 1024 (λ p. size_of p a) (λ size. each (λ n. part_of (λ p. node_at p a n) (node peripherals resources events size)) 0 size) three
      (λ size few.
      within_each fault_order (λ n. part_of (λ (p : Plan). node_at p a n) (node peripherals resources events size)) 16
      (λ n. within_part fault_order 16 (λ (p : Plan). node_at p a n) (node peripherals resources events size) (node_long size)) 0 size 64 (omega arith))

module _ (events : ℕ) (outcomes : List ℕ) (activities : ℕ) where
  output_long : (t : Bool) (from to : ℕ) (i : Input) → Within fault_order 1 (optional t Output.Empty (emitting events outcomes activities) >>= move_last events outcomes activities from to i)
  unfolding Within
  output_long true from to i = (0, refl, λ a j g. tt)
  output_long false from to i = tt

  input_long : (m from to : ℕ) (t : Bool) → Within fault_order 3 (optional t Input.Nothing (processing events outcomes activities) >>= inputs events outcomes activities m from to)
  unfolding Within
  input_long m from to true = (2, refl, λ e i g. (1, refl, λ o j h. output_long (bit 1 m) from to (Input.Outcome e o)))
  input_long m from to false = within_more fault_order 1 2 (inputs events outcomes activities m from to Input.Nothing) (output_long (bit 1 m) from to Input.Nothing)

  move_long : (states : ℕ) → Within fault_order 6 (transition events outcomes activities states)
  unfolding Within
  move_long states = (5, refl, λ m i g. (4, refl, λ from j h. (3, refl, λ to k l. input_long m from to (bit 0 m))))

  automaton_long : Within fault_order 1548 (automaton events outcomes activities)
  unfolding Within
  automaton_long = (
    1547,
    refl,
    λ states i g. (
      1546,
      refl,
      λ initial j h. (
        1538,
        refl,
        λ finals k l.
            one 3 0 257 2 1536 (λ a. a.count) (turns events outcomes activities states initial finals) three
            (λ c few.
            up_to (λ i. part_of (λ (a : Automaton). move a i) (transition events outcomes activities states)) 6 256 c 0 (end events outcomes activities states initial finals c)
            (λ i. within_part fault_order 6 (λ (a : Automaton). move a i) (transition events outcomes activities states) (move_long states)) (omega arith) (λ moves. tt)),
      ),
    ),
  )

pub plan_long : Within fault_order 34433 plan_file
unfolding Within plan_file
plan_long = (
  34432,
  refl,
  λ m i g.
      maybe (bit 0 m) 3 17 1 34431 (λ p. p.resources) (resourced m) three (omega arith)
      (λ resources h.
      maybe (bit 1 m) 3 65 1 34430 (λ p. p.peripherals) (having m resources) three (omega arith)
      (λ peripherals few-x.
      up_to (λ x. name resources (λ (p : Plan). resource_of p x)) 1 64 peripherals 34366 (belonging m resources peripherals) (λ x. (0, refl, λ y j h. tt)) (omega arith)
      (λ belongs.
      maybe (bit 2 m) 3 17 1 34365 (λ p. p.events) (eventing m resources peripherals belongs) three (omega arith)
      (λ events few-e.
      up_to (λ e. count 8 (λ (p : Plan). outcomes_of p e)) 1 16 events 34349 (outcoming m resources peripherals belongs events) (λ e. (0, refl, λ y j h. tt)) (omega arith)
      (λ outcomes.
      maybe (bit 3 m) 3 33 1 34348 (λ p. p.activities) (acting resources peripherals belongs events outcomes) three (omega arith)
      (λ activities few-a.
      up_to (activity peripherals resources events) 1025 32 activities 1548 (lastly resources peripherals belongs events outcomes activities) (activity_long peripherals resources events) (omega arith)
      (λ bodies.
      within_then fault_order 1548 0 (part_of (λ p. p.automaton) (automaton events outcomes activities)) (last resources peripherals belongs events outcomes activities bodies)
      (within_part fault_order 1548 (λ (p : Plan). p.automaton) (automaton events outcomes activities) (automaton_long events outcomes activities))
      (every_all fault_order (λ t. Unit {0}) (λ t. tt) (part_of (λ (p : Plan). p.automaton) (automaton events outcomes activities)))))))))),
)
