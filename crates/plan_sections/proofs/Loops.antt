-- One turn of each loop of the sections: over numbers of one byte, over the nodes of an activity, over the activities.
use mathlib.Core.Path.{◌≡◌, refl, sym}
use mathlib.Core.List.{List}
use Prim.Native.Nat.{ℕ, zero, suc, ◌+◌, ◌*◌, ◌-◌, ◌≤◌, ◌<◌}
use native.Mathlib.Omega.{arith}
use lib.ListN.{set}
use Rattle.std.specs.Prelude.{Result, Ok, Err}
use Rattle.plan.specs.Fields.{Read, found, and_then, byte_at, count_at, numbers_then}
use Rattle.plan.specs.Nodes.{node_at}
use Rattle.plan.specs.Sections.{nodes_then, activities_loop}
use Rattle.plan.specs.declared.Fault.{Fault}
use Rattle.plan.specs.declared.FaultAt.{FaultAt}
use Rattle.plan.specs.declared.Node.{Node}
use Rattle.plan.specs.declared.fields.Activities.{Activities}
use Rattle.plan_sections.specs.Inner.Parts.{on_end}

module _ (low below : ℕ) (wrong : Fault) (b : List ℕ) where
  -- what follows numbers follows them where they are handed on
  pub numbers_named : {A : Type 0} (follow : ℕ → List ℕ → Result A FaultAt) (k at i : ℕ) (values : List ℕ)
      → numbers_then low below wrong b follow k at i values
      ≡ and_then (numbers_then low below wrong b (λ next xs. found xs next) k at i values) (λ xs next. follow next xs)
  unfolding numbers_then
  numbers_named follow zero at i values = refl
  numbers_named follow (suc k) at i values = one (byte_at low below wrong b at) (λ x next. numbers_named follow k next (i + 1) (set values i x))
    where
      one : (r : Read ℕ)
          → ((x next : ℕ) → numbers_then low below wrong b follow k next (i + 1) (set values i x)
          ≡ and_then (numbers_then low below wrong b (λ end xs. found xs end) k next (i + 1) (set values i x)) (λ xs next. follow next xs))
          → and_then r (λ x next. numbers_then low below wrong b follow k next (i + 1) (set values i x))
          ≡ and_then (and_then r (λ x next. numbers_then low below wrong b (λ end xs. found xs end) k next (i + 1) (set values i x))) (λ xs next. follow next xs)
      one (Ok x) ih = ih x.0 x.1
      one (Err e) ih = refl

  module _ {A : Type 0} (follow : ℕ → List ℕ → Result A FaultAt) (n i off : ℕ) (values : List ℕ) where
    pub numbers_done : n ≤ i → follow off values ≡ numbers_then low below wrong b follow (n - i) off i values
    unfolding numbers_then
    numbers_done h = let e : n - i ≡ 0 = omega arith in rw e

    module _ (h : i < n) where
      pub numbers_refused : (e : FaultAt) → byte_at low below wrong b off ≡ Err e → Err e ≡ numbers_then low below wrong b follow (n - i) off i values
      unfolding numbers_then
      numbers_refused e is = let z : n - i ≡ suc (n - (i + 1)) = omega arith in rw (z, is)

      pub numbers_next : (x next : ℕ) → byte_at low below wrong b off ≡ Ok (x, next)
          → numbers_then low below wrong b follow (n - i) off i values ≡ numbers_then low below wrong b follow (n - (i + 1)) next (i + 1) (set values i x)
      unfolding numbers_then
      numbers_next x next is = let z : n - i ≡ suc (n - (i + 1)) = omega arith in rw (z, is)

module _ (peripherals resources events : ℕ) (b : List ℕ) where
  module _ (follow : ℕ → List Node → Read Activities) (size n off i : ℕ) (all : List Node) where
    pub nodes_done : size ≤ n → follow off all ≡ nodes_then peripherals resources events b follow size (size - n) off i all
    unfolding nodes_then
    nodes_done h = let e : size - n ≡ 0 = omega arith in rw e

    module _ (h : n < size) where
      pub nodes_refused : (e : FaultAt) → node_at peripherals resources events size b off ≡ Err e → Err e ≡ nodes_then peripherals resources events b follow size (size - n) off i all
      unfolding nodes_then
      nodes_refused e is = let z : size - n ≡ suc (size - (n + 1)) = omega arith in rw (z, is)

      pub nodes_next : (node : Node) (next j : ℕ) → j ≡ i + 1 → node_at peripherals resources events size b off ≡ Ok (node, next)
          → nodes_then peripherals resources events b follow size (size - n) off i all
          ≡ nodes_then peripherals resources events b follow size (size - (n + 1)) next j (set all i node)
      unfolding nodes_then
      nodes_next node next j step is = let z : size - n ≡ suc (size - (n + 1)) = omega arith in rw (z, is, step)

  module _ (count a off : ℕ) (sizes : List ℕ) (all : List Node) where
    pub activities_done : count ≤ a → found (record { count = count; sizes = sizes; nodes = all }) off ≡ activities_loop peripherals resources events b count (count - a) off a sizes all
    unfolding activities_loop
    activities_done h = let z : count - a ≡ 0 = omega arith in rw z

    module _ (h : a < count) where
      pub activities_refused : (e : FaultAt) → count_at 64 b off ≡ Err e → Err e ≡ activities_loop peripherals resources events b count (count - a) off a sizes all
      unfolding activities_loop
      activities_refused e is = let z : count - a ≡ suc (count - (a + 1)) = omega arith in rw (z, is)

      -- an activity of so many nodes, whose nodes are put where they stay
      module _ (x next : ℕ) (is : count_at 64 b off ≡ Ok (x, next)) (r : Result ℕ FaultAt) (after : List Node)
          (made : (follow : ℕ → List Node → Read Activities) → on_end r (λ end. follow end after) ≡ nodes_then peripherals resources events b follow x x next (64 * a) all) where
        goes_on : on_end r (λ end. activities_loop peripherals resources events b count (count - (a + 1)) end (a + 1) (set sizes a x) after)
            ≡ activities_loop peripherals resources events b count (count - a) off a sizes all
        unfolding activities_loop
        goes_on =
            let z : count - a ≡ suc (count - (a + 1)) = omega arith in
            rw (z, is) (made (λ end filled. activities_loop peripherals resources events b count (count - (a + 1)) end (a + 1) (set sizes a x) filled))

        pub activities_stopped : (e : FaultAt) → r ≡ Err e → Err e ≡ activities_loop peripherals resources events b count (count - a) off a sizes all
        activities_stopped e was = rw was at goes_on

        pub activities_next : (end : ℕ) → r ≡ Ok end
            → activities_loop peripherals resources events b count (count - a) off a sizes all
            ≡ activities_loop peripherals resources events b count (count - (a + 1)) end (a + 1) (set sizes a x) after
        activities_next end was = sym (rw was at goes_on)
