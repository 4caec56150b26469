-- The combined activities of a plan's words are a lawful world: what stands before a node is a node and is complete when it
-- starts, every node outlasts the slack, and a longer word keeps nodes and times and has no new arrow to an old node.
use Rattle.std.specs.Prelude.{◌≡◌, refl, List, [], ◌∷◌, ℕ, suc, ◌≤◌, ◌<◌}
use Rattle.std.proofs.Common.{sym, subst, arith}
use Rattle.basis.specs.Lists.{one, more}
use Rattle.plan.specs.Plan.{resource_of, emitted_by, move}
use Rattle.plan.specs.Limits.{OutputNames}
use Rattle.plan.specs.declared.Kind.{Kind}
use Rattle.plan.specs.declared.Node.{Node}
use Rattle.plan.specs.declared.Input.{Input}
use Rattle.plan.specs.declared.Output.{Output}
use Rattle.plan.specs.declared.Plan.{Plan}
use Rattle.times_combined.specs.Word.{Step, Word, τ, ◌▷◌, Begins, longer, size}
use Rattle.times_combined.proofs.Laws.Accepted.{GoodWord}
use Rattle.times_combined.specs.Combined.{Ident, NotRelease, Before, Nodes, Joined, completed, processing, combined}
use Rattle.times_combined.specs.Paths.{step_of, word_of, Follows, Lawful}
use Rattle.times_combined.proofs.Laws.Theorems.{held_back, times_equal, before_ends, kept_start, kept_end}
use Rattle.times_combined.proofs.Laws.Shape.{completed_shape, node_place_lem}
use Rattle.times_combined.proofs.Laws.Chains.{to_left}
use Rattle.times_combined.proofs.Laws.Unique.{shape_of}
use Rattle.times_combined.proofs.Laws.Later.{claim_place}
use Rattle.times_combined.proofs.Laws.Plans.{good_path, counted_path}
use Rattle.demands_log.specs.Log.{Id}
use Rattle.demands_theory.proofs.Laws.Way.{Outlasts, InOrder, Extends}
use Rattle.demands_theory.specs.Nodes.{whose, Working, Work, length_of, earlier}
use Rattle.demands_theory.proofs.Laws.Nodes.{not_release}
use Rattle.demands_theory.specs.TheWord.{Oldest}
use Rattle.demands_theory.proofs.Laws.Growth.{Tail, here, later}
use Rattle.demands_theory.proofs.Laws.OfPlan.{world_of, Outlast, Long}

-- a node that is neither a claim nor a release
working : (k : Kind) → NotRelease k → ((r : ℕ) → k ≡ Kind.Claim r → ⊥) → Working k
working (Kind.Action a p) nr nc = tt
working (Kind.Claim r) nr nc = absurd (nc r refl)
working (Kind.Release r) nr nc = absurd nr
working (Kind.Event e) nr nc = tt

-- ---- what stands before

module _ (R : ℕ) (belongs : ℕ → ℕ) (w : Word) (ok : GoodWord R belongs w) where
  source_works : (m : Id) (n : Ident) → (combined R w).Arrow (whose m) n → Work (combined R w) m
  source_works m n h =
      let s = (shape_of R belongs w ok).source (whose m) n h in
      (s.0, s.1, working s.0 s.2 (λ r e. let z = claim_place R w (whose m) s.0 r s.1.0 e s.1.1 in absurd (omega arith)))

  pub before_works : (m : Id) (n : Ident) → Before (combined R w) (whose m) n → Work (combined R w) m
  before_works m n (one h) = source_works m n h
  before_works m n (more {k} c h) = before_works m k c

-- ---- the word grows

module _ (R : ℕ) (belongs : ℕ → ℕ) (w : Word) (x : Step) (ok : GoodWord R belongs (w ▷ x)) where
  old_place : (y : Id) → Work (combined R w) y → y.position < size w
  old_place y h = let u = (shape_of R belongs w ok.0).places (whose y) h.0 h.1.0 h.1.1 in omega arith

  old_before : (m y : Id) → Work (combined R w) y → Before (combined R (w ▷ x)) (whose m) (whose y) → Before (combined R w) (whose m) (whose y)
  old_before m y h b =
      to_left (combined R w) (completed R (suc (size w)) x.output) (processing w x.input) (size w) (shape_of R belongs w ok.0)
      (completed_shape R (suc (size w)) belongs x.output ok.1) (node_place_lem R (suc (size w)) x.output) (whose m) (whose y)
      ((shape_of R belongs w ok.0).places (whose y) h.0 h.1.0 h.1.1) b

-- ---- durations

-- every node of a word outlasts the slack if those of its activities do
abbrev OutlastWord : ℕ → Word → Type 0
OutlastWord slack τ = Unit {0}
OutlastWord slack (w ▷ x) = OutlastWord slack w × Outlast slack x.output

outlasts_own : (R q slack : ℕ) (a : List Node) → Outlast slack a → (y : Ident) (k : Kind) (d : ℕ) → Working k → Nodes R q a y k d → slack < d
outlasts_own R q slack a out y k d wk (Nodes.own {n} l e f) = subst (λ (z : ℕ). slack < z) f (out n l (subst Working (sym e) wk))
outlasts_own R q slack a out y k d wk (Nodes.claim l u) = absurd wk
outlasts_own R q slack a out y k d wk (Nodes.release l u) = absurd wk

outlasts : (R slack : ℕ) (w : Word) → OutlastWord slack w → (y : Ident) (k : Kind) (d : ℕ) → Working k → (combined R w).Holds y k d → slack < d
outlasts R slack τ out y k d wk h = outlasts_own R 0 slack [] (λ n l. absurd (omega arith)) y k d wk h
outlasts R slack (w ▷ x) out y k d wk (Joined.left h nr) = outlasts R slack w out.0 y k d wk h
outlasts R slack (w ▷ x) out y k d wk (Joined.right h nc) = outlasts_own R (suc (size w)) slack x.output out.1 y k d wk h

-- ---- the world of a plan

module _ (p : Plan) (lawful : Lawful p) (available : ℕ → ℕ) where
  -- a path from the initial state
  abbrev From : List ℕ → ℕ → Type 0
  From is q = Follows p p.automaton.initial is q

  good : (is : List ℕ) (q : ℕ) → From is q → GoodWord p.resources (resource_of p) (word_of p is)
  good is q h = good_path p lawful p.automaton.initial is q h

  pub orders : (is : List ℕ) (q : ℕ) → From is q → InOrder (world_of p available) is
  orders is q h m x n b = (
    before_works p.resources (resource_of p) (word_of p is) (good is q h) m (whose x) b,
    before_ends p.resources (resource_of p) available (word_of p is) (good is q h) (counted_path p lawful is q h) (whose m) (whose x) b,
  )

  pub extends : (i : ℕ) (is : List ℕ) (q : ℕ) → From (i ∷ is) q → Extends (world_of p available) is (i ∷ is)
  extends i is q h = record {
    nodes = λ x n. (n.0, (n.1.0, Joined.left n.1.1 (not_release n.0 n.2)), n.2);
    starts = λ x n. kept_start available (word_of p is) step x.position x.node (old_place p.resources (resource_of p) (word_of p is) step ok x n);
    completions = λ x n. kept_end available (word_of p is) step x.position x.node (old_place p.resources (resource_of p) (word_of p is) step ok x n);
    befores = λ m x n b. old_before p.resources (resource_of p) (word_of p is) step ok m x n b;
    activities = λ q a e. earlier e;
  }
    where
      step : Step
      step = step_of p (move p.automaton i)

      ok : GoodWord p.resources (resource_of p) (word_of p (i ∷ is))
      ok = good (i ∷ is) q h

  outlast_path : (slack : ℕ) → Long p slack → (is : List ℕ) (q : ℕ) → From is q → OutlastWord slack (word_of p is)
  outlast_path slack long [] q h = tt
  outlast_path slack long (i ∷ is) q h = (outlast_path slack long is (move p.automaton i).from h.0, emitted (move p.automaton i).output (lawful.file.limits.moves i h.1.0).output)
    where
      emitted : (o : Output) → OutputNames p o → Outlast slack (emitted_by p o)
      emitted Output.Empty l = λ n i. absurd (omega arith)
      emitted (Output.Activity a) l = long a l

  pub lasts : (slack : ℕ) → Long p slack → (is : List ℕ) (q : ℕ) → From is q → Outlasts (world_of p available) slack is
  lasts slack long is q h x n =
      let e = (times_equal p.resources (resource_of p) available (word_of p is) (good is q h) (counted_path p lawful is q h)).ends (whose x) n.0 n.1.0 n.1.1 in
      let l = outlasts p.resources slack (word_of p is) (outlast_path slack long is q h) (whose x) n.0 n.1.0 n.2 n.1.1 in
      omega arith

  -- ---- what is new in a longer word

  size_is : (is : List ℕ) → size (word_of p is) ≡ length_of is
  size_is [] = refl
  size_is (i ∷ is) = let u = size_is is in omega arith

  -- the nodes of a word stand below its length
  pub old_position : (is : List ℕ) (q : ℕ) → From is q → (x : Id) → (world_of p available).Node is x → x.position < length_of is
  old_position is q h x n =
      let u = (shape_of p.resources (resource_of p) (word_of p is) (good is q h)).places (whose x) n.0 n.1.0 n.1.1 in
      let v = size_is is in
      omega arith

  begins : (is us : List ℕ) → Tail is us → Begins (word_of p is) (word_of p us)
  begins is us here = Begins.here
  begins is us (later {us = vs} {t} b) = longer (begins is vs b)

  -- if transition t, after `is`, processes the instance x, then no node of it or of a later transition starts before x has
  -- completed
  pub new_start : (t : ℕ) (is us : List ℕ) (q e o : ℕ) → From us q → Tail (t ∷ is) us → From is (move p.automaton t).from → (move p.automaton t).input ≡ Input.Outcome e o → (x : Id) → Oldest p is e x → (y : Id) → (world_of p available).Node us y → length_of is ≤ y.position → (world_of p available).completion is x ≤ (world_of p available).start us y
  new_start t is us q e o h b f input x old y n l =
      held_back p.resources (resource_of p) available (word_of p is) (word_of p us) (step_of p (move p.automaton t)) e o (good us q h) (counted_path p lawful is (move p.automaton t).from f) input
      (begins (t ∷ is) us b) (whose x) old y.position y.node n.0 n.1.0 (let v = size_is is in omega arith) n.1.1
