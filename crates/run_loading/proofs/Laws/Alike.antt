-- Plans that load alike: what the limits ask of a plan with other nodes and transitions in its arrays, a path by its first transition,
-- and further paths of two plans that load each path alike and have the same ways on.
use Rattle.std.specs.Prelude.{◌≡◌, true, cond, List, [], Option, Some, None}
use Rattle.std.proofs.Math.Path.{refl, ap}
use Rattle.std.proofs.Common.{◌∙◌}
use Prim.Native.Nat.{ℕ, zero, suc, ◌<◌}
use Rattle.plan.specs.Limits.{KindNames, NodeInLimits, InputNames, OutputNames, MoveInLimits}
use Rattle.plan.specs.declared.Kind.{Kind}
use Rattle.plan.specs.declared.Node.{Node}
use Rattle.plan.specs.declared.Input.{Input}
use Rattle.plan.specs.declared.Output.{Output}
use Rattle.plan.specs.declared.Transition.{Transition}
use Rattle.plan.specs.declared.Plan.{Plan}
use Rattle.automaton.specs.Next.{next_of}
use Rattle.automaton.proofs.Laws.Spare.{with_moves}
use Rattle.automaton.specs.declared.Next.{Next}
use Rattle.times.specs.Engine.{advance_of}
use Rattle.times.specs.declared.Advanced.{Advanced}
use Rattle.times.specs.declared.Progress.{Progress}
use Rattle.run_window.specs.declared.Entry.{Entry}
use Rattle.run_path.specs.Path.{Path, activity_number, entries_from, after}
use Rattle.run_path.specs.Pathed.{Leads}
use Rattle.run_loading.specs.declared.Failure.{Failure}
use Rattle.run_loading.specs.declared.Loading.{Loading}
use Rattle.run_loading.specs.Loading.{loading, load, on_way, on_failure, on_loading, further}
use Rattle.run_loading.proofs.Laws.Loading.{way_leads, way_from}

-- ---- other nodes and transitions

abbrev pub having : Plan → List Node → List Transition → Plan
having p ns ms = record {
  resources = p.resources;
  peripherals = p.peripherals;
  belongs = p.belongs;
  events = p.events;
  outcomes = p.outcomes;
  activities = p.activities;
  sizes = p.sizes;
  nodes = ns;
  automaton = with_moves p.automaton ms;
}

-- what the limits ask of one node and one transition is the same
module _ (p : Plan) (ns : List Node) (ms : List Transition) where
  kind_alike : (k : Kind) → KindNames p k → KindNames (having p ns ms) k
  kind_alike (Kind.Action a x) h = h
  kind_alike (Kind.Claim r) h = h
  kind_alike (Kind.Release r) h = h
  kind_alike (Kind.Event e) h = h

  pub node_alike : (size : ℕ) (n : Node) → NodeInLimits p size n → NodeInLimits (having p ns ms) size n
  node_alike size n h = record { names = kind_alike n.kind h.names; duration = h.duration; few = h.few; arrows = h.arrows }

  input_alike : (i : Input) → InputNames p i → InputNames (having p ns ms) i
  input_alike Input.Nothing h = h
  input_alike (Input.Outcome e o) h = h

  output_alike : (o : Output) → OutputNames p o → OutputNames (having p ns ms) o
  output_alike Output.Empty h = h
  output_alike (Output.Activity a) h = h

  pub move_alike : (t : Transition) → MoveInLimits p t → MoveInLimits (having p ns ms) t
  move_alike t h = record { from = h.from; to = h.to; input = input_alike t.input h.input; output = output_alike t.output h.output }

-- ---- one transition by the nodes that it emits

-- transition m where it emits the nodes xs
abbrev pub taken : ℕ → Transition → Progress → List Node → Advanced
taken resources m g xs = advance_of resources xs m.input m.to g

-- a path that starts with it, and goes on as f says
abbrev pub starting : ℕ → Transition → Progress → (Progress → Path) → List Node → Path
starting resources m g f xs =
    cond (taken resources m g xs).beyond (record { beyond = true; entries = []; progress = g })
    (after (entries_from g.position (activity_number m.output) (taken resources m g xs).schedule 0 xs) (f (taken resources m g xs).progress))

-- it is the same where what follows is
pub starting_alike : (resources : ℕ) (m : Transition) (g : Progress) (xs : List Node) (f h : Progress → Path) → ((k : Progress) → f k ≡ h k) → starting resources m g f xs ≡ starting resources m g h xs
starting_alike resources m g xs f h e =
    let r = taken resources m g xs in
    ap (λ (q : Path). cond r.beyond (record { beyond = true; entries = []; progress = g }) (after (entries_from g.position (activity_number m.output) r.schedule 0 xs) q)) (e r.progress)

-- ---- further paths

-- q loads each path as p does, and has the same ways on
module _ (p q : Plan) (loads : (t : ℕ) → t < p.automaton.count → (g : Progress) (w : List Entry) → load q (Next.Goes t) g w ≡ load p (Next.Goes t) g w) (ways : (g : Progress) → way_from q g ≡ way_from p g) where
  module _ (f h : Progress → List Entry → Loading) (e : (g : Progress) (w : List Entry) → f g w ≡ h g w) where
    -- what follows the loading of a path
    on_alike : (l : Loading) → on_loading l f ≡ on_loading l h
    on_alike l = by l.failure
      where
        by : (x : Option Failure) → on_failure x l (f l.progress l.window) ≡ on_failure x l (h l.progress l.window)
        by None = e l.progress l.window
        by (Some z) = refl

    -- what follows the way on
    way_alike : (g : Progress) (w : List Entry) (n : Next)
        → Leads p.automaton.count n
        → on_way n (λ t. on_loading (load q (Next.Goes t) g w) f) (loading None g w) ≡ on_way n (λ t. on_loading (load p (Next.Goes t) g w) h) (loading None g w)
    way_alike g w Next.Ended l = refl
    way_alike g w (Next.Waits x) l = refl
    way_alike g w (Next.Goes t) l = ap (λ (m : Loading). on_loading m f) (loads t l g w) ∙ on_alike (load p (Next.Goes t) g w)

  pub further_alike : (k : ℕ) (g : Progress) (w : List Entry) → further q k g w ≡ further p k g w
  unfolding further
  further_alike zero g w = refl
  further_alike (suc k) g w =
      ap (λ (n : Next). on_way n (λ t. on_loading (load q (Next.Goes t) g w) (further q k)) (loading None g w)) (ways g)
      ∙ way_alike (further q k) (further p k) (further_alike k) g w (way_from p g) (way_leads p.automaton g (next_of p.automaton g.state))
