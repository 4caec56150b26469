-- "Specified times": the starts and completions of the nodes of one activity, worked out in rounds. A node is worked
-- out once all its predecessors are. In an activity with a cycle (a made-up run) the nodes that no round reaches stay
-- undone, with start and completion 0.
use Rattle.std.specs.Prelude.{Bool, true, false, cond, List, [], ◌∷◌, ℕ, zero, suc, ◌+◌, max, length, get_or, set, replicate, eqb}
use Rattle.basis.specs.Parts.{part}
use Rattle.basis.specs.Tests.{flag}
use Rattle.time.specs.declared.Specified.{Specified}
use Rattle.plan.specs.Plan.{predecessors}
use Rattle.plan.specs.declared.Kind.{Kind}
use Rattle.plan.specs.declared.Node.{Node}
use Rattle.times.specs.declared.Schedule.{Schedule}

abbrev pub specified : ℕ → Specified
specified t = record { 0 = t }

-- time i of an array of times, 0 past its end
abbrev pub at : List Specified → ℕ → ℕ
at ts i = (get_or ts i (specified 0)).0

-- every predecessor is done
unfoldable pub ready_of : List Bool → List ℕ → Bool
ready_of done [] = true
ready_of done (m ∷ ms) = cond (flag done m) (ready_of done ms) false

-- "the largest completion among its predecessors"
unfoldable pub largest_of : List Specified → List ℕ → ℕ
largest_of end [] = 0
largest_of end (m ∷ ms) = max (at end m) (largest_of end ms)

-- "a claim starts when its resource is available"; "Each earlier node of an event precedes each later node of it."
abbrev pub start_by : List Specified → List Specified → ℕ → Kind → ℕ
start_by available latest m (Kind.Action a p) = m
start_by available latest m (Kind.Claim r) = at available r
start_by available latest m (Kind.Release r) = m
start_by available latest m (Kind.Event e) = max m (at latest e)

-- "The start of a node is the largest completion among its predecessors"
unfoldable pub start_of : List Specified → List Specified → List Specified → Node → ℕ
start_of available latest end x = start_by available latest (largest_of end (predecessors x)) x.kind

-- "Completion is start plus duration.": node n, of the duration d, starts at s and is the next in the order
unfoldable pub placed_of : ℕ → ℕ → ℕ → Schedule → Schedule
placed_of n d s t = record {
  start = set t.start n (specified s);
  end = set t.end n (specified (s + d));
  done = set t.done n true;
  order = set t.order t.count n;
  count = t.count + 1;
}

-- node n's turn in a round
unfoldable pub visit_of : List Specified → List Specified → Node → ℕ → Schedule → Schedule
visit_of available latest x n t =
    cond (flag t.done n) t
    (cond (ready_of t.done (predecessors x)) (placed_of n x.duration (start_of available latest t.end x) t) t)

-- one round: the nodes from number n on
unfoldable pub round_of : List Specified → List Specified → ℕ → List Node → Schedule → Schedule
round_of available latest n [] t = t
round_of available latest n (x ∷ xs) t = round_of available latest (n + 1) xs (visit_of available latest x n t)

-- at most k rounds, up to one that changes nothing
unfoldable pub rounds_of : List Specified → List Specified → List Node → ℕ → Schedule → Schedule
rounds_of available latest a zero t = t
rounds_of available latest a (suc k) t =
    let u = round_of available latest 0 a t in
    cond (eqb u.count t.count) t (rounds_of available latest a k u)

-- nothing is done
abbrev pub unscheduled : Schedule
unscheduled = record {
  start = replicate 64 (specified 0);
  end = replicate 64 (specified 0);
  done = replicate 64 false;
  order = replicate 64 0;
  count = 0;
}

-- the times of an activity whose resources are available, and whose events were last complete, at the given times
abbrev pub schedule_of : List Specified → List Specified → List Node → Schedule
schedule_of available latest a = rounds_of available latest a (length a) unscheduled

-- the nodes that are done, in the order in which they were worked out: none stands before a predecessor of it
abbrev pub order_of : Schedule → List ℕ
order_of t = part 0 t.order 0 t.count
