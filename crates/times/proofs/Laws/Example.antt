-- Plan T of document 01 with the outcomes 0 and 1: the rows and the availabilities that it prints, by computation.
use Rattle.std.specs.Prelude.{◌≡◌, refl, List, [], ◌∷◌, ◌++◌, map, ℕ, length, replicate}
use Rattle.plan.specs.declared.Kind.{Kind}
use Rattle.plan.specs.declared.Node.{Node}
use Rattle.plan.specs.declared.Input.{Input}
use Rattle.times.specs.declared.Progress.{Progress}
use Rattle.times.specs.declared.Advanced.{Advanced}
use Rattle.times.specs.Times.{specified, at, ready_of, largest_of, start_of, placed_of, visit_of, round_of, rounds_of}
use Rattle.times.specs.Queues.{no_instance, shifted_of, processed_of, floor_of, queued_of}
use Rattle.times.specs.Engine.{raised_of, held_of, left_by, left_of, above_of, beyond_of, closed_of, emits_of, timed_of, advance_of}

abbrev node : Kind → ℕ → List ℕ → Node
node k d ms = record { kind = k; duration = d; count = length ms; preds = ms }

abbrev activity0 : List Node
activity0 =
    node (Kind.Claim 0) 0 []
    ∷ node (Kind.Claim 1) 0 []
    ∷ node (Kind.Action 0 2) 3000 (1 ∷ [])
    ∷ node (Kind.Action 1 0) 5000 (0 ∷ 2 ∷ [])
    ∷ node (Kind.Event 0) 1000 (3 ∷ [])
    ∷ node (Kind.Release 0) 0 (3 ∷ [])
    ∷ node (Kind.Release 1) 0 (2 ∷ [])
    ∷ []

abbrev activity1 : List Node
activity1 = node (Kind.Claim 0) 0 [] ∷ node (Kind.Action 2 1) 2000 (0 ∷ []) ∷ node (Kind.Release 0) 0 (1 ∷ []) ∷ []

abbrev opened : Progress
opened = record {
  available = replicate 16 (specified 0);
  latest = replicate 16 (specified 0);
  lengths = replicate 16 0;
  pending = replicate 128 no_instance;
  position = 0;
  state = 0;
}

abbrev first : Advanced
first = advance_of 2 activity0 Input.Nothing 1 opened

abbrev second : Advanced
second = advance_of 2 activity0 (Input.Outcome 0 0) 1 first.progress

abbrev third : Advanced
third = advance_of 2 activity1 (Input.Outcome 0 1) 2 second.progress

-- node, start and end of the listed nodes
abbrev rows : Advanced → List ℕ → List (ℕ × ℕ × ℕ)
rows x ns = map (λ n. (n, at x.schedule.start n, at x.schedule.end n)) ns

pub printed : rows first (2 ∷ 3 ∷ 4 ∷ []) ++ rows second (2 ∷ 3 ∷ 4 ∷ []) ++ rows third (1 ∷ []) ≡ (2, 0, 3000) ∷ (3, 3000, 8000) ∷ (4, 8000, 9000) ∷ (2, 9000, 12000) ∷ (3, 12000, 17000) ∷ (4, 17000, 18000) ∷ (1, 18000, 20000) ∷ []
unfolding ready_of largest_of start_of placed_of visit_of round_of rounds_of shifted_of processed_of floor_of queued_of raised_of held_of left_by left_of above_of beyond_of closed_of emits_of timed_of
printed = refl

pub free : at third.progress.available 0 ∷ at third.progress.available 1 ∷ third.progress.state ∷ [] ≡ 20000 ∷ 18000 ∷ 2 ∷ []
unfolding ready_of largest_of start_of placed_of visit_of round_of rounds_of shifted_of processed_of floor_of queued_of raised_of held_of left_by left_of above_of beyond_of closed_of emits_of timed_of
free = refl
