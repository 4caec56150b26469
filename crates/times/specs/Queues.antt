-- The emitted, unprocessed instances of each event: at most 8, oldest first.
use Rattle.std.specs.Prelude.{cond, List, ℕ, zero, suc, ◌+◌, ◌-◌, ◌*◌, get_or, set, ltb}
use Rattle.basis.specs.Parts.{part}
use Rattle.plan.specs.declared.Input.{Input}
use Rattle.times.specs.declared.Told.{Told}
use Rattle.times.specs.declared.Instance.{Instance}
use Rattle.times.specs.declared.Progress.{Progress}
use Rattle.times.specs.Times.{specified}

-- an empty place of a queue
abbrev pub no_instance : Instance
no_instance = record { position = 0; node = 0; end = specified 0; told = Told.Nothing }

-- how many instances of e are pending
abbrev pub pending_of : Progress → ℕ → ℕ
pending_of g e = get_or g.lengths e 0

-- instance i of those of e, the oldest first
abbrev pub instance_of : Progress → ℕ → ℕ → Instance
instance_of g e i = get_or g.pending (8 * e + i) no_instance

-- the queue of e
abbrev pub queue_of : Progress → ℕ → List Instance
queue_of g e = part no_instance g.pending (8 * e) (pending_of g e)

-- each of k places from i on takes what the next one holds; the place after them is emptied
unfoldable pub shifted_of : ℕ → ℕ → List Instance → List Instance
shifted_of i zero q = set q i no_instance
shifted_of i (suc k) q = shifted_of (i + 1) k (set q i (get_or q (i + 1) no_instance))

-- "processed in order of emission": the oldest instance of e leaves its queue
abbrev pub oldest_gone : ℕ → Progress → Progress
oldest_gone e g = record {
  available = g.available;
  latest = g.latest;
  lengths = set g.lengths e (pending_of g e - 1);
  pending = shifted_of (8 * e) 7 g.pending;
  position = g.position;
  state = g.state;
}

-- "A transition processes first": the queues after that; a made-up state may have nothing to process
unfoldable pub processed_of : Input → Progress → Progress
processed_of Input.Nothing g = g
processed_of (Input.Outcome e o) g = cond (ltb 0 (pending_of g e)) (oldest_gone e g) g

-- the completion of the instance that a transition processes; 0 where it processes none
unfoldable pub floor_of : Input → Progress → ℕ
floor_of Input.Nothing g = 0
floor_of (Input.Outcome e o) g = cond (ltb 0 (pending_of g e)) (instance_of g e 0).end.0 0

-- node n of the transition at hand, which completes at t, is a new instance of an event
abbrev pub emission : ℕ → ℕ → ℕ → Instance
emission position n t = record { position = position; node = n; end = specified t; told = Told.Nothing }

-- x joins the queue of e, unless 8 stand there already (made-up plans alone)
unfoldable pub queued_of : ℕ → Instance → Progress → Progress
queued_of e x g =
    cond (ltb (pending_of g e) 8)
    (record {
      available = g.available;
      latest = g.latest;
      lengths = set g.lengths e (pending_of g e + 1);
      pending = set g.pending (8 * e + pending_of g e) x;
      position = g.position;
      state = g.state;
    })
    g
