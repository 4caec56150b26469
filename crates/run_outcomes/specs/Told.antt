-- The outcome of an event node, stored with its pending instance.
use Rattle.std.specs.Prelude.{Bool, cond, ◌&&◌, List, ℕ, zero, suc, ◌+◌, ◌*◌, ltb, eqb, get_or, set}
use Rattle.times.specs.declared.Told.{Told}
use Rattle.times.specs.declared.Instance.{Instance}
use Rattle.times.specs.declared.Progress.{Progress}
use Rattle.times.specs.Queues.{no_instance, pending_of, instance_of}
use Rattle.run_window.specs.declared.Entry.{Entry}

abbrev pub tell : Instance → ℕ → Instance
tell x o = record { position = x.position; node = x.node; end = x.end; told = Told.Outcome o }

-- the instance of the node (position, node)
unfoldable pub is_instance : ℕ → ℕ → Instance → Bool
is_instance position node x = eqb x.position position && eqb x.node node

-- the outcome o of the instance (position, node), among the k pending ones from place i on
unfoldable pub told_from : ℕ → ℕ → ℕ → ℕ → ℕ → List Instance → List Instance
told_from position node o i zero xs = xs
told_from position node o i (suc k) xs =
    cond (is_instance position node (get_or xs i no_instance))
    (set xs i (tell (get_or xs i no_instance) o))
    (told_from position node o (i + 1) k xs)

-- where the behaviour stands once the outcome o of event e, at the entry x, is known
abbrev pub told_of : Progress → ℕ → Entry → ℕ → Progress
told_of g e x o = record {
  available = g.available;
  latest = g.latest;
  lengths = g.lengths;
  pending = told_from x.position x.node o (8 * e) (pending_of g e) g.pending;
  position = g.position;
  state = g.state;
}

-- what was reported of the oldest pending instance of event e
abbrev pub oldest_told : Progress → ℕ → Told
oldest_told g e = cond (ltb 0 (pending_of g e)) (instance_of g e 0).told Told.Nothing
