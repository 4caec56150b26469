-- "An opening gives .. one availability, in specified time, for each resource.": where the behaviour stands at first.
use Rattle.std.specs.Prelude.{Bool, List, ◌++◌, map, ℕ, ◌-◌, ltb, length, replicate}
use Rattle.std.specs.List.{list_any}
use Rattle.time.specs.Time.{horizon}
use Rattle.time.specs.declared.Specified.{Specified}
use Rattle.times.specs.declared.Progress.{Progress}
use Rattle.times.specs.Times.{specified}
use Rattle.times.specs.Queues.{no_instance}

-- a behaviour that stands at a state before its first transition
abbrev pub at_first : List Specified → ℕ → Progress
at_first available s = record {
  available = available;
  latest = replicate 16 (specified 0);
  lengths = replicate 16 0;
  pending = replicate 128 no_instance;
  position = 0;
  state = s;
}

-- availabilities in an array of 16, zeros past them
abbrev pub availabilities : List ℕ → List Specified
availabilities ts = map specified ts ++ replicate (16 - length ts) (specified 0)

-- 31: some availability is above 10^15
unfoldable pub any_above : List ℕ → Bool
any_above ts = list_any (λ t. ltb horizon t) ts
