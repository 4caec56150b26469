-- What a reader gets. For every word of good activities that processes an event only while more of it have been emitted
-- than processed, and so for every word of an accepted plan:
-- the engine's times, one transition at a time, are the times of the combined activity of the whole word (Def. 7, 8, 11),
-- and there are no others.
use Rattle.std.specs.Prelude.{◌≡◌, List, ◌↔◌, ℕ, ◌+◌, ◌≤◌, ◌<◌}
use Rattle.std.proofs.Common.{ap, subst, arith}
use Rattle.plan.specs.declared.Kind.{Kind}
use Rattle.plan.specs.declared.Input.{Input}
use Rattle.plan.specs.declared.Plan.{Plan}
use Rattle.plan.specs.Plan.{resource_of}
use Rattle.times_combined.specs.Word.{Step, Word, ◌▷◌, Begins, size, times}
use Rattle.times_combined.proofs.Laws.Accepted.{GoodWord, Counted}
use Rattle.times_combined.specs.Combined.{Ident, identity, NotRelease, Before, Instance, combined}
use Rattle.times_combined.specs.Times.{Timing}
use Rattle.times_combined.proofs.Laws.Engine.{State, Trace, Run}
use Rattle.times_combined.proofs.Laws.Exec.{oldest_of, floor_of, state_of, starts_of, ends_of, trace_of, start_in, end_in}
use Rattle.times_combined.specs.Paths.{word_of, Follows, Lawful}
use Rattle.times_combined.proofs.Laws.Exists.{Ready, runs, state_after_lem}
use Rattle.times_combined.proofs.Laws.Exists as Exists
use Rattle.times_combined.proofs.Laws.TimesEqual.{Equal, Emitted, after}
use Rattle.times_combined.proofs.Laws.TimesEqual as TimesEqual
use Rattle.times_combined.proofs.Laws.Unique as Unique
use Rattle.times_combined.proofs.Laws.Counts as Counts
use Rattle.times_combined.proofs.Laws.Later.{oldest_is, start_from}
use Rattle.times_combined.proofs.Laws.Unique.{good_beginning}
use Rattle.times_combined.proofs.Laws.Plans.{good_path, counted_path}

-- ---- any computation that goes the engine's way

-- its times satisfy Def. 11, and its availabilities are the completions of the releases
pub run_equal : (R : ℕ) (belongs available : ℕ → ℕ) (t : Trace) (w : Word) → GoodWord R belongs w → Run R available t w → Equal R available t w
run_equal = TimesEqual.times_equal

-- ---- Def. 11

-- it has at most one solution
pub one_solution : (R : ℕ) (belongs available : ℕ → ℕ) (w : Word) → GoodWord R belongs w → (S C T D : Ident → ℕ) → Timing (combined R w) available S C → Timing (combined R w) available T D → (x : Ident) (k : Kind) (d : ℕ) → (combined R w).Holds x k d → (S x ≡ T x) × (C x ≡ D x)
one_solution = Unique.unique

-- the nodes of a beginning of a word, but for its releases, are nodes of the word, with the same times
pub stable_beginning : (R : ℕ) (belongs available : ℕ → ℕ) (v w : Word) → GoodWord R belongs w → Begins v w → (S C T D : Ident → ℕ) → Timing (combined R v) available S C → Timing (combined R w) available T D → (x : Ident) (k : Kind) (d : ℕ) → (combined R v).Holds x k d → NotRelease k → (combined R w).Holds x k d × (S x ≡ T x) × (C x ≡ D x)
stable_beginning = Unique.stable_beginning

-- the instance that is processed exists, at each processing, exactly if more were emitted than processed
pub ready_iff : (R : ℕ) (belongs : ℕ → ℕ) (w : Word) → GoodWord R belongs w → Ready R w ↔ Counted w
ready_iff = Counts.ready_iff

-- ---- the engine's times by identity, over a word

-- at the last position they are those of the last transition
pub last_start : (available : ℕ → ℕ) (w : Word) (x : Step) (n : ℕ) → start_in available (w ▷ x) (identity (size w) n) ≡ starts_of x (state_of available w) n
last_start = Exists.last_start

pub last_end : (available : ℕ → ℕ) (w : Word) (x : Step) (n : ℕ) → end_in available (w ▷ x) (identity (size w) n) ≡ ends_of x (state_of available w) n
last_end = Exists.last_end

-- at earlier positions they are as before
pub kept_start : (available : ℕ → ℕ) (w : Word) (x : Step) (p n : ℕ) → p < size w → start_in available (w ▷ x) (identity p n) ≡ start_in available w (identity p n)
kept_start = Exists.kept_start

pub kept_end : (available : ℕ → ℕ) (w : Word) (x : Step) (p n : ℕ) → p < size w → end_in available (w ▷ x) (identity p n) ≡ end_in available w (identity p n)
kept_end = Exists.kept_end

module _ (R : ℕ) (belongs available : ℕ → ℕ) (w : Word) (good : GoodWord R belongs w) (counted : Counted w) where
  run : Run R available (trace_of available w) w
  run = runs R belongs available w good ((ready_iff R belongs w good).1 counted)

  whole : Equal R available (trace_of available w) w
  whole = run_equal R belongs available (trace_of available w) w good run

  -- they satisfy Def. 11 on the combined activity
  pub times_equal : Timing (combined R w) available (start_in available w) (end_in available w)
  times_equal = whole.timing

  -- and no others do
  pub times_only : (S C : Ident → ℕ) → Timing (combined R w) available S C → (x : Ident) (k : Kind) (d : ℕ) → (combined R w).Holds x k d → (S x ≡ start_in available w x) × (C x ≡ end_in available w x)
  times_only S C t = one_solution R belongs available w good S C (start_in available w) (end_in available w) t times_equal

  -- the queue of e holds the completions of its instances from number |w|^e + 1 on, in order
  pub queue_equal : (e : ℕ) → Emitted (combined R w) e (times e w) (end_in available w) ((state_of available w).queue e)
  queue_equal e =
      subst (λ (s : State). Emitted (combined R w) e (times e w) (end_in available w) (s.queue e)) (state_after_lem available w)
      ((after R belongs available (trace_of available w) w good run).queues e)

  -- what is before a node has completed when it starts
  pub before_ends : (m n : Ident) → Before (combined R w) m n → end_in available w m ≤ start_in available w n
  before_ends = Unique.before_ends (combined R w) (size w) available (start_in available w) (end_in available w) (Unique.shape_of R belongs w good) times_equal

-- nothing that a transition emits, or a later one, starts before the instance that the transition processes has completed
pub held_back : (R : ℕ) (belongs available : ℕ → ℕ) (w v : Word) (x : Step) (e u : ℕ) → GoodWord R belongs v → Counted w → x.input ≡ Input.Outcome e u → Begins (w ▷ x) v → (y : Ident) → Instance (combined R w) e (times e w + 1) y → (q n : ℕ) (k : Kind) (d : ℕ) → size w ≤ q → (combined R v).Holds (identity q n) k d → end_in available w y ≤ start_in available v (identity q n)
held_back R belongs available w v x e u ok counted is b y i q n k d l h =
    start_from R belongs available (end_in available w y) w x v b ok
    (let o = oldest_is (combined R w) e (times e w) (end_in available w) ((state_of available w).queue e) (queue_equal R belongs available w (good_beginning R belongs available (w ▷ x) v ok b).0 counted e) y i in
    let f : floor_of x.input (state_of available w) ≡ oldest_of ((state_of available w).queue e) = ap (λ (z : Input). floor_of z (state_of available w)) is in
    omega arith)
    q n k d l h

-- ---- the words of an accepted plan

-- the transitions `is`, the latest first, lead from the initial state to q
module _ (p : Plan) (lawful : Lawful p) (available : ℕ → ℕ) (is : List ℕ) (q : ℕ) (path : Follows p p.automaton.initial is q) where
  good : GoodWord p.resources (resource_of p) (word_of p is)
  good = good_path p lawful p.automaton.initial is q path

  pub plan_times_equal : Timing (combined p.resources (word_of p is)) available (start_in available (word_of p is)) (end_in available (word_of p is))
  plan_times_equal = times_equal p.resources (resource_of p) available (word_of p is) good (counted_path p lawful is q path)

  pub plan_times_only : (S C : Ident → ℕ) → Timing (combined p.resources (word_of p is)) available S C → (x : Ident) (k : Kind) (d : ℕ) → (combined p.resources (word_of p is)).Holds x k d → (S x ≡ start_in available (word_of p is) x) × (C x ≡ end_in available (word_of p is) x)
  plan_times_only = times_only p.resources (resource_of p) available (word_of p is) good (counted_path p lawful is q path)

  -- whoever goes the engine's way over such a word has these times
  pub plan_run_equal : (t : Trace) → Run p.resources available t (word_of p is) → Equal p.resources available t (word_of p is)
  plan_run_equal t = run_equal p.resources (resource_of p) available t (word_of p is) good
