-- How loading goes, over words, times and reports: "44 a completion or availability of the next path above 10^15, or a position
-- above 1,000,000,000; then 43 the window would pass 512".
use Rattle.std.specs.Prelude.{◌≡◌, List, [], ◌∷◌, ℕ, ◌<◌, length, Option, Some, None}
use Rattle.basis.specs.Lists.{Among, Distinct}
use Rattle.time.specs.Time.{horizon}
use Rattle.plan.specs.declared.Kind.{Kind}
use Rattle.plan.specs.declared.Plan.{Plan}
use Rattle.automaton.specs.declared.Next.{Next}
use Rattle.times_combined.specs.Combined.{Ident, Is, identity}
use Rattle.times_combined.specs.Times.{Timing}
use Rattle.times.specs.Engine.{last_position}
use Rattle.run_loading.specs.declared.Failure.{Failure}
use Rattle.demands_log.specs.Log.{Id, Log, Reported}
use Rattle.demands_theory.specs.Nodes.{Work, length_of}
use Rattle.demands_theory.specs.TheWord.{next_after, whole_of, Rests, Tail, Takes, Stuck}

-- ---- 44

-- the last transition of a word passes a limit; C: the completions of the word's combined activity
pub data Exceeds (p : Plan) (C : Ident → ℕ) : List ℕ → Type 0 where
  completion : {us : List ℕ} {t : ℕ} (n : ℕ) (k : Kind) → Is (whole_of p (t ∷ us)) (identity (length_of us) n) k → horizon < C (identity (length_of us) n) → Exceeds p C (t ∷ us)
  -- a resource is available when its release completes
  availability : {us : List ℕ} {t : ℕ} (x : Ident) (r : ℕ) → r < p.resources → Is (whole_of p (t ∷ us)) x (Kind.Release r) → horizon < C x → Exceeds p C (t ∷ us)
  position : {us : List ℕ} {t : ℕ} → last_position < length_of us → Exceeds p C (t ∷ us)

-- with the specified times of the word
pub record Beyond (p : Plan) (available : ℕ → ℕ) (us : List ℕ) : Type 0 where
  pub S : Ident → ℕ
  pub C : Ident → ℕ
  pub times : Timing (whole_of p us) available S C
  pub exceeds : Exceeds p C us

-- none of the transitions of a word does
abbrev pub Within : Plan → (ℕ → ℕ) → List ℕ → Type 0
Within p available us = (vs : List ℕ) → Tail vs us → Beyond p available vs → ⊥

-- ---- paths

-- vs goes on from us by transitions that await nothing
pub data Silently (p : Plan) (us : List ℕ) : List ℕ → Type 0 where
  stays : Silently p us us
  goes_on : {vs : List ℕ} {t : ℕ} → Silently p us vs → next_after p vs ≡ Next.Goes t → Silently p us (t ∷ vs)

-- vs is on the next path after us: the log takes a transition, and then others follow that await nothing
pub record Onward (p : Plan) (log : Log) (us vs : List ℕ) : Type 0 where
  pub first : ℕ
  pub taken : Takes p log (first ∷ us)
  pub silent : Silently p (first ∷ us) vs

-- it is the whole path, "up to a waiting or final state"
pub record NextPath (p : Plan) (log : Log) (us vs : List ℕ) : Type 0 where
  pub onward : Onward p log us vs
  pub rests : Rests p vs

-- a transition of the next path passes a limit
pub record PathBeyond (p : Plan) (available : ℕ → ℕ) (log : Log) (us : List ℕ) : Type 0 where
  pub at : List ℕ
  pub onward : Onward p log us at
  pub beyond : Beyond p available at

-- ---- 43

-- an action or event of the word, not yet reported
pub record Unreported (p : Plan) (log : Log) (us : List ℕ) (x : Id) : Type 0 where
  pub node : Work (whole_of p us) x
  pub unreported : Reported log x → ⊥

-- "at most 512": there are more
pub record TooMany (p : Plan) (log : Log) (us : List ℕ) : Type 0 where
  pub nodes : List Id
  pub distinct : Distinct nodes
  pub wait : (x : Id) → Among x nodes → Unreported p log us x
  pub many : 512 < length nodes

-- no transition of the next path passes a limit, but with it the window would pass 512
pub record PathFull (p : Plan) (available : ℕ → ℕ) (log : Log) (us : List ℕ) : Type 0 where
  pub path : List ℕ
  pub next : NextPath p log us path
  pub within : PathBeyond p available log us → ⊥
  pub many : TooMany p log path

-- ---- loading goes from us to vs, and ends there

pub data EndsAt (p : Plan) (available : ℕ → ℕ) (log : Log) (us : List ℕ) : Option Failure → Type 0 where
  -- there is no further path
  whole : Stuck p log us → EndsAt p available log us None
  -- the next path fails, and adds nothing
  beyond : PathBeyond p available log us → EndsAt p available log us (Some Failure.Beyond)
  full : PathFull p available log us → EndsAt p available log us (Some Failure.Full)

pub data Loads (p : Plan) (available : ℕ → ℕ) (log : Log) : List ℕ → List ℕ → Option Failure → Type 0 where
  ends : {us : List ℕ} {f : Option Failure} → EndsAt p available log us f → Loads p available log us us f
  -- the next path is loaded, "and further ones while their outcomes are already reported"
  later : {us vs ws : List ℕ} {f : Option Failure} → NextPath p log us vs → (PathBeyond p available log us → ⊥) → (TooMany p log vs → ⊥) → Loads p available log vs ws f → Loads p available log us ws f

-- ---- a beginning of the word that fits

pub record Fits (p : Plan) (available : ℕ → ℕ) (log : Log) (us : List ℕ) : Type 0 where
  -- "Paths are loaded up to a waiting or final state"
  pub rests : Rests p us
  pub within : Within p available us
  -- "at most 512"
  pub room : TooMany p log us → ⊥

-- ---- the first path, which an opening loads: nothing is reported yet

-- one of its transitions passes a limit
pub record FirstBeyond (p : Plan) (available : ℕ → ℕ) : Type 0 where
  pub at : List ℕ
  pub silent : Silently p [] at
  pub beyond : Beyond p available at

-- it has more than 512 actions and events
pub record FirstMany (p : Plan) : Type 0 where
  pub path : List ℕ
  pub silent : Silently p [] path
  pub rests : Rests p path
  pub many : TooMany p [] path
