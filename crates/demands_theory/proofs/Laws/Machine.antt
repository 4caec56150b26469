-- What demand 3 speaks of: the words of a plan with their nodes, times and arrows, and a run with its window that answers
-- calls. Both are given by what is asked of them, so that the claim rests on nothing else.
use Rattle.std.specs.Prelude.{◌≡◌, [], ◌∷◌, ℕ, Option}
use Rattle.run_window.specs.declared.Entry.{Entry}
use Rattle.run.specs.declared.Call.{Call}
use Rattle.run.specs.declared.Reply.{Reply}
use Rattle.run_checks.specs.declared.Stop.{Stop}
use Rattle.demands_log.specs.Log.{Id, Log, Finishes}
use Rattle.demands_theory.specs.Nodes.{id_of}

-- Words, and of each "Its combined activity, under the opening's availabilities": its actions and events, their specified
-- times, and which stands before which; the activity at a position; and whether it ends in a final state.
pub record World : Type 1 where
  pub Word : Type 0
  pub Node : Word → Id → Type 0
  pub start : Word → Id → ℕ
  pub completion : Word → Id → ℕ
  pub Before : Word → Id → Id → Type 0
  pub Emits : Word → ℕ → ℕ → Type 0
  pub Final : Word → Type 0

-- A run and its calls. `holds run i e`: place i of the window holds the entry e.
pub record Machine : Type 1 where
  pub Run : Type 0
  pub reply : Run → Call → Reply
  pub next : Run → Call → Run
  pub last : Run → ℕ
  pub halt : Run → Option Stop
  pub holds : Run → ℕ → Entry → Type 0

-- ---- the window

abbrev pub Window : Type 1
Window = ℕ → Entry → Type 0

-- node x stands in the window
abbrev pub Held : Window → Id → Type 0
Held ws x = (i : ℕ) × (e : Entry) × ws i e × (id_of e ≡ x)

-- ---- the latest answer

abbrev pub Waiting : Reply → Type 0
Waiting (Reply.Start p a n) = ⊥
Waiting Reply.Wait = Unit {0}
Waiting Reply.Done = ⊥
Waiting Reply.Taken = ⊥
Waiting (Reply.Refused f) = ⊥
Waiting (Reply.Stopped s) = ⊥

abbrev pub Finished : Log → Type 0
Finished [] = ⊥
Finished (y ∷ older) = Finishes y.reply

abbrev pub Waited : Log → Type 0
Waited [] = ⊥
Waited (y ∷ older) = Waiting y.reply

-- the calls before the latest
abbrev pub before : Log → Log
before [] = []
before (y ∷ older) = older
