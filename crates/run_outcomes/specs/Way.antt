-- "further ones while their outcomes are already reported": the way on from a waiting state.
use Rattle.std.specs.Prelude.{◌≡◌, ℕ, ◌≤◌, ◌<◌, Option, None, Some}
use Rattle.plan.specs.declared.Automaton.{Automaton}
use Rattle.automaton.specs.Next.{next_of, chosen_of}
use Rattle.automaton.specs.declared.Next.{Next}
use Rattle.times.specs.declared.Told.{Told}
use Rattle.times.specs.declared.Progress.{Progress}
use Rattle.run_outcomes.specs.Told.{oldest_told}

abbrev pub on_told : {A : Type 0} → Told → (ℕ → A) → A → A
on_told Told.Nothing f z = z
on_told (Told.Outcome o) f z = f o

abbrev pub on_chosen : {A : Type 0} → Option ℕ → (ℕ → A) → A → A
on_chosen None f z = z
on_chosen (Some t) f z = f t

-- the transition of an outcome of event e, if the state has one
abbrev pub by_choice : Option ℕ → ℕ → Next
by_choice c e = on_chosen c Next.Goes (Next.Waits e)

-- by what was reported of the oldest instance of event e
abbrev pub by_told : Automaton → ℕ → ℕ → Told → Next
by_told a s e t = on_told t (λ o. by_choice (chosen_of a s e o) e) (Next.Waits e)

-- the way on: at a waiting state the transition of the outcome that was reported of the oldest instance
unfoldable pub way_on : Automaton → Progress → Next → Next
way_on a g Next.Ended = Next.Ended
way_on a g (Next.Goes t) = Next.Ended
way_on a g (Next.Waits e) = by_told a g.state e (oldest_told g e)

-- what looking for it asks of an automaton: the events that its states await have a queue
pub record Awaits (a : Automaton) : Type 0 where
  pub few : a.count ≤ 256
  pub queued : (s e : ℕ) → next_of a s ≡ Next.Waits e → e < 16
