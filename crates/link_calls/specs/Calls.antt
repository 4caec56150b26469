-- Messages to the board: "Ask has bit 0. Completion has 0 to 2. Outcome has 0 to 3."
use Rattle.std.specs.Prelude.{true, false, cond, List, [], ◌∷◌, ℕ, eqb, Result, Ok, Err}
use Rattle.time.specs.declared.Clock.{Clock}
use Rattle.run.specs.declared.Call.{Call}
use Rattle.run_checks.specs.declared.Refusal.{Refusal}
use Rattle.format.specs.Format.{print}
use Rattle.link_messages.specs.declared.Message.{Message}
use Rattle.link_messages.specs.Message.{bits, Direction, message, read_by}

abbrev pub ask_map : ℕ
ask_map = bits (0 ∷ [])

abbrev pub completion_map : ℕ
completion_map = bits (0 ∷ 1 ∷ 2 ∷ [])

abbrev pub outcome_map : ℕ
outcome_map = bits (0 ∷ 1 ∷ 2 ∷ 3 ∷ [])

-- by the kind of call that a map has, or `other`
abbrev pub by_call_map : {A : Type 0} → ℕ → A → A → A → A → A
by_call_map m ask completion outcome other =
    cond (eqb m ask_map) ask (cond (eqb m completion_map) completion (cond (eqb m outcome_map) outcome other))

-- no call has a number
abbrev pub to_board : Direction
to_board = record { listed = λ m. by_call_map m true true true false; answers = λ m x. false }

-- ---- a call as a message

abbrev pub clock : ℕ → Clock
clock t = record { 0 = t }

abbrev pub call_message : ℕ → Clock → ℕ → ℕ → ℕ → Message
call_message m t p n o = record { map = m; reading = t.0; position = p; node = n; outcome = o; activity = 0; number = 0 }

abbrev pub of_call : Call → Message
of_call (Call.Ask t) = call_message ask_map t 0 0 0
of_call (Call.Completion t p n) = call_message completion_map t p n 0
of_call (Call.Outcome t p n o) = call_message outcome_map t p n o

-- the bytes of a call
unfoldable pub encode_call : Call → List ℕ
encode_call c = print (message to_board) (of_call c)

-- ---- reading

-- the refusal of a message, by its number
abbrev pub refusal_of : ℕ → Refusal
refusal_of n = cond (eqb n 61) Refusal.Unlisted Refusal.Length

-- the call that a message is
abbrev pub call_from : Message → Result Call Refusal
call_from s =
    by_call_map s.map
    (Ok (Call.Ask (clock s.reading)))
    (Ok (Call.Completion (clock s.reading) s.position s.node))
    (Ok (Call.Outcome (clock s.reading) s.position s.node s.outcome))
    (Err Refusal.Unlisted)

unfoldable pub read_call : List ℕ → Result Call Refusal
read_call b = read_by to_board b call_from (λ n. Err (refusal_of n))
