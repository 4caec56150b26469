-- Messages to the host: "Start has 1, 2 and 4, wait none, a refusal 5 (50 to 55, 61 or 62), stops 41 and 42 have 1, 2 and 5, stops 43
-- and 44 have 5."
use Rattle.std.specs.Prelude.{true, false, cond, List, [], ◌∷◌, ℕ, eqb, Result, Ok, Err, is_ok}
use Rattle.run.specs.declared.Reply.{Reply}
use Rattle.run_checks.specs.declared.Refusal.{Refusal}
use Rattle.run_checks.specs.declared.Stop.{Stop}
use Rattle.run.specs.Numbers.{refusal_number, stop_number}
use Rattle.format.specs.Format.{print}
use Rattle.link_messages.specs.declared.Message.{Message}
use Rattle.link_messages.specs.Message.{bits, Direction, message, read_by}
use Rattle.link_calls.specs.Calls.{refusal_of}

abbrev pub start_map : ℕ
start_map = bits (1 ∷ 2 ∷ 4 ∷ [])

abbrev pub wait_map : ℕ
wait_map = bits []

abbrev pub done_map : ℕ
done_map = bits (6 ∷ [])

abbrev pub taken_map : ℕ
taken_map = bits (7 ∷ [])

-- a refusal, and a stop that names no node
abbrev pub number_map : ℕ
number_map = bits (5 ∷ [])

-- a stop that names its node
abbrev pub node_map : ℕ
node_map = bits (1 ∷ 2 ∷ 5 ∷ [])

-- by the kind of answer that a map has, or `other`
abbrev pub by_reply_map : {A : Type 0} → ℕ → A → A → A → A → A → A → A → A
by_reply_map m start wait done taken number node other =
    cond (eqb m start_map) start
    (cond (eqb m wait_map) wait
    (cond (eqb m done_map) done
    (cond (eqb m taken_map) taken
    (cond (eqb m number_map) number
    (cond (eqb m node_map) node other)))))

-- ---- numbers

abbrev pub reply_number : Reply → ℕ
reply_number (Reply.Start p a n) = 0
reply_number Reply.Wait = 0
reply_number Reply.Done = 0
reply_number Reply.Taken = 0
reply_number (Reply.Refused f) = refusal_number f
reply_number (Reply.Stopped s) = stop_number s

-- the answers that a number tells apart: every refusal, and the stops that name no node
abbrev pub numbered : List Reply
numbered =
    Reply.Refused Refusal.OutOfLimits ∷ Reply.Refused Refusal.ReadingBelow ∷ Reply.Refused Refusal.NoSuchNode ∷ Reply.Refused Refusal.NotStarted
    ∷ Reply.Refused Refusal.OtherKind ∷ Reply.Refused Refusal.OutcomeLacking ∷ Reply.Refused Refusal.Unlisted ∷ Reply.Refused Refusal.Length
    ∷ Reply.Stopped Stop.Full ∷ Reply.Stopped Stop.Beyond ∷ []

-- and the stops that name this node
abbrev pub naming : ℕ → ℕ → List Reply
naming p n = Reply.Stopped (Stop.Late p n) ∷ Reply.Stopped (Stop.Overdue p n) ∷ []

-- the one of them that has number x
abbrev pub with_number : ℕ → List Reply → Result Reply Refusal
with_number x [] = Err Refusal.Unlisted
with_number x (r ∷ more) = cond (eqb x (reply_number r)) (Ok r) (with_number x more)

abbrev pub to_host : Direction
to_host = record {
  listed = λ m. by_reply_map m true true true true true true false;
  answers = λ m x. by_reply_map m false false false false (is_ok (with_number x numbered)) (is_ok (with_number x (naming 0 0))) false;
}

-- ---- a reply as a message

-- a message with a map and a number alone
abbrev pub plain : ℕ → ℕ → Message
plain m x = record { map = m; reading = 0; position = 0; node = 0; outcome = 0; activity = 0; number = x }

-- a stop that names its node
abbrev pub named : ℕ → ℕ → ℕ → Message
named p n x = record { map = node_map; reading = 0; position = p; node = n; outcome = 0; activity = 0; number = x }

abbrev pub of_stop : Stop → Message
of_stop (Stop.Late p n) = named p n (stop_number (Stop.Late p n))
of_stop (Stop.Overdue p n) = named p n (stop_number (Stop.Overdue p n))
of_stop Stop.Full = plain number_map (stop_number Stop.Full)
of_stop Stop.Beyond = plain number_map (stop_number Stop.Beyond)

abbrev pub of_reply : Reply → Message
of_reply (Reply.Start p a n) = record { map = start_map; reading = 0; position = p; node = n; outcome = 0; activity = a; number = 0 }
of_reply Reply.Wait = plain wait_map 0
of_reply Reply.Done = plain done_map 0
of_reply Reply.Taken = plain taken_map 0
of_reply (Reply.Refused f) = plain number_map (refusal_number f)
of_reply (Reply.Stopped s) = of_stop s

-- the bytes of a reply
unfoldable pub encode_reply : Reply → List ℕ
encode_reply r = print (message to_host) (of_reply r)

-- ---- reading

-- the reply that a message is
abbrev pub reply_from : Message → Result Reply Refusal
reply_from s =
    by_reply_map s.map
    (Ok (Reply.Start s.position s.activity s.node))
    (Ok Reply.Wait)
    (Ok Reply.Done)
    (Ok Reply.Taken)
    (with_number s.number numbered)
    (with_number s.number (naming s.position s.node))
    (Err Refusal.Unlisted)

unfoldable pub read_answer : List ℕ → Result Reply Refusal
read_answer b = read_by to_host b reply_from (λ n. Err (refusal_of n))
