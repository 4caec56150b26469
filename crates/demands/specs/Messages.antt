-- Request (a), messages of the host link: what each means, each number in its condition and in no other, and that a bad message
-- never reaches the run.
use Rattle.std.specs.Prelude.{◌≡◌, List, [], ◌∷◌, ◌++◌, ◌↔◌, ℕ, ◌-◌, ◌≤◌, ◌<◌, length, get_or, take, drop, Result, Ok, Err}
use Rattle.wire.specs.Number.{bytes_of}
use Rattle.time.specs.declared.Clock.{Clock}
use Rattle.run.specs.declared.Run.{Run}
use Rattle.run.specs.declared.Call.{Call}
use Rattle.run.specs.declared.Reply.{Reply}
use Rattle.run.specs.declared.Opening.{Opening}
use Rattle.run_checks.specs.declared.Refusal.{Refusal}
use Rattle.run_checks.specs.declared.Stop.{Stop}
use Rattle.run.specs.Calls.{refuse, call_of}
use Rattle.run.specs.Numbers.{refusal_number}
use Rattle.run.specs.Opening.{open_of}
use Rattle.judge.specs.Judge.{judge_of}
use Rattle.link_messages.specs.declared.Message.{Message}
use Rattle.link_messages.specs.declared.NotSent.{NotSent}
use Rattle.format.specs.Format.{print}
use Rattle.link_messages.specs.Message.{length_of, Direction, message}
use Rattle.link_messages.specs.Writing.{Fits, number_of, place_of, sent_of, buffer_of}
use Rattle.link_calls.specs.Calls.{to_board, of_call, encode_call, read_call}
use Rattle.link_calls.specs.Replies.{to_host, of_reply, encode_reply, read_answer}
use Rattle.link.specs.Receive.{receive_of}
use Rattle.link_drive.specs.LinkDrive.{replies_from}
use Rattle.demands_log.specs.Log.{Log, said}
use Rattle.demands_log.specs.Drive.{Driven, drive}
use Rattle.demands.specs.Accepted.{Bytes}
use Rattle.demands.specs.Demand3.{Demand3Of}

-- ---- the bytes of each message, written out: map, then "the fields whose bits stand, in bit order, little-endian"

abbrev pub call_bytes : Call → List ℕ
call_bytes (Call.Ask t) = 0x01 ∷ bytes_of 8 t.0
call_bytes (Call.Completion t p n) = 0x07 ∷ (bytes_of 8 t.0 ++ (bytes_of 4 p ++ bytes_of 1 n))
call_bytes (Call.Outcome t p n o) = 0x0F ∷ (bytes_of 8 t.0 ++ (bytes_of 4 p ++ (bytes_of 1 n ++ bytes_of 1 o)))

abbrev pub refusal_byte : Refusal → ℕ
refusal_byte Refusal.OutOfLimits = 50
refusal_byte Refusal.ReadingBelow = 51
refusal_byte Refusal.NoSuchNode = 52
refusal_byte Refusal.NotStarted = 53
refusal_byte Refusal.OtherKind = 54
refusal_byte Refusal.OutcomeLacking = 55
refusal_byte Refusal.Unlisted = 61
refusal_byte Refusal.Length = 62

abbrev pub reply_bytes : Reply → List ℕ
reply_bytes (Reply.Start p a n) = 0x16 ∷ (bytes_of 4 p ++ (bytes_of 1 n ++ bytes_of 1 a))
reply_bytes Reply.Wait = 0x00 ∷ []
reply_bytes Reply.Done = 0x40 ∷ []
reply_bytes Reply.Taken = 0x80 ∷ []
reply_bytes (Reply.Refused f) = 0x20 ∷ refusal_byte f ∷ []
reply_bytes (Reply.Stopped (Stop.Late p n)) = 0x26 ∷ (bytes_of 4 p ++ (bytes_of 1 n ++ (41 ∷ [])))
reply_bytes (Reply.Stopped (Stop.Overdue p n)) = 0x26 ∷ (bytes_of 4 p ++ (bytes_of 1 n ++ (42 ∷ [])))
reply_bytes (Reply.Stopped Stop.Full) = 0x20 ∷ 43 ∷ []
reply_bytes (Reply.Stopped Stop.Beyond) = 0x20 ∷ 44 ∷ []

abbrev pub StatementCallBytes : Type 0
StatementCallBytes = (c : Call) → encode_call c ≡ call_bytes c

abbrev pub StatementReplyBytes : Type 0
StatementReplyBytes = (r : Reply) → encode_reply r ≡ reply_bytes r

-- ---- reading: bytes are read as a call, or reply, whose numbers their fields hold exactly where they are its bytes

abbrev pub StatementCallMessage : Type 0
StatementCallMessage = (b : List ℕ) → Bytes b → (c : Call) → Fits (of_call c) → (read_call b ≡ Ok c) ↔ (encode_call c ≡ b)

abbrev pub StatementAnswerMessage : Type 0
StatementAnswerMessage = (b : List ℕ) → Bytes b → (r : Reply) → Fits (of_reply r) → (read_answer b ≡ Ok r) ↔ (encode_reply r ≡ b)

-- whatever call, or reply, bytes are read as, they are its bytes
abbrev pub StatementCallWritten : Type 0
StatementCallWritten = (b : List ℕ) → Bytes b → (c : Call) → read_call b ≡ Ok c → encode_call c ≡ b

abbrev pub StatementReplyWritten : Type 0
StatementReplyWritten = (b : List ℕ) → Bytes b → (r : Reply) → read_answer b ≡ Ok r → encode_reply r ≡ b

-- ---- 62, then 61

-- "62, an empty message or a length other than the map's"
pub data WrongLength (b : List ℕ) : Type 0 where
  empty : length b ≡ 0 → WrongLength b
  other : (length b ≡ length_of (get_or b 0 0) → ⊥) → WrongLength b

-- "Ask has bit 0. Completion has 0 to 2. Outcome has 0 to 3."
pub data CallMap : ℕ → Type 0 where
  ask : CallMap 0x01
  completion : CallMap 0x07
  outcome : CallMap 0x0F

-- "a refusal 5 (50 to 55, 61 or 62)", "stops 43 and 44 have 5"
pub data NumberAlone : ℕ → Type 0 where
  number43 : NumberAlone 43
  number44 : NumberAlone 44
  number50 : NumberAlone 50
  number51 : NumberAlone 51
  number52 : NumberAlone 52
  number53 : NumberAlone 53
  number54 : NumberAlone 54
  number55 : NumberAlone 55
  number61 : NumberAlone 61
  number62 : NumberAlone 62

-- "stops 41 and 42 have 1, 2 and 5"
pub data NumberWithNode : ℕ → Type 0 where
  number41 : NumberWithNode 41
  number42 : NumberWithNode 42

-- a map that is listed, and a number that an answer with it has: "Start has 1, 2 and 4, wait none"
pub data AnswerMap : ℕ → ℕ → Type 0 where
  start : {x : ℕ} → AnswerMap 0x16 x
  wait : {x : ℕ} → AnswerMap 0x00 x
  done : {x : ℕ} → AnswerMap 0x40 x
  taken : {x : ℕ} → AnswerMap 0x80 x
  number : {x : ℕ} → NumberAlone x → AnswerMap 0x20 x
  node : {x : ℕ} → NumberWithNode x → AnswerMap 0x26 x

-- the number is the last field of its message
abbrev pub last_of : List ℕ → ℕ
last_of b = get_or b (length b - 1) 0

-- "then 61, a map not listed for its direction, or a number no such answer has"
pub record UnlistedCall (b : List ℕ) : Type 0 where
  pub its_length : WrongLength b → ⊥
  pub unlisted : CallMap (get_or b 0 0) → ⊥

pub record UnlistedAnswer (b : List ℕ) : Type 0 where
  pub its_length : WrongLength b → ⊥
  pub unlisted : AnswerMap (get_or b 0 0) (last_of b) → ⊥

abbrev pub StatementCallLength62 : Type 0
StatementCallLength62 = (b : List ℕ) → (read_call b ≡ Err Refusal.Length) ↔ WrongLength b

abbrev pub StatementCallUnlisted61 : Type 0
StatementCallUnlisted61 = (b : List ℕ) → (read_call b ≡ Err Refusal.Unlisted) ↔ UnlistedCall b

abbrev pub StatementAnswerLength62 : Type 0
StatementAnswerLength62 = (b : List ℕ) → (read_answer b ≡ Err Refusal.Length) ↔ WrongLength b

abbrev pub StatementAnswerUnlisted61 : Type 0
StatementAnswerUnlisted61 = (b : List ℕ) → (read_answer b ≡ Err Refusal.Unlisted) ↔ UnlistedAnswer b

-- the two refusals of a message
pub data OfMessage : Refusal → Type 0 where
  by61 : OfMessage Refusal.Unlisted
  by62 : OfMessage Refusal.Length

-- a message is refused by no other, and these have the numbers 61 and 62
pub record OnlyThese : Type 0 where
  pub call : (b : List ℕ) (f : Refusal) → read_call b ≡ Err f → OfMessage f
  pub answer : (b : List ℕ) (f : Refusal) → read_answer b ≡ Err f → OfMessage f
  pub is61 : refusal_number Refusal.Unlisted ≡ 61
  pub is62 : refusal_number Refusal.Length ≡ 62

-- ---- writing: "for a writer too, place 0, before 36"

-- Good says that the direction has the message
pub data Sends (Good : Type 0) (s : Message) (out : List ℕ) : Result ℕ NotSent → Type 0 where
  unlisted : (Good → ⊥) → Sends Good s out (Err NotSent.Unlisted)
  short : Good → length out < length_of s.map → Sends Good s out (Err NotSent.TooShort)
  written : Good → length_of s.map ≤ length out → Sends Good s out (Ok (length_of s.map))

abbrev pub StatementSentCall : Type 0
StatementSentCall = (s : Message) (out : List ℕ) (w : Result ℕ NotSent) → (sent_of to_board s out ≡ w) ↔ Sends (CallMap s.map) s out w

abbrev pub StatementSentAnswer : Type 0
StatementSentAnswer = (s : Message) (out : List ℕ) (w : Result ℕ NotSent) → (sent_of to_host s out ≡ w) ↔ Sends (AnswerMap s.map s.number) s out w

-- In either direction a refusal leaves the buffer as it was. A message stands at its front, as the description writes it, which of a
-- call or a reply is `encode_call`, `encode_reply`; the buffer is as long as before, and its bytes after the message are unchanged.
pub record Lent (d : Direction) (s : Message) (out : List ℕ) : Type 0 where
  pub refused : (n : NotSent) → sent_of d s out ≡ Err n → buffer_of d s out ≡ out
  pub front : (n : ℕ) → sent_of d s out ≡ Ok n → take n (buffer_of d s out) ≡ print (message d) s
  pub behind : (n : ℕ) → sent_of d s out ≡ Ok n → drop n (buffer_of d s out) ≡ drop n out
  pub as_long : (n : ℕ) → sent_of d s out ≡ Ok n → length (buffer_of d s out) ≡ length out

abbrev pub StatementLent : Type 0
StatementLent = (d : Direction) (s : Message) (out : List ℕ) → Lent d s out

-- 61 and 36, both with place 0
pub record WriterNumbers : Type 0 where
  pub is61 : number_of NotSent.Unlisted ≡ 61
  pub is36 : number_of NotSent.TooShort ≡ 36
  pub place : (n : NotSent) → place_of n ≡ 0

-- the message of a call, and that of a reply, never gives 61
pub record Never61 : Type 0 where
  pub call : (c : Call) (out : List ℕ) → sent_of to_board (of_call c) out ≡ Err NotSent.Unlisted → ⊥
  pub reply : (r : Reply) (out : List ℕ) → sent_of to_host (of_reply r) out ≡ Err NotSent.Unlisted → ⊥

-- ---- "a bad message never reaches the run"

-- of every run, a stopped one, a made-up one and the run of zeros too
pub record Receives (run : Run) (b : List ℕ) : Type 0 where
  -- a bad message is refused by 62 or 61 and hands back the run exactly as it came in
  pub bad : (f : Refusal) → read_call b ≡ Err f → receive_of run b ≡ refuse run f
  -- and 62 and 61 are answered to bad messages alone
  pub only : (f : Refusal) → OfMessage f → (receive_of run b).reply ≡ Reply.Refused f → read_call b ≡ Err f
  -- a good one is the call that it says
  pub good : (c : Call) → read_call b ≡ Ok c → receive_of run b ≡ call_of run c

abbrev pub StatementBadMessage : Type 0
StatementBadMessage = (run : Run) (b : List ℕ) → Receives run b

-- ---- lists of messages

-- a message that says a call enters the log with its answer, a bad one does not
abbrev pub entered : Result Call Refusal → Reply → Log → Log
entered (Ok c) r log = said c r ∷ log
entered (Err f) r log = log

-- a run driven by messages, each given the run that the one before left
abbrev pub receive_all : Log → Run → List (List ℕ) → Driven
receive_all log run [] = record { log = log; run = run }
receive_all log run (b ∷ bs) = receive_all (entered (read_call b) (receive_of run b).reply log) (receive_of run b).run bs

-- the calls among them, in order
abbrev pub with_call : Result Call Refusal → List Call → List Call
with_call (Ok c) cs = c ∷ cs
with_call (Err f) cs = cs

abbrev pub calls_among : List (List ℕ) → List Call
calls_among [] = []
calls_among (b ∷ bs) = with_call (read_call b) (calls_among bs)

-- the run and the log are those of the calls among the messages
abbrev pub StatementMessagesDrive : Type 0
StatementMessagesDrive = (log : Log) (run : Run) (bs : List (List ℕ)) → receive_all log run bs ≡ drive log run (calls_among bs)

-- so demand 3 holds of a run that is driven over the link
abbrev pub StatementLinkDemand3 : Type 0
StatementLinkDemand3 =
    (bytes : List ℕ) → Bytes bytes → (psi : Clock) (slack : ℕ) (ts : List ℕ) → (open_of bytes psi slack ts).opening ≡ Opening.Opened → (bs : List (List ℕ))
    → Demand3Of (judge_of bytes).plan psi slack ts (receive_all [] (open_of bytes psi slack ts).run bs)

-- ---- the answers of the exported list

-- of the replies to a list of messages those of the messages that say a call
abbrev pub kept_for : Result Call Refusal → Reply → List Reply → List Reply
kept_for (Ok c) r later = r ∷ later
kept_for (Err f) r later = later

abbrev pub to_calls : List (List ℕ) → List Reply → List Reply
to_calls [] replies = []
to_calls (b ∷ bs) [] = []
to_calls (b ∷ bs) (r ∷ replies) = kept_for (read_call b) r (to_calls bs replies)

-- the answers of a log, the oldest first, before others
abbrev pub replies_of : Log → List Reply → List Reply
replies_of [] later = later
replies_of (y ∷ log) later = replies_of log (y.reply ∷ later)

-- one answer for each message; a bad one is answered by its refusal, and the answers to those that say a call are the log's, in order
pub record LinkAnswers (run : Run) (bs : List (List ℕ)) : Type 0 where
  pub each : length (replies_from run bs) ≡ length bs
  pub bad : (i : ℕ) → i < length bs → (f : Refusal) → read_call (get_or bs i []) ≡ Err f → get_or (replies_from run bs) i Reply.Wait ≡ Reply.Refused f
  pub calls : to_calls bs (replies_from run bs) ≡ replies_of (receive_all [] run bs).log []

abbrev pub StatementLinkAnswers : Type 0
StatementLinkAnswers = (run : Run) (bs : List (List ℕ)) → LinkAnswers run bs
