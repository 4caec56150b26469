-- What the exported functions answer, and the run that they leave.
use Rattle.std.specs.Prelude.{◌≡◌, Bool, true, false, cond, ℕ, Option, Some, None}
use Rattle.time.specs.declared.Clock.{Clock}
use Rattle.run_checks.specs.declared.Stop.{Stop}
use Rattle.run.specs.declared.Reply.{Reply}
use Rattle.run.specs.declared.Answer.{Answer}
use Rattle.run.specs.declared.Opened.{Opened}
use Rattle.held.specs.declared.HeldRest.{HeldRest}
use Rattle.held.specs.declared.Held.{Held}
use Rattle.held.specs.Held.{halt_of, rest_of, held_of}
use Rattle.jidlekuvo.specs.declared.HostReply.{HostReply}
use Rattle.jidlekuvo.specs.declared.HeldOpened.{HeldOpened}
use Rattle.jidlekuvo.specs.Replies.{told_of, opening_told}

-- the number of this form of a run's bytes
abbrev pub abi : ℕ
abi = 1

-- a reading, or Ψ, as the host gives it
abbrev pub clock : ℕ → Clock
clock t = record { 0 = t }

-- ---- an opening

unfoldable pub opened_as : Opened → HeldOpened
opened_as o = record { run = held_of o.run; reply = opening_told o.opening }

-- ---- a call

-- "A refused call hands back the run exactly as it came in. A call to a stopped run does too"
abbrev pub is_kept : Option Stop → Reply → Bool
is_kept (Some s) r = true
is_kept None (Reply.Refused f) = true
is_kept None (Reply.Start p a n) = false
is_kept None Reply.Wait = false
is_kept None Reply.Done = false
is_kept None Reply.Taken = false
is_kept None (Reply.Stopped s) = false

-- then every byte stays, also a number that no case has; otherwise all but the plan is the run's after the call
abbrev pub rest_after : Held → Answer → HeldRest
rest_after h a = cond (is_kept (halt_of h.rest.halt) a.reply) h.rest (rest_of a.run)

-- the plan's bytes stay at every call
abbrev pub held_after : Held → Answer → Held
held_after h a = record { rest = rest_after h a; plan = h.plan }

-- a call to the run h that is answered with a: what it returns, and the run that it leaves
abbrev pub Answers : Held → Answer → HostReply → Held → Type 0
Answers h a reply after = (reply ≡ told_of a.reply) × (after ≡ held_after h a)
