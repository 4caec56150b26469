-- `told_apart`, `opening_told_apart`: equal numbers only for equal replies, and for equal answers to an opening. What was told is
-- read back.
use Rattle.std.specs.Prelude.{◌≡◌, refl, cond, eqb}
use Rattle.std.proofs.Common.{sym, ap, ◌∙◌}
use Rattle.run_checks.specs.declared.Refusal.{Refusal}
use Rattle.run_checks.specs.declared.Stop.{Stop}
use Rattle.run.specs.declared.Reply.{Reply}
use Rattle.run.specs.declared.Opening.{Opening}
use Rattle.numbers.proofs.Laws.Openings.{unopened_of, unopened_back}
use Rattle.drive_records.specs.Records.{stop_record, opening_record, reply_record}
use Rattle.jidlekuvo.specs.declared.HostReply.{HostReply}
use Rattle.jidlekuvo.specs.Replies.{told_of, opening_told, reply_of}

-- ---- a call

pub reply_back : (r : Reply) → reply_of (told_of r) ≡ r
unfolding told_of reply_record stop_record
reply_back (Reply.Start p a n) = refl
reply_back Reply.Wait = refl
reply_back Reply.Done = refl
reply_back Reply.Taken = refl
reply_back (Reply.Refused Refusal.OutOfLimits) = refl
reply_back (Reply.Refused Refusal.ReadingBelow) = refl
reply_back (Reply.Refused Refusal.NoSuchNode) = refl
reply_back (Reply.Refused Refusal.NotStarted) = refl
reply_back (Reply.Refused Refusal.OtherKind) = refl
reply_back (Reply.Refused Refusal.OutcomeLacking) = refl
reply_back (Reply.Refused Refusal.Unlisted) = refl
reply_back (Reply.Refused Refusal.Length) = refl
reply_back (Reply.Stopped (Stop.Late p n)) = refl
reply_back (Reply.Stopped (Stop.Overdue p n)) = refl
reply_back (Reply.Stopped Stop.Full) = refl
reply_back (Reply.Stopped Stop.Beyond) = refl

pub told_apart : (r s : Reply) → told_of r ≡ told_of s → r ≡ s
told_apart r s e = sym (reply_back r) ∙ ap reply_of e ∙ reply_back s

-- ---- an opening

abbrev opening_of : HostReply → Opening
opening_of h = cond (eqb h.kind 0) Opening.Opened (Opening.Refused (unopened_of h.number h.place))

opening_back : (o : Opening) → opening_of (opening_told o) ≡ o
unfolding opening_told opening_record
opening_back Opening.Opened = refl
opening_back (Opening.Refused u) = ap Opening.Refused (unopened_back u)

pub opening_told_apart : (o p : Opening) → opening_told o ≡ opening_told p → o ≡ p
opening_told_apart o p e = sym (opening_back o) ∙ ap opening_of e ∙ opening_back p
