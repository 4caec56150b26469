-- What is answered, as numbers. Kinds and zeros are those of jidlekuvo_drive's records (drive_records/specs/Records.antt).
use Rattle.std.specs.Prelude.{cond, ℕ, eqb}
use Rattle.drive_records.specs.declared.Record.{Record}
use Rattle.drive_records.specs.Records.{opening_record, reply_record}
use Rattle.run_checks.specs.declared.Refusal.{Refusal}
use Rattle.run_checks.specs.declared.Stop.{Stop}
use Rattle.run.specs.declared.Reply.{Reply}
use Rattle.run.specs.declared.Opening.{Opening}
use Rattle.jidlekuvo.specs.declared.HostReply.{HostReply}

-- a record's second byte is the activity of a start, and a number otherwise
abbrev pub host_reply : Record → HostReply
host_reply r =
    record {
      place = r.place;
      position = r.position;
      kind = r.answer;
      number = cond (eqb r.answer 1) 0 r.number;
      activity = cond (eqb r.answer 1) r.number 0;
      node = r.node;
    }

unfoldable pub told_of : Reply → HostReply
told_of r = host_reply (reply_record r)

unfoldable pub opening_told : Opening → HostReply
opening_told o = host_reply (opening_record o)

-- ---- what a host reads in the numbers of a reply

-- numbers that no reply has are read as 61, which no call is answered with
abbrev pub unlisted : Reply
unlisted = Reply.Refused Refusal.Unlisted

abbrev pub refused_by : ℕ → Reply
refused_by number =
    cond (eqb number 50) (Reply.Refused Refusal.OutOfLimits)
    (cond (eqb number 51) (Reply.Refused Refusal.ReadingBelow)
    (cond (eqb number 52) (Reply.Refused Refusal.NoSuchNode)
    (cond (eqb number 53) (Reply.Refused Refusal.NotStarted)
    (cond (eqb number 54) (Reply.Refused Refusal.OtherKind)
    (cond (eqb number 55) (Reply.Refused Refusal.OutcomeLacking)
    (cond (eqb number 62) (Reply.Refused Refusal.Length) unlisted))))))

abbrev pub stopped_by : ℕ → ℕ → ℕ → Reply
stopped_by number position node =
    cond (eqb number 41) (Reply.Stopped (Stop.Late position node))
    (cond (eqb number 42) (Reply.Stopped (Stop.Overdue position node))
    (cond (eqb number 43) (Reply.Stopped Stop.Full)
    (cond (eqb number 44) (Reply.Stopped Stop.Beyond) unlisted)))

abbrev pub reply_of : HostReply → Reply
reply_of h =
    cond (eqb h.kind 1) (Reply.Start h.position h.activity h.node)
    (cond (eqb h.kind 2) Reply.Wait
    (cond (eqb h.kind 3) Reply.Done
    (cond (eqb h.kind 4) Reply.Taken
    (cond (eqb h.kind 5) (refused_by h.number)
    (cond (eqb h.kind 6) (stopped_by h.number h.position h.node) unlisted)))))
