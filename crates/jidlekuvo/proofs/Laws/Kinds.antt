-- Which reply, and which answer to an opening, has a kind.
use Rattle.std.specs.Prelude.{◌≡◌, refl, ◌↔◌}
use Rattle.std.proofs.Common.{sym, ◌∙◌, ap, arith}
use Rattle.run_checks.specs.declared.Refusal.{Refusal}
use Rattle.run_checks.specs.declared.Stop.{Stop}
use Rattle.run.specs.declared.Reply.{Reply}
use Rattle.run.specs.declared.Unopened.{Unopened}
use Rattle.run.specs.declared.Opening.{Opening}
use Rattle.drive_records.specs.Records.{opening_record, reply_record, stop_record}
use Rattle.jidlekuvo.specs.Replies.{told_of, opening_told}
use Rattle.jidlekuvo.proofs.Laws.Replies.{reply_back}

-- ---- a call

-- 5 a refusal
pub refused_told : (r : Reply) → (told_of r).kind ≡ 5 → (f : Refusal) × (r ≡ Reply.Refused f)
unfolding told_of reply_record stop_record
refused_told (Reply.Start p a n) e = absurd (omega (arith, e))
refused_told Reply.Wait e = absurd (omega (arith, e))
refused_told Reply.Done e = absurd (omega (arith, e))
refused_told Reply.Taken e = absurd (omega (arith, e))
refused_told (Reply.Refused f) e = (f, refl)
refused_told (Reply.Stopped s) e = absurd (omega (arith, e))

-- 6 a stop
pub stopped_told : (r : Reply) → (told_of r).kind ≡ 6 → (s : Stop) × (r ≡ Reply.Stopped s)
unfolding told_of reply_record stop_record
stopped_told (Reply.Start p a n) e = absurd (omega (arith, e))
stopped_told Reply.Wait e = absurd (omega (arith, e))
stopped_told Reply.Done e = absurd (omega (arith, e))
stopped_told Reply.Taken e = absurd (omega (arith, e))
stopped_told (Reply.Refused f) e = absurd (omega (arith, e))
stopped_told (Reply.Stopped s) e = (s, refl)

-- 5 with number 50 the refusal of a run out of limits
pub told_50 : (r : Reply) → (told_of r).kind ≡ 5 → (told_of r).number ≡ 50 → r ≡ Reply.Refused Refusal.OutOfLimits
told_50 r kind number = sym (reply_back r) ∙ rw (kind, number)

-- ---- an opening

-- 0 one that is accepted
pub opened_told : (o : Opening) → ((opening_told o).kind ≡ 0) ↔ (o ≡ Opening.Opened)
unfolding opening_told opening_record
opened_told Opening.Opened = (λ e. refl, λ e. refl)
opened_told (Opening.Refused u) = (λ e. absurd (omega (arith, e)), λ e. ap (λ (o : Opening). (opening_told o).kind) e)

-- 5 one that is refused
pub unopened_told : (o : Opening) → (opening_told o).kind ≡ 5 → (u : Unopened) × (o ≡ Opening.Refused u)
unfolding opening_told opening_record
unopened_told Opening.Opened e = absurd (omega (arith, e))
unopened_told (Opening.Refused u) e = (u, refl)
