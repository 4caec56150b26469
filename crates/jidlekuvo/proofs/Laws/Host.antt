-- `refused_unchanged_held`, `stopped_unchanged_held`: a refused call, and a call to a run that keeps a stop, leave every byte of
-- the run, also a number that no case has.
use Rattle.std.specs.Prelude.{true, ◌≡◌, refl, Option, Some, None}
use Rattle.run_checks.specs.declared.Refusal.{Refusal}
use Rattle.run_checks.specs.declared.Stop.{Stop}
use Rattle.run.specs.declared.Reply.{Reply}
use Rattle.run.specs.declared.Answer.{Answer}
use Rattle.held.specs.declared.Held.{Held}
use Rattle.held.specs.Held.{halt_of}
use Rattle.jidlekuvo.specs.Host.{is_kept, held_after}

refusal_kept : (halt : Option Stop) (f : Refusal) → is_kept halt (Reply.Refused f) ≡ true
refusal_kept (Some s) f = refl
refusal_kept None f = refl

pub refused_unchanged_held : (h : Held) (a : Answer) (f : Refusal) → a.reply ≡ Reply.Refused f → held_after h a ≡ h
refused_unchanged_held h a f e = rw (e, refusal_kept (halt_of h.rest.halt) f)

pub stopped_unchanged_held : (h : Held) (a : Answer) (s : Stop) → halt_of h.rest.halt ≡ Some s → held_after h a ≡ h
stopped_unchanged_held h a s e = rw e
