-- `bad_message`, `messages_drive`, `link_demand_3`, `link_answers`: what reaches the run over the link, and what it answers.
use Rattle.std.specs.Prelude.{◌≡◌, refl, List, [], ◌∷◌, ℕ, zero, suc, ◌<◌, length, get_or, Result, Ok, Err}
use Rattle.std.proofs.Common.{sym, ◌∙◌, ap, subst, arith}
use Rattle.run.specs.declared.Run.{Run}
use Rattle.run.specs.declared.Call.{Call}
use Rattle.run.specs.declared.Reply.{Reply}
use Rattle.run.specs.declared.Answer.{Answer}
use Rattle.run_checks.specs.declared.Refusal.{Refusal}
use Rattle.run.specs.Opening.{open_of}
use Rattle.run.specs.Calls.{refuse, call_of}
use Rattle.judge.specs.Judge.{judge_of}
use Rattle.link_calls.specs.Calls.{read_call}
use Rattle.link.specs.Receive.{on_call, receive_of}
use Rattle.link_drive.specs.LinkDrive.{replies_from}
use Rattle.link_drive.proofs.Laws.Replies.{replies_length}
use Rattle.demands_log.specs.Log.{Log, said}
use Rattle.demands_log.specs.Drive.{drive}
use Rattle.demands.specs.Demand3.{Demand3Of}
use Rattle.demands.proofs.Laws.ConditionsHold.{refusals}
use Rattle.demands.proofs.Laws.Demand3Holds.{demand_3}
use Rattle.demands.proofs.Laws.NumbersHold.{no_unlisted, no_length}
use Rattle.demands.specs.Messages.{OfMessage, by61, by62, entered, receive_all, with_call, calls_among, kept_for, to_calls, replies_of, StatementBadMessage, StatementMessagesDrive, StatementLinkDemand3, StatementLinkAnswers}

-- ---- one message

-- no call is refused as a message is
never : (run : Run) (c : Call) (f : Refusal) → OfMessage f → (call_of run c).reply ≡ Reply.Refused f → ⊥
never run c _ by61 e = no_unlisted run c ((refusals run c Refusal.Unlisted).0 e)
never run c _ by62 e = no_length run c ((refusals run c Refusal.Length).0 e)

refused_same : {f g : Refusal} → Reply.Refused f ≡ Reply.Refused g → f ≡ g
refused_same e = cc

pub bad_message : StatementBadMessage
unfolding receive_of
bad_message run b = record {
  bad = λ f e. ap (λ (r : Result Call Refusal). on_call r (call_of run) (refuse run)) e;
  only = λ f of e. go f of (read_call b) refl e;
  good = λ c e. ap (λ (r : Result Call Refusal). on_call r (call_of run) (refuse run)) e;
}
  where
    go : (f : Refusal) → OfMessage f → (r : Result Call Refusal) → read_call b ≡ r → (on_call r (call_of run) (refuse run)).reply ≡ Reply.Refused f → r ≡ Err f
    go f of (Ok c) p e = absurd (never run c f of e)
    go f of (Err g) p e = ap Err (refused_same e)

-- ---- lists of messages

pub messages_drive : StatementMessagesDrive
unfolding receive_of
messages_drive log run [] = refl
messages_drive log run (b ∷ bs) = go (read_call b) (λ log run. messages_drive log run bs)
  where
    go : (r : Result Call Refusal) → ((log : Log) (run : Run) → receive_all log run bs ≡ drive log run (calls_among bs))
        → receive_all (entered r (on_call r (call_of run) (refuse run)).reply log) (on_call r (call_of run) (refuse run)).run bs ≡ drive log run (with_call r (calls_among bs))
    go (Ok c) later = later (said c (call_of run c).reply ∷ log) (call_of run c).run
    go (Err f) later = later log run

pub link_demand_3 : StatementLinkDemand3
link_demand_3 bytes are psi slack ts opened bs =
    subst (Demand3Of (judge_of bytes).plan psi slack ts) (sym (messages_drive [] (open_of bytes psi slack ts).run bs)) (demand_3 bytes are psi slack ts opened (calls_among bs))

-- ---- the answers of the exported list

-- a log before the list adds its answers in front
replies_to_calls : (log : Log) (run : Run) (bs : List (List ℕ)) → replies_of (receive_all log run bs).log [] ≡ replies_of log (to_calls bs (replies_from run bs))
replies_to_calls log run [] = refl
replies_to_calls log run (b ∷ bs) =
    replies_to_calls (entered (read_call b) (receive_of run b).reply log) (receive_of run b).run bs
    ∙ go (read_call b) (receive_of run b).reply (to_calls bs (replies_from (receive_of run b).run bs))
  where
    go : (c : Result Call Refusal) (r : Reply) (later : List Reply) → replies_of (entered c r log) later ≡ replies_of log (kept_for c r later)
    go (Ok c) r later = refl
    go (Err f) r later = refl

refused_in_list : (run : Run) (bs : List (List ℕ)) (i : ℕ) → i < length bs → (f : Refusal) → read_call (get_or bs i []) ≡ Err f → get_or (replies_from run bs) i Reply.Wait ≡ Reply.Refused f
refused_in_list run [] i h f e = absurd (omega (arith, h))
refused_in_list run (b ∷ bs) zero h f e = ap (λ (a : Answer). a.reply) ((bad_message run b).bad f e)
refused_in_list run (b ∷ bs) (suc i) h f e = refused_in_list (receive_of run b).run bs i (omega (arith, h)) f e

pub link_answers : StatementLinkAnswers
link_answers run bs = record { each = replies_length run bs; bad = refused_in_list run bs; calls = sym (replies_to_calls [] run bs) }
