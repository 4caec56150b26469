-- What a call answers and leaves, from what it does to the run.
use Rattle.std.specs.Prelude.{Option, Some, None}
use mathlib.Core.Bool.{Bool, true, false, cond}
use mathlib.Core.List.{List, [], ◌∷◌, map}
use mathlib.Core.Path.{◌≡◌, refl, sym, ◌∙◌, ap}
use Prim.Native.Nat.{ℕ, zero, suc}
use lib.ListN.{set}
use Rattle.time.specs.declared.Clock.{Clock}
use Rattle.times.specs.declared.Progress.{Progress}
use Rattle.run_window.specs.declared.Entry.{Entry}
use Rattle.run_checks.specs.declared.Stop.{Stop}
use Rattle.run_checks.specs.declared.Moment.{Moment}
use Rattle.run_loading.specs.declared.Failure.{Failure}
use Rattle.run.specs.declared.Run.{Run}
use Rattle.run.specs.declared.Call.{Call}
use Rattle.run.specs.declared.Reply.{Reply}
use Rattle.run.specs.declared.Answer.{Answer}
use Rattle.run.specs.declared.Effect.{Effect}
use Rattle.run.specs.Calls.{answer, after_loading, call_of}
use Rattle.run.specs.Loading.{further, most_pending}
use Rattle.run.specs.Inner.Calls.{told_run}
use Rattle.run.specs.Inner.Effects.{acted, Leaves, Accepts, run_at}
use Rattle.held.specs.declared.Held.{Held}
use Rattle.held.specs.declared.HeldEntry.{HeldEntry}
use Rattle.held.specs.Held.{plan_of, progress_of, entry_of, held_entry, halt_of, run_of, rest_of}
use Rattle.held_checks.specs.Inner.Checks.{moment_at}
use Rattle.jidlekuvo.specs.declared.Stepped.{Stepped}
use Rattle.jidlekuvo.specs.Replies.{told_of}
use Rattle.jidlekuvo.specs.Host.{is_kept}
use Rattle.jidlekuvo.specs.Inner.Steps.{stepped_to}

-- ---- which replies leave the run

leaves_kept : (halt : Option Stop) (r : Reply) → Leaves halt r → is_kept halt r ≡ true
leaves_kept halt (Reply.Start p a n) l = absurd l
leaves_kept halt Reply.Wait l = absurd l
leaves_kept halt Reply.Done l = absurd l
leaves_kept halt Reply.Taken l = absurd l
leaves_kept None (Reply.Refused f) l = refl
leaves_kept (Some s) (Reply.Refused f) l = refl
leaves_kept halt (Reply.Stopped s) l = rw l

accepts_kept : (r : Reply) → Accepts r → is_kept None r ≡ false
accepts_kept (Reply.Start p a n) h = refl
accepts_kept Reply.Wait h = refl
accepts_kept Reply.Done h = refl
accepts_kept Reply.Taken h = refl
accepts_kept (Reply.Refused f) h = absurd h
accepts_kept (Reply.Stopped s) h = refl

pub rest_accepts : (b : Bool) → Accepts (cond b Reply.Done Reply.Wait)
rest_accepts true = tt
rest_accepts false = tt

learnt_accepts : (f : Option Failure) (run : Run) → Accepts (after_loading f run).reply
learnt_accepts None run = tt
learnt_accepts (Some Failure.Full) run = tt
learnt_accepts (Some Failure.Beyond) run = tt

pub learns_accepts : (run : Run) (t : Clock) (i : ℕ) (x : Entry) (e o : ℕ) → Accepts (acted run t (Effect.Learns i x e o)).reply
learns_accepts run t i x e o = let told = told_run run t i x e o in learnt_accepts (further most_pending told).failure (further most_pending told).run

-- ---- the run by its parts

-- the run that these parts of the numbers stand for
abbrev pub run_in : Held → Progress → Moment → Option Stop → Run
run_in h progress m halt = run_at (plan_of h.plan) progress (map entry_of h.rest.window) m halt

pub by_parts : (h : Held) (c : Call) (g : Progress) (m : Moment) (x : Option Stop) → g ≡ progress_of h.rest.progress → m ≡ moment_at h.rest c → x ≡ halt_of h.rest.halt → run_in h g m x ≡ run_of h
unfolding run_of
by_parts h c g m x is-progress is-moment is-halt = rw (is-progress, is-moment, is-halt)

-- a place that is stored in the window as it is written
pub written_at : (w : List Entry) (i : ℕ) (e : Entry) → set (map held_entry w) i (held_entry e) ≡ map held_entry (set w i e)
written_at [] i e = refl
written_at (x ∷ w) zero e = refl
written_at (x ∷ w) (suc i) e = ap (λ (l : List HeldEntry). held_entry x ∷ l) (written_at w i e)

-- ---- the answer

abbrev stepping : Held → Bool → Answer → Stepped
stepping h kept a = record { rest = cond kept h.rest (rest_of a.run); reply = told_of a.reply }

module _ (h : Held) (c : Call) (run : Run) (same : run ≡ run_of h) where
  halted : run.halt ≡ halt_of h.rest.halt
  unfolding run_of
  halted = ap (λ (r : Run). r.halt) same

  by_kept : (kept : Bool) (a : Answer) → a ≡ call_of run c → is_kept run.halt a.reply ≡ kept → stepping h kept a ≡ stepped_to h (call_of (run_of h) c)
  by_kept kept a e k =
      ap (λ (b : Bool). stepping h b a) (sym k)
      ∙ ap (λ (y : Option Stop). stepping h (is_kept y a.reply) a) halted
      ∙ ap (λ (x : Answer). stepped_to h x) (e ∙ ap (λ (r : Run). call_of r c) same)

  pub stays : (told : Reply) → answer told run ≡ call_of run c → Leaves run.halt told → stepping h true (answer told run) ≡ stepped_to h (call_of (run_of h) c)
  stays told e l = by_kept true (answer told run) e (leaves_kept run.halt told l)

  pub changes : (a : Answer) → a ≡ call_of run c → run.halt ≡ None → Accepts a.reply → stepping h false a ≡ stepped_to h (call_of (run_of h) c)
  changes a e g k = by_kept false a e (ap (λ (y : Option Stop). is_kept y a.reply) g ∙ accepts_kept a.reply k)
