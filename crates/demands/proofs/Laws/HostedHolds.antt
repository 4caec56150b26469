-- `held_unchanged`, `host_log`, `host_opening`, `host_demand_3`, `host_never_50`, `host_stop_kept`, `host_stop_repeated`,
-- `host_unopened`: what is proved of a run holds of the bytes that a host keeps.
use Rattle.std.specs.Prelude.{◌≡◌, refl, Bool, true, false, cond, List, [], ◌∷◌, map, ℕ, Option, Some, None}
use Rattle.std.proofs.Common.{sym, ◌∙◌, ap, subst, true≢false, ⊎_elim}
use Rattle.basis.specs.Lists.{Among}
use Rattle.judge.specs.Judge.{judge_of}
use Rattle.run_checks.specs.declared.Refusal.{Refusal}
use Rattle.run_checks.specs.declared.Stop.{Stop}
use Rattle.run.specs.declared.Run.{Run}
use Rattle.run.specs.declared.Call.{Call}
use Rattle.run.specs.declared.Reply.{Reply}
use Rattle.run.specs.declared.Answer.{Answer}
use Rattle.run.specs.Limits.{run_in_limits}
use Rattle.run.specs.Calls.{call_of}
use Rattle.run.specs.Opening.{open_of, zero_run}
use Rattle.drive_records.specs.Records.{reply_record}
use Rattle.held.specs.declared.Held.{Held}
use Rattle.held.specs.Held.{run_of, rest_of, held_of}
use Rattle.held.proofs.Laws.Back.{rest_back, run_back}
use Rattle.jidlekuvo.specs.declared.HostReply.{HostReply}
use Rattle.jidlekuvo.specs.Replies.{told_of, reply_of}
use Rattle.jidlekuvo.specs.Host.{clock, opened_as, is_kept, held_after}
use Rattle.jidlekuvo.proofs.Laws.Replies.{reply_back}
use Rattle.jidlekuvo.proofs.Laws.Kinds.{refused_told, stopped_told, told_50, opened_told, unopened_told}
use Rattle.jidlekuvo.proofs.Laws.Host.{refused_unchanged_held, stopped_unchanged_held}
use Rattle.demands_log.specs.Log.{Log, Always, said}
use Rattle.demands_log.specs.Drive.{Driven, drive}
use Rattle.demands_log.proofs.Laws.PlanStays.{plan_stays}
use Rattle.demands.specs.Demand3.{driven_by, Demand3Of}
use Rattle.demands.specs.Messages.{replies_of}
use Rattle.demands.proofs.Laws.Demand3Holds.{demand_3}
use Rattle.demands.proofs.Laws.Unchanged.{refused_unchanged, stop_kept, stops_stay, refused_opening, zeros_get_50}
use Rattle.demands.proofs.Laws.Repeated.{out_gets_50, stop_repeated}
use Rattle.demands.specs.Hosted.{opened_by, replied, left_by, replies_to, left_by_all, written, Stays, told50, StatementHostLog, StatementHostOpening, StatementHostDemand3, StatementHostNever50, StatementHeldUnchanged, StatementHostStopKept, StatementHostStopRepeated, StatementHostUnopened}

-- ---- one call

-- the three functions are one, over the run's call
replied_by : (h : Held) (c : Call) → replied h c ≡ told_of (call_of (run_of h) c).reply
unfolding call_of
replied_by h (Call.Ask t) = refl
replied_by h (Call.Completion t p n) = refl
replied_by h (Call.Outcome t p n o) = refl

left_by_lem : (h : Held) (c : Call) → left_by h c ≡ held_after h (call_of (run_of h) c)
unfolding call_of
left_by_lem h (Call.Ask t) = refl
left_by_lem h (Call.Completion t p n) = refl
left_by_lem h (Call.Outcome t p n o) = refl

kind_by_lem : (h : Held) (c : Call) {kind : ℕ} → (replied h c).kind ≡ kind → (told_of (call_of (run_of h) c).reply).kind ≡ kind
kind_by_lem h c e = sym (ap (λ (r : HostReply). r.kind) (replied_by h c)) ∙ e

pub held_unchanged : StatementHeldUnchanged
unfolding run_of
held_unchanged h c = record {
  refused = λ e. let f = refused_told (call_of (run_of h) c).reply (kind_by_lem h c e) in
      left_by_lem h c ∙ refused_unchanged_held h (call_of (run_of h) c) f.0 f.1;
  stopped = λ s e. left_by_lem h c ∙ stopped_unchanged_held h (call_of (run_of h) c) s e;
  plan = ap (λ (k : Held). k.plan) (left_by_lem h c);
}

-- what leaves every byte leaves the run
run_kept : (run : Run) (c : Call) → is_kept run.halt (call_of run c).reply ≡ true → (call_of run c).run ≡ run
run_kept run c k = go run.halt refl (call_of run c).reply refl k
  where
    stopped : (s : Stop) → run.halt ≡ Some s → (b : Bool) → run_in_limits run ≡ b → (call_of run c).run ≡ run
    stopped s e true l = ap (λ (a : Answer). a.run) (stop_kept run s c l e)
    stopped s e false l = ap (λ (a : Answer). a.run) (out_gets_50 run c l)

    go : (x : Option Stop) → run.halt ≡ x → (r : Reply) → (call_of run c).reply ≡ r → is_kept x r ≡ true → (call_of run c).run ≡ run
    go (Some s) e r q k = stopped s e (run_in_limits run) refl
    go None e (Reply.Refused f) q k = refused_unchanged run c f q
    go None e (Reply.Start p a n) q k = absurd (true≢false (sym k))
    go None e Reply.Wait q k = absurd (true≢false (sym k))
    go None e Reply.Done q k = absurd (true≢false (sym k))
    go None e Reply.Taken q k = absurd (true≢false (sym k))
    go None e (Reply.Stopped s) q k = absurd (true≢false (sym k))

-- the bytes that a call leaves are read as the run after it
run_left : (h : Held) (c : Call) → run_of (left_by h c) ≡ (call_of (run_of h) c).run
unfolding run_of
run_left h c = ap run_of (left_by_lem h c) ∙ go (is_kept (run_of h).halt (call_of (run_of h) c).reply) refl
  where
    after : Run
    after = (call_of (run_of h) c).run

    go : (kept : Bool) → is_kept (run_of h).halt (call_of (run_of h) c).reply ≡ kept
        → run_of (record { rest = cond kept h.rest (rest_of after); plan = h.plan }) ≡ after
    go true k = sym (run_kept (run_of h) c k)
    go false k = rest_back after h.plan (sym (plan_stays (run_of h) c))

-- ---- a list of calls

-- the answers to them, the oldest first
abbrev answers : Run → List Call → List Reply
answers run [] = []
answers run (c ∷ cs) = (call_of run c).reply ∷ answers (call_of run c).run cs

-- a log before the list adds its answers in front
in_order : (log : Log) (run : Run) (cs : List Call) → replies_of (drive log run cs).log [] ≡ replies_of log (answers run cs)
in_order log run [] = refl
in_order log run (c ∷ cs) = in_order (said c (call_of run c).reply ∷ log) (call_of run c).run cs

all_told : (h : Held) (cs : List Call) → replies_to h cs ≡ map told_of (answers (run_of h) cs)
all_told h [] = refl
all_told h (c ∷ cs) =
    ap (λ (r : HostReply). r ∷ replies_to (left_by h c) cs) (replied_by h c)
    ∙ ap (λ (rs : List HostReply). told_of (call_of (run_of h) c).reply ∷ rs)
    (all_told (left_by h c) cs ∙ ap (λ (run : Run). map told_of (answers run cs)) (run_left h c))

all_driven : (log : Log) (h : Held) (cs : List Call)
    → record { log = written log cs (replies_to h cs); run = run_of (left_by_all h cs) } ≡ drive log (run_of h) cs
all_driven log h [] = refl
all_driven log h (c ∷ cs) =
    all_driven (said c (reply_of (replied h c)) ∷ log) (left_by h c) cs
    ∙ ap (λ (r : Reply). drive (said c r ∷ log) (run_of (left_by h c)) cs)
    (ap reply_of (replied_by h c) ∙ reply_back (call_of (run_of h) c).reply)
    ∙ ap (λ (run : Run). drive (said c (call_of (run_of h) c).reply ∷ log) run cs) (run_left h c)

pub host_log : StatementHostLog
host_log h cs = record { replies = all_told h cs ∙ ap (map told_of) (sym (in_order [] (run_of h) cs)); driven = all_driven [] h cs }

-- ---- after an opening

pub host_opening : StatementHostOpening
unfolding opened_as
host_opening bytes psi slack ts cs =
    let l = host_log (held_of (open_of bytes (clock psi) slack ts).run) cs in
    let back = ap (λ (run : Run). drive [] run cs) (run_back (open_of bytes (clock psi) slack ts).run) in
    record {
      reply = refl;
      opened = opened_told (open_of bytes (clock psi) slack ts).opening;
      replies = l.replies ∙ ap (λ (d : Driven). map told_of (replies_of d.log [])) back;
      driven = l.driven ∙ back;
    }

pub host_demand_3 : StatementHostDemand3
host_demand_3 bytes are psi slack ts opened cs =
    let o = host_opening bytes psi slack ts cs in
    subst (Demand3Of (judge_of bytes).plan (clock psi) slack ts) (sym o.driven)
    (demand_3 bytes are (clock psi) slack ts (o.opened.0 opened) cs)

-- the numbers of a reply that has Q
record Says (Q : Reply → Type 0) (x : HostReply) : Type 0 where
  reply : Reply
  told : x ≡ told_of reply
  holds : Q reply

each_says : (Q : Reply → Type 0) (log : Log) (later : List Reply) → Always (λ y older. Q y.reply) log
    → ((x : HostReply) → Among x (map told_of later) → Says Q x)
    → (x : HostReply) → Among x (map told_of (replies_of log later)) → Says Q x
each_says Q [] later a h x m = h x m
each_says Q (y ∷ log) later a h x m =
    each_says Q log (y.reply ∷ later) a.1 (λ z. ⊎_elim (λ e. record { reply = y.reply; told = e; holds = a.0 }) (h z)) x m

pub host_never_50 : StatementHostNever50
host_never_50 bytes are psi slack ts opened cs r m kind number =
    let o = host_opening bytes psi slack ts cs in
    let d = demand_3 bytes are (clock psi) slack ts (o.opened.0 opened) cs in
    let w = d.word in
    let t = d.times w.0 w.1 in
    let never = (d.claim w.0 w.1 t.0 t.1 t.2).never_50 in
    let among = subst (Among r) o.replies m in
    let log = (driven_by bytes (clock psi) slack ts cs).log in
    let q = each_says (λ x. x ≡ Reply.Refused Refusal.OutOfLimits → ⊥) log [] never (λ x n. absurd n) r among in
    let told = sym q.told in
    q.holds (told_50 q.reply (ap (λ (x : HostReply). x.kind) told ∙ kind) (ap (λ (x : HostReply). x.number) told ∙ number))

-- ---- where every call is answered alike

steady : (h : Held) (r : HostReply) → ((c : Call) → (replied h c ≡ r) × (left_by h c ≡ h)) → (cs : List Call) → Stays h r cs
steady h r same [] = record { replies = refl; bytes = refl }
steady h r same (c ∷ cs) = go (steady h r same cs)
  where
    go : Stays h r cs → Stays h r (c ∷ cs)
    go s = record {
      replies = ap (λ (x : HostReply). x ∷ replies_to (left_by h c) cs) (same c).0
          ∙ ap (λ (xs : List HostReply). r ∷ xs) (ap (λ (k : Held). replies_to k cs) (same c).1 ∙ s.replies);
      bytes = ap (λ (k : Held). left_by_all k cs) (same c).1 ∙ s.bytes;
    }

pub host_stop_kept : StatementHostStopKept
host_stop_kept h s limits halted =
    steady h (told_of (Reply.Stopped s)) λ c. (
      replied_by h c ∙ ap (λ (a : Answer). told_of a.reply) (stop_kept (run_of h) s c limits halted),
      (held_unchanged h c).stopped s halted,
    )

abbrev latest : Log → Reply
latest [] = Reply.Wait
latest (y ∷ log) = y.reply

pub host_stop_repeated : StatementHostStopRepeated
host_stop_repeated h c six cs = steady (left_by h c) (replied h c) (λ d. (again d, left d)) cs
  where
    is : (s : Stop) × ((call_of (run_of h) c).reply ≡ Reply.Stopped s)
    is = stopped_told (call_of (run_of h) c).reply (kind_by_lem h c six)

    again : (d : Call) → replied (left_by h c) d ≡ replied h c
    again d =
        replied_by (left_by h c) d
        ∙ ap (λ (run : Run). told_of (call_of run d).reply) (run_left h c)
        ∙ ap (λ (e : Driven). told_of (latest e.log)) (stop_repeated (run_of h) is.0 c is.1 [] (d ∷ []))
        ∙ sym (replied_by h c ∙ ap told_of is.1)

    left : (d : Call) → left_by (left_by h c) d ≡ left_by h c
    left d =
        (held_unchanged (left_by h c) d).stopped is.0
        (ap (λ (run : Run). run.halt) (run_left h c) ∙ stops_stay (run_of h) is.0 c is.1)

zeros_told : (c : Call) → replied (held_of zero_run) c ≡ told50
unfolding told_of reply_record
zeros_told c =
    replied_by (held_of zero_run) c
    ∙ ap (λ (run : Run). told_of (call_of run c).reply) (run_back zero_run)
    ∙ ap (λ (a : Answer). told_of a.reply) (zeros_get_50 c)

pub host_unopened : StatementHostUnopened
unfolding opened_as
host_unopened bytes psi slack ts five cs = record {
  zeros = zeros;
  gets50 = subst (λ (h : Held). Stays h told50 cs) (sym zeros) (steady (held_of zero_run) told50 each cs);
}
  where
    zeros : (opened_by bytes psi slack ts).run ≡ held_of zero_run
    zeros =
        let u = unopened_told (open_of bytes (clock psi) slack ts).opening five in
        ap held_of (refused_opening bytes (clock psi) slack ts u.0 u.1)

    each : (c : Call) → (replied (held_of zero_run) c ≡ told50) × (left_by (held_of zero_run) c ≡ held_of zero_run)
    each c = (zeros_told c, (held_unchanged (held_of zero_run) c).refused (ap (λ (r : HostReply). r.kind) (zeros_told c)))
