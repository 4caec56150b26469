-- The invariant's second half, of a run that has not stopped: its last reading against the window and the asks of the log.
use Rattle.std.specs.Prelude.{◌≡◌, refl, false, ◌∷◌, ◌⊎◌, ℕ, ◌+◌, ◌≤◌, ◌<◌}
use Rattle.std.proofs.Common.{sym, subst, ⊎_elim, arith}
use Rattle.std.proofs.Math.Decide.{dec_lt}
use Rattle.run_window.specs.Window.{is_started}
use Rattle.run_window.specs.declared.Entry.{Entry}
use Rattle.run.specs.declared.Call.{Call}
use Rattle.run.specs.declared.Reply.{Reply}
use Rattle.run_checks.specs.declared.Refusal.{Refusal}
use Rattle.demands_log.specs.Log.{Id, Log, StoppedIn, Stops, reading, said}
use Rattle.demands_log.specs.Host.{AskedIdle, Asks, At, HostAt, None, Reading, StartsNothing, is_refused, previous}
use Rattle.demands_theory.proofs.Laws.Machine.{Window}
use Rattle.demands_theory.proofs.Laws.Way.{Clear}

pub no_ask : (c : Call) (r : Reply) (u : ℕ) → (StartsNothing r → ⊥) → Asks c r u → ⊥
no_ask (Call.Ask t) r u h p = h p.1
no_ask (Call.Completion t q n) r u h p = p
no_ask (Call.Outcome t q n o) r u h p = p

pub ask_reading : (c : Call) (r : Reply) (u : ℕ) → Asks c r u → reading c ≡ u
ask_reading (Call.Ask t) r u p = p.0
ask_reading (Call.Completion t q n) r u p = absurd p
ask_reading (Call.Outcome t q n o) r u p = absurd p

At-injective : (u v : ℕ) → At u ≡ At v → u ≡ v
At-injective u v e = cc

previous_now : (c : Call) (r : Reply) (log : Log) (u : ℕ) → is_refused r ≡ false → previous (said c r ∷ log) ≡ At u → reading c ≡ u
previous_now c r log u n e = At-injective (reading c) u (rw n at e)

pub record Clock (psi slack last : ℕ) (log : Log) (ws : Window) : Type 0 where
  pub unstopped : StoppedIn log → ⊥
  pub last_is : (u : ℕ) → previous log ≡ At u → u ≡ last
  pub asked : (u : ℕ) → AskedIdle log u → u ≤ last
  -- after an ask at the last reading that started nothing, nothing is due
  pub idle : AskedIdle log last → (i : ℕ) (e : Entry) → ws i e → is_started e.phase ≡ false → last < psi + e.start.0
  pub within : (u : ℕ) → previous log ≡ At u → (i : ℕ) (e : Entry) → ws i e → is_started e.phase ≡ false → u ≤ psi + e.start.0 + slack

module _ (psi slack last : ℕ) (log : Log) (ws : Window) (k : Clock psi slack last log ws) where
  pub clock_refused : (c : Call) (f : Refusal) → Clock psi slack last (said c (Reply.Refused f) ∷ log) ws
  clock_refused c f = record {
    unstopped = ⊎_elim (λ p. p) (λ p. k.unstopped p);
    last_is = k.last_is;
    asked = λ u. ⊎_elim (λ p. absurd (no_ask c (Reply.Refused f) u (λ q. q) p)) (λ p. k.asked u p);
    idle = ⊎_elim (λ p. absurd (no_ask c (Reply.Refused f) last (λ q. q) p)) (λ p. k.idle p);
    within = k.within;
  }

  -- an answer that is neither a refusal nor a stop; what is unstarted after it was there, or starts later than the reading
  pub clock_next : (c : Call) (r : Reply) (ws' : Window) → is_refused r ≡ false → (Stops r → ⊥) → Clear psi slack last ws (reading c) →
      ((i : ℕ) (e : Entry) → ws' i e → is_started e.phase ≡ false → ws i e ⊎ (reading c < psi + e.start.0)) →
      ((u : ℕ) → Asks c r u → (i : ℕ) (e : Entry) → ws' i e → is_started e.phase ≡ false → u < psi + e.start.0) →
      Clock psi slack (reading c) (said c r ∷ log) ws'
  clock_next c r ws' nr ns clear old waits = record {
    unstopped = ⊎_elim (λ p. ns p) (λ p. k.unstopped p);
    last_is = λ u e. sym (previous_now c r log u nr e);
    asked = λ u. ⊎_elim (λ p. let q = ask_reading c r u p in omega arith) (λ p. let q = k.asked u p in let l = clear.rises in omega arith);
    idle = ⊎_elim (λ p. waits (reading c) p) (λ p i e h s. ⊎_elim (λ j. again p i e j s) (λ l. l) (old i e h s));
    within = λ u q i e h s. let z = previous_now c r log u nr q in let l : reading c ≤ psi + e.start.0 + slack = soon i e h s in omega arith;
  }
    where
      again : AskedIdle log (reading c) → (i : ℕ) (e : Entry) → ws i e → is_started e.phase ≡ false → reading c < psi + e.start.0
      again p i e j s =
          let l = clear.rises in
          let m = k.asked (reading c) p in
          let q : reading c ≡ last = omega arith in
          let g = k.idle (subst (AskedIdle log) q p) i e j s in
          omega arith

      soon : (i : ℕ) (e : Entry) → ws' i e → is_started e.phase ≡ false → reading c ≤ psi + e.start.0 + slack
      soon i e h s = ⊎_elim (λ j. clear.not_late i e j s) (λ (l : reading c < psi + e.start.0). omega arith) (old i e h s)

  -- a host that keeps to its side is not late
  pub never_late : (C : Id → ℕ) (t : ℕ) → HostAt psi slack C log t → last ≤ t → (i : ℕ) (e : Entry) → ws i e → is_started e.phase ≡ false → t ≤ psi + e.start.0 + slack
  never_late C t h l i e x s = go (previous log) refl
    where
      go : (r : Reading) → previous log ≡ r → t ≤ psi + e.start.0 + slack
      go None q = let f = h.first q in omega arith
      go (At u) q = elim (dec_lt u t) [
        | yes r ↦ let st = h.steps u q in let z = k.last_is u q in let d = k.idle (subst (AskedIdle log) z (h.asks u q r)) i e x s in omega arith
        | no r ↦ let w = k.within u q i e x s in omega arith
      ]
