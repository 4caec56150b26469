-- What is loaded is the longest beginning of the word that fits: where loading ends, no longer one does.
use Rattle.std.specs.Prelude.{◌≡◌, List, [], ◌∷◌, ◌⊎◌, ℕ, Option, Some}
use Rattle.std.proofs.Common.{sym, subst, inl, inr, ⊎_elim, arith}
use Rattle.plan.specs.declared.Plan.{Plan}
use Rattle.automaton.specs.declared.Next.{Next}
use Rattle.times_combined.specs.Paths.{Lawful}
use Rattle.run.specs.declared.Call.{Call}
use Rattle.run_checks.specs.declared.Stop.{Stop}
use Rattle.run_loading.specs.declared.Failure.{Failure}
use Rattle.run.specs.Inner.Calls.{reply_after, halt_after}
use Rattle.demands_log.specs.Log.{Id, Log, said, Told, FailedIn, StoppedBy}
use Rattle.demands_theory.specs.TheWord.{next_after, Rests, Takes, Stuck}
use Rattle.demands_theory.specs.Loading.{Exceeds, Beyond, Within, Silently, stays, goes_on, Onward, NextPath, PathBeyond, PathFull, EndsAt, whole, beyond, full, Loads, ends, later, Fits}
use Rattle.demands_theory.proofs.Laws.Replies.{not_going, failed_by}
use Rattle.demands_theory.proofs.Laws.Growth.{Tail, tail_next, tails}
use Rattle.demands_theory.proofs.Laws.TheWord.{last, silent, step_same, tail_takes, tail_extends}

-- ---- no longer beginning fits

module _ (p : Plan) (lawful : Lawful p) (log : Log) (unique : (x : Id) (o q : ℕ) → Told log x o → Told log x q → o ≡ q) (available : ℕ → ℕ) where
  -- a word that rests goes on by the transitions that await nothing
  silent_tail : (us vs ws : List ℕ) → Silently p us vs → Tail us ws → Rests p ws → Takes p log ws → Tail vs ws
  silent_tail us vs ws stays b r h = b
  silent_tail us vs ws (goes_on {vs = xs} {t} s e) b r h = go (tail_next xs ws (silent_tail us xs ws s b r h))
    where
      go : (xs ≡ ws) ⊎ ((n : ℕ) × Tail (n ∷ xs) ws) → Tail (t ∷ xs) ws
      go (inl q) = absurd (r t (subst (λ (l : List ℕ). next_after p l ≡ Next.Goes t) q e))
      go (inr n) =
          let l = last p log (n.0 ∷ xs) (tail_takes p lawful log unique (n.0 ∷ xs) ws n.1 h) in
          subst (λ (m : ℕ). Tail (m ∷ xs) ws) (step_same p lawful log unique xs l.0 n.0 t l.1 (silent e)) n.1

  module _ (v u : List ℕ) (taken : Takes p log u) (fits : Fits p available log u) (t : ℕ) (further : Tail (t ∷ v) u) where
    -- it goes along the next path
    along : (at : List ℕ) → Onward p log v at → Tail at u
    along at o =
        let l = last p log (t ∷ v) (tail_takes p lawful log unique (t ∷ v) u further taken) in
        let same = step_same p lawful log unique v l.0 t o.first l.1 (last p log (o.first ∷ v) o.taken).1 in
        silent_tail (o.first ∷ v) at u o.silent (subst (λ (n : ℕ). Tail (n ∷ v) u) same further) fits.rests taken

    not_beyond : PathBeyond p available log v → ⊥
    not_beyond y = fits.within y.at (along y.at y.onward) y.beyond

    not_full : PathFull p available log v → ⊥
    not_full y =
        let more = tail_extends p lawful log unique available y.path u (along y.path y.next.onward) taken in
        let m = y.many in
        fits.room record { nodes = m.nodes; distinct = m.distinct; wait = λ x a. let w = m.wait x a in record { node = more.nodes x w.node; unreported = w.unreported }; many = m.many }

  pub longest : (v is : List ℕ) → Tail v is → Takes p log is → ((FailedIn log → ⊥) → v ≡ is) → (StoppedBy log Stop.Beyond → PathBeyond p available log v) → (StoppedBy log Stop.Full → PathFull p available log v)
      → (u : List ℕ) → Tail u is → Fits p available log u → Tail u v
  longest v is b h all past filled u c fits =
      ⊎_elim (λ nf. subst (Tail u) (sym (all nf)) c) (λ q. ⊎_elim (λ a. a) (λ n. absurd (none n.0 n.1 q)) (tails u v is c b)) (failed_by log)
    where
      taken : Takes p log u
      taken = tail_takes p lawful log unique u is c h

      none : (t : ℕ) → Tail (t ∷ v) u → StoppedBy log Stop.Beyond ⊎ StoppedBy log Stop.Full → ⊥
      none t d = ⊎_elim (λ s. not_beyond v u taken fits t d (past s)) (λ s. not_full v u taken fits t d (filled s))

-- ---- loading leads from a beginning within the limits to another

module _ (p : Plan) (available : ℕ → ℕ) where
  -- a beginning of what is reached is one of what was there, or on the way
  pub silent_before : (us vs u : List ℕ) → Silently p us vs → Tail u vs → Tail u us ⊎ Silently p us u
  silent_before us vs u stays b = inl b
  silent_before us vs u (goes_on s e) Tail.here = inr (goes_on s e)
  silent_before us vs u (goes_on {vs = ws} s e) (Tail.later b) = silent_before us ws u s b

  -- a word that passes a limit has a transition
  pub within_none : Within p available []
  within_none u Tail.here y = has [] y.exceeds
    where
      some : List ℕ → Type 0
      some [] = ⊥
      some (t ∷ us) = Unit {0}

      has : (us : List ℕ) → Exceeds p y.C us → some us
      has us (Exceeds.completion n k i h) = tt
      has us (Exceeds.availability x r l i h) = tt
      has us (Exceeds.position l) = tt

  pub within_more : (us : List ℕ) (t : ℕ) → Within p available us → (Beyond p available (t ∷ us) → ⊥) → Within p available (t ∷ us)
  within_more us t w n u Tail.here y = n y
  within_more us t w n u (Tail.later b) y = w u b y

  within_path : (log : Log) (us vs : List ℕ) → NextPath p log us vs → (PathBeyond p available log us → ⊥) → Within p available us → Within p available vs
  within_path log us vs n nb w u b y = ⊎_elim (λ c. first u c y) (λ s. nb (record { at = u; onward = record { first = n.onward.first; taken = n.onward.taken; silent = s }; beyond = y })) (silent_before (n.onward.first ∷ us) vs u n.onward.silent b)
    where
      first : (u : List ℕ) → Tail u (n.onward.first ∷ us) → Beyond p available u → ⊥
      first u Tail.here y = nb (record { at = n.onward.first ∷ us; onward = record { first = n.onward.first; taken = n.onward.taken; silent = stays }; beyond = y })
      first u (Tail.later c) y = w u c y

  pub within_loads : (log : Log) (us vs : List ℕ) (f : Option Failure) → Loads p available log us vs f → Within p available us → Within p available vs
  within_loads log us vs f (ends e) w = w
  within_loads log us vs f (later {vs = ws} n nb few l) w = within_loads log ws vs f l (within_path log us ws n nb w)

  pub loads_end : (log : Log) (us vs : List ℕ) (f : Option Failure) → Loads p available log us vs f → EndsAt p available log vs f
  loads_end log us vs f (ends e) = e
  loads_end log us vs f (later {vs = ws} n nb few l) = loads_end log ws vs f l

-- ---- where loading ends, by the answer that tells it

full_beyond : {A : Type 0} → Some Stop.Full ≡ Some Stop.Beyond → A
full_beyond e = absurd (let z : ◌≡◌ {A = ℕ} 0 1 = cc in omega arith)

module _ (p : Plan) (available : ℕ → ℕ) (log1 : Log) (us : List ℕ) where
  pub ends_whole : (c : Call) (log : Log) (f : Option Failure) → EndsAt p available log1 us f → (FailedIn (said c (reply_after f) ∷ log) → ⊥) → Stuck p log1 us
  ends_whole c log f (whole s) nf = s
  ends_whole c log f (beyond y) nf = absurd (nf (inl tt))
  ends_whole c log f (full y) nf = absurd (nf (inl tt))

  pub ends_beyond : (f : Option Failure) → EndsAt p available log1 us f → halt_after f ≡ Some Stop.Beyond → PathBeyond p available log1 us
  ends_beyond f (whole s) e = absurd (not_going Stop.Beyond (sym e))
  ends_beyond f (beyond y) e = y
  ends_beyond f (full y) e = full_beyond e

  pub ends_full : (f : Option Failure) → EndsAt p available log1 us f → halt_after f ≡ Some Stop.Full → PathFull p available log1 us
  ends_full f (whole s) e = absurd (not_going Stop.Full (sym e))
  ends_full f (beyond y) e = full_beyond (sym e)
  ends_full f (full y) e = y
