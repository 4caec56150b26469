-- A path passes the limits of number 44 exactly if one of its transitions does, over the combined activities of its beginnings.
use Rattle.std.specs.Prelude.{◌≡◌, Bool, true, cond, List, [], ◌∷◌, ◌++◌, ◌⊎◌}
use Rattle.std.proofs.Math.Path.{refl}
use Rattle.std.proofs.Common.{sym, ap, ◌∙◌, subst, inl, inr}
use Rattle.std.proofs.Math.Bool.{false}
use Prim.Native.Nat.{ℕ, zero, suc}
use Rattle.basis.specs.Inner.Tells.{Tells, holds, fails}
use Rattle.basis.proofs.Laws.Tells.{tells_iff}
use Rattle.plan.specs.declared.Plan.{Plan}
use Rattle.automaton.specs.Next.{next_of}
use Rattle.automaton.specs.Rules.{MeetsAutomaton}
use Rattle.automaton.specs.declared.Next.{Next}
use Rattle.automaton.proofs.Laws.Cases.{goes_same, ended_goes, waits_goes}
use Rattle.times_combined.specs.Paths.{Lawful}
use Rattle.times.specs.declared.Progress.{Progress}
use Rattle.run_path.specs.Path.{Path, taken_by, entries_by, path_from}
use Rattle.demands_log.specs.Log.{Id, Log, Told}
use Rattle.demands_theory.specs.TheWord.{next_after, Takes, goes}
use Rattle.demands_theory.specs.Loading.{Silently, stays, goes_on, Beyond, PathBeyond}
use Rattle.demands_theory.proofs.Laws.TheWord.{last, step_same}
use Rattle.demands_run.proofs.Laws.Engine.{Settles, EngineLaws}
use Rattle.demands_run.proofs.Laws.Stands.{Stands, next_after_lem}
use Rattle.demands_run.proofs.Laws.Silent.{silent_first, silent_next}
use Rattle.demands_run.proofs.Laws.Taken.{next_state, stands_on}
use Rattle.demands_run.proofs.Laws.Counts.{possible, pending_length}
use Rattle.demands_run.proofs.Laws.Passing.{tells_beyond}

module _ (p : Plan) (lawful : Lawful p) (automaton : MeetsAutomaton p) (available : ℕ → ℕ) (log : Log) (laws : EngineLaws) where
  -- where the run stands after one transition more
  pub on : (us : List ℕ) (g : Progress) → Stands p available log us g → (t : ℕ) → Takes p log (t ∷ us) → (taken_by p t g).beyond ≡ false → Stands p available log (t ∷ us) (taken_by p t g).progress
  on us g s t next b = let can = possible p lawful automaton available log us g s t next in stands_on p lawful available log us g s t next can.pending (pending_length p lawful automaton available log us g s) (laws.advances p lawful t g can) b

  -- a transition after us that awaits nothing passes a limit
  pub record Quiet (us : List ℕ) : Type 0 where
    pub before : List ℕ
    pub number : ℕ
    pub silent : Silently p us before
    pub next : next_after p before ≡ Next.Goes number
    pub beyond : Beyond p available (number ∷ before)

  no_quiet : (us : List ℕ) → ((t : ℕ) → next_after p us ≡ Next.Goes t → ⊥) → Quiet us → ⊥
  no_quiet us n q = go (silent_next p us q.before q.silent)
    where
      go : (us ≡ q.before) ⊎ ((t : ℕ) × (next_after p us ≡ Next.Goes t) × Silently p (t ∷ us) q.before) → ⊥
      go (inl e) = n q.number (subst (λ (l : List ℕ). next_after p l ≡ Next.Goes q.number) (sym e) q.next)
      go (inr r) = n r.0 r.1

  quiet_on : (us : List ℕ) (t : ℕ) → next_after p us ≡ Next.Goes t → (Beyond p available (t ∷ us) → ⊥) → Quiet us → Quiet (t ∷ us)
  quiet_on us t e n q = go (silent_next p us q.before q.silent)
    where
      go : (us ≡ q.before) ⊎ ((u : ℕ) × (next_after p us ≡ Next.Goes u) × Silently p (u ∷ us) q.before) → Quiet (t ∷ us)
      go (inl z) =
          let same : q.number ≡ t = goes_same (sym (subst (λ (l : List ℕ). next_after p l ≡ Next.Goes q.number) (sym z) q.next) ∙ e) in
          absurd (n (subst (λ (l : List ℕ). Beyond p available (t ∷ l)) (sym z) (subst (λ (u : ℕ). Beyond p available (u ∷ q.before)) same q.beyond)))
      go (inr r) = record { before = q.before; number = q.number; silent = subst (λ (u : ℕ). Silently p (u ∷ us) q.before) (goes_same (sym r.1 ∙ e)) r.2; next = q.next; beyond = q.beyond }

  quiet_back : (us : List ℕ) (t : ℕ) → next_after p us ≡ Next.Goes t → Quiet (t ∷ us) → Quiet us
  quiet_back us t e q = record { before = q.before; number = q.number; silent = silent_first p us t e q.before q.silent; next = q.next; beyond = q.beyond }

  pub tells_quiet : (k : ℕ) (us : List ℕ) (g : Progress) → Stands p available log us g → Settles p.automaton k g.state → Tells (path_from p k (next_of p.automaton g.state) g).beyond (Quiet us)
  unfolding path_from
  tells_quiet zero us g s settles = fails (no_quiet us (λ t e. settles t (ap (next_of p.automaton) s.place ∙ e)))
  tells_quiet (suc k) us g s settles =
      go (next_of p.automaton g.state) refl
      (λ t e next b. tells_quiet k (t ∷ us) (taken_by p t g).progress (on us g s t next b) (subst (Settles p.automaton k) (sym (next_state p t g)) (settles t e)))
    where
      go : (n : Next) → next_of p.automaton g.state ≡ n
          → ((t : ℕ) → next_of p.automaton g.state ≡ Next.Goes t → Takes p log (t ∷ us) → (taken_by p t g).beyond ≡ false → Tells (path_from p k (next_of p.automaton (taken_by p t g).progress.state) (taken_by p t g).progress).beyond (Quiet (t ∷ us)))
          → Tells (path_from p (suc k) n g).beyond (Quiet us)
      go Next.Ended e more = fails (no_quiet us (λ t z. ended_goes (sym (next_after_lem s e) ∙ z)))
      go (Next.Waits x) e more = fails (no_quiet us (λ t z. waits_goes (sym (next_after_lem s e) ∙ z)))
      go (Next.Goes t) e more = step (taken_by p t g).beyond refl (tells_beyond p lawful automaton available log laws us g s t next) (more t e next)
        where
          next : Takes p log (t ∷ us)
          next = goes s.taken (next_after_lem s e)

          rest : Path
          rest = path_from p k (next_of p.automaton (taken_by p t g).progress.state) (taken_by p t g).progress

          step : (b : Bool) → (taken_by p t g).beyond ≡ b → Tells b (Beyond p available (t ∷ us)) → ((taken_by p t g).beyond ≡ false → Tells rest.beyond (Quiet (t ∷ us)))
              → Tells (cond {A = Path} b (record { beyond = true; entries = []; progress = g }) (record { beyond = rest.beyond; entries = entries_by p t g ++ rest.entries; progress = rest.progress })).beyond (Quiet us)
          step true q (holds y) f = holds (record { before = us; number = t; silent = stays; next = next_after_lem s e; beyond = y })
          step false q (fails n) f = tells_iff (quiet_back us t (next_after_lem s e), quiet_on us t (next_after_lem s e) n) (f q)

  -- ---- the next path

  module _ (unique : (x : Id) (o q : ℕ) → Told log x o → Told log x q → o ≡ q) (us : List ℕ) (g : Progress) (s : Stands p available log us g) (t : ℕ) (next : Takes p log (t ∷ us)) where
    pub one_first : (u : ℕ) → Takes p log (u ∷ us) → u ≡ t
    one_first u h = step_same p lawful log unique us s.taken u t (last p log (u ∷ us) h).1 (last p log (t ∷ us) next).1

    from_first : Beyond p available (t ∷ us) → PathBeyond p available log us
    from_first y = record { at = t ∷ us; onward = record { first = t; taken = next; silent = stays }; beyond = y }

    from_quiet : Quiet (t ∷ us) → PathBeyond p available log us
    from_quiet q = record { at = q.number ∷ q.before; onward = record { first = t; taken = next; silent = goes_on q.silent q.next }; beyond = q.beyond }

    to_quiet : (Beyond p available (t ∷ us) → ⊥) → PathBeyond p available log us → Quiet (t ∷ us)
    to_quiet n y = go y.at (subst (λ (u : ℕ). Silently p (u ∷ us) y.at) (one_first y.onward.first y.onward.taken) y.onward.silent) y.beyond
      where
        go : (vs : List ℕ) → Silently p (t ∷ us) vs → Beyond p available vs → Quiet (t ∷ us)
        go vs stays b = absurd (n b)
        go vs (goes_on {vs = ws} {t = u} h e) b = record { before = ws; number = u; silent = h; next = e; beyond = b }

    pub tells_path : (k : ℕ) → ((b : (taken_by p t g).beyond ≡ false) → Settles p.automaton k (taken_by p t g).progress.state) → Tells (path_from p (suc k) (Next.Goes t) g).beyond (PathBeyond p available log us)
    unfolding path_from
    tells_path k settles = step (taken_by p t g).beyond refl (tells_beyond p lawful automaton available log laws us g s t next)
      where
        rest : Path
        rest = path_from p k (next_of p.automaton (taken_by p t g).progress.state) (taken_by p t g).progress

        step : (b : Bool) → (taken_by p t g).beyond ≡ b → Tells b (Beyond p available (t ∷ us))
            → Tells (cond {A = Path} b (record { beyond = true; entries = []; progress = g }) (record { beyond = rest.beyond; entries = entries_by p t g ++ rest.entries; progress = rest.progress })).beyond (PathBeyond p available log us)
        step true q (holds y) = holds (from_first y)
        step false q (fails n) = tells_iff (from_quiet, to_quiet n) (tells_quiet k (t ∷ us) (taken_by p t g).progress (on us g s t next q) (settles q))
