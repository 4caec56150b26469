-- Loading a path: "Paths are loaded up to a waiting or final state", and each transition of it loads its nodes.
use Rattle.std.specs.Prelude.{◌≡◌, List, [], ◌∷◌, ◌++◌, map, eqb}
use Rattle.std.proofs.Math.Path.{refl, subst}
use Rattle.std.proofs.Common.{sym, ap, ◌∙◌, true≢false, arith}
use Rattle.std.proofs.Math.Bool.{false}
use Prim.Native.Nat.{ℕ, zero, suc, ◌+◌, ◌≤◌}
use Rattle.std.proofs.Math.ListN.{length, length-append}
use Rattle.basis.proofs.Laws.Bools.{by_test}
use Rattle.plan.specs.Plan.{move}
use Rattle.plan.specs.declared.Input.{Input}
use Rattle.plan.specs.declared.Plan.{Plan}
use Rattle.automaton.specs.Next.{next_of}
use Rattle.automaton.specs.Rules.{MeetsAutomaton}
use Rattle.automaton.specs.declared.Next.{Next}
use Rattle.automaton.proofs.Laws.Cases.{waits_goes, ended_goes}
use Rattle.times_combined.specs.Paths.{Lawful}
use Rattle.times.specs.Times.{at}
use Rattle.times.specs.Queues.{queue_of, emission}
use Rattle.times.specs.declared.Told.{Told}
use Rattle.times.specs.declared.Instance.{Instance}
use Rattle.times.specs.declared.Progress.{Progress}
use Rattle.run_path.specs.Path.{Path, taken_by, entries_by, path_from, ends, after}
use Rattle.run_window.specs.Window.{placed, vacancies}
use Rattle.run_window.proofs.Laws.Placed.{placed_none, placed_append, placed_vacancies}
use Rattle.run_window.specs.declared.Entry.{Entry}
use Rattle.demands_log.specs.Log.{Log}
use Rattle.demands_theory.specs.TheWord.{next_after, Takes, goes}
use Rattle.demands_theory.specs.Loading.{Silently, stays}
use Rattle.demands_run.proofs.Laws.Silent.{silent_first}
pub use Rattle.demands_theory.specs.TheWord.{Rests}
use Rattle.demands_theory.proofs.Laws.Growth.{Tail, here, later, tail_on}
use Rattle.demands_run.proofs.Laws.Engine.{rest, left, remaining, Settles, EngineLaws}
use Rattle.demands_run.proofs.Laws.Stands.{next_after_lem}
use Rattle.demands_run.proofs.Laws.Counts.{possible}
use Rattle.demands_run.proofs.Laws.Taken.{next_state}
use Rattle.demands_run.proofs.Laws.Loaded.{Loaded, loads_one, all_new}

-- ---- how many of a queue have a reported outcome

abbrev pub is_told : Told → ℕ
is_told Told.Nothing = 0
is_told (Told.Outcome o) = 1

abbrev pub tolds : List Instance → ℕ
tolds [] = 0
tolds (x ∷ q) = is_told x.told + tolds q

pub tolds_append : (q r : List Instance) → tolds (q ++ r) ≡ tolds q + tolds r
tolds_append [] r = omega arith
tolds_append (x ∷ q) r = let u = tolds_append q r in omega arith

pub tolds_new : (position : ℕ) (C : ℕ → ℕ) (ns : List ℕ) → tolds (map (λ n. emission position n (C n)) ns) ≡ 0
tolds_new position C [] = refl
tolds_new position C (n ∷ ns) = let u = tolds_new position C ns in omega arith

-- what is processed is told no more
rest_fewer : (q : List Instance) → tolds (rest q) ≤ tolds q
rest_fewer [] = omega arith
rest_fewer (x ∷ q) = omega arith

pub left_fewer : (i : Input) (q : ℕ → List Instance) (e : ℕ) → tolds (left i q e) ≤ tolds (q e)
left_fewer Input.Nothing q e = omega arith
left_fewer (Input.Outcome f o) q e = by_test (λ (l : List Instance). tolds l ≤ tolds (q e)) (eqb f e) _ _ (λ b. rest_fewer (q e)) (λ b. omega arith)

module _ (p : Plan) (lawful : Lawful p) (automaton : MeetsAutomaton p) (available : ℕ → ℕ) (log : Log) (base : List ℕ) (v : List Entry) (laws : EngineLaws) where
  abbrev In : List ℕ → Progress → List Entry → Type 0
  In us g w = Loaded p lawful automaton available log base v us g w

  -- a path that is loaded after the word us into the window w; c: at most so many instances of each event are told
  pub record Arrives (us : List ℕ) (w : List Entry) (c : ℕ → ℕ) (q : Path) : Type 0 where
    pub word : List ℕ
    pub loaded : In word q.progress (placed w q.entries)
    pub on : Tail us word
    pub silent : Silently p us word
    pub rests : Rests p word
    pub told : (e : ℕ) → tolds (queue_of q.progress e) ≤ c e

  -- it fits, or fails
  abbrev pub Fits : List ℕ → List Entry → (ℕ → ℕ) → Path → Type 0
  Fits us w c q = q.beyond ≡ false → length q.entries ≤ vacancies w → Arrives us w c q

  told_on : (us : List ℕ) (g : Progress) (w : List Entry) → In us g w → (t : ℕ) → Takes p log (t ∷ us) → (taken_by p t g).beyond ≡ false → (e : ℕ)
      → tolds (queue_of (taken_by p t g).progress e) ≡ tolds (remaining (move p.automaton t).input g e)
  told_on us g w h t next in-time e =
      let adv = laws.advances p lawful t g (possible p lawful automaton available log us g h.stands t next) in
      let u = ap tolds (adv.queues e) in
      let x = tolds_append (remaining (move p.automaton t).input g e) (map (λ n. emission g.position n (at (taken_by p t g).schedule.end n)) (adv.emitted e)) in
      let y = tolds_new g.position (λ n. at (taken_by p t g).schedule.end n) (adv.emitted e) in
      omega arith

  -- a path of one transition and a rest
  pub first-of : (k : ℕ) (us : List ℕ) (g : Progress) (w : List Entry) (h : In us g w) (t : ℕ) → Takes p log (t ∷ us)
      → (In (t ∷ us) (taken_by p t g).progress (placed w (entries_by p t g)) → Fits (t ∷ us) (placed w (entries_by p t g)) (λ e. tolds (queue_of (taken_by p t g).progress e)) (path_from p k (next_of p.automaton (taken_by p t g).progress.state) (taken_by p t g).progress))
      → Fits (t ∷ us) w (λ e. tolds (remaining (move p.automaton t).input g e)) (path_from p (suc k) (Next.Goes t) g)
  unfolding path_from
  first-of k us g w h t next more =
      by_test (Fits (t ∷ us) w (λ e. tolds (remaining (move p.automaton t).input g e))) (taken_by p t g).beyond _ _
      (λ b f. absurd (true≢false f)) (λ b f room. one b f room)
    where
      one : (taken_by p t g).beyond ≡ false → (path_from p k (next_of p.automaton (taken_by p t g).progress.state) (taken_by p t g).progress).beyond ≡ false
          → length (entries_by p t g ++ (path_from p k (next_of p.automaton (taken_by p t g).progress.state) (taken_by p t g).progress).entries) ≤ vacancies w
          → Arrives (t ∷ us) w (λ e. tolds (remaining (move p.automaton t).input g e)) (after (entries_by p t g) (path_from p k (next_of p.automaton (taken_by p t g).progress.state) (taken_by p t g).progress))
      one b f room =
          let es = entries_by p t g in
          let fs = (path_from p k (next_of p.automaton (taken_by p t g).progress.state) (taken_by p t g).progress).entries in
          let u = length-append es fs in
          let held = all_new p lawful automaton available log base v laws us g w h t next b in
          let x = placed_vacancies w es held in
          let r = more (loads_one p lawful automaton available log base v laws us g w h t next b (omega arith)) f (omega arith) in
          record {
            word = r.word;
            loaded = subst (In r.word (path_from p k (next_of p.automaton (taken_by p t g).progress.state) (taken_by p t g).progress).progress) (sym (placed_append w es fs held)) r.loaded;
            on = r.on;
            silent = r.silent;
            rests = r.rests;
            told = λ e. (let x = r.told e in let y = told_on us g w h t next b e in omega arith);
          }

  -- the word goes on from the one before the transition
  sooner : (us : List ℕ) (t : ℕ) → next_after p us ≡ Next.Goes t → (w : List Entry) (c : ℕ → ℕ) (q : Path) → Arrives (t ∷ us) w c q → Arrives us w c q
  sooner us t e w c q r = record { word = r.word; loaded = r.loaded; on = tail_on us (t ∷ us) r.word (later here) r.on; silent = silent_first p us t e r.word r.silent; rests = r.rests; told = r.told }

  weaken : (us : List ℕ) (w : List Entry) (c d : ℕ → ℕ) (q : Path) → ((e : ℕ) → c e ≤ d e) → Arrives us w c q → Arrives us w d q
  weaken us w c d q l r = record { word = r.word; loaded = r.loaded; on = r.on; silent = r.silent; rests = r.rests; told = λ e. (let x = r.told e in let y = l e in omega arith) }

  -- a path that is at its end
  stops : (us : List ℕ) (g : Progress) (w : List Entry) → In us g w → ((t : ℕ) → next_of p.automaton g.state ≡ Next.Goes t → ⊥) → Fits us w (λ e. tolds (queue_of g e)) (ends g)
  stops us g w h n f room = record {
    word = us;
    loaded = subst (In us g) (sym (placed_none w)) h;
    on = here;
    silent = stays;
    rests = λ t e. n t (ap (next_of p.automaton) h.stands.place ∙ e);
    told = λ e. omega arith;
  }

  -- from a state on, by transitions that await nothing
  pub path_on : (k : ℕ) (us : List ℕ) (g : Progress) (w : List Entry) → In us g w → Settles p.automaton k g.state → Fits us w (λ e. tolds (queue_of g e)) (path_from p k (next_of p.automaton g.state) g)
  unfolding path_from
  path_on zero us g w h settles = stops us g w h settles
  path_on (suc k) us g w h settles =
      go (next_of p.automaton g.state) refl
      (λ t e i. path_on k (t ∷ us) (taken_by p t g).progress (placed w (entries_by p t g)) i (subst (Settles p.automaton k) (sym (next_state p t g)) (settles t e)))
    where
      go : (n : Next) → next_of p.automaton g.state ≡ n
          → ((t : ℕ) → next_of p.automaton g.state ≡ Next.Goes t → In (t ∷ us) (taken_by p t g).progress (placed w (entries_by p t g)) → Fits (t ∷ us) (placed w (entries_by p t g)) (λ e. tolds (queue_of (taken_by p t g).progress e)) (path_from p k (next_of p.automaton (taken_by p t g).progress.state) (taken_by p t g).progress))
          → Fits us w (λ e. tolds (queue_of g e)) (path_from p (suc k) n g)
      go Next.Ended e more = stops us g w h (λ t z. ended_goes (sym e ∙ z))
      go (Next.Waits x) e more = stops us g w h (λ t z. waits_goes (sym e ∙ z))
      go (Next.Goes t) e more =
          λ b room. weaken us w _ _ _ (λ x. left_fewer (move p.automaton t).input (queue_of g) x)
          (sooner us t (next_after_lem h.stands e) w _ _ (first-of k us g w h t (goes h.stands.taken (next_after_lem h.stands e)) (more t e) b room))
