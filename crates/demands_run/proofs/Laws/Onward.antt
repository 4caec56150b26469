-- The way on from a state at rest: if the oldest instance of the awaited event is told, its transition is taken by the log; if
-- not, there is no further one.
use Rattle.std.specs.Prelude.{◌≡◌, Bool, true, false, cond, List, [], ◌∷◌, ◌++◌, map, ℕ, zero, suc, ◌+◌, ◌*◌, ◌<◌, ltb, length, get_or, Option, None, Some}
use Rattle.std.proofs.Math.Path.{refl, ap}
use Rattle.std.proofs.Common.{sym, ◌∙◌, subst, inl, arith, length-append}
use borrow.Author.Tests.{ltb-true, lt-ltb}
use Rattle.basis.specs.Parts.{part}
use Rattle.basis.proofs.Laws.PartsHold.{length_part}
use Rattle.plan.specs.Plan.{move, outcomes_of}
use Rattle.plan.specs.declared.Input.{Input}
use Rattle.plan.specs.declared.Plan.{Plan}
use Rattle.automaton.specs.Next.{next_of, chosen_of}
use Rattle.automaton.specs.Rules.{MeetsAutomaton}
use Rattle.automaton.specs.declared.Next.{Next}
use Rattle.automaton.proofs.Laws.Following.{chosen_leaves, awaited_below}
use Rattle.automaton.proofs.Laws.Later.{waits_several}
use Rattle.automaton.proofs.Laws.Cases.{goes_same, ended_goes, waits_goes}
use Rattle.times_combined.specs.Word.{times}
use Rattle.times_combined.specs.Combined.{Instance}
use Rattle.times_combined.specs.Paths.{word_of, Lawful}
use Rattle.times_combined.proofs.Laws.Instances.{instance_cut, next_instance, only_instance}
use Rattle.times.specs.Queues.{no_instance, pending_of, instance_of, queue_of}
use Rattle.times.specs.Limits.{ToldNames}
use Rattle.times.specs.declared.Told.{Told}
use Rattle.times.specs.declared.Instance.{Instance as Pending}
use Rattle.times.specs.declared.Progress.{Progress}
use Rattle.run_outcomes.specs.Way.{on_told, on_chosen, way_on}
use Rattle.demands_log.specs.Log.{Id, Log}
use Rattle.demands_log.specs.Log as Log
use Rattle.demands_theory.specs.Nodes.{whose}
use Rattle.demands_theory.specs.TheWord.{state_after, next_after, whole_of, Oldest, Takes, hears, Stuck, ended, waits}
use Rattle.demands_theory.proofs.Laws.Nodes.{whose_same}
use Rattle.demands_run.proofs.Laws.Engine.{rest, EngineLaws}
use Rattle.demands_run.proofs.Laws.Stands.{ident_of, id_of, ToldAs, Queued, Stands, next_after_lem}
use Rattle.demands_run.proofs.Laws.Paths.{is_told, tolds, Rests}

-- ---- the oldest of a queue

pub queue_head : (g : Progress) (e : ℕ) → 0 < pending_of g e → queue_of g e ≡ instance_of g e 0 ∷ rest (queue_of g e)
queue_head g e l = go (pending_of g e) l
  where
    go : (n : ℕ) → 0 < n → part no_instance g.pending (8 * e) n ≡ get_or g.pending (8 * e + 0) no_instance ∷ rest (part no_instance g.pending (8 * e) n)
    go zero l = absurd (omega arith)
    go (suc n) l = let z : 8 * e ≡ 8 * e + 0 = omega arith in ap (λ (k : ℕ). get_or g.pending k no_instance ∷ part no_instance g.pending (8 * e + 1) n) z

module _ (p : Plan) (lawful : Lawful p) (automaton : MeetsAutomaton p) (available : ℕ → ℕ) (log : Log) (us : List ℕ) (g : Progress) (s : Stands p available log us g) where
  -- transition t processes the oldest instance of the awaited event, which is told
  pub record Heard (t : ℕ) : Type 0 where
    pub event : ℕ
    pub outcome : ℕ
    pub instance : Id
    pub awaits : next_after p us ≡ Next.Waits event
    pub oldest : Oldest p us event instance
    pub told : Log.Told log instance outcome
    pub takes : Takes p log (t ∷ us)
    pub input : (move p.automaton t).input ≡ Input.Outcome event outcome
    pub low : event < p.events
    pub fewer : tolds (rest (queue_of g event)) + 1 ≡ tolds (queue_of g event)

  -- the oldest instance of e, if one is pending
  head_queued : (e : ℕ) → 0 < pending_of g e → Queued (whole_of p us) log (outcomes_of p e) e (times e (word_of p us)) (instance_of g e 0 ∷ rest (queue_of g e))
  head_queued e l = subst (Queued (whole_of p us) log (outcomes_of p e) e (times e (word_of p us))) (queue_head g e l) (s.queues e)

  head_oldest : (e : ℕ) → 0 < pending_of g e → Oldest p us e (id_of (instance_of g e 0))
  head_oldest e l =
      let q = head_queued e l in
      subst (λ (n : ℕ). Instance (whole_of p us) e (n + 1) (ident_of (instance_of g e 0))) q.count
      (next_instance (whole_of p us) e q.past (ident_of (instance_of g e 0)) (map ident_of (rest (queue_of g e))) q.listing)

  -- what is awaited has more than one outcome
  several : (e : ℕ) → next_of p.automaton g.state ≡ Next.Waits e → 1 < outcomes_of p e
  several e w = waits_several p lawful.file.limits automaton g.state e s.within.state w

  here : state_after p us ≡ g.state
  here = sym s.place

  -- what the log tells of the oldest makes it go on
  heard : (e o t : ℕ) → next_of p.automaton g.state ≡ Next.Waits e → 0 < pending_of g e → (instance_of g e 0).told ≡ Told.Outcome o → chosen_of p.automaton g.state e o ≡ Some t → Heard t
  heard e o t w l told c =
      let q = head_queued e l in
      let known : Log.Told log (id_of (instance_of g e 0)) o = subst (ToldAs log (id_of (instance_of g e 0))) told (q.told (instance_of g e 0) (inl refl) (several e w)) in
      let there : chosen_of p.automaton (state_after p us) e o ≡ Some t = ap (λ (z : ℕ). chosen_of p.automaton z e o) here ∙ c in
      record {
        event = e;
        outcome = o;
        instance = id_of (instance_of g e 0);
        awaits = next_after_lem s w;
        oldest = head_oldest e l;
        told = known;
        takes = hears e o (id_of (instance_of g e 0)) s.taken (next_after_lem s w) (head_oldest e l) known there;
        input = (chosen_leaves p.automaton g.state e o t c).1;
        low = awaited_below p lawful.file.limits g.state e w;
        fewer = (let u = ap tolds (queue_head g e l) in let z = ap is_told told in omega arith);
      }

  -- if there is a way on, the log takes it
  pub heard_if : (t : ℕ) → way_on p.automaton g (next_of p.automaton g.state) ≡ Next.Goes t → Heard t
  unfolding way_on
  heard_if t = by (next_of p.automaton g.state) refl
    where
      chosen : (e o : ℕ) → next_of p.automaton g.state ≡ Next.Waits e → 0 < pending_of g e → (instance_of g e 0).told ≡ Told.Outcome o → (c : Option ℕ) → chosen_of p.automaton g.state e o ≡ c → on_chosen c Next.Goes (Next.Waits e) ≡ Next.Goes t → Heard t
      chosen e o w l told None q h = waits_goes h
      chosen e o w l told (Some u) q h = heard e o t w l told (q ∙ ap Some (goes_same h))

      telling : (e : ℕ) → next_of p.automaton g.state ≡ Next.Waits e → 0 < pending_of g e → (x : Told) → (instance_of g e 0).told ≡ x
          → on_told x (λ o. on_chosen (chosen_of p.automaton g.state e o) Next.Goes (Next.Waits e)) (Next.Waits e) ≡ Next.Goes t → Heard t
      telling e w l Told.Nothing told h = waits_goes h
      telling e w l (Told.Outcome o) told h = chosen e o w l told (chosen_of p.automaton g.state e o) refl h

      pending : (e : ℕ) → next_of p.automaton g.state ≡ Next.Waits e → (b : Bool) → ltb 0 (pending_of g e) ≡ b
          → on_told (cond b (instance_of g e 0).told Told.Nothing) (λ o. on_chosen (chosen_of p.automaton g.state e o) Next.Goes (Next.Waits e)) (Next.Waits e) ≡ Next.Goes t → Heard t
      pending e w true l h = telling e w (ltb-true 0 (pending_of g e) l) (instance_of g e 0).told refl h
      pending e w false l h = waits_goes h

      by : (n : Next) → next_of p.automaton g.state ≡ n → way_on p.automaton g n ≡ Next.Goes t → Heard t
      by Next.Ended w h = ended_goes h
      by (Next.Goes u) w h = ended_goes h
      by (Next.Waits e) w h = pending e w (ltb 0 (pending_of g e)) refl h

  -- the way on, where the oldest is told
  goes_on : (e o t : ℕ) → next_of p.automaton g.state ≡ Next.Waits e → 0 < pending_of g e → (instance_of g e 0).told ≡ Told.Outcome o → chosen_of p.automaton g.state e o ≡ Some t
      → way_on p.automaton g (next_of p.automaton g.state) ≡ Next.Goes t
  unfolding way_on
  goes_on e o t w l told c = rw (w, lt-ltb 0 (pending_of g e) l, told, c)

  -- if there is none, the word is whole
  pub stuck_if : EngineLaws → Rests p us → ((t : ℕ) → way_on p.automaton g (next_of p.automaton g.state) ≡ Next.Goes t → ⊥) → Stuck p log us
  stuck_if laws rests no_way = by (next_of p.automaton g.state) refl
    where
      -- an instance that is told is the oldest of the queue, and would be heard
      telling : (e : ℕ) → next_of p.automaton g.state ≡ Next.Waits e → 0 < pending_of g e → (x : Told) → (instance_of g e 0).told ≡ x → ToldAs log (id_of (instance_of g e 0)) x → ToldNames (outcomes_of p e) x → (o : ℕ) → Log.Told log (id_of (instance_of g e 0)) o → ⊥
      telling e w l Told.Nothing told so names o k = so o k
      telling e w l (Told.Outcome u) told so names o k =
          let c = laws.chosen p lawful automaton g.state e u s.within.state w names in
          no_way c.0 (goes_on e u c.0 w l told c.1)

      none_left : (e : ℕ) (x : Id) → Oldest p us e x → (q : List Pending) → queue_of g e ≡ q → 0 < length q
      none_left e x old [] z =
          let h = s.queues e in
          let c = instance_cut (whole_of p us) e (h.past ++ map ident_of (queue_of g e)) h.listing (times e (word_of p us)) (whose x) old in
          let l1 = length-append h.past (map ident_of (queue_of g e)) in
          let l2 = ap (λ (q : List Pending). length (map ident_of q)) z in
          let l3 = ap length c.2 in
          let l4 = length-append c.0 (whose x ∷ c.1) in
          let l5 = c.3 in
          let l6 = h.count in
          absurd (omega arith)
      none_left e x old (y ∷ q) z = omega arith

      untold : (e : ℕ) → next_of p.automaton g.state ≡ Next.Waits e → (x : Id) (o : ℕ) → Oldest p us e x → Log.Told log x o → ⊥
      untold e w x o old k =
          let n = none_left e x old (queue_of g e) refl in
          let l : 0 < pending_of g e = (let u = length_part no_instance g.pending (8 * e) (pending_of g e) in omega arith) in
          let q = head_queued e l in
          let same : id_of (instance_of g e 0) ≡ x =
          whose_same (id_of (instance_of g e 0)) x
          (only_instance (whole_of p us) e q.past (ident_of (instance_of g e 0)) (map ident_of (rest (queue_of g e))) q.listing (whose x)
          (subst (λ (n : ℕ). Instance (whole_of p us) e (n + 1) (whose x)) (sym q.count) old)) in
          telling e w l (instance_of g e 0).told refl (q.told (instance_of g e 0) (inl refl) (several e w)) (s.within.pending e 0 (awaited_below p lawful.file.limits g.state e w) l).told o (subst (λ (z : Id). Log.Told log z o) (sym same) k)

      by : (n : Next) → next_of p.automaton g.state ≡ n → Stuck p log us
      by Next.Ended w = ended (next_after_lem s w)
      by (Next.Goes t) w = absurd (rests t (next_after_lem s w))
      by (Next.Waits e) w = waits e (next_after_lem s w) (untold e w)
