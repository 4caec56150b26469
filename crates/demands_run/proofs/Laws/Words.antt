-- There is a word of the log, after a failed loading too: from the word that is loaded the log and the automaton lead on, and
-- each waiting state that is passed leaves one told instance less.
use Rattle.std.specs.Prelude.{◌≡◌, refl, Bool, true, false, cond, ◌⊎◌, List, [], ◌∷◌, ◌++◌, map, ℕ, zero, suc, ◌+◌, ◌*◌, ◌≤◌, ◌<◌, eqb, length, Some}
use Rattle.std.proofs.Common.{sym, ap, ◌∙◌, subst, inl, inr, ⊎_elim, append_assoc, arith, add-zero, eqb-true, ne_eqb, eq-eqb, length-append}
use Rattle.std.proofs.lemmas.List.{map-append}
use Rattle.basis.specs.Lists.{Among}
use Rattle.basis.proofs.Laws.Lists.{among_either, map_among}
use Rattle.basis.proofs.Laws.PartsHold.{among_part}
use Rattle.plan.specs.Plan.{move, emitted_by, outcomes_of, resource_of}
use Rattle.plan.specs.declared.Input.{Input}
use Rattle.plan.specs.declared.Plan.{Plan}
use Rattle.automaton.specs.Next.{chosen_of}
use Rattle.automaton.specs.Rules.{MeetsAutomaton}
use Rattle.automaton.specs.declared.Next.{Next}
use Rattle.automaton.proofs.Laws.Following.{chosen_leaves, awaited_below}
use Rattle.automaton.proofs.Laws.Later.{waits_several}
use Rattle.automaton.proofs.Laws.Cases.{ended_goes, waits_goes}
use Rattle.times_combined.specs.Word.{size, once, times}
use Rattle.times_combined.specs.Combined.{Ident, named, Instance, processing}
use Rattle.times_combined.proofs.Laws.Accepted.{GoodWord}
use Rattle.times_combined.proofs.Laws.Exec.{emits_of}
use Rattle.times_combined.specs.Paths.{word_of, Lawful}
use Rattle.times_combined.proofs.Laws.Instances.{Listing, listing_grows, instance_cut, next_instance, only_instance}
use Rattle.times_combined.proofs.Laws.Unique.{shape_of}
use Rattle.times_combined.proofs.Laws.Computed.{emits}
use Rattle.times_combined.proofs.Laws.Plans.{good_path}
use Rattle.times.specs.Queues.{no_instance, pending_of, queue_of, emission}
use Rattle.times.specs.Limits.{ToldNames}
use Rattle.times.specs.declared.Told.{Told}
use Rattle.times.specs.declared.Instance.{Instance as Pending}
use Rattle.times.specs.declared.Progress.{Progress}
use Rattle.demands_log.specs.Log.{Id, Log}
use Rattle.demands_log.specs.Log as Log
use Rattle.demands_theory.specs.Nodes.{whose, length_of}
use Rattle.demands_theory.specs.TheWord.{state_after, next_after, whole_of, Oldest, Takes, goes, hears, Stuck, ended, waits, TheWord}
use Rattle.demands_theory.proofs.Laws.TheWord.{takes_follows}
use Rattle.demands_theory.proofs.Laws.Nodes.{whose_same}
use Rattle.demands_run.proofs.Laws.Engine.{rest, left, Settles, EngineLaws}
use Rattle.demands_run.proofs.Laws.Stands.{ident_of, id_of, ToldAs, Queued, Stands}
use Rattle.demands_run.proofs.Laws.Taken.{size_is, popped, emissions_are}
use Rattle.demands_run.proofs.Laws.Paths.{is_told, tolds, tolds_append, tolds_new, left_fewer, Rests}
use Rattle.demands_run.proofs.Laws.Counts.{queued_length}
use Rattle.demands_run.proofs.Laws.Sums.{sum, sum_less, sum_falls}

-- what is processed is there
abbrev Ready : Input → (ℕ → List Pending) → Type 0
Ready Input.Nothing q = Unit {0}
Ready (Input.Outcome e o) q = 0 < length (q e)

rest_among : (x : Pending) (q : List Pending) → Among x (rest q) → Among x q
rest_among x [] h = elim h [ ]
rest_among x (y ∷ q) h = inr h

left_among : (i : Input) (q : ℕ → List Pending) (e : ℕ) (x : Pending) → Among x (left i q e) → Among x (q e)
left_among Input.Nothing q e x h = h
left_among (Input.Outcome f o) q e x h = go (eqb f e) h
  where
    go : (b : Bool) → Among x (cond b (rest (q e)) (q e)) → Among x (q e)
    go true m = rest_among x (q e) m
    go false m = m

module _ (p : Plan) (lawful : Lawful p) (automaton : MeetsAutomaton p) (log : Log) where
  -- the unprocessed instances of each event after a word that the log takes, oldest first, with what the log tells of them
  record Pends (us : List ℕ) (q : ℕ → List Pending) : Type 0 where
    taken : Takes p log us
    queues : (e : ℕ) → Queued (whole_of p us) log (outcomes_of p e) e (times e (word_of p us)) (q e)
    names : (e : ℕ) → e < p.events → (x : Pending) → Among x (q e) → ToldNames (outcomes_of p e) x.told
    known : (x : Id) (o : ℕ) → Log.Told log x o → x.position < length_of us

  pub low_state : (us : List ℕ) → Takes p log us → state_after p us < p.automaton.states
  low_state [] h = lawful.file.limits.initial
  low_state (t ∷ us) h = (lawful.file.limits.moves t (takes_follows p log (t ∷ us) h).1.0).to

  -- what a transition that the log takes processes is there
  ready_for : (us : List ℕ) (q : ℕ → List Pending) → Pends us q → (t : ℕ) → Takes p log (t ∷ us) → (i : Input) → (move p.automaton t).input ≡ i → Ready i q
  ready_for us q h t next Input.Nothing input = tt
  ready_for us q h t next (Input.Outcome e o) input =
      let f = takes_follows p log (t ∷ us) next in
      let u = lawful.automaton us t e o f.0 f.1.0 input in
      let v = queued_length p lawful log us h.taken (outcomes_of p e) e (q e) (h.queues e) in
      omega arith

  -- ---- one transition more

  module _ (us : List ℕ) (q : ℕ → List Pending) (h : Pends us q) (t : ℕ) (next : Takes p log (t ∷ us)) (i : Input) (input : (move p.automaton t).input ≡ i) (ready : Ready i q) where
    good : GoodWord p.resources (resource_of p) (word_of p (t ∷ us))
    good = good_path p lawful p.automaton.initial (t ∷ us) (state_after p (t ∷ us)) (takes_follows p log (t ∷ us) next)

    abbrev emitted : ℕ → List ℕ
    emitted e = emits_of (emitted_by p (move p.automaton t).output) e

    abbrev new : ℕ → List Pending
    new e = map (λ n. emission (length_of us) n 0) (emitted e)

    processes : (j : Input) → Ready j q → (e : ℕ) → Queued (whole_of p us) log (outcomes_of p e) e (times e (word_of p us) + once e j) (left j q e)
    processes Input.Nothing r e = rw add-zero (h.queues e)
    processes (Input.Outcome f o) r e = go (eqb f e) refl
      where
        go : (b : Bool) → eqb f e ≡ b → Queued (whole_of p us) log (outcomes_of p e) e (times e (word_of p us) + cond b 1 0) (cond b (rest (q e)) (q e))
        go true z = popped (whole_of p us) log (outcomes_of p e) e (times e (word_of p us)) (q e) (subst (λ (n : ℕ). 0 < length (q n)) (eqb-true f e z) r) (h.queues e)
        go false z = rw add-zero (h.queues e)

    joined : (e n : ℕ) (l : List Pending) → Queued (whole_of p us) log (outcomes_of p e) e n l → Queued (whole_of p (t ∷ us)) log (outcomes_of p e) e n (l ++ new e)
    joined e n l k = record {
      past = k.past;
      count = k.count;
      listing =
          subst (Listing (whole_of p (t ∷ us)) e) same
          (listing_grows p.resources (resource_of p) (whole_of p us) (processing (word_of p us) (move p.automaton t).input) (size (word_of p us)) (emitted_by p (move p.automaton t).output) (shape_of p.resources (resource_of p) (word_of p us) good.0) good.1
          e (k.past ++ map ident_of l) k.listing (emitted e) (emits p.resources (resource_of p) (emitted_by p (move p.automaton t).output) good.1 e));
      told = λ y m. ⊎_elim (λ z. k.told y z) (λ z several. untold y (map_among (λ n. emission (length_of us) n 0) y (emitted e) z)) (among_either y l (new e) m);
    }
      where
        untold : (y : Pending) → (m : ℕ) × Among m (emitted e) × (y ≡ emission (length_of us) m 0) → ToldAs log (id_of y) y.told
        untold y c = subst (λ (z : Pending). ToldAs log (id_of z) z.told) (sym c.2) (λ o z. let u = h.known _ o z in omega arith)

        same : (k.past ++ map ident_of l) ++ map (named (suc (size (word_of p us)))) (emitted e) ≡ k.past ++ map ident_of (l ++ new e)
        same =
            append_assoc k.past (map ident_of l) (map (named (suc (size (word_of p us)))) (emitted e))
            ∙ ap (λ (z : List Ident). k.past ++ z)
            (ap (λ (z : List Ident). map ident_of l ++ z) (ap (λ (z : ℕ). map (named (suc z)) (emitted e)) (size_is p us) ∙ sym (emissions_are (length_of us) (λ n. 0) (emitted e)))
            ∙ sym (map-append ident_of l (new e)))

    pends_on : Pends (t ∷ us) (λ e. left i q e ++ new e)
    pends_on = record {
      taken = next;
      queues = λ e. joined e _ (left i q e) (subst (λ (j : Input). Queued (whole_of p us) log (outcomes_of p e) e (times e (word_of p us) + once e j) (left i q e)) (sym input) (processes i ready e));
      names = λ e low x m. ⊎_elim (λ z. h.names e low x (left_among i q e x z)) (λ z. named_new e x (map_among (λ n. emission (length_of us) n 0) x (emitted e) z)) (among_either x (left i q e) (new e) m);
      known = λ x o z. let u = h.known x o z in omega arith;
    }
      where
        named_new : (e : ℕ) (x : Pending) → (m : ℕ) × Among m (emitted e) × (x ≡ emission (length_of us) m 0) → ToldNames (outcomes_of p e) x.told
        named_new e x c = subst (λ (z : Pending). ToldNames (outcomes_of p e) z.told) (sym c.2) tt

    tolds_on : (e : ℕ) → tolds (left i q e ++ new e) ≡ tolds (left i q e)
    tolds_on e = let u = tolds_append (left i q e) (new e) in let v = tolds_new (length_of us) (λ n. 0) (emitted e) in omega arith

  module _ (laws : EngineLaws) where
    -- ---- up to a waiting or final state

    record Settled (q : ℕ → List Pending) : Type 0 where
      word : List ℕ
      queue : ℕ → List Pending
      pends : Pends word queue
      rests : Rests p word
      told : (e : ℕ) → tolds (queue e) ≤ tolds (q e)

    settle : (k : ℕ) (us : List ℕ) (q : ℕ → List Pending) → Pends us q → Settles p.automaton k (state_after p us) → Settled q
    settle zero us q h s = record { word = us; queue = q; pends = h; rests = s; told = λ e. omega arith }
    settle (suc k) us q h s = go (next_after p us) refl (λ t e m i. settle k (t ∷ us) m i (s t e))
      where
        go : (n : Next) → next_after p us ≡ n → ((t : ℕ) → next_after p us ≡ Next.Goes t → (m : ℕ → List Pending) → Pends (t ∷ us) m → Settled m) → Settled q
        go Next.Ended e more = record { word = us; queue = q; pends = h; rests = λ t z. ended_goes (sym e ∙ z); told = λ e. omega arith }
        go (Next.Waits x) e more = record { word = us; queue = q; pends = h; rests = λ t z. waits_goes (sym e ∙ z); told = λ e. omega arith }
        go (Next.Goes t) e more =
            let i = (move p.automaton t).input in
            let next = goes h.taken e in
            let there = ready_for us q h t next i refl in
            let r = more t e _ (pends_on us q h t next i refl there) in
            record { word = r.word; queue = r.queue; pends = r.pends; rests = r.rests; told = λ x. (let a = r.told x in let b = tolds_on us q h t next i refl there x in let c = left_fewer i q x in omega arith) }

    -- ---- at a waiting state

    abbrev count : (ℕ → List Pending) → ℕ
    count q = sum p.events (λ e. tolds (q e))

    record Hears (us : List ℕ) (q : ℕ → List Pending) : Type 0 where
      transition : ℕ
      queue : ℕ → List Pending
      pends : Pends (transition ∷ us) queue
      fewer : count queue + 1 ≤ count q

    module _ (us : List ℕ) (q : ℕ → List Pending) (h : Pends us q) (e : ℕ) (w : next_after p us ≡ Next.Waits e) where
      two : 1 < outcomes_of p e
      two = waits_several p lawful.file.limits automaton (state_after p us) e (low_state us h.taken) w

      -- nothing is pending
      none : q e ≡ [] → (x : Id) → Oldest p us e x → ⊥
      none z x old =
          let k = h.queues e in
          let c = instance_cut (whole_of p us) e (k.past ++ map ident_of (q e)) k.listing (times e (word_of p us)) (whose x) old in
          let l1 = length-append k.past (map ident_of (q e)) in
          let l2 = ap (λ (m : List Pending). length (map ident_of m)) z in
          let l3 = ap length c.2 in
          let l4 = length-append c.0 (whose x ∷ c.1) in
          let l5 = c.3 in
          let l6 = k.count in
          omega arith

      module _ (y : Pending) (ys : List Pending) (z : q e ≡ y ∷ ys) where
        head : Queued (whole_of p us) log (outcomes_of p e) e (times e (word_of p us)) (y ∷ ys)
        head = subst (Queued (whole_of p us) log (outcomes_of p e) e (times e (word_of p us))) z (h.queues e)

        oldest : Oldest p us e (id_of y)
        oldest = subst (λ (n : ℕ). Instance (whole_of p us) e (n + 1) (ident_of y)) head.count (next_instance (whole_of p us) e head.past (ident_of y) (map ident_of ys) head.listing)

        only : (x : Id) → Oldest p us e x → id_of y ≡ x
        only x old =
            whose_same (id_of y) x
            (only_instance (whole_of p us) e head.past (ident_of y) (map ident_of ys) head.listing (whose x) (subst (λ (n : ℕ). Instance (whole_of p us) e (n + 1) (whose x)) (sym head.count) old))

        -- the oldest is told
        on : (o : ℕ) → y.told ≡ Told.Outcome o → Hears us q
        on o told = record {
          transition = c.0;
          queue = λ f. left (Input.Outcome e o) q f ++ new us q h c.0 next (Input.Outcome e o) input ready f;
          pends = pends_on us q h c.0 next (Input.Outcome e o) input ready;
          fewer =
              sum_falls p.events e (λ f. tolds (q f)) (λ f. tolds (left (Input.Outcome e o) q f ++ new us q h c.0 next (Input.Outcome e o) input ready f)) (awaited_below p lawful.file.limits (state_after p us) e w)
              (λ f n. let u : tolds (left (Input.Outcome e o) q f ++ new us q h c.0 next (Input.Outcome e o) input ready f) ≡ tolds (q f) = tolds_on us q h c.0 next (Input.Outcome e o) input ready f ∙ rw (ne_eqb e f (λ s. n (sym s))) in omega arith)
              (let u : tolds (left (Input.Outcome e o) q e ++ new us q h c.0 next (Input.Outcome e o) input ready e) ≡ tolds (rest (q e)) = tolds_on us q h c.0 next (Input.Outcome e o) input ready e ∙ rw (eq-eqb e e refl) in
              let a : tolds (rest (q e)) ≡ tolds ys = ap (λ (m : List Pending). tolds (rest m)) z in
              let b : tolds (q e) ≡ is_told y.told + tolds ys = ap tolds z in
              let d : is_told y.told ≡ 1 = ap is_told told in
              omega arith);
        }
          where
            names : o < outcomes_of p e
            names = subst (ToldNames (outcomes_of p e)) told (h.names e (awaited_below p lawful.file.limits (state_after p us) e w) y (subst (Among y) (sym z) (inl refl)))

            c : (t : ℕ) × (chosen_of p.automaton (state_after p us) e o ≡ Some t)
            c = laws.chosen p lawful automaton (state_after p us) e o (low_state us h.taken) w names

            next : Takes p log (c.0 ∷ us)
            next = hears e o (id_of y) h.taken w oldest (subst (ToldAs log (id_of y)) told (head.told y (inl refl) two)) c.1

            input : (move p.automaton c.0).input ≡ Input.Outcome e o
            input = (chosen_leaves p.automaton (state_after p us) e o c.0 c.1).1

            ready : 0 < length (q e)
            ready = let u = ap length z in omega arith

        by_head : (k : Told) → y.told ≡ k → Stuck p log us ⊎ Hears us q
        by_head Told.Nothing told = inl (waits e w (λ x o old say. subst (ToldAs log (id_of y)) told (head.told y (inl refl) two) o (subst (λ (a : Id). Log.Told log a o) (sym (only x old)) say)))
        by_head (Told.Outcome o) told = inr (on o told)

      hear : (l : List Pending) → q e ≡ l → Stuck p log us ⊎ Hears us q
      hear [] z = inl (waits e w (λ x o old say. none z x old))
      hear (y ∷ ys) z = by_head y ys z y.told refl

    -- ---- the word

    further_on : (us : List ℕ) (q : ℕ → List Pending) → ((r : Hears us q) → (is : List ℕ) × TheWord p log is) → Pends us q → Rests p us → (is : List ℕ) × TheWord p log is
    further_on us q more h rests = go (next_after p us) refl
      where
        go : (m : Next) → next_after p us ≡ m → (is : List ℕ) × TheWord p log is
        go Next.Ended w = (us, record { taken = h.taken; whole = ended w })
        go (Next.Goes t) w = absurd (rests t w)
        go (Next.Waits e) w = ⊎_elim (λ s. (us, record { taken = h.taken; whole = s })) more (hear us q h e w (q e) refl)

    settled : (us : List ℕ) (q : ℕ → List Pending) → Pends us q → Settled q
    settled us q h = settle 63 us q h (laws.settles p lawful automaton (state_after p us) 63 (low_state us h.taken) (omega arith))

    further : (n : ℕ) (us : List ℕ) (q : ℕ → List Pending) → Pends us q → Rests p us → count q ≤ n → (is : List ℕ) × TheWord p log is
    further zero us q h rests few = further_on us q (λ r. absurd (let u = r.fewer in omega arith)) h rests
    further (suc n) us q h rests few =
        further_on us q
        (λ r. let s = settled (r.transition ∷ us) r.queue r.pends in
        further n s.word s.queue s.pends s.rests (let u = r.fewer in let v = sum_less p.events (λ e. tolds (r.queue e)) (λ e. tolds (s.queue e)) (λ e l. s.told e) in omega arith))
        h rests

    pub there_is : (available : ℕ → ℕ) (us : List ℕ) (g : Progress) → Stands p available log us g → (is : List ℕ) × TheWord p log is
    there_is available us g s =
        let r = settled us (λ e. queue_of g e) record {
          taken = s.taken;
          queues = s.queues;
          names = λ e low x m.
              let c = among_part no_instance g.pending (8 * e) (pending_of g e) x m in
              subst (λ (y : Pending). ToldNames (outcomes_of p e) y.told) (sym c.2) (s.within.pending e c.0 low c.1).told;
          known = s.known;
        } in
        further (count r.queue) r.word r.queue r.pends r.rests (omega arith)
