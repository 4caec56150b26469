-- Where a run stands after an accepted outcome: the same word, with one instance more that is told; after that of a marker, with the
-- same queues.
use Rattle.std.specs.Prelude.{◌≡◌, refl, true, ◌⊎◌, List, [], ◌∷◌, ◌++◌, map, ℕ, ◌+◌, ◌*◌, ◌≤◌, ◌<◌, get_or}
use Rattle.std.proofs.Common.{sym, ap, ◌∙◌, subst, true≢false, inl, inr, ⊎_elim, arith}
use Rattle.std.proofs.Math.Decide.{ℕ_discrete, dec_lt}
use Rattle.basis.specs.Lists.{Among}
use Rattle.basis.proofs.Laws.Lists.{among_right, map_among, among_map, distinct_right}
use Rattle.basis.proofs.Laws.Parts.{part_same}
use Rattle.basis.proofs.Laws.Bools.{by_test}
use Rattle.time.specs.declared.Clock.{Clock}
use Rattle.plan.specs.Plan.{outcomes_of}
use Rattle.plan.specs.declared.Kind.{Kind}
use Rattle.plan.specs.declared.Plan.{Plan}
use Rattle.automaton.specs.Rules.{MeetsAutomaton}
use Rattle.times_combined.specs.Word.{times}
use Rattle.times_combined.specs.Combined.{Ident, Is, identity}
use Rattle.times_combined.specs.Paths.{word_of, Lawful}
use Rattle.times_combined.proofs.Laws.Instances.{Listing}
use Rattle.times.specs.Times.{at}
use Rattle.times.specs.Queues.{no_instance, pending_of, instance_of, queue_of}
use Rattle.times.specs.Limits.{InstanceInLimits}
use Rattle.times.specs.declared.Instance.{Instance}
use Rattle.times.specs.declared.Progress.{Progress}
use Rattle.run_window.specs.declared.Entry.{Entry}
use Rattle.run_outcomes.specs.Told.{tell, is_instance, told_of}
use Rattle.run.specs.declared.Call.{Call}
use Rattle.run.specs.declared.Reply.{Reply}
use Rattle.demands_log.specs.Log.{Id, id, Log, said, Accepts}
use Rattle.demands_theory.specs.Nodes.{length_of}
use Rattle.demands_theory.specs.TheWord.{whole_of}
use Rattle.demands_run.proofs.Laws.Stands.{ident_of, id_of, ToldAs, Queued, Stands}
use Rattle.demands_run.proofs.Laws.Later.{takes_more, told_later}
use Rattle.demands_run.proofs.Laws.Counts.{pending_few}
use Rattle.demands_run.proofs.Laws.Apart.{other_node, another}
use Rattle.demands_run.proofs.Laws.Telling.{instance_tells, instance_is, informed, told_length, told_cases, told_outside, told_part}

-- the outcome o of the event ev is reported of the entry's node, and accepted
module _ (p : Plan) (lawful : Lawful p) (automaton : MeetsAutomaton p) (available : ℕ → ℕ) (log : Log) (is : List ℕ) (g : Progress) (s : Stands p available log is g)
    (x : Entry) (ev o : ℕ) (event : Is (whole_of p is) (identity x.position x.node) (Kind.Event ev)) (inside : x.position < length_of is)
    (low : ev < p.events) (known : o < outcomes_of p ev) (t : Clock) (r : Reply) (accepts : Accepts r log) where
  abbrev c : Call
  c = Call.Outcome t x.position x.node o

  abbrev after : Progress
  after = told_of g ev x o

  few : (e : ℕ) → pending_of g e ≤ 8
  few = pending_few p lawful automaton available log is g s

  own_queue : queue_of after ev ≡ map (informed x.position x.node o) (queue_of g ev)
  own_queue =
      told_part x.position x.node o (pending_of g ev) (8 * ev) g.pending
      (let u = few ev in let v = lawful.file.limits.events in let w = s.sized.pending in omega arith)
      (distinct_right (s.queues ev).past (map ident_of (queue_of g ev)) (s.queues ev).listing.distinct)

  other_queue : (f : ℕ) → (f ≡ ev → ⊥) → queue_of after f ≡ queue_of g f
  other_queue f n = part_same no_instance _ g.pending (pending_of g f) (8 * f) (8 * f) (λ k l. told_outside x.position x.node o (pending_of g ev) (8 * ev) g.pending (8 * f + k) (apart (8 * f + k) (omega arith) (omega arith) (dec_lt f ev)))
    where
      apart : (j : ℕ) → 8 * f ≤ j → j < 8 * f + pending_of g f → Dec (f < ev) → (j < 8 * ev) ⊎ (8 * ev + pending_of g ev ≤ j)
      apart j a b (yes l) = inl (let u = few f in omega arith)
      apart j a b (no l) = inr (let u = few ev in omega arith)

  -- what does not change in the instances of a queue
  kept : {A : Type 0} (F : Instance → A) → ((y : Instance) → F (tell y o) ≡ F y) → (q : List Instance) → map F (map (informed x.position x.node o) q) ≡ map F q
  kept F h [] = refl
  kept {A} F h (y ∷ q) =
      ap (λ (l : List A). F (informed x.position x.node o y) ∷ l) (kept F h q)
      ∙ ap (λ (z : A). z ∷ map F q) (by_test (λ (z : Instance). F z ≡ F y) (is_instance x.position x.node y) _ _ (λ b. h y) (λ b. refl))

  queue_kept : {A : Type 0} (F : Instance → A) → ((y : Instance) → F (tell y o) ≡ F y) → (f : ℕ) → map F (queue_of after f) ≡ map F (queue_of g f)
  queue_kept {A} F h f = go (ℕ_discrete f ev)
    where
      go : Dec (f ≡ ev) → map F (queue_of after f) ≡ map F (queue_of g f)
      go (yes e) = subst (λ (n : ℕ). map F (queue_of after n) ≡ map F (queue_of g n)) (sym e) (ap (map F) own_queue ∙ kept F h (queue_of g ev))
      go (no n) = ap (map F) (other_queue f n)

  ident_same : (y : Instance) → id x.position x.node ≡ id_of y → is_instance x.position x.node y ≡ true
  ident_same y e = instance_is x.position x.node o y (sym (ap (λ (z : Id). z.position) e)) (sym (ap (λ (z : Id). z.node) e))

  -- an instance of the event: told now, or as before
  own_told : (y : Instance) → Among y (queue_of g ev) → 1 < outcomes_of p ev → ToldAs (said c r ∷ log) (id_of (informed x.position x.node o y)) (informed x.position x.node o y).told
  own_told y m several =
      by_test (λ (z : Instance). ToldAs (said c r ∷ log) (id_of z) z.told) (is_instance x.position x.node y) _ _
      (λ b. let q = instance_tells x.position x.node o y b in inl ((λ i. record { position = sym q.0 i; node = sym q.1 i }), refl, accepts))
      (λ b. told_later c r log (id_of y) y.told (λ u k. absurd (true≢false (sym (ident_same y k.0) ∙ b))) ((s.queues ev).told y m several))

  -- an instance of another event is another node
  other_told : (f : ℕ) → (f ≡ ev → ⊥) → (y : Instance) → Among y (queue_of g f) → 1 < outcomes_of p f → ToldAs (said c r ∷ log) (id_of y) y.told
  other_told f n y m several = told_later c r log (id_of y) y.told (λ u k. other_node p lawful log is s.taken (id x.position x.node) ev event f n (id_of y) listed k.0) ((s.queues f).told y m several)
    where
      listed : Is (whole_of p is) (ident_of y) (Kind.Event f)
      listed = (s.queues f).listing.all (ident_of y) (among_right (ident_of y) (s.queues f).past (map ident_of (queue_of g f)) (among_map ident_of y (queue_of g f) m))

  told_queues : (f : ℕ) → Queued (whole_of p is) (said c r ∷ log) (outcomes_of p f) f (times f (word_of p is)) (queue_of after f)
  told_queues f = record {
    past = (s.queues f).past;
    count = (s.queues f).count;
    listing = subst (λ (l : List Ident). Listing (whole_of p is) f ((s.queues f).past ++ l)) (sym (queue_kept ident_of (λ y. refl) f)) (s.queues f).listing;
    told = λ y m. go (ℕ_discrete f ev) y m;
  }
    where
      go : Dec (f ≡ ev) → (y : Instance) → Among y (queue_of after f) → 1 < outcomes_of p f → ToldAs (said c r ∷ log) (id_of y) y.told
      go (yes e) y m several =
          let k = map_among (informed x.position x.node o) y (queue_of g ev) (subst (Among y) own_queue (subst (λ (n : ℕ). Among y (queue_of after n)) e m)) in
          subst (λ (z : Instance). ToldAs (said c r ∷ log) (id_of z) z.told) (sym k.2) (own_told k.0 k.1 (subst (λ (n : ℕ). 1 < outcomes_of p n) e several))
      go (no n) y m several = other_told f n y (subst (Among y) (other_queue f n) m) several

  told_within : (e i : ℕ) → e < p.events → i < pending_of g e → InstanceInLimits (get_or p.outcomes e 0) (instance_of after e i)
  told_within e i l m =
      ⊎_elim (λ q. subst (InstanceInLimits (get_or p.outcomes e 0)) (sym q) (s.within.pending e i l m))
      (λ (q : (8 * ev ≤ 8 * e + i) × (8 * e + i < 8 * ev + pending_of g ev) × (instance_of after e i ≡ tell (instance_of g e i) o)).
      let old = s.within.pending e i l m in
      let same : ev ≡ e = (let a = q.0 in let b = q.1 in let u = few ev in let w = few e in omega arith) in
      subst (InstanceInLimits (get_or p.outcomes e 0)) (sym q.2) record { position = old.position; node = old.node; end = old.end; told = subst (λ (n : ℕ). o < outcomes_of p n) same known })
      (told_cases x.position x.node o (pending_of g ev) (8 * ev) g.pending (8 * e + i))

  pub stands_informed : Stands p available (said c r ∷ log) is after
  stands_informed = record {
    trace = s.trace;
    runs = s.runs;
    state = s.state ∙ (λ i. record { free = λ r. at g.available r; last = λ e. at g.latest e; queue = λ e. sym (queue_kept (λ y. y.end.0) (λ y. refl) e) i });
    queues = told_queues;
    place = s.place;
    position = s.position;
    sized = record { available = s.sized.available; latest = s.sized.latest; lengths = s.sized.lengths; pending = told_length x.position x.node o (pending_of g ev) (8 * ev) g.pending ∙ s.sized.pending };
    within = record { available = s.within.available; latest = s.within.latest; lengths = s.within.lengths; pending = told_within; position = s.within.position; state = s.within.state };
    taken = takes_more p log (said c r) is s.taken;
    known = λ y u. ⊎_elim (λ k. subst (λ (z : Id). z.position < length_of is) k.0 inside) (λ k. s.known y u k);
  }

  -- ---- a marker's "report closes the node and is not queued"

  module _ (marker : outcomes_of p ev ≡ 1) where
    marked_queues : (f : ℕ) → Queued (whole_of p is) (said c r ∷ log) (outcomes_of p f) f (times f (word_of p is)) (queue_of g f)
    marked_queues f = record {
      past = (s.queues f).past;
      count = (s.queues f).count;
      listing = (s.queues f).listing;
      told = λ y m several. other_told f (another p lawful log is s.taken (id x.position x.node) ev event marker f several) y m several;
    }

    pub stands_marked : Stands p available (said c r ∷ log) is g
    stands_marked = record {
      trace = s.trace;
      runs = s.runs;
      state = s.state;
      queues = marked_queues;
      place = s.place;
      position = s.position;
      sized = s.sized;
      within = s.within;
      taken = takes_more p log (said c r) is s.taken;
      known = λ y u. ⊎_elim (λ k. subst (λ (z : Id). z.position < length_of is) k.0 inside) (λ k. s.known y u k);
    }
