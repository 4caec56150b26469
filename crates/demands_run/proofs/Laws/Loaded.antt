-- What loading does to the window and the word: old entries stay, new ones are the nodes of the longer word; one transition at a
-- time.
use Rattle.std.specs.Prelude.{◌≡◌, refl, true, false, ◌⊎◌, List, ◌∷◌, ℕ, suc, ◌+◌, ◌*◌, ◌≤◌, ◌<◌, length, get_or}
use Rattle.std.proofs.Common.{sym, ap, ◌∙◌, subst, true≢false, inl, inr, ⊎_elim, arith}
use Rattle.basis.specs.Lists.{Among}
use Rattle.basis.proofs.Laws.Lists.{among_at, at_among}
use Rattle.basis.proofs.Laws.PartsHold.{length_part}
use Rattle.time.specs.Time.{horizon}
use Rattle.time.specs.declared.Specified.{Specified}
use Rattle.plan.specs.Plan.{move, emitted_by, past_node, size_of}
use Rattle.plan.specs.Limits.{OutputNames}
use Rattle.plan.specs.declared.Kind.{Kind}
use Rattle.plan.specs.declared.Node.{Node}
use Rattle.plan.specs.declared.Output.{Output}
use Rattle.plan.specs.declared.Plan.{Plan}
use Rattle.automaton.specs.Rules.{MeetsAutomaton}
use Rattle.activity.specs.Rules.{node}
use Rattle.times_combined.specs.Word.{Word, size}
use Rattle.times_combined.specs.Combined.{named, Nodes, Joined}
use Rattle.times_combined.specs.Paths.{word_of, Follows, Lawful}
use Rattle.times_combined.proofs.Laws.Theorems.{plan_times_only, plan_run_equal}
use Rattle.times_combined.proofs.Laws.Shape.{node_place_lem, sort}
use Rattle.times_combined.proofs.Laws.Engine.{start_at, end_at}
use Rattle.times.specs.Times.{at}
use Rattle.times.specs.Engine.{last_position, beyond_of, held_of, closed_of, emits_of, timed_of}
use Rattle.times.proofs.Laws.Fits.{processed_position, left_position}
use Rattle.times.specs.declared.Progress.{Progress}
use Rattle.times.specs.declared.Schedule.{Schedule}
use Rattle.times.proofs.Laws.Kept.{above_none, beyond_told}
use Rattle.run_path.specs.Path.{is_work, loaded, activity_number, taken_by, entries_by}
use Rattle.run_window.specs.Window.{vacant, is_held, is_started, placed, vacancies}
use Rattle.run_window.specs.Places.{Holds}
use Rattle.run_window.proofs.Laws.Placed.{Took, placed_length, placed_kept, placed_holds, placed_only, placed_each, placed_once, free_place}
use Rattle.run_window.specs.declared.Entry.{Entry}
use Rattle.run_window.proofs.Laws.Places.{SameNode, Once}
use Rattle.run_limits.specs.Window.{entry_in_limits}
use Rattle.demands_log.specs.Log.{Id, id, Log}
use Rattle.demands_theory.proofs.Laws.Machine.{World, Held}
use Rattle.demands_theory.proofs.Laws.Way.{Agrees, Extends}
use Rattle.demands_theory.specs.Nodes.{whose, Working, length_of, EmitsAt, here, id_of}
use Rattle.demands_theory.specs.TheWord.{state_after, Takes}
use Rattle.demands_theory.proofs.Laws.OfPlan.{world_of}
use Rattle.demands_theory.proofs.Laws.Nodes.{not_claim}
use Rattle.demands_theory.proofs.Laws.TheWord.{takes_follows}
use Rattle.demands_theory.proofs.Laws.World.{extends, old_position}
use Rattle.demands_theory.proofs.Laws.Growth.{Tail, later, tail_length, extends_on}
use Rattle.demands_run.proofs.Laws.Engine.{Advances, Possible, EngineLaws}
use Rattle.demands_run.proofs.Laws.Stands.{Stands}
use Rattle.demands_run.proofs.Laws.Bounds.{EntryWithin, entry_passes}
use Rattle.demands_run.proofs.Laws.Counts.{possible, pending_length}
use Rattle.demands_run.proofs.Laws.Taken.{size_is, stands_on, trace_start, trace_end}
use Rattle.demands_run.proofs.Laws.Entries.{Brought, brought, brings, different}

-- ---- kinds

pub work_working : (k : Kind) → is_work k ≡ true → Working k
work_working (Kind.Action a x) e = tt
work_working (Kind.Claim r) e = absurd (true≢false (sym e))
work_working (Kind.Release r) e = absurd (true≢false (sym e))
work_working (Kind.Event v) e = tt

pub working_work : (k : Kind) → Working k → is_work k ≡ true
working_work (Kind.Action a x) h = refl
working_work (Kind.Claim r) h = absurd h
working_work (Kind.Release r) h = absurd h
working_work (Kind.Event v) h = refl

-- ---- a transition that does not pass the limits of number 44

pub beyond_parts : (R size : ℕ) (end : List Specified) (g : Progress) → beyond_of R size end g ≡ false → (g.position ≤ last_position) × ((n : ℕ) → n < size → at end n ≤ horizon)
beyond_parts R size end g b = let u = beyond_told R size end g b in (u.0, λ n l. above_none size 0 end u.1 n (omega arith) (omega arith))

pub not_beyond : (p : Plan) (t : ℕ) (g : Progress) → (taken_by p t g).beyond ≡ false
    → (g.position ≤ last_position) × ((n : ℕ) → n < length (emitted_by p (move p.automaton t).output) → at (taken_by p t g).schedule.end n ≤ horizon)
unfolding timed_of emits_of closed_of held_of
not_beyond p t g b =
    let u = beyond_parts _ _ _ _ b in
    (subst (λ (n : ℕ). n ≤ last_position) (left_position _ _ _ _ ∙ processed_position (move p.automaton t).input g) u.0, u.1)

agrees_later : (W : World) (v u : W.Word) (e : Entry) → Extends W v u → Agrees W v e → Agrees W u e
agrees_later W v u e x a = record {
  node = x.nodes (id_of e) a.node;
  starts = a.starts ∙ sym (x.starts (id_of e) a.node);
  completes = a.completes ∙ sym (x.completions (id_of e) a.node);
  activity = x.activities e.position e.activity a.activity;
}

-- ---- loading, from the word `base` and the window v on

module _ (p : Plan) (lawful : Lawful p) (automaton : MeetsAutomaton p) (available : ℕ → ℕ) (log : Log) (base : List ℕ) (v : List Entry) where
  pub record Loaded (us : List ℕ) (g : Progress) (w : List Entry) : Type 0 where
    pub stands : Stands p available log us g
    pub tail : Tail base us
    pub grows : Extends (world_of p available) base us
    pub kept : (j : ℕ) (f : Entry) → Holds v j f → Holds w j f
    -- what is new is unstarted and stands at a later position
    pub only : (j : ℕ) (f : Entry) → Holds w j f → Holds v j f ⊎ ((is_started f.phase ≡ false) × (length_of base ≤ f.position))
    pub agree : (j : ℕ) (f : Entry) → Holds w j f → Agrees (world_of p available) us f
    pub once : Once w
    pub all : (x : Id) → (world_of p available).Node us x → (world_of p available).Node base x ⊎ Held (Holds w) x
    pub entries : (j : ℕ) → entry_in_limits p.activities p.sizes (get_or w j vacant) ≡ true
    pub long : length w ≡ 512

  module _ (laws : EngineLaws) (us : List ℕ) (g : Progress) (w : List Entry) (h : Loaded us g w) (t : ℕ) (next : Takes p log (t ∷ us)) (in-time : (taken_by p t g).beyond ≡ false) where
    abbrev W : World
    W = world_of p available

    abbrev a : List Node
    a = emitted_by p (move p.automaton t).output

    abbrev s : Schedule
    s = (taken_by p t g).schedule

    abbrev can : Possible p t g
    can = possible p lawful automaton available log us g h.stands t next

    abbrev adv : Advances p t g
    adv = laws.advances p lawful t g can

    abbrev on : Stands p available log (t ∷ us) (taken_by p t g).progress
    on = stands_on p lawful available log us g h.stands t next can.pending (pending_length p lawful automaton available log us g h.stands) adv in-time

    path : Follows p p.automaton.initial (t ∷ us) (state_after p (t ∷ us))
    path = takes_follows p log (t ∷ us) next

    place : size (word_of p us) ≡ g.position
    place = size_is p us ∙ sym h.stands.position

    -- node n of the activity is a node of the longer word, with the times of the schedule
    abbrev Timed : ℕ → ℕ → Type 0
    Timed q n = W.Node (t ∷ us) (id q n) × (at s.start n ≡ W.start (t ∷ us) (id q n)) × (at s.end n ≡ W.completion (t ∷ us) (id q n))

    timed : (n : ℕ) → n < length a → is_work (node a n).kind ≡ true → Timed g.position n
    timed n l k = subst (λ (q : ℕ). Timed q n) place (there, sym start ∙ same.0, sym end ∙ same.1)
      where
        there : W.Node (t ∷ us) (id (size (word_of p us)) n)
        there = ((node a n).kind, ((node a n).duration, Joined.right (Nodes.own l refl refl) (not_claim (node a n).kind (work_working (node a n).kind k))), work_working (node a n).kind k)

        same : (start_at on.trace (named (suc (size (word_of p us))) n) ≡ W.start (t ∷ us) (id (size (word_of p us)) n)) × (end_at on.trace (named (suc (size (word_of p us))) n) ≡ W.completion (t ∷ us) (id (size (word_of p us)) n))
        same =
            plan_times_only p lawful available (t ∷ us) (state_after p (t ∷ us)) path (start_at on.trace) (end_at on.trace)
            (plan_run_equal p lawful available (t ∷ us) (state_after p (t ∷ us)) path on.trace on.runs).timing
            (named (suc (size (word_of p us))) n) (node a n).kind (node a n).duration there.1.1

        start : start_at on.trace (named (suc (size (word_of p us))) n) ≡ at s.start n
        start = trace_start p lawful available log us g h.stands t next can.pending (pending_length p lawful automaton available log us g h.stands) adv in-time n

        end : end_at on.trace (named (suc (size (word_of p us))) n) ≡ at s.end n
        end = trace_end p lawful available log us g h.stands t next can.pending (pending_length p lawful automaton available log us g h.stands) adv in-time n

    abbrev number : ℕ
    number = activity_number (move p.automaton t).output

    emits_here : (n : ℕ) (o : Output) → (move p.automaton t).output ≡ o → n < length (emitted_by p o) → EmitsAt p (t ∷ us) g.position (activity_number o)
    emits_here n Output.Empty q l = absurd (omega arith)
    emits_here n (Output.Activity x) q l = EmitsAt.here h.stands.position q

    named_here : (n : ℕ) (o : Output) → OutputNames p o → n < length (emitted_by p o) → (activity_number o < p.activities) × (n < get_or p.sizes (activity_number o) 0)
    named_here n Output.Empty q l = absurd (omega arith)
    named_here n (Output.Activity x) q l = (q, (let u = length_part past_node p.nodes (64 * x) (size_of p x) in omega arith))

    new_agrees : (n : ℕ) → n < length a → is_work (node a n).kind ≡ true → Agrees W (t ∷ us) (loaded g.position number s n)
    new_agrees n l k =
        let x = timed n l k in
        record { node = x.0; starts = x.1; completes = x.2; activity = emits_here n (move p.automaton t).output refl l }

    new_within : (n : ℕ) → n < length a → EntryWithin p.activities p.sizes (loaded g.position number s n)
    new_within n l =
        let b = not_beyond p t g in-time in
        let x = named_here n (move p.automaton t).output (lawful.file.limits.moves t can.low).output l in
        let e = b.1 n l in
        let d = adv.steps.timed.ends n l in
        record { position = b.0; activity = x.0; node = x.1; start = omega arith; end = e }

    abbrev es : List Entry
    es = entries_by p t g

    new : (e : Entry) → Among e es → Brought g.position number s 0 a e
    new e m = brought g.position number s 0 a e m

    new_at : (k : ℕ) → k < length es → Brought g.position number s 0 a (get_or es k vacant)
    new_at k l = new (get_or es k vacant) (among_at vacant es k l)

    -- what holds of the entry of each action and event of the activity holds of every new entry
    each : (P : Entry → Type 0) → ((n : ℕ) → n < length a → is_work (node a n).kind ≡ true → P (loaded g.position number s n)) → (e : Entry) → Brought g.position number s 0 a e → P e
    each P f e b = let z : 0 + b.number ≡ b.number = omega arith in subst P (sym (b.entry ∙ ap (loaded g.position number s) z)) (f b.number b.within b.work)

    unheld : (j k : ℕ) (f : Entry) → Holds w j f → k < length es → SameNode f (get_or es k vacant) → ⊥
    unheld j k f q l same =
        let u = old_position p lawful available us (state_after p us) (takes_follows p log us h.stands.taken) (id_of f) (h.agree j f q).node in
        let b = each (λ e. e.position ≡ g.position) (λ n m x. refl) (get_or es k vacant) (new_at k l) in
        let c = same.0 in
        let d = h.stands.position in
        omega arith

    held_later : (x : Id) → Held (Holds w) x → Held (Holds (placed w es)) x
    held_later x q = (q.0, q.1, placed_kept w es q.0 q.1 q.2, q.3)

    held_new : length es ≤ vacancies w → (x : Id) → x.position ≡ g.position → x.node < length a → is_work (node a x.node).kind ≡ true → Held (Holds (placed w es)) x
    held_new room x q l k =
        let z : 0 + x.node ≡ x.node = omega arith in
        let m = at_among vacant (loaded g.position number s (0 + x.node)) es (brings g.position number s 0 a x.node l k) in
        let e = m.2 ∙ ap (loaded g.position number s) z in (
          free_place w m.0,
          get_or es m.0 vacant,
          placed_holds w es m.0 m.1 room (ap (λ (y : Entry). is_held y.phase) m.2),
          ap id_of e ∙ (λ i. record { position = sym q i; node = x.node }),
        )

    all_held : length es ≤ vacancies w → (x : Id) → W.Node (t ∷ us) x → W.Node base x ⊎ Held (Holds (placed w es)) x
    all_held room x (k, (d, Joined.left i nr), wk) = ⊎_elim (λ n. inl n) (λ n. inr (held_later x n)) (h.all x (k, (d, i), wk))
    all_held room x (k, (d, Joined.right i nc), wk) =
        let q = sort p.resources (suc (size (word_of p us))) a (whose x) k d i in
        let u = node_place_lem p.resources (suc (size (word_of p us))) a (whose x) k d i in
        let y = place in
        inr (held_new room x (omega arith) q.0 (subst (λ (z : Kind). is_work z ≡ true) (sym q.1) (working_work k wk)))

    pub loads_one : length es ≤ vacancies w → Loaded (t ∷ us) (taken_by p t g).progress (placed w es)
    loads_one room = record {
      stands = on;
      tail = later h.tail;
      grows = extends_on W base us (t ∷ us) h.grows further;
      kept = λ j f q. placed_kept w es j f (h.kept j f q);
      only = λ j f q. ⊎_elim (λ r. h.only j f r) (λ r. inr (brand j f r)) (placed_only w es j f q);
      agree = λ j f q. ⊎_elim (λ r. agrees_later W us (t ∷ us) f further (h.agree j f r)) (λ r. subst (Agrees W (t ∷ us)) (sym r.1) (each (Agrees W (t ∷ us)) new_agrees (get_or es r.0.number vacant) (new_at r.0.number r.0.listed))) (placed_only w es j f q);
      once = placed_once w es h.once (λ k l x y q. different g.position number s 0 a k l x y q.1) unheld;
      all = all_held room;
      entries = placed_each w es (λ e. entry_in_limits p.activities p.sizes e ≡ true) h.entries (λ k l. each (λ e. entry_in_limits p.activities p.sizes e ≡ true) (λ n m x. entry_passes p.activities p.sizes (loaded g.position number s n) refl (new_within n m)) (get_or es k vacant) (new_at k l));
      long = placed_length w es ∙ h.long;
    }
      where
        further : Extends W us (t ∷ us)
        further = extends p lawful available t us (state_after p (t ∷ us)) path

        brand : (j : ℕ) (f : Entry) → (k : Took w es j) × (f ≡ get_or es k.number vacant) → (is_started f.phase ≡ false) × (length_of base ≤ f.position)
        brand j f r =
            subst (λ (e : Entry). (is_started e.phase ≡ false) × (length_of base ≤ e.position)) (sym r.1)
            (each (λ e. (is_started e.phase ≡ false) × (length_of base ≤ e.position)) (λ n m x. (refl, (let u = tail_length base us h.tail in let y = h.stands.position in omega arith))) (get_or es r.0.number vacant) (new_at r.0.number r.0.listed))

    -- the new entries hold nodes
    pub all_new : (k : ℕ) → k < length es → is_held (get_or es k vacant).phase ≡ true
    all_new k l = each (λ e. is_held e.phase ≡ true) (λ n m x. refl) (get_or es k vacant) (new_at k l)
