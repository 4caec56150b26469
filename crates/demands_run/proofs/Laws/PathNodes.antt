-- The entries of a path are those of the actions and events that it adds to the word, each once.
use Rattle.std.specs.Prelude.{◌≡◌, true, List, [], ◌∷◌, ◌++◌, map, ◌⊎◌, length, get_or}
use Rattle.std.proofs.Math.Path.{refl}
use Rattle.std.proofs.Common.{sym, ap, ◌∙◌, subst, true≢false, inl, inr, ⊎_elim, arith}
use Rattle.std.proofs.Math.Bool.{false}
use Rattle.std.proofs.lemmas.List.{map-append}
use Prim.Native.Nat.{ℕ, zero, suc, ◌+◌, ◌≤◌, ◌<◌}
use Rattle.basis.specs.Lists.{Among, Distinct}
use Rattle.basis.proofs.Laws.Lists.{among_left, among_right, among_either, among_map, map_among, distinct_both, at_among}
use Rattle.basis.proofs.Laws.Bools.{by_test}
use Rattle.plan.specs.Plan.{move, emitted_by}
use Rattle.plan.specs.declared.Kind.{Kind}
use Rattle.plan.specs.declared.Node.{Node}
use Rattle.plan.specs.declared.Plan.{Plan}
use Rattle.activity.specs.Rules.{node}
use Rattle.automaton.specs.Next.{next_of}
use Rattle.automaton.specs.Rules.{MeetsAutomaton}
use Rattle.automaton.specs.declared.Next.{Next}
use Rattle.automaton.proofs.Laws.Cases.{ended_goes, waits_goes}
use Rattle.times_combined.specs.Word.{size}
use Rattle.times_combined.specs.Combined.{Nodes, Joined}
use Rattle.times_combined.specs.Paths.{word_of, Lawful}
use Rattle.times_combined.proofs.Laws.Shape.{node_place_lem, sort}
use Rattle.times.specs.declared.Schedule.{Schedule}
use Rattle.times.specs.declared.Progress.{Progress}
use Rattle.run_path.specs.Path.{Path, is_work, loaded, activity_number, taken_by, entries_by, path_from}
use Rattle.run_window.specs.Window.{vacant}
use Rattle.run_window.specs.declared.Entry.{Entry}
use Rattle.demands_log.specs.Log.{Id, id, Log}
use Rattle.demands_theory.specs.Nodes.{whose, Work, length_of, id_of}
use Rattle.demands_theory.specs.TheWord.{state_after, whole_of, Rests, Takes, goes}
use Rattle.demands_theory.specs.Loading.{Silently, stays}
use Rattle.demands_theory.proofs.Laws.Nodes.{not_claim, not_release}
use Rattle.demands_theory.proofs.Laws.TheWord.{takes_follows}
use Rattle.demands_theory.proofs.Laws.World.{old_position}
use Rattle.demands_run.proofs.Laws.Engine.{Settles, EngineLaws}
use Rattle.demands_run.proofs.Laws.Stands.{Stands, next_after_lem}
use Rattle.demands_run.proofs.Laws.Silent.{silent_first}
use Rattle.demands_run.proofs.Laws.Taken.{size_is, next_state}
use Rattle.demands_run.proofs.Laws.Entries.{brought, brings, different}
use Rattle.demands_run.proofs.Laws.Loaded.{work_working, working_work}
use Rattle.demands_run.proofs.Laws.PathLimits.{on}

-- members that differ by place are distinct
distinct_ids : (es : List Entry) → ((k l : ℕ) → k < length es → l < length es → id_of (get_or es k vacant) ≡ id_of (get_or es l vacant) → k ≡ l) → Distinct (map id_of es)
distinct_ids [] h = tt
distinct_ids (e ∷ es) h = (first, distinct_ids es (λ k l a b q. let z = h (suc k) (suc l) (omega arith) (omega arith) q in omega arith))
  where
    first : Among (id_of e) (map id_of es) → ⊥
    first m =
        let c = map_among id_of (id_of e) es m in
        let n = at_among vacant c.0 es c.1 in
        let z = h 0 (suc n.0) (omega arith) (let u = n.1 in omega arith) (c.2 ∙ ap id_of (sym n.2)) in
        omega arith

-- the entries es of the actions and events that ws has and us has not
pub record Brings (p : Plan) (us ws : List ℕ) (es : List Entry) : Type 0 where
  pub longer : length_of us ≤ length_of ws
  pub grows : (x : Id) → Work (whole_of p us) x → Work (whole_of p ws) x
  pub new : (e : Entry) → Among e es → Work (whole_of p ws) (id_of e) × (length_of us ≤ e.position)
  pub once : Distinct (map id_of es)
  pub all : (x : Id) → Work (whole_of p ws) x → Work (whole_of p us) x ⊎ Among x (map id_of es)

brings_none : (p : Plan) (us : List ℕ) → Brings p us us []
brings_none p us = record { longer = omega arith; grows = λ x h. h; new = λ e m. absurd m; once = tt; all = λ x h. inl h }

brings_both : (p : Plan) (us vs ws : List ℕ) (es fs : List Entry) → ((x : Id) → Work (whole_of p vs) x → x.position < length_of vs) → Brings p us vs es → Brings p vs ws fs → Brings p us ws (es ++ fs)
brings_both p us vs ws es fs low a b = record {
  longer = (let u = a.longer in let v = b.longer in omega arith);
  grows = λ x h. b.grows x (a.grows x h);
  new = λ e m. ⊎_elim (λ k. let n = a.new e k in (b.grows (id_of e) n.0, n.1)) (λ k. let n = b.new e k in (n.0, (let u = n.1 in let v = a.longer in omega arith))) (among_either e es fs m);
  once = subst Distinct (sym (map-append id_of es fs)) (distinct_both (map id_of es) (map id_of fs) a.once b.once apart);
  all = λ x h. ⊎_elim (λ k. ⊎_elim (λ m. inl m) (λ m. inr (left x m)) (a.all x k)) (λ k. inr (right x k)) (b.all x h);
}
  where
    left : (x : Id) → Among x (map id_of es) → Among x (map id_of (es ++ fs))
    left x m = subst (Among x) (sym (map-append id_of es fs)) (among_left x (map id_of es) (map id_of fs) m)

    right : (x : Id) → Among x (map id_of fs) → Among x (map id_of (es ++ fs))
    right x m = subst (Among x) (sym (map-append id_of es fs)) (among_right x (map id_of es) (map id_of fs) m)

    apart : (x : Id) → Among x (map id_of es) → Among x (map id_of fs) → ⊥
    apart x m n =
        let c = map_among id_of x es m in
        let d = map_among id_of x fs n in
        let u = low (id_of c.0) (a.new c.0 c.1).0 in
        let v = (b.new d.0 d.1).1 in
        let z : id_of c.0 ≡ id_of d.0 = sym c.2 ∙ d.2 in
        let y = ap (λ (w : Id). w.position) z in
        omega arith

module _ (p : Plan) (lawful : Lawful p) (automaton : MeetsAutomaton p) (available : ℕ → ℕ) (log : Log) (laws : EngineLaws) where
  pub low : (us : List ℕ) → Takes p log us → (x : Id) → Work (whole_of p us) x → x.position < length_of us
  low us h x n = old_position p lawful available us (state_after p us) (takes_follows p log us h) x n

  -- ---- one transition

  module _ (us : List ℕ) (g : Progress) (s : Stands p available log us g) (t : ℕ) where
    abbrev a : List Node
    a = emitted_by p (move p.automaton t).output

    abbrev number : ℕ
    number = activity_number (move p.automaton t).output

    abbrev times : Schedule
    times = (taken_by p t g).schedule

    place : size (word_of p us) ≡ g.position
    place = size_is p us ∙ sym s.position

    there : (n : ℕ) → n < length a → is_work (node a n).kind ≡ true → Work (whole_of p (t ∷ us)) (id g.position n)
    there n l k =
        let w = work_working (node a n).kind k in
        subst (λ (q : ℕ). Work (whole_of p (t ∷ us)) (id q n)) place ((node a n).kind, ((node a n).duration, Joined.right (Nodes.own l refl refl) (not_claim (node a n).kind w)), w)

    all_one : (x : Id) → Work (whole_of p (t ∷ us)) x → Work (whole_of p us) x ⊎ Among x (map id_of (entries_by p t g))
    all_one x (k, (d, Joined.left i nr), wk) = inl (k, (d, i), wk)
    all_one x (k, (d, Joined.right i nc), wk) =
        let q = sort p.resources (suc (size (word_of p us))) a (whose x) k d i in
        let u = node_place_lem p.resources (suc (size (word_of p us))) a (whose x) k d i in
        let y = place in
        let e : g.position ≡ x.position = omega arith in
        let z : 0 + x.node ≡ x.node = omega arith in
        let m = brings g.position number times 0 a x.node q.0 (subst (λ (z : Kind). is_work z ≡ true) (sym q.1) (working_work k wk)) in
        inr (subst (λ (y : Id). Among y (map id_of (entries_by p t g))) (λ i. record { position = e i; node = z i }) (among_map id_of (loaded g.position number times (0 + x.node)) (entries_by p t g) m))

    brings_one : Brings p us (t ∷ us) (entries_by p t g)
    brings_one = record {
      longer = omega arith;
      grows = λ x n. (n.0, (n.1.0, Joined.left n.1.1 (not_release n.0 n.2)), n.2);
      new = λ e m.
          let b = brought g.position number times 0 a e m in
          let z : 0 + b.number ≡ b.number = omega arith in
          subst (λ (y : Entry). Work (whole_of p (t ∷ us)) (id_of y) × (length_of us ≤ y.position)) (sym (b.entry ∙ ap (loaded g.position number times) z)) (there b.number b.within b.work, (let u = s.position in omega arith));
      once = distinct_ids (entries_by p t g) (λ k l hk hl q. different g.position number times 0 a k l hk hl (ap (λ (z : Id). z.node) q));
      all = all_one;
    }

  -- ---- a path

  -- the path q adds es to us, and goes on from vs by transitions that await nothing
  pub record Passes (us vs : List ℕ) (q : Path) : Type 0 where
    pub word : List ℕ
    pub taken : Takes p log word
    pub silent : Silently p vs word
    pub rests : Rests p word
    pub brings : Brings p us word q.entries

  ends-here : (us : List ℕ) → Takes p log us → Rests p us → (g : Progress) → Passes us us (record { beyond = false; entries = []; progress = g })
  ends-here us h r g = record { word = us; taken = h; silent = stays; rests = r; brings = brings_none p us }

  first : (k : ℕ) (us : List ℕ) (g : Progress) → Stands p available log us g → (t : ℕ) → Takes p log (t ∷ us)
      → ((taken_by p t g).beyond ≡ false → (path_from p k (next_of p.automaton (taken_by p t g).progress.state) (taken_by p t g).progress).beyond ≡ false → Passes (t ∷ us) (t ∷ us) (path_from p k (next_of p.automaton (taken_by p t g).progress.state) (taken_by p t g).progress))
      → (path_from p (suc k) (Next.Goes t) g).beyond ≡ false → Passes us (t ∷ us) (path_from p (suc k) (Next.Goes t) g)
  unfolding path_from
  first k us g s t next more =
      by_test (λ (q : Path). q.beyond ≡ false → Passes us (t ∷ us) q) (taken_by p t g).beyond _ _ (λ b f. absurd (true≢false f)) λ b f.
      let r = more b f in
      record { word = r.word; taken = r.taken; silent = r.silent; rests = r.rests; brings = brings_both p us (t ∷ us) r.word (entries_by p t g) _ (low (t ∷ us) next) (brings_one us g s t) r.brings }

  pub passes_quiet : (k : ℕ) (us : List ℕ) (g : Progress) → Stands p available log us g → Settles p.automaton k g.state → (path_from p k (next_of p.automaton g.state) g).beyond ≡ false → Passes us us (path_from p k (next_of p.automaton g.state) g)
  unfolding path_from
  passes_quiet zero us g s settles b = ends-here us s.taken (λ t e. settles t (ap (next_of p.automaton) s.place ∙ e)) g
  passes_quiet (suc k) us g s settles b =
      go (next_of p.automaton g.state) refl
      (λ t e next c. passes_quiet k (t ∷ us) (taken_by p t g).progress (on p lawful automaton available log laws us g s t next c) (subst (Settles p.automaton k) (sym (next_state p t g)) (settles t e))) b
    where
      go : (n : Next) → next_of p.automaton g.state ≡ n
          → ((t : ℕ) → next_of p.automaton g.state ≡ Next.Goes t → Takes p log (t ∷ us) → (taken_by p t g).beyond ≡ false → (path_from p k (next_of p.automaton (taken_by p t g).progress.state) (taken_by p t g).progress).beyond ≡ false → Passes (t ∷ us) (t ∷ us) (path_from p k (next_of p.automaton (taken_by p t g).progress.state) (taken_by p t g).progress))
          → (path_from p (suc k) n g).beyond ≡ false → Passes us us (path_from p (suc k) n g)
      go Next.Ended e more b = ends-here us s.taken (λ t z. ended_goes (sym (next_after_lem s e) ∙ z)) g
      go (Next.Waits x) e more b = ends-here us s.taken (λ t z. waits_goes (sym (next_after_lem s e) ∙ z)) g
      go (Next.Goes t) e more b =
          let next = goes s.taken (next_after_lem s e) in
          let r = first k us g s t next (more t e next) b in
          record { word = r.word; taken = r.taken; silent = silent_first p us t (next_after_lem s e) r.word r.silent; rests = r.rests; brings = r.brings }

  pub passes : (k : ℕ) (us : List ℕ) (g : Progress) (s : Stands p available log us g) (t : ℕ) → Takes p log (t ∷ us) → ((taken_by p t g).beyond ≡ false → Settles p.automaton k (taken_by p t g).progress.state)
      → (path_from p (suc k) (Next.Goes t) g).beyond ≡ false → Passes us (t ∷ us) (path_from p (suc k) (Next.Goes t) g)
  passes k us g s t next settles = first k us g s t next (λ b. passes_quiet k (t ∷ us) (taken_by p t g).progress (on p lawful automaton available log laws us g s t next b) (settles b))
