-- Loading after a report: "the next is loaded in the call that reports the awaited outcome, and further ones while their outcomes
-- are already reported." It goes as far as the log tells, unless a path fails, which then adds nothing; and it fails, or not,
-- exactly as the words, their times and the reports say.
use Rattle.std.specs.Prelude.{◌≡◌, refl, false, ltb, length, Option, Some, None}
use Rattle.std.proofs.Common.{sym, ap, ◌∙◌, subst, ⊎_elim, ltb-true, ltb-false, ne_eqb, eq-eqb}
use mathlib.Core.List.{List, ◌∷◌}
use Prim.Native.Nat.{ℕ, zero, suc, ◌+◌, ◌≤◌, ◌<◌}
use native.Mathlib.Omega.{arith}
use Rattle.basis.specs.Inner.Tells.{Tells}
use Rattle.basis.proofs.Laws.Tells.{told_true, told_false}
use Rattle.basis.proofs.Laws.Bools.{by_test}
use Rattle.time.specs.declared.Clock.{Clock}
use Rattle.plan.specs.Plan.{move}
use Rattle.plan.specs.declared.Input.{Input}
use Rattle.plan.specs.declared.Plan.{Plan}
use Rattle.automaton.specs.Next.{next_of}
use Rattle.automaton.specs.Rules.{MeetsAutomaton}
use Rattle.automaton.specs.declared.Next.{Next}
use Rattle.times_combined.specs.Paths.{Lawful}
use Rattle.times.specs.Queues.{queue_of}
use Rattle.times.specs.declared.Progress.{Progress}
use Rattle.run_path.specs.Path.{Path, taken_by, path_from, longest_path}
use Rattle.run_window.specs.Window.{placed, vacancies}
use Rattle.run_window.specs.Places.{Holds}
use Rattle.run_window.specs.declared.Entry.{Entry}
use Rattle.run_outcomes.specs.Way.{way_on}
use Rattle.run.specs.Loading.{loading, load, on_loading, further}
use Rattle.run.specs.declared.Run.{Run}
use Rattle.run_checks.specs.declared.Stop.{Stop}
use Rattle.run_loading.specs.declared.Failure.{Failure}
use Rattle.run.specs.Loading.{Loading}
use Rattle.demands_log.specs.Log.{Id, Log, Reported, Told}
use Rattle.demands_log.proofs.Laws.ByCases.{by_way}
use Rattle.demands_theory.proofs.Laws.Machine.{Held}
use Rattle.demands_theory.specs.Nodes.{Work, length_of, id_of}
use Rattle.demands_theory.specs.TheWord.{whole_of}
use Rattle.demands_theory.specs.Loading.{NextPath, PathBeyond, Unreported, EndsAt, whole, beyond, full, Loads, ends}
use Rattle.demands_theory.proofs.Laws.Growth.{Tail, tail_on, tail_length}
use Rattle.demands_run.proofs.Laws.Engine.{rest, remaining, Settles, EngineLaws}
use Rattle.demands_run.proofs.Laws.Stands.{Stands}
use Rattle.demands_run.proofs.Laws.Silent.{one_rest}
use Rattle.demands_run.proofs.Laws.Loaded.{Loaded}
use Rattle.demands_run.proofs.Laws.Paths.{tolds, Rests, Arrives, first-of, path_on}
use Rattle.demands_run.proofs.Laws.PathLimits.{tells_path}
use Rattle.demands_run.proofs.Laws.PathLimits as PathLimits
use Rattle.demands_run.proofs.Laws.PathNodes.{low, Passes, passes}
use Rattle.demands_run.proofs.Laws.Many.{too_many, not_many}
use Rattle.demands_run.proofs.Laws.Sums.{sum, sum_falls, sum_has}
use Rattle.demands_run.proofs.Laws.Onward.{Heard, heard_if, stuck_if}

module _ (p : Plan) (lawful : Lawful p) (automaton : MeetsAutomaton p) (available : ℕ → ℕ) (log : Log) (base : List ℕ) (v : List Entry) (laws : EngineLaws)
    (psi : Clock) (slack : ℕ) (last : Clock) (halt : Option Stop) where
  abbrev pub run_at : Progress → List Entry → Run
  run_at g w = record { plan = p; psi = psi; slack = slack; progress = g; window = w; last = last; halt = halt }

  abbrev In : List ℕ → Progress → List Entry → Type 0
  In us g w = Loaded p lawful automaton available log base v us g w

  -- nothing is loaded, or first a transition that processes a told instance
  pub data Onto (us : List ℕ) (g : Progress) : List ℕ → Type 0 where
    still : Onto us g us
    hearing : {word : List ℕ} {t : ℕ} (stands : Stands p available log us g) → Heard p lawful automaton available log us g stands t → Tail (t ∷ us) word → Onto us g word

  onto_tail : (us : List ℕ) (g : Progress) (word : List ℕ) → Onto us g word → Tail us word
  onto_tail us g word still = Tail.here
  onto_tail us g word (hearing {t} stands h b) = tail_on us (t ∷ us) word (Tail.later Tail.here) b

  pub record Furthered (us : List ℕ) (g : Progress) (l : Loading) : Type 0 where
    pub word : List ℕ
    pub progress : Progress
    pub window : List Entry
    pub same : l.run ≡ run_at progress window
    pub loaded : In word progress window
    pub onto : Onto us g word
    pub rests : Rests p word
    -- it goes, and fails or not, exactly as the words, their times and the reports say
    pub says : Loads p available log us word l.failure

  stops : (us : List ℕ) (g : Progress) (w : List Entry) → In us g w → Rests p us → (f : Option Failure) → EndsAt p available log us f → Furthered us g (loading f (run_at g w))
  stops us g w h rests f e = record { word = us; progress = g; window = w; same = refl; loaded = h; onto = still; rests = rests; says = ends e }

  -- how many instances are told
  abbrev pub told : Progress → ℕ
  told g = sum p.events (λ e. tolds (queue_of g e))

  -- a path that processes a told instance leaves one less
  pub fewer_told : (us : List ℕ) (g : Progress) (stands : Stands p available log us g) (t : ℕ) → Heard p lawful automaton available log us g stands t → (q : Progress)
      → ((e : ℕ) → tolds (queue_of q e) ≤ tolds (remaining (move p.automaton t).input g e)) → told q + 1 ≤ told g
  fewer_told us g stands t h q same =
      sum_falls p.events h.event (λ e. tolds (queue_of g e)) (λ e. tolds (queue_of q e)) h.low
      (λ e n. let s = same e in let u : tolds (remaining (move p.automaton t).input g e) ≡ tolds (queue_of g e) = ap (λ (i : Input). tolds (remaining i g e)) h.input ∙ rw (ne_eqb h.event e (λ z. n (sym z))) in omega arith)
      (let s = same h.event in
      let u : tolds (remaining (move p.automaton t).input g h.event) ≡ tolds (rest (queue_of g h.event)) = ap (λ (i : Input). tolds (remaining i g h.event)) h.input ∙ rw (eq-eqb h.event h.event refl) in
      let x = h.fewer in
      omega arith)

  -- the window v holds what waits of the base, and what is reported stands there
  module _ (unique : (x : Id) (o q : ℕ) → Told log x o → Told log x q → o ≡ q) (unreported : (i : ℕ) (e : Entry) → Holds v i e → Reported log (id_of e) → ⊥) (held : (x : Id) → Unreported p log base x → Held (Holds v) x)
      (new : (x : Id) → Reported log x → x.position < length_of base) where
    holds_waits : (us : List ℕ) (g : Progress) (w : List Entry) → In us g w → (i : ℕ) (e : Entry) → Holds w i e → Unreported p log us (id_of e)
    holds_waits us g w h i e q = record {
      node = (h.agree i e q).node;
      unreported = λ r. ⊎_elim (λ k. unreported i e k r) (λ k. let u = new (id_of e) r in let y = k.1 in omega arith) (h.only i e q);
    }

    waits_held : (us : List ℕ) (g : Progress) (w : List Entry) → In us g w → (x : Id) → Unreported p log us x → Held (Holds w) x
    waits_held us g w h x q =
        ⊎_elim (λ n. let k = held x (record { node = n; unreported = q.unreported }) in (k.0, k.1, h.kept k.0 k.1 k.2, k.3)) (λ k. k) (h.all x q.node)

    pub further_loads : (k : ℕ) (us : List ℕ) (g : Progress) (w : List Entry) → In us g w → Rests p us → told g ≤ k → Furthered us g (further k (run_at g w))
    unfolding further load
    further_loads zero us g w h rests few = stops us g w h rests None (whole (stuck_if p lawful automaton available log us g h.stands laws rests none))
      where
        none : (t : ℕ) → way_on p.automaton g (next_of p.automaton g.state) ≡ Next.Goes t → ⊥
        none t e =
            let x = heard_if p lawful automaton available log us g h.stands t e in
            let u = sum_has p.events x.event (λ e. tolds (queue_of g e)) x.low in
            let y = x.fewer in
            omega arith
    further_loads (suc k) us g w h rests few =
        by_way (Furthered us g) (way_on p.automaton g (next_of p.automaton g.state)) _ _
        (λ t e. goes t (heard_if p lawful automaton available log us g h.stands t e) (λ us g w h r l. further_loads k us g w h r l))
        (λ none. stops us g w h rests None (whole (stuck_if p lawful automaton available log us g h.stands laws rests none)))
      where
        goes : (t : ℕ) → Heard p lawful automaton available log us g h.stands t
            → ((us : List ℕ) (g : Progress) (w : List Entry) → In us g w → Rests p us → told g ≤ k → Furthered us g (further k (run_at g w)))
            → Furthered us g (on_loading (load (run_at g w) (Next.Goes t)) (further k))
        goes t x more =
            by_test (λ (l : Loading). Furthered us g (on_loading l (further k))) path.beyond _ _ (λ b. stops us g w h rests (Some Failure.Beyond) (beyond (told_true limits b))) λ b.
            by_test (λ (l : Loading). Furthered us g (on_loading l (further k))) (ltb (vacancies w) (length path.entries)) _ _
            (λ f. stops us g w h rests (Some Failure.Full) (full (record { path = (passed b).word; next = next b; within = told_false limits b; many = too_many p log us (passed b).word w path.entries h.long h.once (passed b).brings (holds_waits us g w h) (waits_held us g w h) below fresh (ltb-true _ _ f) }))) λ f.
            on b f (first-of p lawful automaton available log base v laws 63 us g w h t x.takes (λ i. path_on p lawful automaton available log base v laws 63 (t ∷ us) _ _ i (laws.settles p lawful automaton _ 63 i.stands.within.state (omega arith))) b (ltb-false _ _ f))
          where
            path : Path
            path = path_from p longest_path (Next.Goes t) g

            settles : (taken_by p t g).beyond ≡ false → Settles p.automaton 63 (taken_by p t g).progress.state
            settles c = laws.settles p lawful automaton _ 63 (PathLimits.on p lawful automaton available log laws us g h.stands t x.takes c).within.state (omega arith)

            limits : Tells path.beyond (PathBeyond p available log us)
            limits = tells_path p lawful automaton available log laws unique us g h.stands t x.takes 63 settles

            passed : path.beyond ≡ false → Passes p lawful automaton available log laws us (t ∷ us) path
            passed b = passes p lawful automaton available log laws 63 us g h.stands t x.takes settles b

            next : (b : path.beyond ≡ false) → NextPath p log us (passed b).word
            next b = let q = passed b in record { onward = record { first = t; taken = x.takes; silent = q.silent }; rests = q.rests }

            below : (y : Id) → Work (whole_of p us) y → y.position < length_of us
            below = low p lawful automaton available log laws us h.stands.taken

            fresh : (y : Id) → Reported log y → y.position < length_of us
            fresh y r = let u = new y r in let m = tail_length base us h.tail in omega arith

            on : path.beyond ≡ false → ltb (vacancies w) (length path.entries) ≡ false → Arrives p lawful automaton available log base v laws (t ∷ us) w (λ e. tolds (remaining (move p.automaton t).input g e)) path
                → Furthered us g (further k (run_at path.progress (placed w path.entries)))
            on b f a =
                let q = passed b in
                let e = one_rest p (t ∷ us) a.word q.word a.silent a.rests q.silent q.rests in
                let u = fewer_told us g h.stands t x path.progress a.told in
                let r = more a.word _ _ a.loaded a.rests (omega arith) in
                record {
                  word = r.word;
                  progress = r.progress;
                  window = r.window;
                  same = r.same;
                  loaded = r.loaded;
                  onto = hearing h.stands x (tail_on (t ∷ us) a.word r.word a.on (onto_tail a.word _ r.word r.onto));
                  rests = r.rests;
                  says = Loads.later (next b) (told_false limits b) (not_many p log us q.word w path.entries h.long h.once q.brings (holds_waits us g w h) (waits_held us g w h) below fresh (ltb-false _ _ f))
                      (subst (λ (z : List ℕ). Loads p available log z r.word _) e r.says);
                }
