-- An accepted opening gives a good run: in limits, with the first path loaded and at rest.
use Rattle.std.specs.Prelude.{◌≡◌, false, ◌||◌, ℕ, ◌*◌, ◌-◌, ◌≤◌, ◌<◌, ltb, eqb, get_or, replicate, None, Ok, Err}
use Rattle.std.proofs.Math.Path.{refl, ap}
use Rattle.std.proofs.Common.{sym, ◌∙◌, subst, true≢false, inl, arith, length-append}
use Rattle.std.proofs.Math.Bool.{true}
use Rattle.std.proofs.Math.Logic.{⊎_elim}
use mathlib.Core.List.{List, [], ◌∷◌, map}
use Rattle.std.proofs.Math.Decide.{dec_lt}
use borrow.Author.Tests.{ltb-false, eqb-true}
use Rattle.std.proofs.Math.ListN.{length}
use Rattle.std.proofs.lemmas.List.{length-map, length-replicate}
use Rattle.basis.specs.Lists.{Among}
use Rattle.basis.specs.Parts.{part}
use Rattle.basis.specs.Inner.Tells.{Tells}
use Rattle.basis.proofs.Laws.Tells.{told_false, tells_iff, tells_ltb}
use Rattle.basis.proofs.Laws.Bools.{by_test, or-false}
use Rattle.basis.proofs.Laws.Lists.{all_same}
use Rattle.time.specs.Time.{horizon}
use Rattle.time.specs.declared.Clock.{Clock}
use Rattle.time.specs.declared.Specified.{Specified}
use Rattle.plan.specs.Plan.{activity_of, resource_of}
use Rattle.plan.specs.Limits.{FileRules}
use Rattle.plan.specs.declared.Plan.{Plan}
use Rattle.plan.specs.Verdict.{Verdict}
use Rattle.activity.specs.Rules.{node, Meets}
use Rattle.automaton.specs.Next.{next_of}
use Rattle.automaton.specs.Rules.{MeetsAutomaton}
use Rattle.times_combined.specs.Combined.{combined}
use Rattle.times_combined.specs.Word.{τ}
use Rattle.times_combined.proofs.Laws.Engine.{opens}
use Rattle.times_combined.proofs.Laws.Instances.{Listing}
use Rattle.times_combined.proofs.Laws.TimesEqual.{empty_listing}
use Rattle.judge.specs.Judge.{accepted, judge_of}
use Rattle.times.specs.Times.{specified, at}
use Rattle.times.specs.Queues.{no_instance, pending_of, queue_of}
use Rattle.times.specs.declared.Instance.{Instance}
use Rattle.times.specs.declared.Progress.{Progress}
use Rattle.run_path.specs.Path.{path_from, longest_path, Path}
use Rattle.run_window.specs.Window.{vacant, is_held, vacancies}
use Rattle.run_window.specs.Places.{Holds}
use Rattle.run_window.specs.declared.Entry.{Entry}
use Rattle.run_window.proofs.Laws.Places.{Once}
use Rattle.run_limits.specs.Window.{entry_in_limits}
use Rattle.run.specs.Limits.{slack_in_limits}
use Rattle.run.specs.Loading.{load}
use Rattle.run_opening.specs.Given.{at_first, availabilities, any_above}
use Rattle.run_opening.specs.Short.{short_from}
use Rattle.run_opening.proofs.Laws.Given.{given_at, none_above}
use Rattle.run.specs.Opening.{fresh, first_loaded, begin, open_plan, open_judged, open_of}
use Rattle.run.specs.Opening as Opening
use Rattle.run_checks.specs.declared.Stop.{Stop}
use Rattle.run.specs.Loading.{Loading}
use Rattle.run.specs.declared.Unopened.{Unopened}
use Rattle.run.specs.declared.Opening.{Opening as Outcome}
use Rattle.run.specs.declared.Opened.{Opened as Answer}
use Rattle.demands_log.specs.Log.{Id}
use Rattle.demands_theory.proofs.Laws.Works.{Opened}
use Rattle.demands_theory.proofs.Laws.OfPlan.{world_of}
use Rattle.demands_theory.specs.TheWord.{none, whole_of}
use Rattle.demands_theory.proofs.Laws.Along.{lawful}
use Rattle.demands_theory.proofs.Laws.Growth.{here, extends_self}
use Rattle.demands_theory.proofs.Laws.Longest.{silent_before, within_none}
use Rattle.demands_theory.proofs.Laws.Replies.{not_going}
use Rattle.demands_theory.proofs.Laws.World.{old_position}
use Rattle.demands_theory.proofs.Laws.OfRun.{machine}
use Rattle.demands_theory.proofs.Laws.Machine.{Held}
use Rattle.demands_theory.specs.Nodes.{Work}
use Rattle.demands_theory.specs.Loading.{Silently, stays, goes_on, Beyond, Within, Unreported, TooMany, FirstBeyond, FirstMany}
use Rattle.demands_run.proofs.Laws.Silent.{one_rest}
use Rattle.demands_run.proofs.Laws.PathLimits.{Quiet, tells_quiet}
use Rattle.demands_run.proofs.Laws.PathNodes.{low, Passes, passes_quiet}
use Rattle.demands_run.proofs.Laws.Many.{too_many, not_many}
use Rattle.times_equal.proofs.Laws.Seen.{seen}
use Rattle.demands_run.proofs.Laws.Engine.{Settles, EngineLaws}
use Rattle.demands_run.proofs.Laws.Stands.{ident_of, Stands, Accepted, Good}
use Rattle.demands_run.proofs.Laws.Bounds.{vacant_passes}
use Rattle.demands_run.proofs.Laws.Short.{short_none, by_shortest}
use Rattle.demands_run.proofs.Laws.Loaded.{Loaded}
use Rattle.demands_run.proofs.Laws.Paths.{path_on}
use Rattle.demands_run.proofs.Laws.Onward.{heard_if, stuck_if}

-- what acceptance by the judge gives of a plan
pub record Judged (p : Plan) : Type 0 where
  pub file : FileRules p
  pub activities : (a : ℕ) → a < p.activities → Meets (resource_of p) (activity_of p a)
  pub automaton : MeetsAutomaton p

-- the plan that these bytes are accepted as meets the definitions
abbrev pub AcceptedLaws : List ℕ → Type 0
AcceptedLaws bytes = (p : Plan) → judge_of bytes ≡ accepted p → Judged p

-- ---- the run at its opening

-- the answer to an accepted opening: a good run of an accepted plan
pub record OpensWell (psi : Clock) (slack : ℕ) (ts : List ℕ) (a : Answer) : Type 0 where
  pub given : Accepted a.run.plan psi slack
  pub word : List ℕ
  pub opened : Opened (world_of a.run.plan (λ r. get_or ts r 0)) machine (Good a.run.plan psi slack (λ r. get_or ts r 0)) word a.run

module _ (laws : EngineLaws) (p : Plan) (psi : Clock) (slack : ℕ) (given : Accepted p psi slack) (ts : List ℕ) (enough : length ts ≡ p.resources) (early : (r : ℕ) → get_or ts r 0 ≤ horizon) where
  abbrev available : ℕ → ℕ
  available r = get_or ts r 0

  abbrev g : Progress
  g = at_first (availabilities ts) p.automaton.initial

  abbrev w : List Entry
  w = replicate 512 vacant

  none_pending : (e : ℕ) → pending_of g e ≡ 0
  none_pending e = all_same 16 e 0

  empty_queue : (e : ℕ) → queue_of g e ≡ []
  empty_queue e = ap (part no_instance g.pending (8 * e)) (none_pending e)

  unheld : {A : Type 0} (j : ℕ) (e : Entry) → Holds w j e → A
  unheld j e h = absurd (true≢false (sym h.held ∙ ap (λ (x : Entry). is_held x.phase) (sym h.entry ∙ all_same 512 j vacant)))

  first_stands : Stands p available [] [] g
  first_stands = record {
    trace = record { state = λ i. seen g; floor = λ i. 0; start = λ i n. 0; end = λ i n. 0; emits = λ i e. [] };
    runs = opens (λ r. given_at ts (16 - length ts) r) (λ e. ap (λ (s : Specified). s.0) (all_same 16 e (specified 0))) (λ e. ap (map (λ x. x.end.0)) (empty_queue e));
    state = refl;
    queues = λ e. record {
      past = [];
      count = refl;
      listing = subst (λ (q : List Instance). Listing (combined p.resources τ) e (map ident_of q)) (sym (empty_queue e)) (empty_listing p.resources e);
      told = λ x m. absurd (subst (Among x) (empty_queue e) m);
    };
    place = refl;
    position = refl;
    sized = record {
      available = (let u = length-append (map specified ts) (replicate (16 - length ts) (specified 0)) in let v = length-map ts specified in let x = length-replicate (16 - length ts) (specified 0) in let y = given.lawful.file.limits.resources in omega arith);
      latest = refl;
      lengths = refl;
      pending = refl;
    };
    within = record {
      available = λ r l. (let u = given_at ts (16 - length ts) r in let x = early r in omega arith);
      latest = λ e l. (let u = ap (λ (s : Specified). s.0) (all_same 16 e (specified 0)) in omega arith);
      lengths = λ e l. (let u = none_pending e in omega arith);
      pending = λ e i l m. absurd (let u = none_pending e in omega arith);
      position = omega arith;
      state = given.lawful.file.limits.initial;
    };
    taken = none;
    known = λ x o k. absurd k;
  }

  first_loaded_lem : Loaded p given.lawful given.automaton available [] [] w [] g w
  first_loaded_lem = record {
    stands = first_stands;
    tail = here;
    grows = extends_self (world_of p available) [];
    kept = λ j f q. q;
    only = λ j f q. inl q;
    agree = λ j f q. unheld j f q;
    once = λ i j e f q r s. unheld i e q;
    all = λ x n. inl n;
    entries = λ j. subst (λ (e : Entry). entry_in_limits p.activities p.sizes e ≡ true) (sym (all_same 512 j vacant)) (vacant_passes p.activities p.sizes);
    long = length-replicate 512 vacant;
  }

  -- ---- 44 and 43 of the opening, over words and times

  first_settles : Settles p.automaton longest_path p.automaton.initial
  first_settles = laws.settles p given.lawful given.automaton p.automaton.initial longest_path given.lawful.file.limits.initial (omega arith)

  abbrev first_of : Path
  first_of = path_from p longest_path (next_of p.automaton p.automaton.initial) g

  quiet_first : (vs : List ℕ) → Silently p [] vs → Beyond p available vs → Quiet p given.lawful given.automaton available [] laws []
  quiet_first vs stays y = absurd (within_none p available [] here y)
  quiet_first vs (goes_on {vs = ws} {t} h e) y = record { before = ws; number = t; silent = h; next = e; beyond = y }

  pub tells_first : Tells first_of.beyond (FirstBeyond p available)
  tells_first = tells_iff (λ q. record { at = q.number ∷ q.before; silent = goes_on q.silent q.next; beyond = q.beyond }, λ y. quiet_first y.at y.silent y.beyond)
      (tells_quiet p given.lawful given.automaton available [] laws longest_path [] g first_stands first_settles)

  module _ (b : first_of.beyond ≡ false) where
    passed : Passes p given.lawful given.automaton available [] laws [] [] first_of
    passed = passes_quiet p given.lawful given.automaton available [] laws longest_path [] g first_stands first_settles b

    low_first : (x : Id) → Work (whole_of p []) x → x.position < 0
    low_first = low p given.lawful given.automaton available [] laws [] none

    -- none of its transitions passes a limit
    first_within : (vs : List ℕ) → Silently p [] vs → Within p available vs
    first_within vs s us c y = ⊎_elim (λ d. within_none p available us d y) (λ q. told_false tells_first b (record { at = us; silent = q; beyond = y })) (silent_before p available [] vs us s c)

    pub tells_many : Tells (ltb (vacancies w) (length first_of.entries)) (FirstMany p)
    tells_many = tells_iff (λ l. record { path = passed.word; silent = passed.silent; rests = passed.rests; many = too_many p [] [] passed.word w first_of.entries refl once passed.brings (λ i e h. unheld i e h) none_waits low_first (λ x r. absurd r) l }, λ m. go m (dec_lt (vacancies w) (length first_of.entries))) (tells_ltb (vacancies w) (length first_of.entries))
      where
        once : Once w
        once i j e f h k s = unheld i e h

        none_waits : (x : Id) → Unreported p [] [] x → Held (Holds w) x
        none_waits x q = absurd (let u = low_first x q.node in omega arith)

        go : FirstMany p → Dec (vacancies w < length first_of.entries) → vacancies w < length first_of.entries
        go m (yes l) = l
        go m (no n) =
            absurd (not_many p [] [] passed.word w first_of.entries refl once passed.brings (λ i e h. unheld i e h) none_waits low_first (λ x r. absurd r) (omega arith)
            (subst (TooMany p []) (one_rest p [] m.path passed.word m.silent m.rests passed.silent passed.rests) m.many))

  abbrev Well : Answer → Type 0
  Well a = a.opening ≡ Outcome.Opened → OpensWell psi slack ts a

  refused : (u : Unopened) → Well (Opening.unopened u)
  refused u e = absurd (let z : ◌≡◌ {A = ℕ} 0 1 = cc in omega arith)

  pub begins : Well (begin (fresh p psi slack g))
  unfolding load
  begins =
      by_test (λ (l : Loading). Well (first_loaded l)) (path_from p longest_path (next_of p.automaton p.automaton.initial) g).beyond _ _ (λ b. refused Unopened.Beyond) λ b.
      by_test (λ (l : Loading). Well (first_loaded l)) (ltb (vacancies w) (length (path_from p longest_path (next_of p.automaton p.automaton.initial) g).entries)) _ _ (λ f. refused Unopened.Full) λ f q.
      let r = path_on p given.lawful given.automaton available [] [] w laws longest_path [] g w first_loaded_lem (laws.settles p given.lawful given.automaton p.automaton.initial longest_path given.lawful.file.limits.initial (omega arith)) b (ltb-false _ _ f) in
      record {
        given = given;
        word = r.word;
        opened = record {
          good = record {
            same_plan = refl;
            same_psi = refl;
            same_slack = refl;
            stands = r.loaded.stands;
            rests = r.rests;
            within = first_within b r.word r.silent;
            whole = λ nf. stuck_if p given.lawful given.automaton available [] r.word _ r.loaded.stands laws r.rests (λ t e. (heard_if p given.lawful given.automaton available [] r.word _ r.loaded.stands t e).told);
            beyond = λ e. absurd (not_going Stop.Beyond (sym e));
            full = λ e. absurd (not_going Stop.Full (sym e));
            entries = r.loaded.entries;
            long = r.loaded.long;
            halt = refl;
          };
          going = refl;
          agree = r.loaded.agree;
          unstarted = λ i e h. ⊎_elim (λ k. unheld i e k) (λ k. k.0) (r.loaded.only i e h);
          distinct = λ i j e f h k s. r.loaded.once i j e f h k (ap (λ (n : Id). n.position) s, ap (λ (n : Id). n.node) s);
          all = λ x n. ⊎_elim (λ m. absurd (let u = old_position p given.lawful available [] p.automaton.initial refl x m in omega arith)) (λ k. k) (r.loaded.all x n);
        };
      }

-- ---- any opening that is accepted

module _ (laws : EngineLaws) (bytes : List ℕ) (accept : AcceptedLaws bytes) (psi : Clock) (slack : ℕ) (ts : List ℕ) where
  abbrev Fine : Answer → Type 0
  Fine a = a.opening ≡ Outcome.Opened → OpensWell psi slack ts a

  unopened : (u : Unopened) → Fine (Opening.unopened u)
  unopened u e = absurd (let z : ◌≡◌ {A = ℕ} 0 1 = cc in omega arith)

  open_plan_lem : (p : Plan) → Judged p → Fine (open_plan p psi slack ts)
  unfolding open_plan
  open_plan_lem p j =
      by_test Fine (eqb (length ts) p.resources) _ _ (λ a. by_test Fine (ltb horizon psi.0 || any_above ts) _ _ (λ b. unopened Unopened.Time) (λ b.
      by_test Fine (slack_in_limits slack) _ _ (λ c.
      by_shortest Fine (short_from p slack 0 p.activities) _ _ (λ d. unopened (Unopened.Short d)) (λ d. well (eqb-true _ _ a) (or-false (ltb horizon psi.0) (any_above ts) b) c d))
      (λ c. unopened Unopened.Slack))) (λ a. unopened Unopened.Availabilities)
    where
      well : length ts ≡ p.resources → (ltb horizon psi.0 ≡ false) × (any_above ts ≡ false) → slack_in_limits slack ≡ true → short_from p slack 0 p.activities ≡ None
          → Fine (begin (fresh p psi slack (at_first (availabilities ts) p.automaton.initial)))
      well enough in-time c d q =
          let given : Accepted p psi slack = record {
            lawful = lawful p j.file j.activities j.automaton.first;
            automaton = j.automaton;
            start = ltb-false _ _ in-time.0;
            host = c;
            long = λ a l. short_none p slack p.activities 0 d a (omega arith) (omega arith);
          } in
          begins laws p psi slack given ts enough (none_above ts in-time.1) q

  open_judged_lem : (v : Verdict) → (judge_of bytes).verdict ≡ v → Fine (open_judged v (judge_of bytes).plan psi slack ts)
  open_judged_lem (Ok u) e = open_plan_lem (judge_of bytes).plan (accept (judge_of bytes).plan (λ i. record { verdict = e i; plan = (judge_of bytes).plan }))
  open_judged_lem (Err x) e = unopened (Unopened.Plan x.fault x.place)

  pub opens_well : (open_of bytes psi slack ts).opening ≡ Outcome.Opened → OpensWell psi slack ts (open_of bytes psi slack ts)
  unfolding open_of
  opens_well = open_judged_lem (judge_of bytes).verdict refl
