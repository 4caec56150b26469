-- The engine passes a limit of time or position exactly where the combined activity does (44): wherever what it stores is what
-- its way over the word leads to.
use Rattle.std.specs.Prelude.{◌≡◌, refl, List, ◌∷◌, ℕ, suc, ◌≤◌, ◌<◌, length}
use Rattle.std.proofs.Common.{sym, ap, ◌∙◌, subst, arith}
use Rattle.basis.specs.Lists.{one, more}
use Rattle.basis.specs.Inner.Tells.{Tells}
use Rattle.basis.proofs.Laws.Tells.{tells_iff}
use Rattle.time.specs.Time.{horizon}
use Rattle.plan.specs.Plan.{move, emitted_by, resource_of, predecessors}
use Rattle.plan.specs.declared.Kind.{Kind}
use Rattle.plan.specs.declared.Node.{Node}
use Rattle.plan.specs.declared.Plan.{Plan}
use Rattle.activity.specs.Rules as A
use Rattle.activity.specs.Rules.{node, Meets}
use Rattle.times.specs.Times.{at}
use Rattle.times.specs.Engine.{taken_by}
use Rattle.times.specs.declared.Progress.{Progress}
use Rattle.times_combined.specs.Word.{Step, Word, ◌▷◌, size}
use Rattle.times_combined.proofs.Laws.Accepted.{GoodWord}
use Rattle.times_combined.specs.Combined.{Ident, identity, Is, NotClaim, Nodes, Joined}
use Rattle.times_combined.proofs.Laws.Engine.{Trace, Run, goes, Stepped, start_at, end_at}
use Rattle.times_combined.specs.Times.{Timing}
use Rattle.times_combined.specs.Paths.{word_of, Follows, Lawful}
use Rattle.times_combined.proofs.Laws.Theorems.{run_equal, one_solution}
use Rattle.times_combined.proofs.Laws.OneActivity.{latest_bound}
use Rattle.times_combined.proofs.Laws.Plans.{good_path}
use Rattle.times_combined.proofs.Laws.TimesEqual.{Equal}
use Rattle.demands_theory.specs.Nodes.{length_of}
use Rattle.demands_theory.specs.TheWord.{state_after, whole_of, Takes}
use Rattle.demands_theory.specs.Loading.{Exceeds, Beyond}
use Rattle.times_combined.proofs.Laws.Shape.{sort}
use Rattle.times_combined.proofs.Laws.Unique.{shape_of}
use Rattle.automaton.specs.Rules.{MeetsAutomaton}
use Rattle.demands_log.specs.Log.{Log}
use Rattle.demands_theory.proofs.Laws.TheWord.{takes_follows}
use Rattle.demands_run.proofs.Laws.Engine.{Possible, Advances, EngineLaws}
use Rattle.demands_run.proofs.Laws.Stands.{Stands}
use Rattle.demands_run.proofs.Laws.Taken.{size_is, trace, runs_on, state_on, end_on}
use Rattle.demands_run.proofs.Laws.Counts.{possible, pending_length}
use Rattle.demands_run.proofs.Laws.Crosses.{Crosses, tells_crosses}

last_step : {R : ℕ} {available : ℕ → ℕ} {tr : Trace} {w : Word} {x : Step} → Run R available tr (w ▷ x) → Stepped R x tr (size w)
last_step (goes r s) = s

before_last : {R : ℕ} {available : ℕ → ℕ} {tr : Trace} {w : Word} {x : Step} → Run R available tr (w ▷ x) → Run R available tr w
before_last (goes r s) = r

-- transition t, taken at g, leads where the engine's way over the word leads
pub record Leads (p : Plan) (available : ℕ → ℕ) (t : ℕ) (is : List ℕ) (g : Progress) : Type 0 where
  pub trace : Trace
  pub runs : Run p.resources available trace (word_of p (t ∷ is))
  pub ends : (n : ℕ) → trace.end (size (word_of p is)) n ≡ at (taken_by p t g).schedule.end n
  pub free : (r : ℕ) → (trace.state (suc (size (word_of p is)))).free r ≡ at (taken_by p t g).progress.available r
  pub position : g.position ≡ size (word_of p is)

module _ (p : Plan) (l : Lawful p) (available : ℕ → ℕ) where
  abbrev Path : List ℕ → Type 0
  Path is = Follows p p.automaton.initial is (state_after p is)

  good : (is : List ℕ) → Path is → GoodWord p.resources (resource_of p) (word_of p is)
  good is f = good_path p l p.automaton.initial is (state_after p is) f

  module _ (t : ℕ) (is : List ℕ) (g : Progress) (f : Path (t ∷ is)) (leads : Leads p available t is g) where
    abbrev a : List Node
    a = emitted_by p (move p.automaton t).output

    abbrev ends : ℕ → ℕ
    ends n = at (taken_by p t g).schedule.end n

    -- ---- the times of the whole word

    equal : Equal p.resources available leads.trace (word_of p (t ∷ is))
    equal = run_equal p.resources (resource_of p) available leads.trace (word_of p (t ∷ is)) (good (t ∷ is) f) leads.runs

    end_at_lem : (S E : Ident → ℕ) → Timing (whole_of p (t ∷ is)) available S E → (x : Ident) (k : Kind) (d : ℕ) → (whole_of p (t ∷ is)).Holds x k d → E x ≡ end_at leads.trace x
    end_at_lem S E tm x k d h = (one_solution p.resources (resource_of p) available (word_of p (t ∷ is)) (good (t ∷ is) f) S E _ _ tm equal.timing x k d h).1

    end_there : (S E : Ident → ℕ) → Timing (whole_of p (t ∷ is)) available S E → (n : ℕ) (k : Kind) (d : ℕ) → (whole_of p (t ∷ is)).Holds (identity (size (word_of p is)) n) k d
        → E (identity (size (word_of p is)) n) ≡ ends n
    end_there S E tm n k d h = end_at_lem S E tm (identity (size (word_of p is)) n) k d h ∙ leads.ends n

    free_at : (S E : Ident → ℕ) → Timing (whole_of p (t ∷ is)) available S E → (x : Ident) (r : ℕ) → r < p.resources → Is (whole_of p (t ∷ is)) x (Kind.Release r)
        → E x ≡ at (taken_by p t g).progress.available r
    free_at S E tm x r h i =
        let y = equal.free r h in
        end_at_lem S E tm x (Kind.Release r) i.0 i.1 ∙ ap (end_at leads.trace) (equal.one_release x y.0 r i y.1) ∙ y.2 ∙ leads.free r

    -- a node at the position is one of the transition's
    inside : (n : ℕ) (k : Kind) (d : ℕ) → (whole_of p (t ∷ is)).Holds (identity (size (word_of p is)) n) k d → n < length a
    inside n k d (Joined.left h nr) =
        absurd (let u = (shape_of p.resources (resource_of p) (word_of p is) (good (t ∷ is) f).0).places (identity (size (word_of p is)) n) k d h in omega arith)
    inside n k d (Joined.right h nc) = (sort p.resources (suc (size (word_of p is))) a (identity (size (word_of p is)) n) k d h).0

    own : (n : ℕ) → n < length a → NotClaim (node a n).kind → (whole_of p (t ∷ is)).Holds (identity (size (word_of p is)) n) (node a n).kind (node a n).duration
    own n h nc = Joined.right (Nodes.own h refl refl) nc

    -- ---- a node that ends too late is one of the word, or a claim with a release after it

    meets : Meets (resource_of p) a
    meets = (good (t ∷ is) f).1.meets

    after_claim : (m n : ℕ) → A.Arrow a m n → (k : Kind) → (node a n).kind ≡ k → NotClaim k
    after_claim m n h (Kind.Action x y) e = tt
    after_claim m n h (Kind.Claim r) e = meets.rule_VIII m n r (record { within = h.within; kind = e }) h
    after_claim m n h (Kind.Release r) e = tt
    after_claim m n h (Kind.Event x) e = tt

    ends_later : (m n : ℕ) → A.Arrow a m n → ends m ≤ ends n
    ends_later m n h =
        let s = (last_step leads.runs).timed in
        let u = s.others n h.within (after_claim m n h (node a n).kind refl) in
        let v = s.ends n h.within in
        let x = latest_bound (leads.trace.end (size (word_of p is))) m (predecessors (node a n)) h.from in
        let y = leads.ends m in
        let z = leads.ends n in
        omega arith

    ends_before_lem : (m n : ℕ) → A.Before a m n → ends m ≤ ends n
    ends_before_lem m n (one h) = ends_later m n h
    ends_before_lem m n (more {k = k} c h) = let u = ends_before_lem m k c in let v = ends_later k n h in omega arith

    found : Exceeds p (end_at leads.trace) (t ∷ is) → Beyond p available (t ∷ is)
    found x = record { S = start_at leads.trace; C = end_at leads.trace; times = equal.timing; exceeds = x }

    place : identity (size (word_of p is)) ≡ identity (length_of is)
    place = ap identity (size_is p is)

    late_node : (n : ℕ) → n < length a → NotClaim (node a n).kind → horizon < ends n → Beyond p available (t ∷ is)
    late_node n h nc over =
        let u = leads.ends n in
        let x : horizon < end_at leads.trace (identity (size (word_of p is)) n) = omega arith in
        found (Exceeds.completion n (node a n).kind
        (subst (λ (q : ℕ → Ident). Is (whole_of p (t ∷ is)) (q n) (node a n).kind) place ((node a n).duration, own n h nc))
        (subst (λ (q : ℕ → Ident). horizon < end_at leads.trace (q n)) place x))

    late : (n : ℕ) → n < length a → horizon < ends n → (k : Kind) → (node a n).kind ≡ k → Beyond p available (t ∷ is)
    late n h over (Kind.Action x y) e = late_node n h (subst NotClaim (sym e) tt) over
    late n h over (Kind.Claim r) e =
        let m = meets.rule_VII n r (record { within = h; kind = e }) in
        let u = ends_before_lem n m.0 m.2 in
        late_node m.0 m.1.within (subst NotClaim (sym m.1.kind) tt) (omega arith)
    late n h over (Kind.Release r) e = late_node n h (subst NotClaim (sym e) tt) over
    late n h over (Kind.Event x) e = late_node n h (subst NotClaim (sym e) tt) over

    passes : Crosses p t g → Beyond p available (t ∷ is)
    passes (Crosses.completion n h over) = late n h over (node a n).kind refl
    passes (Crosses.availability r h over) =
        let x = equal.free r h in
        let u = leads.free r in
        let v = x.2 in
        found (Exceeds.availability x.0 r h x.1 (omega arith))
    passes (Crosses.position over) = found (Exceeds.position (let u = leads.position in let v = size_is p is in omega arith))

    exceeds : Beyond p available (t ∷ is) → Crosses p t g
    exceeds b = by b.exceeds
      where
        by : Exceeds p b.C (t ∷ is) → Crosses p t g
        by (Exceeds.completion n k h over) =
            let i : Is (whole_of p (t ∷ is)) (identity (size (word_of p is)) n) k = subst (λ (q : ℕ → Ident). Is (whole_of p (t ∷ is)) (q n) k) (sym place) h in
            let o : horizon < b.C (identity (size (word_of p is)) n) = subst (λ (q : ℕ → Ident). horizon < b.C (q n)) (sym place) over in
            let u = end_there b.S b.C b.times n k i.0 i.1 in
            Crosses.completion n (inside n k i.0 i.1) (omega arith)
        by (Exceeds.availability x r h i over) = let u = free_at b.S b.C b.times x r h i in Crosses.availability r h (omega arith)
        by (Exceeds.position over) = Crosses.position (let u = leads.position in let v = size_is p is in omega arith)

    pub tells_leads : Tells (taken_by p t g).beyond (Beyond p available (t ∷ is))
    tells_leads = tells_iff (passes, exceeds) (tells_crosses p t g)

-- ---- where a run stands

module _ (p : Plan) (lawful : Lawful p) (automaton : MeetsAutomaton p) (available : ℕ → ℕ) (log : Log) (laws : EngineLaws) (us : List ℕ) (g : Progress) (s : Stands p available log us g) (t : ℕ) (next : Takes p log (t ∷ us)) where
  can : Possible p t g
  can = possible p lawful automaton available log us g s t next

  adv : Advances p t g
  adv = laws.advances p lawful t g can

  pub tells_beyond : Tells (taken_by p t g).beyond (Beyond p available (t ∷ us))
  tells_beyond = tells_leads p lawful available t us g (takes_follows p log (t ∷ us) next) record {
    trace = trace p lawful available log us g s t next can.pending (pending_length p lawful automaton available log us g s) adv;
    runs = runs_on p lawful available log us g s t next can.pending (pending_length p lawful automaton available log us g s) adv;
    ends = end_on p lawful available log us g s t next can.pending (pending_length p lawful automaton available log us g s) adv;
    free = λ r. ap (λ z. z.free r) (state_on p lawful available log us g s t next can.pending (pending_length p lawful automaton available log us g s) adv);
    position = s.position ∙ sym (size_is p us);
  }
