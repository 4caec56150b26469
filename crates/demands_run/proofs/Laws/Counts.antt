-- A transition that the log takes can be taken where the run stands: what it processes is pending, and no queue overflows.
use Rattle.std.specs.Prelude.{◌≡◌, refl, Bool, true, false, cond, List, [], ◌∷◌, ◌++◌, map, ℕ, ◌+◌, ◌*◌, ◌≤◌, ◌<◌, eqb, length}
use Rattle.std.proofs.Common.{subst, eqb-true, arith, length-append}
use Rattle.std.proofs.lemmas.List.{length-map}
use Rattle.basis.proofs.Laws.Lists.{fewer}
use Rattle.basis.proofs.Laws.PartsHold.{length_part}
use Rattle.plan.specs.Plan.{move, emitted_by, events_in, outcomes_of, resource_of}
use Rattle.plan.specs.declared.Input.{Input}
use Rattle.plan.specs.declared.Plan.{Plan}
use Rattle.automaton.specs.Rules.{MeetsAutomaton}
use Rattle.times_combined.specs.Word.{once, times, emissions}
use Rattle.times_combined.specs.Combined.{Ident, Graph}
use Rattle.times_combined.specs.Paths.{word_of, Follows, Lawful}
use Rattle.times_combined.proofs.Laws.Instances.{Listing}
use Rattle.times_combined.proofs.Laws.Counts.{listed}
use Rattle.times_combined.proofs.Laws.Plans.{good_path}
use Rattle.times.specs.Queues.{no_instance, pending_of, queue_of}
use Rattle.times.specs.declared.Instance.{Instance}
use Rattle.times.specs.declared.Progress.{Progress}
use Rattle.times_equal.proofs.Laws.Seen.{Pending}
use Rattle.demands_log.specs.Log.{Log}
use Rattle.demands_theory.specs.TheWord.{state_after, whole_of, Takes}
use Rattle.demands_theory.proofs.Laws.TheWord.{takes_follows}
use Rattle.demands_theory.proofs.Laws.Along.{few_pending}
use Rattle.demands_run.proofs.Laws.Engine.{rest, remaining, Possible}
use Rattle.demands_run.proofs.Laws.Stands.{ident_of, Queued, Stands}

-- ---- the queues

listing_length : (G : Graph) (e : ℕ) (xs ys : List Ident) → Listing G e xs → Listing G e ys → length xs ≡ length ys
listing_length G e xs ys a b =
    let u = fewer xs ys a.distinct (λ x m. b.only x (a.all x m)) in
    let v = fewer ys xs b.distinct (λ x m. a.only x (b.all x m)) in
    omega arith

rest_length : (q : List Instance) → 0 < length q → length (rest q) + 1 ≡ length q
rest_length [] l = absurd (omega arith)
rest_length (x ∷ q) l = omega arith

-- so many of e are pending after a word as it emitted and did not process
pub queued_length : (p : Plan) (lawful : Lawful p) (log : Log) (is : List ℕ) → Takes p log is → (m e : ℕ) (l : List Instance) → Queued (whole_of p is) log m e (times e (word_of p is)) l → length l + times e (word_of p is) ≡ emissions e (word_of p is)
queued_length p lawful log is taken m e l q =
    let o = listed p.resources (resource_of p) e (word_of p is) (good_path p lawful p.automaton.initial is (state_after p is) (takes_follows p log is taken)) in
    let u = listing_length (whole_of p is) e (q.past ++ map ident_of l) o.0 q.listing o.1 in
    let v = length-append q.past (map ident_of l) in
    let n = length-map l ident_of in
    let c = q.count in
    let z = o.2 in
    omega arith

module _ (p : Plan) (lawful : Lawful p) (automaton : MeetsAutomaton p) (available : ℕ → ℕ) (log : Log) (is : List ℕ) (g : Progress) (s : Stands p available log is g) where
  pub queue_length : (e : ℕ) → length (queue_of g e) + times e (word_of p is) ≡ emissions e (word_of p is)
  queue_length e = queued_length p lawful log is s.taken (outcomes_of p e) e (queue_of g e) (s.queues e)

  pub pending_length : (e : ℕ) → length (queue_of g e) ≡ pending_of g e
  pending_length e = length_part no_instance g.pending (8 * e) (pending_of g e)

  -- "at most 8 of one event are pending at a state"
  pub pending_few : (e : ℕ) → pending_of g e ≤ 8
  pending_few e =
      let u = few_pending p automaton.few is (state_after p is) e (takes_follows p log is s.taken) in
      let v = queue_length e in
      let m = pending_length e in
      omega arith

  module _ (t : ℕ) (next : Takes p log (t ∷ is)) where
    follows : Follows p p.automaton.initial (t ∷ is) (state_after p (t ∷ is))
    follows = takes_follows p log (t ∷ is) next

    processes : (i : Input) → (move p.automaton t).input ≡ i → Pending i g
    processes Input.Nothing q = tt
    processes (Input.Outcome e o) q =
        let u = lawful.automaton is t e o follows.0 follows.1.0 q in
        let v = queue_length e in
        let m = pending_length e in
        omega arith

    fits : (e : ℕ) (i : Input) → Pending i g → emissions e (word_of p is) + events_in e (emitted_by p (move p.automaton t).output) ≤ 8 + (times e (word_of p is) + once e i)
        → length (remaining i g e) + events_in e (emitted_by p (move p.automaton t).output) ≤ 8
    fits e Input.Nothing h l = let v = queue_length e in omega arith
    fits e (Input.Outcome f o) h l = go (eqb f e) refl l
      where
        go : (b : Bool) → eqb f e ≡ b → emissions e (word_of p is) + events_in e (emitted_by p (move p.automaton t).output) ≤ 8 + (times e (word_of p is) + cond b 1 0)
            → length (cond b (rest (queue_of g e)) (queue_of g e)) + events_in e (emitted_by p (move p.automaton t).output) ≤ 8
        go true q l =
            let z : f ≡ e = eqb-true f e q in
            let h1 : 0 < pending_of g e = subst (λ (n : ℕ). 0 < pending_of g n) z h in
            let m = pending_length e in
            let v = queue_length e in
            let r = rest_length (queue_of g e) (omega arith) in
            omega arith
        go false q l = let v = queue_length e in omega arith

    few : (e : ℕ) → emissions e (word_of p (t ∷ is)) ≤ 8 + times e (word_of p (t ∷ is))
    few e = let u = few_pending p automaton.few (t ∷ is) (state_after p (t ∷ is)) e follows in omega arith

    pub possible : Possible p t g
    possible = record {
      low = follows.1.0;
      sized = s.sized;
      within = s.within;
      pending = processes (move p.automaton t).input refl;
      few = pending_few;
      room = λ e. fits e (move p.automaton t).input (processes (move p.automaton t).input refl) (few e);
    }
