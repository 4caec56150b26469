-- A call that tells nothing: what holds of the calls before it still holds.
use Rattle.std.specs.Prelude.{List, ◌∷◌, ℕ}
use Rattle.std.proofs.Common.{inr, ⊎_elim}
use Rattle.plan.specs.declared.Plan.{Plan}
use Rattle.times.specs.declared.Told.{Told}
use Rattle.times.specs.declared.Instance.{Instance}
use Rattle.times.specs.declared.Progress.{Progress}
use Rattle.times_combined.specs.Combined.{Graph}
use Rattle.run.specs.declared.Call.{Call}
use Rattle.run.specs.declared.Reply.{Reply}
use Rattle.demands_log.specs.Log.{Id, Log, Said, said, Accepts, Tells, Reports}
use Rattle.demands_log.specs.Log as Log
use Rattle.demands_theory.specs.TheWord.{Takes, none, goes, hears, Stuck, ended, waits}
use Rattle.demands_theory.specs.Loading.{Onward, PathBeyond, PathFull}
use Rattle.demands_run.proofs.Laws.Stands.{id_of, ToldAs, Queued, Stands}

-- what a longer log tells it takes
pub takes_more : (p : Plan) (log : Log) (y : Said) (is : List ℕ) → Takes p log is → Takes p (y ∷ log) is
takes_more p log y is none = none
takes_more p log y is (goes h e) = goes (takes_more p log y _ h) e
takes_more p log y is (hears e o x h n old told c) = hears e o x (takes_more p log y _ h) n old (inr told) c

-- nothing is told by a call whose answer is no acceptance
pub tells_not : (c : Call) (r : Reply) (log : Log) → (Accepts r log → ⊥) → (x : Id) (o : ℕ) → Tells c r log x o → ⊥
tells_not (Call.Ask t) r log h x o q = q
tells_not (Call.Completion t p n) r log h x o q = q
tells_not (Call.Outcome t p n u) r log h x o q = h q.2

module _ (c : Call) (r : Reply) (log : Log) where
  abbrev Silent : Id → Type 0
  Silent x = (o : ℕ) → Tells c r log x o → ⊥

  pub told_later : (x : Id) (t : Told) → Silent x → ToldAs log x t → ToldAs (said c r ∷ log) x t
  told_later x Told.Nothing s h = λ o. ⊎_elim (λ q. s o q) (λ q. h o q)
  told_later x (Told.Outcome o) s h = inr h

  pub stuck_later : (p : Plan) (is : List ℕ) → ((x : Id) → Silent x) → Stuck p log is → Stuck p (said c r ∷ log) is
  stuck_later p is s (ended e) = ended e
  stuck_later p is s (waits e n h) = waits e n (λ x o old. ⊎_elim (λ q. s x o q) (λ q. h x o old q))

  -- it takes no more, and the next path after us stays what it is
  takes_less : (p : Plan) (is : List ℕ) → ((x : Id) → Silent x) → Takes p (said c r ∷ log) is → Takes p log is
  takes_less p is s none = none
  takes_less p is s (goes h e) = goes (takes_less p _ s h) e
  takes_less p is s (hears e o x h n old told m) = hears e o x (takes_less p _ s h) n old (⊎_elim (λ q. absurd (s x o q)) (λ q. q) told) m

  onward_later : (p : Plan) (us vs : List ℕ) → Onward p log us vs → Onward p (said c r ∷ log) us vs
  onward_later p us vs o = record { first = o.first; taken = takes_more p log (said c r) (o.first ∷ us) o.taken; silent = o.silent }

  pub beyond_later : (p : Plan) (available : ℕ → ℕ) (us : List ℕ) → PathBeyond p available log us → PathBeyond p available (said c r ∷ log) us
  beyond_later p available us y = record { at = y.at; onward = onward_later p us y.at y.onward; beyond = y.beyond }

  pub full_later : (p : Plan) (available : ℕ → ℕ) (us : List ℕ) → ((x : Id) → Silent x) → ((x : Id) → Reports c r log x → ⊥) → PathFull p available log us → PathFull p available (said c r ∷ log) us
  full_later p available us s n y =
      let m = y.many in
      record {
        path = y.path;
        next = record { onward = onward_later p us y.path y.next.onward; rests = y.next.rests };
        within = λ z. y.within (record { at = z.at; onward = record { first = z.onward.first; taken = takes_less p (z.onward.first ∷ us) s z.onward.taken; silent = z.onward.silent }; beyond = z.beyond });
        many = record { nodes = m.nodes; distinct = m.distinct; wait = λ x a. let w = m.wait x a in record { node = w.node; unreported = ⊎_elim (λ q. n x q) (λ q. w.unreported q) }; many = m.many };
      }

  pub queued_later : (G : Graph) (m e n : ℕ) (q : List Instance) → ((x : Id) → Silent x) → Queued G log m e n q → Queued G (said c r ∷ log) m e n q
  queued_later G m e n q s h = record { past = h.past; count = h.count; listing = h.listing; told = λ x k several. told_later (id_of x) x.told (s (id_of x)) (h.told x k several) }

  pub stands_later : (p : Plan) (available : ℕ → ℕ) (is : List ℕ) (g : Progress) → ((x : Id) → Silent x) → Stands p available log is g → Stands p available (said c r ∷ log) is g
  stands_later p available is g s h = record {
    trace = h.trace;
    runs = h.runs;
    state = h.state;
    queues = λ e. queued_later _ _ e _ _ s (h.queues e);
    place = h.place;
    position = h.position;
    sized = h.sized;
    within = h.within;
    taken = takes_more p log (said c r) is h.taken;
    known = λ x o. ⊎_elim (λ q. absurd (s x o q)) (λ q. h.known x o q);
  }
