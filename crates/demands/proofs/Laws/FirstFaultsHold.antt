-- `refused_exactly`, `unread`: 1 to 8 are answered exactly for the first faulty field of the file's description. `place_in`,
-- `local`, `cut`, `left_over`, `in_front`: where, and on which bytes it depends. From planfile/Refused and the whole verdict (VerdictsHold).
use Rattle.std.specs.Prelude.{◌≡◌, refl, List, ℕ, ◌≤◌, ◌<◌, length}
use Rattle.std.proofs.Common.{arith}
use Rattle.plan.specs.Fault.{number_of}
use Rattle.plan.specs.declared.Fault.{Fault}
use Rattle.plan.specs.declared.Plan.{Plan}
use Rattle.plan.specs.Fields as fields
use Rattle.format.specs.Format.{Format, done, field, parse, Refuses, faulty, more, Reached, short}
use Rattle.format.proofs.Laws.Reading.{fault_given, on_reached}
use Rattle.format.specs.Writing.{Agree}
use Rattle.format.proofs.Laws.Writing.{reached_agree, no_earlier, no_earlier_end}
use Rattle.plan_file.specs.PlanFile.{fault_order, plan_file}
use Rattle.plan_file.proofs.Laws.Refused as P
use Rattle.demands.specs.Verdicts.{Judged}
use Rattle.demands.proofs.Laws.VerdictsHold.{verdict, of_field, reading_numbers, activity_numbers, automaton_numbers}
use Rattle.demands.specs.FirstFaults.{StatementRefusedExactly, StatementUnread, StatementPlaceIn, StatementLocal, StatementCut, StatementLeftOver, StatementInFront}

pub refused_exactly : StatementRefusedExactly
refused_exactly b f k bytes = P.refused_exactly b bytes f k

-- a number up to 8 is no activity's and no automaton's
of_reading : (b : List ℕ) (f : Fault) (k : ℕ) → number_of f ≤ 8 → Judged b (fields.faulty f k) → Refuses 1 fault_order 6 b plan_file (number_of f) k
of_reading b f k h (Judged.reading x) = x
of_reading b f k h (Judged.activity {p} g x) = absurd (omega (arith, (activity_numbers p f k x).0))
of_reading b f k h (Judged.automaton {p} g m x) = absurd (omega (arith, (automaton_numbers p f k x).0))

pub unread : StatementUnread
unread b f k bytes = (
  λ h. of_reading b f k h.1 ((verdict b (fields.faulty f k) bytes).0 h.0),
  λ r. ((verdict b (fields.faulty f k) bytes).1 (Judged.reading r), (reading_numbers b (number_of f) k r).1),
)

pub place_in : StatementPlaceIn
place_in b f k bytes h = P.place_in b bytes f k ((P.refused_exactly b bytes f k).1 ((unread b f k bytes).0 h))

pub local : StatementLocal
local b c f k bytes others r l g = (unread c f k others).1 ((P.refused_exactly c others f k).0 (P.local b c bytes others f k r l g))

pub cut : StatementCut
cut b c f k bytes others r l g =
    (unread c Fault.Ends k others).1
    (faulty (record {
      width = r.width;
      get = r.get;
      rules = r.rules;
      rest = r.rest;
      reached = reached_agree 1 fault_order b c plan_file 0 k g (field r.width r.get r.rules r.rest) k r.reached (omega arith);
      faulty = short l;
    }))

-- what is due at the place of a refusal, in b and so in c
record Due (b : List ℕ) (k : ℕ) : Type 0 where
  pub due : Format Plan Plan
  pub reached : Reached fault_order b plan_file 0 due k

due : (b : List ℕ) (n k : ℕ) → Refuses 1 fault_order 6 b plan_file n k → Due b k
due b n k (faulty r) = record { due = field r.width r.get r.rules r.rest; reached = r.reached }
due b n k (more a r l) = record { due = done a; reached = r }

module _ (b c : List ℕ) (k : ℕ) (agree : Agree k b c) where
  left : (n : ℕ) → n ≡ 6 → Refuses 1 fault_order 6 b plan_file n k → k < length c → Refuses 1 fault_order 6 c plan_file 6 k
  left n e (faulty r) l = absurd ((of_field b r.width k r.rules n r.faulty).2 e)
  left n e (more a r h) l = more a (reached_agree 1 fault_order b c plan_file 0 k agree (done a) k r (omega arith)) l

  earlier : (n m j : ℕ) → Refuses 1 fault_order 6 b plan_file n k → Refuses 1 fault_order 6 c plan_file m j → k ≤ j
  unfolding parse
  earlier n m j x y = go (due b n k x) m y
    where
      go : Due b k → (m : ℕ) → Refuses 1 fault_order 6 c plan_file m j → k ≤ j
      go d m (faulty q) =
          no_earlier 1 fault_order c plan_file 0 d.due k m j (reached_agree 1 fault_order b c plan_file 0 k agree d.due k d.reached (omega arith)) (fault_given 1 fault_order c plan_file 0 m j q)
      go d m (more a q l) =
          no_earlier_end 1 fault_order c plan_file 0 d.due k a j (reached_agree 1 fault_order b c plan_file 0 k agree d.due k d.reached (omega arith)) (on_reached 1 fault_order c plan_file 0 (done a) j q)

pub left_over : StatementLeftOver
left_over b c k bytes others h agree l = (unread c Fault.LeftOver k others).1 (left b c k agree 6 refl ((unread b Fault.LeftOver k bytes).0 h) l)

pub in_front : StatementInFront
in_front b c f g k j bytes others h agree i = earlier b c k agree (number_of f) (number_of g) j ((unread b f k bytes).0 h) ((unread c g j others).0 i)
