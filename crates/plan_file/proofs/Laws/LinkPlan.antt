-- The whole file: reading gives the description's answer for every list of bytes.
use Rattle.std.specs.Prelude.{◌≡◌, Bool, Result, Ok, Err, get_or, set, replicate}
use Rattle.std.proofs.Math.Path.{refl, ap}
use Rattle.std.proofs.Common.{sym, ◌∙◌, arith}
use Rattle.std.proofs.Math.Bool.{true, false, cond, not}
use mathlib.Core.List.{List, [], ◌∷◌, ◌++◌, map}
use Prim.Native.Nat.{ℕ, zero, suc, ◌+◌, ◌*◌, ◌≤◌, ◌<◌}
use Rattle.std.proofs.Math.Numerals.{add-one}
use Rattle.std.proofs.Math.Decide.{dec_lt}
use Rattle.std.proofs.Math.ListN.{length}
use Rattle.std.proofs.lemmas.List.Edits.{sets}
use Rattle.std.proofs.Math.Dec.{eqb}
use borrow.Author.Tests.{le-leb, lt-leb, le-ltb, lt-ltb, eqb-true}
use Rattle.wire.specs.Number.{little}
use Rattle.wire.specs.Number as wire
use Rattle.wire.specs.Map.{bit}
use Rattle.format.specs.Format.{◌when◌, Format, done, number, ◌>>=◌, part_of, each, first, Answer, read, refused, on_found, on_answer, parse, parse_all}
use Rattle.format.specs.Writing.{Bytes}
use Rattle.format.proofs.Laws.Format.{parse_then, parse_part, parse_assoc, parse_each}
use Rattle.plan.specs.declared.Fault.{Fault}
use Rattle.plan.specs.declared.FaultAt.{FaultAt}
use Rattle.plan.specs.declared.Node.{Node}
use Rattle.plan.specs.declared.Automaton.{Automaton}
use Rattle.plan.specs.declared.Plan.{Plan}
use Rattle.plan.specs.declared.fields.Peripherals.{Peripherals}
use Rattle.plan.specs.declared.fields.Events.{Events}
use Rattle.plan.specs.declared.fields.Activities.{Activities}
use Rattle.plan.specs.Fault.{number_of}
use Rattle.plan.specs.Plan.{size_of, resource_of, outcomes_of}
use Rattle.plan.specs.Limits.{node_at}
use Rattle.plan.specs.Fields.{Read, found, faulty, and_then, byte_at}
use Rattle.plan.specs.Nodes.{zero_node}
use Rattle.plan.specs.Nodes as nodes
use Rattle.plan.specs.Sections.{belongs_at, peripherals_at, outcomes_at, events_at, nodes_then, activities_loop, activities_at}
use Rattle.plan.specs.Moves.{automaton_at}
use Rattle.plan.specs.Reading as reading
use Rattle.plan.specs.Reading.{sections_at, ended_at, with_activities, with_events, with_peripherals, plan_at, read_plan}
use Rattle.plan_file.proofs.Laws.Basis.{three, four, filled_at}
use Rattle.plan_file.proofs.Laws.Link.{told, on_field_lem, on_count_lem, on_optional_count, on_numbers}
use Rattle.plan_file.proofs.Laws.LinkNode.{node_link}
use Rattle.plan_file.proofs.Laws.LinkMoves.{automaton_link}
use Rattle.plan_file.proofs.Laws.Stages.{last, lastly, acting, outcoming, eventing, belonging, having, resourced, mapped}
use Rattle.plan_file.specs.PlanFile.{section_map, fault_order, outside, count, node, activity, automaton, laid, plan_file, plan_of, padded}

-- the answer of the description for the reader's, which reads to the end of the bytes or refuses
abbrev pub telling : ℕ → Result Plan FaultAt → Answer Plan
telling end (Ok p) = read p end
telling end (Err e) = refused (number_of e.fault) e.place

module _ (b : List ℕ) (bytes : Bytes b) where
  abbrev pub told_plan : Result Plan FaultAt → Answer Plan
  told_plan = telling (length b)

  abbrev W : Answer Plan → Answer Plan
  W r = on_answer r (λ a next. cond (eqb next (length b)) (read a next) (refused 6 next)) refused

  abbrev still : (n p : ℕ) → W (refused n p) ≡ refused n p
  still n p = refl

  abbrev at_place : Format Plan Plan → ℕ → Answer Plan
  at_place t at = W (parse 1 fault_order b t at)

  module _ (peripherals resources events : ℕ) (T : Read Activities → Answer Plan) (bad : (f : Fault) (p : ℕ) → refused (number_of f) p ≡ T (faulty f p)) where
    abbrev item : ℕ → ℕ → ℕ → Format Plan Node
    item a size n = part_of (λ p. node_at p a n) (node peripherals resources events size)

    on_nodes : (follow : ℕ → List Node → Read Activities) (a size k at i j : ℕ) (ns : List Node) (rest : List Node → Format Plan Plan)
        → ((xs : List Node) (next : ℕ) → length xs ≡ k → at_place (rest xs) next ≡ T (follow next (sets ns i xs)))
        → at_place (each (item a size) j k >>= rest) at ≡ T (nodes_then peripherals resources events b follow size k at i ns)
    unfolding nodes_then
    on_nodes follow a size zero at i j ns rest fine = fine [] at refl
    on_nodes follow a size (suc k) at i j ns rest fine =
        ap W (parse_each 1 fault_order b (item a size) j k rest at)
        ∙ rw (parse_part 1 fault_order b (λ p. node_at p a j) (node peripherals resources events size) at, node_link b bytes peripherals resources events size at)
        (go (nodes.node_at peripherals resources events size b at)
        (λ n next. on_nodes follow a size k next (i + 1) (j + 1) (set ns i n) (λ more. rest (n ∷ more)) (λ xs end e. rw (add-one i) (fine (n ∷ xs) end (ap suc e)))))
      where
        go : (r : Read Node)
            → ((n : Node) (next : ℕ)
            → at_place (each (item a size) (j + 1) k >>= λ more. rest (n ∷ more)) next ≡ T (nodes_then peripherals resources events b follow size k next (i + 1) (set ns i n)))
            → W (on_answer (told r) (λ n next. parse 1 fault_order b (each (item a size) (j + 1) k >>= λ more. rest (n ∷ more)) next) refused)
            ≡ T (and_then r (λ n next. nodes_then peripherals resources events b follow size k next (i + 1) (set ns i n)))
        go (Ok x) ih = ih x.0 x.1
        go (Err e) ih = bad e.fault e.place

    on_activities : (c k at a : ℕ) (sizes : List ℕ) (ns : List Node) (rest : List (List Node) → Format Plan Plan)
        → ((bodies : List (List Node)) (next : ℕ) → length bodies ≡ k
        → at_place (rest bodies) next ≡ T (found (record { count = c; sizes = sets sizes a (map length bodies); nodes = laid a bodies ns }) next))
        → at_place (each (activity peripherals resources events) a k >>= rest) at ≡ T (activities_loop peripherals resources events b c k at a sizes ns)
    unfolding activities_loop
    on_activities c zero at a sizes ns rest fine = fine [] at refl
    on_activities c (suc k) at a sizes ns rest fine =
        on_count_lem b bytes W still
        (λ r.
        T (and_then r (λ size next. nodes_then peripherals resources events b (λ after filled. activities_loop peripherals resources events b c k after (a + 1) (set sizes a size) filled) size size next (64 * a) ns)))
        bad 64 (λ p. size_of p a)
        (λ size. (each (item a size) 0 size >>= λ body. each (activity peripherals resources events) (a + 1) k >>= λ more. done (body ∷ more)) >>= rest) at
        (λ size h.
        ap W (parse_assoc 1 fault_order b (each (item a size) 0 size) (λ body. each (activity peripherals resources events) (a + 1) k >>= λ more. done (body ∷ more)) rest (at + 1))
        ∙ on_nodes (λ after filled. activities_loop peripherals resources events b c k after (a + 1) (set sizes a size) filled) a size size (at + 1) (64 * a) 0 ns
        (λ body. (each (activity peripherals resources events) (a + 1) k >>= λ more. done (body ∷ more)) >>= rest)
        (λ body next e.
        ap W (parse_assoc 1 fault_order b (each (activity peripherals resources events) (a + 1) k) (λ more. done (body ∷ more)) rest next)
        ∙ on_activities c k next (a + 1) (set sizes a size) (sets ns (64 * a) body) (λ more. rest (body ∷ more))
        (λ more end d. fine (body ∷ more) end (ap suc d) ∙ rw (e, add-one a))))

  ended : (p : Plan) (next : ℕ) → cond (eqb next (length b)) (read p next) (refused 6 next) ≡ told_plan (ended_at b next p)
  unfolding ended_at
  ended p next = go (eqb next (length b)) refl
    where
      go : (t : Bool) → eqb next (length b) ≡ t → cond (eqb next (length b)) (read p next) (refused 6 next) ≡ told_plan (ended_at b next p)
      go true e = rw (e, eqb-true next (length b) e)
      go false e = rw e

  abbrev peripherals_of : ℕ → List ℕ → Peripherals
  peripherals_of c belongs = record { count = c; belongs = belongs }

  abbrev events_of : ℕ → List ℕ → Events
  events_of c outcomes = record { count = c; outcomes = outcomes }

  -- the last section and the end of the file
  module _ (resources peripherals : ℕ) (belongs : List ℕ) (events : ℕ) (outcomes : List ℕ) (activities : ℕ) (bodies : List (List Node))
      (few : events < 17) (all : length outcomes ≡ events) where
    abbrev before : Automaton → ℕ → Result Plan FaultAt
    before t next =
        ended_at b next
        (reading.plan_of resources (peripherals_of peripherals (padded 64 0 belongs)) (events_of events (padded 16 0 outcomes))
        (record { count = activities; sizes = padded 32 0 (map length bodies); nodes = laid 0 bodies (replicate 2048 zero_node) }) t)

    same : (e : ℕ) → e < events → get_or outcomes e 0 ≡ get_or (padded 16 0 outcomes) e 0
    same e h =
        let z : 0 + e ≡ e = omega arith in
        sym (filled_at 0 outcomes (replicate 16 0) 0 e (omega arith) (omega arith)) ∙ ap (λ (k : ℕ). get_or (padded 16 0 outcomes) k 0) z

    ending : (next : ℕ) → at_place (lastly resources peripherals belongs events outcomes activities bodies) next ≡ told_plan (and_then (automaton_at events (padded 16 0 outcomes) activities b next) before)
    unfolding ended_at parse
    ending next =
        ap W (parse_then 1 fault_order b (part_of (λ p. p.automaton) (automaton events outcomes activities)) (last resources peripherals belongs events outcomes activities bodies) next)
        ∙ rw (parse_part 1 fault_order b (λ (p : Plan). p.automaton) (automaton events outcomes activities) next, automaton_link b bytes events outcomes (padded 16 0 outcomes) activities same next)
        (go (automaton_at events (padded 16 0 outcomes) activities b next))
      where
        go : (r : Read Automaton)
            → W (on_answer (told r) (λ a next. parse 1 fault_order b (last resources peripherals belongs events outcomes activities bodies a) next) refused) ≡ told_plan (and_then r before)
        go (Ok x) = ended _ x.1
        go (Err e) = refl

  -- reading is what the description says, for every list of bytes
  sections : (m : ℕ) → at_place (mapped m) 1 ≡ told_plan (plan_at b m 1)
  unfolding plan_at with_peripherals with_events with_activities peripherals_at events_at activities_at belongs_at outcomes_at
  sections m =
      on_optional_count b bytes W still (λ r. told_plan (and_then r (λ resources next. and_then (peripherals_at m resources b next) (with_peripherals b m resources)))) (λ f p. refl) 16 (λ p. p.resources)
      (resourced m) (bit 0 m) 1
      (λ resources p0 h0.
      on_optional_count b bytes W still (λ r. told_plan (and_then (and_then r (λ c next. belongs_at resources c b next)) (with_peripherals b m resources))) (λ f p. refl) 64 (λ p. p.peripherals)
      (having m resources) (bit 1 m) p0
      (λ peripherals p1 h1.
      on_numbers b bytes W still (λ x. told_plan (and_then x (with_peripherals b m resources))) (λ f p. refl) 4 Fault.Names refl four 0 resources (λ x p. resource_of p x)
      (λ next belongs. found (peripherals_of peripherals belongs) next) peripherals p1 0 (replicate 64 0) (belonging m resources peripherals)
      (λ belongs p2 e2.
      let x = peripherals_of peripherals (padded 64 0 belongs) in
      on_optional_count b bytes W still (λ r. told_plan (and_then (and_then r (λ c next. outcomes_at c b next)) (with_events b m resources x))) (λ f p. refl) 16
      (λ p. p.events) (eventing m resources peripherals belongs) (bit 2 m) p2
      (λ events p3 h3.
      on_numbers b bytes W still (λ e. told_plan (and_then e (with_events b m resources x))) (λ f p. refl) 3 Fault.Count refl three 1 9
      (λ e p. outcomes_of p e) (λ next outcomes. found (events_of events outcomes) next) events p3 0 (replicate 16 0) (outcoming m resources peripherals belongs events)
      (λ outcomes p4 e4.
      let e = events_of events (padded 16 0 outcomes) in
      on_optional_count b bytes W still
      (λ r. told_plan (and_then (and_then r (λ c next. activities_loop peripherals resources events b c c next 0 (replicate 32 0) (replicate 2048 zero_node))) (with_activities b resources x e)))
      (λ f p. refl) 32 (λ p. p.activities) (acting resources peripherals belongs events outcomes) (bit 3 m) p4
      (λ activities p5 h5.
      on_activities peripherals resources events (λ a. told_plan (and_then a (with_activities b resources x e))) (λ f p. refl) activities activities p5 0 (replicate 32 0)
      (replicate 2048 zero_node) (lastly resources peripherals belongs events outcomes activities)
      (λ bodies p6 e6. ending resources peripherals belongs events outcomes activities bodies h3 e4 p6)))))))

  pub plan_link : plan_of b ≡ told_plan (read_plan b)
  unfolding plan_of parse_all plan_file read_plan sections_at byte_at wire.number
  plan_link =
      on_field_lem b bytes W still 1 section_map (λ m. 2 when outside 0 32 m ++ 7 when not (bit 4 m)) mapped 0 (told_plan (read_plan b))
      (λ h. rw (lt-leb (0 + 1) (length b) h))
      (λ h. there h (little 1 b 0) refl)
    where
      there : 0 + 1 ≤ length b → (x : ℕ) → little 1 b 0 ≡ x
          → on_found (first fault_order (2 when outside 0 32 x ++ 7 when not (bit 4 x))) (at_place (mapped x) (0 + 1)) (λ n. refused n 0) ≡ told_plan (read_plan b)
      there h x e =
          elim (dec_lt x 32) [
            | no u ↦ rw (le-leb (0 + 1) (length b) h, e, le-leb 0 x (omega arith), le-ltb x 32 (omega arith))
            | yes u ↦ bits (bit 4 x) refl u
          ]
        where
          bits : (t : Bool) → bit 4 x ≡ t → x < 32 → on_found (first fault_order (2 when outside 0 32 x ++ 7 when not (bit 4 x))) (at_place (mapped x) (0 + 1)) (λ n. refused n 0) ≡ told_plan (read_plan b)
          bits true f u = rw (le-leb (0 + 1) (length b) h, e, le-leb 0 x (omega arith), lt-ltb x 32 u, f) (sections x)
          bits false f u = rw (le-leb (0 + 1) (length b) h, e, le-leb 0 x (omega arith), lt-ltb x 32 u, f)
