-- The automaton: the reader's answer is the description's.
use Rattle.std.specs.Prelude.{◌≡◌, Bool, true, false, cond, Ok, Err, get_or, set, replicate}
use Rattle.std.proofs.Math.Path.{refl}
use Rattle.std.proofs.Common.{◌∙◌, add-one}
use mathlib.Core.List.{List, [], ◌∷◌}
use Prim.Native.Nat.{ℕ, zero, suc, ◌+◌, ◌^◌, ◌<◌}
use Rattle.std.proofs.lemmas.List.Edits.{sets}
use Rattle.wire.specs.Map.{bit}
use Rattle.format.specs.Format.{Format, ◌>>=◌, part_of, optional, each, Answer, read, refused, on_answer, parse}
use Rattle.format.specs.Writing.{Bytes}
use Rattle.format.proofs.Laws.Format.{parse_part, parse_each}
use Rattle.plan.specs.declared.Fault.{Fault}
use Rattle.plan.specs.declared.Input.{Input}
use Rattle.plan.specs.declared.Output.{Output}
use Rattle.plan.specs.declared.Transition.{Transition}
use Rattle.plan.specs.declared.Automaton.{Automaton}
use Rattle.plan.specs.Fault.{number_of}
use Rattle.plan.specs.Plan.{past_move, move}
use Rattle.plan.specs.Fields.{Read, found, faulty, and_then, byte_at, name_at}
use Rattle.plan.specs.Moves.{outcome_at, input_at, output_at, move_with, move_from, move_at, finals_at, move_count_at, moves_loop, moves_at, automaton_at}
use Rattle.plan_file.proofs.Laws.Basis.{two, three, four}
use Rattle.plan_file.proofs.Laws.Link.{told, on_number, on_name, on_count_lem}
use Rattle.plan_file.proofs.Laws.Stages.{move_last, inputs, both, end, turns, finally, begun}
use Rattle.plan_file.specs.PlanFile.{move_map, fault_order, count, name, event, outcome, emitted, transition, automaton, processing, emitting}

module _ (b : List ℕ) (bytes : Bytes b) (events : ℕ) (outcomes outs : List ℕ) (activities : ℕ) (same : (e : ℕ) → e < events → get_or outcomes e 0 ≡ get_or outs e 0) where
  abbrev W : Answer Transition → Answer Transition
  W r = r

  abbrev still : (n p : ℕ) → W (refused n p) ≡ refused n p
  still n p = refl

  abbrev at_place : Format Transition Transition → ℕ → Answer Transition
  at_place t at = parse 1 fault_order b t at

  abbrev bad : (f : Fault) (p : ℕ) → refused (number_of f) p ≡ told {A = Transition} (faulty f p)
  bad f p = refl

  on_input_lem : (T : Read Input → Answer Transition) → ((f : Fault) (p : ℕ) → refused (number_of f) p ≡ T (faulty f p)) → (rest : Input → Format Transition Transition)
      → ((i : Input) (next : ℕ) → at_place (rest i) next ≡ T (found i next)) → (stands : Bool) (at : ℕ)
      → at_place (optional stands Input.Nothing (processing events outcomes activities) >>= rest) at ≡ T (cond stands (outcome_at events outs b at) (found Input.Nothing at))
  on_input_lem T bad rest fine false at = fine Input.Nothing at
  on_input_lem T bad rest fine true at =
      on_name b bytes W still
      (λ r. T (and_then r (λ e next. and_then (name_at (get_or outs e 0) b next) (λ o end. found (Input.Outcome e o) end)))) bad events
      (λ t. event t.input) (λ e. name (get_or outcomes e 0) (λ t. outcome t.input) >>= λ o. rest (Input.Outcome e o)) at
      (λ e h.
      rw (same e h)
      (on_name b bytes W still (λ r. T (and_then r (λ o end. found (Input.Outcome e o) end))) bad (get_or outs e 0) (λ t. outcome t.input) (λ o. rest (Input.Outcome e o)) (at + 1)
      (λ o i. fine (Input.Outcome e o) (at + 1 + 1))))

  on_output_lem : (T : Read Output → Answer Transition) → ((f : Fault) (p : ℕ) → refused (number_of f) p ≡ T (faulty f p)) → (rest : Output → Format Transition Transition)
      → ((i : Output) (next : ℕ) → at_place (rest i) next ≡ T (found i next)) → (stands : Bool) (at : ℕ)
      → at_place (optional stands Output.Empty (emitting events outcomes activities) >>= rest) at
      ≡ T (cond stands (and_then (name_at activities b at) (λ a end. found (Output.Activity a) end)) (found Output.Empty at))
  on_output_lem T bad rest fine false at = fine Output.Empty at
  on_output_lem T bad rest fine true at =
      on_name b bytes W still (λ r. T (and_then r (λ a end. found (Output.Activity a) end))) bad activities (λ t. emitted t.output) (λ a. rest (Output.Activity a)) at
      (λ a h. fine (Output.Activity a) (at + 1))

  pub move_link : (states at : ℕ) → at_place (transition events outcomes activities states) at ≡ told (move_at states events outs activities b at)
  unfolding move_at move_from move_with input_at output_at byte_at parse
  move_link states at =
      on_number b bytes W still found faulty (λ r. told (and_then r (move_from states events outs activities b))) bad 2 Fault.Map refl two 1 0 4 move_map
      (λ m. name states (λ t. t.from) >>= λ from. name states (λ t. t.to) >>= λ to. both events outcomes activities m from to) at
      (λ m h.
      on_name b bytes W still
      (λ r. told (and_then r (λ from next. and_then (name_at states b next) (λ to after. move_with events outs activities b m from to after)))) bad states
      (λ t. t.from) (λ from. name states (λ t. t.to) >>= λ to. both events outcomes activities m from to) (at + 1)
      (λ from h.
      on_name b bytes W still (λ r. told (and_then r (λ to after. move_with events outs activities b m from to after))) bad states (λ t. t.to) (both events outcomes activities m from) (at + 1 + 1)
      (λ to h.
      on_input_lem
      (λ r.
      told (and_then r (λ input next. and_then (output_at m activities b next) (λ output end. found (record { from = from; to = to; input = input; output = output }) end))))
      bad (inputs events outcomes activities m from to)
      (λ i next.
      on_output_lem (λ r. told (and_then r (λ output end. found (record { from = from; to = to; input = i; output = output }) end))) bad (move_last events outcomes activities from to i) (λ o end. refl)
      (bit 1 m) next)
      (bit 0 m) (at + 1 + 1 + 1))))

  abbrev same_answer : Answer Automaton → Answer Automaton
  same_answer r = r

  abbrev stays : (n p : ℕ) → same_answer (refused n p) ≡ refused n p
  stays n p = refl

  module _ (states initial finals c : ℕ) where
    abbrev item : ℕ → Format Automaton Transition
    item i = part_of (λ a. move a i) (transition events outcomes activities states)

    on_moves : (k at i j : ℕ) (moves : List Transition) (rest : List Transition → Format Automaton Automaton)
        → ((xs : List Transition) (next : ℕ)
        → parse 1 fault_order b (rest xs) next ≡ read (record { states = states; initial = initial; finals = finals; count = c; moves = sets moves i xs }) next)
        → parse 1 fault_order b (each item j k >>= rest) at ≡ told (moves_loop events outs activities b states initial finals c k at i moves)
    unfolding moves_loop
    on_moves zero at i j moves rest fine = fine [] at
    on_moves (suc k) at i j moves rest fine =
        parse_each 1 fault_order b item j k rest at
        ∙ rw (parse_part 1 fault_order b (λ a. move a j) (transition events outcomes activities states) at, move_link states at)
        (go (move_at states events outs activities b at) (λ t next. on_moves k next (i + 1) (j + 1) (set moves i t) (λ more. rest (t ∷ more)) (λ xs end. rw (add-one i) (fine (t ∷ xs) end))))
      where
        go : (r : Read Transition)
            → ((t : Transition) (next : ℕ)
            → parse 1 fault_order b (each item (j + 1) k >>= λ more. rest (t ∷ more)) next
            ≡ told (moves_loop events outs activities b states initial finals c k next (i + 1) (set moves i t)))
            → on_answer {B = Answer Automaton} (told r) (λ t next. parse 1 fault_order b (each item (j + 1) k >>= λ more. rest (t ∷ more)) next) refused
            ≡ told (and_then r (λ t next. moves_loop events outs activities b states initial finals c k next (i + 1) (set moves i t)))
        go (Ok x) ih = ih x.0 x.1
        go (Err e) ih = refl

  pub automaton_link : (at : ℕ) → parse 1 fault_order b (automaton events outcomes activities) at ≡ told (automaton_at events outs activities b at)
  unfolding automaton_at moves_at finals_at move_count_at parse
  automaton_link at =
      on_count_lem b bytes same_answer stays
      (λ r. told (and_then r (λ states next. and_then (name_at states b next) (λ initial after. moves_at events outs activities b states initial after)))) (λ f p. refl)
      64 (λ a. a.states) (λ states. name states (λ a. a.initial) >>= begun events outcomes activities states) at
      (λ states h.
      on_name b bytes same_answer stays (λ r. told (and_then r (λ initial after. moves_at events outs activities b states initial after))) (λ f p. refl) states (λ a. a.initial) (begun events outcomes activities states) (at + 1)
      (λ initial h.
      on_number b bytes same_answer stays found faulty
      (λ r.
      told (and_then r (λ finals next. and_then (move_count_at b next) (λ count after. moves_loop events outs activities b states initial finals count count after 0 (replicate 256 past_move)))))
      (λ f p. refl) 4 Fault.Names refl four 8 0 (2 ^ states) (λ a. a.finals) (finally events outcomes activities states initial) (at + 1 + 1)
      (λ finals h.
      on_number b bytes same_answer stays found faulty
      (λ r. told (and_then r (λ count after. moves_loop events outs activities b states initial finals count count after 0 (replicate 256 past_move)))) (λ f p. refl) 3 Fault.Count refl
      three 2 0 257 (λ a. a.count) (turns events outcomes activities states initial finals) (at + 1 + 1 + 8)
      (λ c h. on_moves states initial finals c c (at + 1 + 1 + 8 + 2) 0 0 (replicate 256 past_move) (end events outcomes activities states initial finals c) (λ xs next. refl)))))
