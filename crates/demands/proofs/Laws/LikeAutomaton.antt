-- Two automata with the same numbers and the same transitions are judged alike.
use Rattle.std.specs.Prelude.{◌≡◌, refl, List, ℕ, ◌<◌, get_or}
use Rattle.std.proofs.Common.{sym, ◌∙◌, ap, subst, arith}
use Rattle.plan.specs.Plan.{past_move, move, outcomes_of}
use Rattle.plan.specs.declared.Output.{Output}
use Rattle.plan.specs.declared.Transition.{Transition}
use Rattle.plan.specs.declared.Automaton.{Automaton}
use Rattle.plan.specs.declared.Plan.{Plan}
use Rattle.plan.specs.Verdict.{Verdict}
use Rattle.automaton.specs.Rules.{Leaves, Processes, NoWayOut, Branches, Serves, Path, none, more, ToFinal, takes, emits, processed, emitted, EmittedFirst, NoneLeft, AtMostEight, Rule21, Rule22, Rule23, Rule24, MeetsAutomaton, LowestAtFault, Breaks25, unemitted, leftover, Breaks26, Judges, number21, number22, number23, number24, number25, number26, accepted}

abbrev pub with : Automaton → List Transition → Automaton
with a m = record { states = a.states; initial = a.initial; finals = a.finals; count = a.count; moves = m }

-- ---- one way

module _ (a : Automaton) (m n : List Transition) (same : (i : ℕ) → i < a.count → get_or m i past_move ≡ get_or n i past_move) where
  leaves : (s i : ℕ) → Leaves (with a m) s i → Leaves (with a n) s i
  leaves s i l = record { low = l.low; from = ap (λ (t : Transition). t.from) (sym (same i l.low)) ∙ l.from }

  processes : (s e o : ℕ) → Processes (with a m) s e o → Processes (with a n) s e o
  processes s e o x = record {
    index = x.index;
    leaves = leaves s x.index x.leaves;
    input = ap (λ (t : Transition). t.input) (sym (same x.index x.leaves.low)) ∙ x.input;
  }

  abbrev carry : {s q : ℕ} → Path (with a m) s q → Path (with a n) s q
  carry none = none
  carry (more {q = q} w i l t) = more (carry w) i (leaves q i l) (ap (λ (t : Transition). t.to) (sym (same i l.low)) ∙ t)

  processed_same : (e : ℕ) {s q : ℕ} (w : Path (with a m) s q) → processed (with a n) e (carry w) ≡ processed (with a m) e w
  processed_same e none = refl
  processed_same e (more w i l t) =
      let z : takes (get_or m i past_move).input e ≡ takes (get_or n i past_move).input e = ap (λ (t : Transition). takes t.input e) (same i l.low) in
      let k = processed_same e w in
      omega arith

  module _ (f g : Output → ℕ → ℕ) (gives : (i e : ℕ) → i < a.count → f (get_or m i past_move).output e ≡ g (get_or n i past_move).output e) where
    emitted_same : (e : ℕ) {s q : ℕ} (w : Path (with a m) s q) → emitted (with a n) g e (carry w) ≡ emitted (with a m) f e w
    emitted_same e none = refl
    emitted_same e (more w i l t) =
        let z = gives i e l.low in
        let k = emitted_same e w in
        omega arith

    breaks_25 : Breaks25 (with a m) f → Breaks25 (with a n) g
    breaks_25 (unemitted {s} w e o x h) =
        let k = emitted_same e w in
        let j = processed_same e w in
        unemitted (carry w) e o (processes s e o x) (omega arith)
    breaks_25 (leftover w e f h) =
        let k = emitted_same e w in
        let j = processed_same e w in
        leftover (carry w) e f (omega arith)

    breaks_26 : Breaks26 (with a m) f → Breaks26 (with a n) g
    breaks_26 x =
        let k = emitted_same x.event x.path in
        let j = processed_same x.event x.path in
        record { state = x.state; path = carry x.path; event = x.event; many = omega (arith, x.many) }

  to_final_lem : (s : ℕ) → ToFinal (with a m) s → ToFinal (with a n) s
  to_final_lem s x = record { end = x.end; way = carry x.way; final = x.final }

-- ---- both ways

module _ (a : Automaton) (m n : List Transition) (same : (i : ℕ) → i < a.count → get_or m i past_move ≡ get_or n i past_move) where
  back : (i : ℕ) → i < a.count → get_or n i past_move ≡ get_or m i past_move
  back i l = sym (same i l)

  way_out : (s : ℕ) → NoWayOut (with a m) s → NoWayOut (with a n) s
  way_out s h f i l = h f i (leaves a n m back s i l)

  branches : (s : ℕ) → Branches (with a m) s → Branches (with a n) s
  branches s h i j l k d =
      let x = h i j (leaves a n m back s i l) (leaves a n m back s j k) d in
      record {
        event = x.event;
        one = x.one;
        other = x.other;
        first = ap (λ (t : Transition). t.input) (back i l.low) ∙ x.first;
        second = ap (λ (t : Transition). t.input) (back j k.low) ∙ x.second;
        differ = x.differ;
      }

  serves : (f g : ℕ → ℕ) → ((s e o : ℕ) → Processes (with a n) s e o → f e ≡ g e) → (s : ℕ) → Serves (with a m) f s → Serves (with a n) g s
  serves f g agree s h e o x q l =
      let z = agree s e o x in
      processes a m n same s e q (h e o (processes a n m back s e o x) q (omega arith))

  module _ (f g : Output → ℕ → ℕ) (gives : (i e : ℕ) → i < a.count → f (get_or m i past_move).output e ≡ g (get_or n i past_move).output e) where
    forth : (i e : ℕ) → i < a.count → g (get_or n i past_move).output e ≡ f (get_or m i past_move).output e
    forth i e l = sym (gives i e l)

    first : EmittedFirst (with a m) f → EmittedFirst (with a n) g
    first h s w e o x =
        let k = emitted_same a n m back g f forth e w in
        let j = processed_same a n m back e w in
        let z = h s (carry a n m back w) e o (processes a n m back s e o x) in
        omega arith

    clear : NoneLeft (with a m) f → NoneLeft (with a n) g
    clear h s w t e =
        let k = emitted_same a n m back g f forth e w in
        let j = processed_same a n m back e w in
        let z = h s (carry a n m back w) t e in
        omega arith

    few : AtMostEight (with a m) f → AtMostEight (with a n) g
    few h s w e =
        let k = emitted_same a n m back g f forth e w in
        let j = processed_same a n m back e w in
        let z = h s (carry a n m back w) e in
        omega arith

lowest : (a b : Automaton) (P Q : ℕ → Type 0) (s : ℕ) → a.states ≡ b.states → ((q : ℕ) → P q → Q q) → ((q : ℕ) → Q q → P q) → LowestAtFault a P s → LowestAtFault b Q s
lowest a b P Q s e f g x = record { low = omega (arith, x.low); fault = λ h. x.fault (g s h); below = λ q l. f q (x.below q l) }

-- ---- the whole verdict

-- q is p with other lists of transitions, outcomes and nodes
module _ (p q : Plan) (moves : List Transition) (automaton : q.automaton ≡ with p.automaton moves)
    (same : (i : ℕ) → i < p.automaton.count → move p.automaton i ≡ get_or moves i past_move)
    (agree : (s e o : ℕ) → Processes p.automaton s e o → outcomes_of p e ≡ outcomes_of q e)
    (gives : (i e : ℕ) → i < p.automaton.count → emits p (move p.automaton i).output e ≡ emits q (get_or moves i past_move).output e) where
  abbrev a : Automaton
  a = p.automaton

  abbrev m : List Transition
  m = p.automaton.moves

  abbrev b : Automaton
  b = with p.automaton moves

  agree' : (s e o : ℕ) → Processes b s e o → outcomes_of p e ≡ outcomes_of q e
  agree' s e o x = agree s e o (processes a moves m (back a m moves same) s e o x)

  r21 : Rule21 p → (s : ℕ) → s < a.states → NoWayOut b s
  r21 h s l = way_out a m moves same s (h s l)

  r22 : Rule22 p → (s : ℕ) → s < a.states → Branches b s
  r22 h s l = branches a m moves same s (h s l)

  r23 : Rule23 p → (s : ℕ) → s < a.states → Serves b (outcomes_of q) s
  r23 h s l = serves a m moves same (outcomes_of p) (outcomes_of q) agree' s (h s l)

  r24 : Rule24 p → (s : ℕ) → s < a.states → ToFinal b s
  r24 h s l = to_final_lem a m moves same s (h s l)

  onto : (P : Automaton → Type 0) → P b → P q.automaton
  onto P h = subst P (sym automaton) h

  q21 : Rule21 p → Rule21 q
  q21 h = onto (λ (x : Automaton). (s : ℕ) → s < x.states → NoWayOut x s) (r21 h)

  q22 : Rule22 p → Rule22 q
  q22 h = onto (λ (x : Automaton). (s : ℕ) → s < x.states → Branches x s) (r22 h)

  q23 : Rule23 p → Rule23 q
  q23 h = onto (λ (x : Automaton). (s : ℕ) → s < x.states → Serves x (outcomes_of q) s) (r23 h)

  q24 : Rule24 p → Rule24 q
  q24 h = onto (λ (x : Automaton). (s : ℕ) → s < x.states → ToFinal x s) (r24 h)

  back' : (i : ℕ) → i < a.count → get_or moves i past_move ≡ get_or m i past_move
  back' = back a m moves same

  not_25 : (Breaks25 a (emits p) → ⊥) → Breaks25 q.automaton (emits q) → ⊥
  not_25 n = onto (λ (x : Automaton). Breaks25 x (emits q) → ⊥) (λ x. n (breaks_25 a moves m back' (emits q) (emits p) (λ i e l. sym (gives i e l)) x))

  pub meets_automaton : MeetsAutomaton p → MeetsAutomaton q
  meets_automaton h = record {
    ends = q21 h.ends;
    branches = q22 h.branches;
    serves = q23 h.serves;
    ways = q24 h.ways;
    first = onto (λ (x : Automaton). EmittedFirst x (emits q)) (first a m moves same (emits p) (emits q) gives h.first);
    clear = onto (λ (x : Automaton). NoneLeft x (emits q)) (clear a m moves same (emits p) (emits q) gives h.clear);
    few = onto (λ (x : Automaton). AtMostEight x (emits q)) (few a m moves same (emits p) (emits q) gives h.few);
  }

  pub judges : (v : Verdict) → Judges p v → Judges q v
  judges v (number21 {s} x) =
      number21 (onto (λ (y : Automaton). LowestAtFault y (NoWayOut y) s) (lowest a b _ _ s refl (way_out a m moves same) (way_out a moves m back') x))
  judges v (number22 {s} e x) =
      number22 (q21 e) (onto (λ (y : Automaton). LowestAtFault y (Branches y) s) (lowest a b _ _ s refl (branches a m moves same) (branches a moves m back') x))
  judges v (number23 {s} e c x) =
      number23 (q21 e) (q22 c)
      (onto (λ (y : Automaton). LowestAtFault y (Serves y (outcomes_of q)) s)
      (lowest a b _ _ s refl (serves a m moves same (outcomes_of p) (outcomes_of q) agree')
      (serves a moves m back' (outcomes_of q) (outcomes_of p) (λ s e o x. sym (agree s e o x))) x))
  judges v (number24 {s} e c d x) =
      number24 (q21 e) (q22 c) (q23 d) (onto (λ (y : Automaton). LowestAtFault y (ToFinal y) s) (lowest a b _ _ s refl (to_final_lem a m moves same) (to_final_lem a moves m back') x))
  judges v (number25 e c d w x) =
      number25 (q21 e) (q22 c) (q23 d) (q24 w) (onto (λ (y : Automaton). Breaks25 y (emits q)) (breaks_25 a m moves same (emits p) (emits q) gives x))
  judges v (number26 e c d w n x) =
      number26 (q21 e) (q22 c) (q23 d) (q24 w) (not_25 n) (onto (λ (y : Automaton). Breaks26 y (emits q)) (breaks_26 a m moves same (emits p) (emits q) gives x))
  judges v (accepted h) = accepted (meets_automaton h)
