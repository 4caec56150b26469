-- Along a path of the automaton an event is processed as often, and emitted as often, as in the word of the path.
use Rattle.std.specs.Prelude.{◌≡◌, refl, List, [], ◌∷◌, ℕ, ◌+◌, ◌≤◌, ◌<◌}
use Rattle.std.proofs.Common.{ap, subst, arith}
use Rattle.plan.specs.Plan.{move, activity_of, resource_of}
use Rattle.plan.specs.Limits.{FileRules}
use Rattle.plan.specs.declared.Plan.{Plan}
use Rattle.activity.specs.Rules.{Meets}
use Rattle.automaton.specs.Rules.{Path, none, more, takes, emits, processed, emitted, EmittedFirst}
use Rattle.automaton.specs.Rules as Rules
use Rattle.times_combined.specs.Word.{times, emissions}
use Rattle.times_combined.specs.Paths.{word_of, Follows, OnlyEmitted, Lawful}

-- ---- counting along a path

-- a path with what it processes and emits of e
record Along (p : Plan) (s e : ℕ) (is : List ℕ) (q : ℕ) : Type 0 where
  path : Path p.automaton s q
  takes_same : processed p.automaton e path ≡ times e (word_of p is)
  emits_same : emitted p.automaton (emits p) e path ≡ emissions e (word_of p is)

along : (p : Plan) (s e : ℕ) (is : List ℕ) (q : ℕ) → Follows p s is q → Along p s e is q
along p s e [] q h = subst (Along p s e []) h (record { path = none; takes_same = refl; emits_same = refl })
along p s e (i ∷ is) q h =
    let w = along p s e is (move p.automaton i).from h.0 in
    record {
      path = more w.path i (record { low = h.1.0; from = refl }) h.1.1;
      takes_same = ap (λ (n : ℕ). n + takes (move p.automaton i).input e) w.takes_same;
      emits_same = ap (λ (n : ℕ). n + emits p (move p.automaton i).output e) w.emits_same;
    }

pub only_emitted : (p : Plan) → EmittedFirst p.automaton (emits p) → OnlyEmitted p
only_emitted p first is i e u f l h =
    let w = along p p.automaton.initial e is (move p.automaton i).from f in
    let g = first (move p.automaton i).from w.path e u (record { index = i; leaves = record { low = l; from = refl }; input = h }) in
    let a = w.takes_same in
    let b = w.emits_same in
    omega arith

-- "at most 8 of one event are pending at a state", of the word of a path
pub few_pending : (p : Plan) → Rules.AtMostEight p.automaton (emits p) → (is : List ℕ) (q e : ℕ) → Follows p p.automaton.initial is q
    → emissions e (word_of p is) ≤ times e (word_of p is) + 8
few_pending p few is q e f =
    let w = along p p.automaton.initial e is q f in
    let g = few q w.path e in
    let a = w.takes_same in
    let b = w.emits_same in
    omega arith

-- what acceptance gives
pub lawful : (p : Plan) → FileRules p → ((a : ℕ) → a < p.activities → Meets (resource_of p) (activity_of p a)) → EmittedFirst p.automaton (emits p) → Lawful p
lawful p file acts first = record { file = file; activities = acts; automaton = only_emitted p first }
