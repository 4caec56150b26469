-- The counts that the passes end with decide numbers 25 and 26 for all paths from the initial state.
use Rattle.std.specs.Prelude.{◌≡◌, Bool, cond, ◌&&◌, List, ℕ, ◌+◌, ◌*◌, ◌≤◌, ◌<◌, Ok}
use Rattle.std.proofs.Math.Path.{refl}
use Rattle.std.proofs.Common.{sym, arith}
use Rattle.std.proofs.Math.Bool.{true, false}
use Rattle.std.proofs.Math.Dec.{eqb, leb}
use Rattle.basis.specs.Tests.{flag}
use Rattle.basis.specs.Inner.Tells.{Tells}
use Rattle.basis.proofs.Laws.Tells.{told_true, told_false, tells, tells_eqb, tells_leb, tells_and}
use Rattle.basis.proofs.Laws.Bools.{clash as true-false, and_left, and_right}
use Rattle.plan.specs.declared.Output.{Output}
use Rattle.plan.specs.declared.Transition.{Transition}
use Rattle.plan.specs.declared.Automaton.{Automaton}
use Rattle.plan.specs.declared.Fault.{Fault}
use Rattle.plan.specs.Verdict.{Verdict, faulty}
use Rattle.plan.specs.Plan.{move, is_final}
use Rattle.automaton.specs.declared.Explored.{Explored}
use Rattle.automaton.specs.Tests.{at, all}
use Rattle.automaton.specs.Rules.{Path, none, more, ToFinal, EveryState, takes, emitted, Breaks25, unemitted, leftover, Breaks26}
use Rattle.automaton.specs.Number.{explored, fits, keeps_move, keeps, clear, few, judge_counts, path_verdict}
use Rattle.automaton.proofs.Laws.Works.{Small, explored_known}
use Rattle.automaton.specs.Inner.OnPaths.{OnPaths, broken25, broken26, neither}
use Rattle.automaton.proofs.Laws.Tests.{all_true, all_false}
use Rattle.automaton.specs.Inner.Counts.{InRange, Known, Keeps, Kept, Clash, Left, Crowd}
use Rattle.automaton.proofs.Laws.Counts.{Bounded, not_25, crowd_of, crowd_26, left_25, clash_25}

pub same_on_paths : {a : Automaton} {gives : Output → ℕ → ℕ} {v w : Verdict} → OnPaths a gives v → OnPaths a gives w → v ≡ w
same_on_paths (broken25 b) (broken25 c) = refl
same_on_paths (broken25 b) (broken26 c d) = absurd (c b)
same_on_paths (broken25 b) (neither c d) = absurd (c b)
same_on_paths (broken26 b c) (broken25 d) = absurd (b d)
same_on_paths (broken26 b c) (broken26 d e) = refl
same_on_paths (broken26 b c) (neither d e) = absurd (e c)
same_on_paths (neither b c) (broken25 d) = absurd (b d)
same_on_paths (neither b c) (broken26 d e) = absurd (c e)
same_on_paths (neither b c) (neither d e) = refl

module _ (a : Automaton) (gives : Output → ℕ → ℕ) (ok : InRange a) where
  tells_fits : (C : List ℕ) (t : Transition) (e : ℕ) → Tells (fits gives C t e) (Kept gives C t e)
  tells_fits C t e =
      tells (fits gives C t e)
      (λ h. let x = told_true test h in record { enough = x.0; same = x.1 })
      (λ h k. told_false test h (k.enough, k.same))
    where
      enough : Bool
      enough = leb (takes t.input e) (at C (16 * t.from + e))

      same : Bool
      same = eqb (at C (16 * t.to + e) + takes t.input e) (at C (16 * t.from + e) + gives t.output e)

      test : Tells (enough && same) ((takes t.input e ≤ at C (16 * t.from + e)) × (at C (16 * t.to + e) + takes t.input e ≡ at C (16 * t.from + e) + gives t.output e))
      test =
          tells_and
          (tells_leb (takes t.input e) (at C (16 * t.from + e)))
          (tells_eqb (at C (16 * t.to + e) + takes t.input e) (at C (16 * t.from + e) + gives t.output e))

  -- a test that is made only where a flag stands
  only_if : (b c : Bool) → cond b c true ≡ true → b ≡ true → c ≡ true
  only_if true c h z = h
  only_if false c h z = absurd (true-false (sym z))

  only_fails : (b c : Bool) → cond b c true ≡ false → (b ≡ true) × (c ≡ false)
  only_fails true c h = (refl, h)
  only_fails false c h = absurd (true-false h)

  both_yes : (b c : Bool) → b ≡ true → c ≡ true → (b && c) ≡ true
  both_yes true c e f = f
  both_yes false c e f = e

  module _ (x : Explored) (known : Known a gives x.reached x.counts) where
    all_kept : keeps a gives x ≡ true → Keeps a gives x.reached x.counts
    all_kept h i e l n r =
        told_true (tells_fits x.counts (move a i) e)
        (all_true 16 (fits gives x.counts (move a i)) (only_if _ _ (all_true a.count (λ i. keeps_move gives x (move a i)) h i l) r) e n)

    one_clash : keeps a gives x ≡ false → Clash a gives x.reached x.counts
    one_clash h =
        let i = all_false a.count (λ i. keeps_move gives x (move a i)) h in
        let c = only_fails _ _ i.2 in
        let e = all_false 16 (fits gives x.counts (move a i.0)) c.1 in
        record { index = i.0; event = e.0; low = i.1; named = e.1; reached = c.0; clash = told_false (tells_fits x.counts (move a i.0) e.0) e.2 }

    clear_at : ℕ → Bool
    clear_at s = cond (flag x.reached s && is_final a s) (all 16 (λ e. eqb (at x.counts (16 * s + e)) 0)) true

    none_left : clear a x ≡ true → Left a x.reached x.counts → ⊥
    unfolding clear_at
    none_left h l =
        let s = all_true a.states clear_at h l.state (known.known l.state l.reached).0 in
        let f = both_yes (flag x.reached l.state) (is_final a l.state) l.reached l.final in
        let c = all_true 16 (λ e. eqb (at x.counts (16 * l.state + e)) 0) (only_if _ _ s f) l.event l.named in
        omega (arith, l.some, told_true (tells_eqb (at x.counts (16 * l.state + l.event)) 0) c)

    one_left : clear a x ≡ false → Left a x.reached x.counts
    unfolding clear_at
    one_left h =
        let s = all_false a.states clear_at h in
        let c = only_fails (flag x.reached s.0 && is_final a s.0) _ s.2 in
        let e = all_false 16 (λ e. eqb (at x.counts (16 * s.0 + e)) 0) c.1 in
        let z = told_false (tells_eqb (at x.counts (16 * s.0 + e.0)) 0) e.2 in
        record { state = s.0; low = omega (arith, s.1, ok.states); event = e.0; named = e.1; reached = and_left (flag x.reached s.0) (is_final a s.0) c.0; final = and_right (flag x.reached s.0) (is_final a s.0) c.0; some = omega (arith, z) }

    few_at : ℕ → Bool
    few_at s = cond (flag x.reached s) (all 16 (λ e. leb (at x.counts (16 * s + e)) 8)) true

    none_crowded : few a x ≡ true → Crowd x.reached x.counts → ⊥
    unfolding few_at
    none_crowded h l =
        let s = all_true a.states few_at h l.state (known.known l.state l.reached).0 in
        let c = all_true 16 (λ e. leb (at x.counts (16 * l.state + e)) 8) (only_if _ _ s l.reached) l.event l.named in
        omega (arith, l.many, told_true (tells_leb (at x.counts (16 * l.state + l.event)) 8) c)

    one_crowded : few a x ≡ false → Crowd x.reached x.counts
    unfolding few_at
    one_crowded h =
        let s = all_false a.states few_at h in
        let c = only_fails (flag x.reached s.0) _ s.2 in
        let e = all_false 16 (λ e. leb (at x.counts (16 * s.0 + e)) 8) c.1 in
        let z = told_false (tells_leb (at x.counts (16 * s.0 + e.0)) 8) e.2 in
        record { state = s.0; low = omega (arith, s.1, ok.states); event = e.0; named = e.1; reached = c.0; many = omega (arith, z) }

    -- the counts decide 25 and 26 for all paths
    judge_counts_lem : Bounded a gives → EveryState a (ToFinal a) → OnPaths a gives (judge_counts a gives x)
    unfolding judge_counts
    judge_counts_lem bound ways = go (keeps a gives x) refl (clear a x) refl (few a x) refl
      where
        go : (u : Bool) → keeps a gives x ≡ u → (v : Bool) → clear a x ≡ v → (w : Bool) → few a x ≡ w
            → OnPaths a gives (cond (u && v) (cond w (Ok tt) (faulty Fault.TooManyPending 0)) (faulty Fault.Unbalanced 0))
        go false e v f w g = broken25 (clash_25 a gives x.reached x.counts ok known ways (one_clash e))
        go true e false f w g = broken25 (left_25 a gives x.reached x.counts ok known (one_left f))
        go true e true f false g =
            broken26 (not_25 a gives x.reached x.counts ok known (all_kept e) bound (none_left f)) (crowd_26 a gives x.reached x.counts ok known (one_crowded g))
        go true e true f true g =
            neither (not_25 a gives x.reached x.counts ok known (all_kept e) bound (none_left f))
            (λ b. none_crowded g (crowd_of a gives x.reached x.counts ok known (all_kept e) bound b))

  pub path_verdict_lem : Small a gives → Bounded a gives → EveryState a (ToFinal a) → OnPaths a gives (path_verdict a gives)
  unfolding path_verdict
  path_verdict_lem small bound ways = judge_counts_lem (explored a gives) (explored_known a gives ok small) bound ways

-- ---- two ways to say what the transitions emit

module _ (a : Automaton) (f g : Output → ℕ → ℕ) (same : (i e : ℕ) → i < a.count → f (move a i).output e ≡ g (move a i).output e) where
  emitted_same : (e : ℕ) {s q : ℕ} (w : Path a s q) → emitted a f e w ≡ emitted a g e w
  emitted_same e none = refl
  emitted_same e (more w i l t) = omega (arith, emitted_same e w, same i e l.low)

  same_25 : Breaks25 a f → Breaks25 a g
  same_25 (unemitted w e o x z) = unemitted w e o x (omega (arith, emitted_same e w))
  same_25 (leftover w e x z) = leftover w e x (omega (arith, emitted_same e w))

  same_26 : Breaks26 a f → Breaks26 a g
  same_26 b = record { state = b.state; path = b.path; event = b.event; many = omega (arith, b.many, emitted_same b.event b.path) }

pub paths_same : (a : Automaton) (f g : Output → ℕ → ℕ) → ((i e : ℕ) → i < a.count → f (move a i).output e ≡ g (move a i).output e)
    → {v : Verdict} → OnPaths a f v → OnPaths a g v
paths_same a f g same (broken25 b) = broken25 (same_25 a f g same b)
paths_same a f g same (broken26 n b) = broken26 (λ c. n (same_25 a g f (λ i e l. sym (same i e l)) c)) (same_26 a f g same b)
paths_same a f g same (neither n m) = neither (λ c. n (same_25 a g f (λ i e l. sym (same i e l)) c)) (λ c. m (same_26 a g f (λ i e l. sym (same i e l)) c))
