-- One count of each event at each state: counts that fit every transition are those of every path from the initial state, and where no counts fit, a path breaks number 25, provided that every state has a path to a final one.
use Rattle.std.specs.Prelude.{◌≡◌, refl, Bool, true, false, List, ◌⊎◌, ℕ, ◌+◌, ◌*◌, ◌≤◌, ◌<◌, eqb}
use Rattle.std.proofs.Common.{sym, ap, ◌∙◌, subst, inl, inr, arith, eqb-true, eq-eqb}
use Rattle.std.proofs.Math.Decide.{dec_lt}
use Rattle.basis.specs.Tests.{flag}
use Rattle.plan.specs.declared.Input.{Input}
use Rattle.plan.specs.declared.Output.{Output}
use Rattle.plan.specs.declared.Transition.{Transition}
use Rattle.plan.specs.declared.Automaton.{Automaton}
use Rattle.plan.specs.Plan.{move, is_final}
use Rattle.automaton.specs.Tests.{at}
use Rattle.automaton.specs.Rules.{Leaves, Path, none, more, ToFinal, EveryState, takes, processed, emitted, Breaks25, unemitted, leftover, Breaks26}
use Rattle.automaton.specs.Inner.Counts.{one, Ready, InputOk, InRange, Known, Keeps, Left, Crowd, Clash, Witness}

-- only the events 0 to 15 are emitted
abbrev pub Bounded : Automaton → (Output → ℕ → ℕ) → Type 0
Bounded a gives = (i e : ℕ) → i < a.count → 16 ≤ e → gives (move a i).output e ≡ 0

-- ---- what an input processes

pub one-le : (b : Bool) → one b ≤ 1
one-le true = omega arith
one-le false = omega arith

takes_le : (n : Input) (e : ℕ) → takes n e ≤ 1
takes_le Input.Nothing e = omega arith
takes_le (Input.Outcome f o) e = one-le (eqb f e)

takes_event : (n : Input) (e : ℕ) → 0 < takes n e → (o : ℕ) × (n ≡ Input.Outcome e o)
takes_event Input.Nothing e h = absurd (omega arith)
takes_event (Input.Outcome f o) e h = go (eqb f e) refl h
  where
    go : (b : Bool) → eqb f e ≡ b → 0 < one b → (u : ℕ) × (Input.Outcome f o ≡ Input.Outcome e u)
    go true x h = (o, ap (λ (g : ℕ). Input.Outcome g o) (eqb-true f e x))
    go false x h = absurd (omega arith)

pub takes_own : (n : Input) (e o : ℕ) → n ≡ Input.Outcome e o → takes n e ≡ 1
takes_own n e o h = ap (λ (m : Input). takes m e) h ∙ ap one (eq-eqb e e refl)

pub ready_takes : (C : List ℕ) (s : ℕ) (n : Input) (e : ℕ) → Ready C s n → takes n e ≤ at C (16 * s + e)
ready_takes C s Input.Nothing e r = omega arith
ready_takes C s (Input.Outcome f o) e r = go (eqb f e) refl
  where
    go : (b : Bool) → eqb f e ≡ b → one b ≤ at C (16 * s + e)
    go true x = subst (λ (g : ℕ). 0 < at C (16 * s + g)) (eqb-true f e x) r
    go false x = omega arith

takes_ready : (C : List ℕ) (s : ℕ) (n : Input) → InputOk n → ((e : ℕ) → e < 16 → takes n e ≤ at C (16 * s + e)) → Ready C s n
takes_ready C s Input.Nothing ok h = tt
takes_ready C s (Input.Outcome f o) ok h = omega (arith, h f ok, takes_own (Input.Outcome f o) f o refl)

ready_or : (C : List ℕ) (s : ℕ) (n : Input) → Ready C s n ⊎ ((e : ℕ) × (o : ℕ) × (n ≡ Input.Outcome e o) × (at C (16 * s + e) ≡ 0))
ready_or C s Input.Nothing = inl tt
ready_or C s (Input.Outcome f o) = elim (dec_lt 0 (at C (16 * s + f))) [ yes h ↦ inl h | no h ↦ inr (f, o, refl, omega arith) ]

-- ---- paths

module _ (a : Automaton) (gives : Output → ℕ → ℕ) where
  abbrev pub joined : {p q r : ℕ} → Path a p q → Path a q r → Path a p r
  joined v none = v
  joined v (more w i l t) = more (joined v w) i l t

  emitted_joined : (e : ℕ) {p q r : ℕ} (v : Path a p q) (w : Path a q r) → emitted a gives e (joined v w) ≡ emitted a gives e v + emitted a gives e w
  emitted_joined e v none = omega arith
  emitted_joined e v (more w i l t) = let h = emitted_joined e v w in omega arith

  processed_joined : (e : ℕ) {p q r : ℕ} (v : Path a p q) (w : Path a q r) → processed a e (joined v w) ≡ processed a e v + processed a e w
  processed_joined e v none = omega arith
  processed_joined e v (more w i l t) = let h = processed_joined e v w in omega arith

  -- more processed than emitted: somewhere one is processed with none pending
  last_one : {q : ℕ} (w : Path a a.initial q) (i e : ℕ) → Leaves a q i → (emitted a gives e w < processed a e w → Breaks25 a gives)
      → emitted a gives e w + gives (move a i).output e < processed a e w + takes (move a i).input e → Breaks25 a gives
  last_one w i e l rec h = elim (dec_lt (emitted a gives e w) (processed a e w)) [
    | yes x ↦ rec x
    | no x ↦
        let b = takes_le (move a i).input e in
        let k = takes_event (move a i).input e (omega arith) in
        unemitted w e k.0 (record { index = i; leaves = l; input = k.1 }) (omega arith)
  ]

  pub short : {q : ℕ} (w : Path a a.initial q) (e : ℕ) → emitted a gives e w < processed a e w → Breaks25 a gives
  short none e h = absurd (omega arith)
  short (more w i l t) e h = last_one w i e l (λ x. short w e x) h

  at-end : {q : ℕ} (w : Path a a.initial q) (e : ℕ) → is_final a q ≡ true → Breaks25 a gives ⊎ (emitted a gives e w ≡ processed a e w)
  at-end w e f = elim (dec_lt (emitted a gives e w) (processed a e w)) [
    | yes x ↦ inl (short w e x)
    | no x ↦ elim (dec_lt (processed a e w) (emitted a gives e w)) [ yes y ↦ inl (leftover w e f (omega arith)) | no y ↦ inr (omega arith) ]
  ]

  -- two paths to one state with different counts: one of them goes on to a final state with something left
  pub conflict : {q : ℕ} (v w : Path a a.initial q) (e : ℕ) → ToFinal a q → (emitted a gives e v + processed a e w ≡ emitted a gives e w + processed a e v → ⊥) → Breaks25 a gives
  conflict v w e z ne = elim (at-end (joined v z.way) e z.final) [
    | inl b ↦ b
    | inr x ↦ elim (at-end (joined w z.way) e z.final) [
      | inl b ↦ b
      | inr y ↦ absurd (ne (omega (arith, x, y, emitted_joined e v z.way, emitted_joined e w z.way, processed_joined e v z.way, processed_joined e w z.way)))
    ]
  ]

  module _ (bound : Bounded a gives) where
    unnamed : {s q : ℕ} (w : Path a s q) (e : ℕ) → 16 ≤ e → emitted a gives e w ≡ 0
    unnamed none e h = refl
    unnamed (more w i l t) e h = omega (arith, unnamed w e h, bound i e l.low h)

    -- what is emitted is one of the events 0 to 15
    pub named_event : {s q : ℕ} (w : Path a s q) (e : ℕ) → 0 < emitted a gives e w → e < 16
    named_event w e h = elim (dec_lt e 16) [ yes l ↦ l | no l ↦ absurd (omega (arith, unnamed w e (omega arith))) ]

-- ---- counts that fit every transition are those of every path

module _ (a : Automaton) (gives : Output → ℕ → ℕ) (R : List Bool) (C : List ℕ) (ok : InRange a) (k : Known a gives R C) where
  abbrev pub Fits : {q : ℕ} → Path a a.initial q → Type 0
  Fits {q} w = (flag R q ≡ true) × ((e : ℕ) → e < 16 → emitted a gives e w ≡ at C (16 * q + e) + processed a e w)

  module _ (keeps : Keeps a gives R C) where
    onward : {q r : ℕ} (w : Path a a.initial q) (i : ℕ) (l : Leaves a q i) (t : (move a i).to ≡ r) → Fits w → Fits (more w i l t)
    onward {q} {r} w i l t h = (subst (λ (x : ℕ). flag R x ≡ true) t there, λ e n. count e n)
      where
        here : flag R (move a i).from ≡ true
        here = subst (λ (x : ℕ). flag R x ≡ true) (sym l.from) h.0

        there : flag R (move a i).to ≡ true
        there = k.closed i l.low here (takes_ready C (move a i).from (move a i).input (ok.moves i l.low).input (λ e n. (keeps i e l.low n here).enough))

        count : (e : ℕ) → e < 16 → emitted a gives e (more w i l t) ≡ at C (16 * r + e) + processed a e (more w i l t)
        count e n =
            let x = keeps i e l.low n here in
            let y = ap (λ (s : ℕ). at C (16 * s + e)) l.from in
            let z = ap (λ (s : ℕ). at C (16 * s + e)) t in
            omega (arith, x.same, h.1 e n)

    pub agrees : {q : ℕ} (w : Path a a.initial q) → Fits w
    agrees none = (k.root, λ e n. omega (arith, k.zero_there e n))
    agrees (more w i l t) = onward w i l t (agrees w)

    pub not_25 : Bounded a gives → (Left a R C → ⊥) → Breaks25 a gives → ⊥
    not_25 bound none_left (unemitted w e o x z) =
        let n : e < 16 = subst InputOk x.input (ok.moves x.index x.leaves.low).input in
        let g = agrees w in
        let here : flag R (move a x.index).from ≡ true = subst (λ (q : ℕ). flag R q ≡ true) (sym x.leaves.from) g.0 in
        let y = ap (λ (s : ℕ). at C (16 * s + e)) x.leaves.from in
        omega (arith, (keeps x.index e x.leaves.low n here).enough, takes_own (move a x.index).input e o x.input, g.1 e n)
    not_25 bound none_left (leftover w e f z) =
        let n : e < 16 = named_event a gives bound w e (omega arith) in
        let g = agrees w in
        none_left record { state = _; low = omega (arith, (k.known _ g.0).0, ok.states); event = e; named = n; reached = g.0; final = f; some = omega (arith, g.1 e n) }

    pub crowd_of : Bounded a gives → Breaks26 a gives → Crowd R C
    crowd_of bound b =
        let n : b.event < 16 = named_event a gives bound b.path b.event (omega (arith, b.many)) in
        record { state = b.state; low = omega (arith, (k.known _ (agrees b.path).0).0, ok.states); event = b.event; named = n; reached = (agrees b.path).0; many = omega (arith, (agrees b.path).1 b.event n, b.many) }

  pub crowd_26 : Crowd R C → Breaks26 a gives
  crowd_26 c =
      let w = (k.known c.state c.reached).1 in
      record { state = c.state; path = w.path; event = c.event; many = omega (arith, w.counts c.event c.named, c.many) }

  -- ---- and where they do not fit, a path breaks number 25

  pub left_25 : Left a R C → Breaks25 a gives
  left_25 c =
      let w = (k.known c.state c.reached).1 in
      leftover w.path c.event c.final (omega (arith, w.counts c.event c.named, c.some))

  pub clash_25 : EveryState a (ToFinal a) → Clash a gives R C → Breaks25 a gives
  clash_25 ends c = elim (ready_or C t.from t.input) [
    | inl r ↦
        let there = k.known t.to (k.closed c.index c.low c.reached r) in
        conflict a gives (more here.path c.index leaves refl) there.1.path c.event (ends t.to there.0)
        (λ same. c.clash record {
          enough = ready_takes C t.from t.input c.event r;
          same = omega (arith, same, here.counts c.event c.named, there.1.counts c.event c.named);
        })
    | inr x ↦
        unemitted here.path x.0 x.1 (record { index = c.index; leaves = leaves; input = x.2 })
        (omega (arith, here.counts x.0 (subst InputOk x.2 (ok.moves c.index c.low).input), x.3))
  ]
    where
      t : Transition
      t = move a c.index

      leaves : Leaves a t.from c.index
      leaves = record { low = c.low; from = refl }

      here : Witness a gives C t.from
      here = (k.known t.from c.reached).1
