-- What a pass over the transitions keeps, transition by transition, back from the final states and on from the initial state.
use Rattle.std.specs.Prelude.{◌≡◌, refl, ℕ, suc, ◌+◌, ◌-◌, ◌*◌, ◌≤◌, ◌<◌, length, set}
use Rattle.std.proofs.Common.{sym, ap, ◌∙◌, subst, arith, below_more, get_or-set_other, ext_get_or}
use Rattle.std.proofs.Math.Bool.{Bool, true, false}
use mathlib.Core.List.{List}
use Rattle.std.proofs.Math.Decide.{ℕ_discrete}
use Rattle.std.proofs.Math.ListN.{replicate, length-set}
use Rattle.std.proofs.Math.Seq.{get_or-set_same}
use Rattle.basis.proofs.Laws.Flags.{falses_set, kept, grown, no_flag}
use Rattle.basis.proofs.Laws.Tells.{tells_same}
use Rattle.basis.specs.Tests.{flag, falses}
use Rattle.basis.specs.Inner.Tells.{Tells, holds, fails}
use Rattle.basis.proofs.Laws.Bools.{clash}
use Rattle.plan.specs.declared.Input.{Input}
use Rattle.plan.specs.declared.Output.{Output}
use Rattle.plan.specs.declared.Automaton.{Automaton}
use Rattle.plan.specs.Plan.{move, is_final}
use Rattle.automaton.specs.Tests.{at}
use Rattle.automaton.specs.Rules.{Path, none, more, ToFinal, takes}
use Rattle.automaton.specs.Inner.Passes.{Backing, Advanced, Going}
use Rattle.automaton.specs.Inner.Counts.{InRange, Witness, Ready, Known}

-- the flags of all states with a path to a final one
pub record BackTo (a : Automaton) (E : List Bool) : Type 0 where
  pub long : length E ≡ 64
  pub tells : (s : ℕ) → s < 64 → Tells (flag E s) (ToFinal a s)

pub same_back : (a : Automaton) (D E : List Bool) → BackTo a D → BackTo a E → D ≡ E
same_back a D E b c = ext_get_or false D E (b.long ∙ sym c.long) (λ s l. tells_same (b.tells s (omega (arith, b.long))) (c.tells s (omega (arith, b.long))))

pub back_starts : (a : Automaton) (F : List Bool) → length F ≡ 64 → ((s : ℕ) → s < 64 → flag F s ≡ is_final a s) → Backing a F 0 F false
back_starts a F l h = record {
  long = l;
  sound = λ s m t. record { end = s; way = none; final = sym (h s m) ∙ t };
  finals = λ s m f. h s m ∙ f;
  no_more = omega arith;
  fewer = λ p. absurd (clash (sym p));
  closed = λ p j k. absurd (omega arith);
}

module _ (a : Automaton) (ok : InRange a) where
  path_low : {s f : ℕ} → Path a s f → s < 64 → f < 64
  path_low none l = l
  path_low (more w i k t) l = subst (λ (x : ℕ). x < 64) t (omega (arith, (ok.moves i k.low).to, ok.states))

  module _ (D : List Bool) (i : ℕ) (E : List Bool) (ch : Bool) (b : Backing a D i E ch) where
    pub back_stay : (flag E (move a i).to ≡ true → flag E (move a i).from ≡ true) → Backing a D (i + 1) E ch
    back_stay h = record {
      long = b.long;
      sound = b.sound;
      finals = b.finals;
      no_more = b.no_more;
      fewer = b.fewer;
      closed = λ p. below_more (λ j. flag E (move a j).to ≡ true → flag E (move a j).from ≡ true) i (b.closed p) h;
    }

    pub back_round : Backing a E 0 E false
    back_round = record {
      long = b.long;
      sound = b.sound;
      finals = b.finals;
      no_more = omega arith;
      fewer = λ p. absurd (clash (sym p));
      closed = λ p j l. absurd (omega arith);
    }

    pub back_store : i < a.count → flag E (move a i).from ≡ false → flag E (move a i).to ≡ true → Backing a D (i + 1) (set E (move a i).from true) true
    back_store l f t = record {
      long = simp length-set b.long;
      sound = λ s m h. grown (λ s. s < 64 → ToFinal a s) E (move a i).from (λ _. longer) (λ s h m. b.sound s m h) s h m;
      finals = λ s m h. kept E (move a i).from s f (b.finals s m h);
      no_more = omega (arith, less, b.no_more);
      fewer = λ p. omega (arith, less, b.no_more);
      closed = λ p. absurd (clash p);
    }
      where
        less : suc (falses (set E (move a i).from true)) ≡ falses E
        less = falses_set E (move a i).from (omega (arith, b.long, (ok.moves i l).from, ok.states)) f

        before : {q : ℕ} → Path a (move a i).to q → Path a (move a i).from q
        before none = more none i (record { low = l; from = refl }) refl
        before (more w j m u) = more (before w) j m u

        longer : ToFinal a (move a i).from
        longer =
            let z = b.sound (move a i).to (omega (arith, (ok.moves i l).to, ok.states)) t in
            record { end = z.end; way = before z.way; final = z.final }

  pub back_ends : (D E : List Bool) → Backing a D a.count E false → BackTo a E
  back_ends D E b = record { long = b.long; tells = λ s l. go s l (flag E s) refl }
    where
      back : {s f : ℕ} → Path a s f → flag E f ≡ true → flag E s ≡ true
      back none h = h
      back (more w i k t) h =
          back w (subst (λ (x : ℕ). flag E x ≡ true) k.from (b.closed refl i k.low (subst (λ (x : ℕ). flag E x ≡ true) (sym t) h)))

      go : (s : ℕ) → s < 64 → (x : Bool) → flag E s ≡ x → Tells x (ToFinal a s)
      go s l true h = holds (b.sound s l h)
      go s l false h = fails (λ z. clash (sym (back z.way (b.finals z.end (path_low z.way l) z.final)) ∙ h))

module _ (gives : Output → ℕ → ℕ) (C : List ℕ) (from to : ℕ) (n : Input) (o : Output) where
  pub advance_starts : length C ≡ 1024 → Advanced gives C from to n o 0 C
  advance_starts l = record { cells = l; there = λ e h. absurd (omega arith); others = λ k h. refl; small = λ b h k. omega (arith, h k) }

  -- the counts of the other state stay
  pub advance_from : (i : ℕ) (D : List ℕ) → (from ≡ to → ⊥) → i < 16 → Advanced gives C from to n o i D → at D (16 * from + i) ≡ at C (16 * from + i)
  advance_from i D ne l d = d.others (16 * from + i) (λ e h q. ne (omega arith))

  pub advance_steps : (i : ℕ) (D : List ℕ) (x g : ℕ) → i < 16 → to < 64 → x ≡ takes n i → g ≡ gives o i → takes n i ≤ at C (16 * from + i) → g ≤ 64
      → Advanced gives C from to n o i D → Advanced gives C from to n o (i + 1) (set D (16 * to + i) (at C (16 * from + i) - x + g))
  advance_steps i D x g l m xs gs low high d = record {
    cells = simp length-set d.cells;
    there = below_more (λ e. at (set D p v) (16 * to + e) + takes n e ≡ at C (16 * from + e) + gives o e) i
        (λ e h. rw (get_or-set_other D p (16 * to + e) v 0 (λ q. omega arith)) (d.there e h))
        (rw here (omega arith));
    others = λ k h. get_or-set_other D p k v 0 (h i (omega arith)) ∙ d.others k (λ e q. h e (omega arith));
    small = λ b h k. elim (ℕ_discrete k p) [
      | yes e ↦ omega (arith, ap (at (set D p v)) e, here, h (16 * from + i))
      | no ne ↦ omega (arith, get_or-set_other D p k v 0 ne, d.small b h k)
    ];
  }
    where
      p : ℕ
      p = 16 * to + i

      v : ℕ
      v = at C (16 * from + i) - x + g

      here : at (set D p v) p ≡ v
      here = get_or-set_same D p v 0 (omega (arith, d.cells))

module _ (a : Automaton) (gives : Output → ℕ → ℕ) (ok : InRange a) where
  pub going_starts : (C : List ℕ) → length C ≡ 1024 → ((k : ℕ) → at C k ≡ 0)
      → Going a gives (set (replicate 64 false) a.initial true) 0 (set (replicate 64 false) a.initial true) C false
  unfolding falses
  going_starts C l z = record {
    long = simp length-set refl;
    cells = l;
    known = grown (λ s. (s < a.states) × Witness a gives C s) N a.initial (ok.initial, record { path = none; counts = λ e n. omega (arith, z (16 * a.initial + e)) }) (λ s h. absurd (clash (sym h ∙ no_flag 64 s)));
    small = λ k. omega (arith, z k, less);
    root = get_or-set_same N a.initial true false (omega (arith, ok.initial, ok.states));
    zero_there = λ e n. z (16 * a.initial + e);
    no_more = omega arith;
    fewer = λ p. absurd (clash (sym p));
    closed = λ p j h. absurd (omega arith);
  }
    where
      N : List Bool
      N = replicate 64 false

      less : suc (falses (set N a.initial true)) ≡ 64
      less = falses_set N a.initial (omega (arith, ok.initial, ok.states)) (no_flag 64 a.initial)

  module _ (D : List Bool) (i : ℕ) (R : List Bool) (C : List ℕ) (ch : Bool) (g : Going a gives D i R C ch) where
    pub going_stays : (flag R (move a i).from ≡ true → Ready C (move a i).from (move a i).input → flag R (move a i).to ≡ true) → Going a gives D (i + 1) R C ch
    going_stays h = record {
      long = g.long;
      cells = g.cells;
      known = g.known;
      small = g.small;
      root = g.root;
      zero_there = g.zero_there;
      no_more = g.no_more;
      fewer = g.fewer;
      closed = λ p. below_more (λ j. flag R (move a j).from ≡ true → Ready C (move a j).from (move a j).input → flag R (move a j).to ≡ true) i (g.closed p) h;
    }

    pub going_round : Going a gives R 0 R C false
    going_round = record {
      long = g.long;
      cells = g.cells;
      known = g.known;
      small = g.small;
      root = g.root;
      zero_there = g.zero_there;
      no_more = omega arith;
      fewer = λ p. absurd (clash (sym p));
      closed = λ p j l. absurd (omega arith);
    }

    pub going_stores : (B : List ℕ) → i < a.count → flag R (move a i).from ≡ true → flag R (move a i).to ≡ false
        → Advanced gives C (move a i).from (move a i).to (move a i).input (move a i).output 16 B → Going a gives D (i + 1) (set R (move a i).to true) B true
    going_stores B l f t d = record {
      long = simp length-set g.long;
      cells = d.cells;
      known = grown (λ s. (s < a.states) × Witness a gives B s) R (move a i).to ((ok.moves i l).to, new) old;
      small = λ k. omega (arith, less, g.small 0, d.small (4096 - 64 * falses R) (λ j. omega (arith, g.small j)) k);
      root = kept R (move a i).to a.initial t g.root;
      zero_there = λ e n. other a.initial g.root e n ∙ g.zero_there e n;
      no_more = omega (arith, less, g.no_more);
      fewer = λ p. omega (arith, less, g.no_more);
      closed = λ p. absurd (clash p);
    }
      where
        less : suc (falses (set R (move a i).to true)) ≡ falses R
        less = falses_set R (move a i).to (omega (arith, g.long, (ok.moves i l).to, ok.states)) t

        other : (s : ℕ) → flag R s ≡ true → (e : ℕ) → e < 16 → at B (16 * s + e) ≡ at C (16 * s + e)
        other s h e n =
            d.others (16 * s + e) (λ x m q. let same : s ≡ (move a i).to = omega arith in clash (sym h ∙ ap (flag R) same ∙ t))

        new : Witness a gives B (move a i).to
        new =
            let w = (g.known (move a i).from f).1 in
            record { path = more w.path i (record { low = l; from = refl }) refl; counts = λ e n. omega (arith, w.counts e n, d.there e n) }

        old : (s : ℕ) → flag R s ≡ true → (s < a.states) × Witness a gives B s
        old s h =
            let w = g.known s h in
            (w.0, record { path = w.1.path; counts = λ e n. omega (arith, w.1.counts e n, other s h e n) })

  pub going_ends : (D R : List Bool) (C : List ℕ) → Going a gives D a.count R C false → Known a gives R C
  going_ends D R C g = record { known = g.known; small = λ k. omega (arith, g.small k); root = g.root; zero_there = g.zero_there; closed = g.closed refl }
