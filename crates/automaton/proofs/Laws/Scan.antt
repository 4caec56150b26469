-- The used transitions as a slice of their array, and a scan in file order, one transition on: of a slice, and of n transitions.
use Rattle.std.specs.Prelude.{◌≡◌, refl, Bool, true, false, ◌&&◌, eqb, ℕ, zero, suc, ◌+◌, ◌-◌, ◌≤◌, ◌<◌, length, get_or, take, drop, Option, None, Some}
use Rattle.std.proofs.Math.Path.{ap, sym}
use Rattle.std.proofs.Common.{◌∙◌, arith, eq-eqb, ne_eqb}
use Rattle.std.proofs.Math.Bool.{cond}
use Rattle.std.proofs.lemmas.List.{get_or-take, length-take, length-drop, drop_more, drop_all}
use Rattle.std.proofs.Math.Seq.{take-length}
use mathlib.Core.List.{List, [], ◌∷◌}
use Rattle.basis.specs.Parts.{part}
use Rattle.plan.specs.declared.Transition.{Transition}
use Rattle.plan.specs.declared.Automaton.{Automaton}
use Rattle.plan.specs.Plan.{past_move, moves_of}
use Rattle.automaton.specs.Next.{added, ways_from, carries, chosen_from}
use Rattle.automaton.specs.Inner.Scan.{rest}

part_take : {A : Type 0} (d : A) (l : List A) (i k : ℕ) → i + k ≤ length l → part d l i k ≡ take k (drop i l)
part_take d l i zero h = refl
part_take d l i (suc k) h =
    ap (◌∷◌ (get_or l i d)) (part_take d l (i + 1) k (omega arith)) ∙ sym (ap (take (suc k)) (drop_more l i d (omega arith)))

pub used : (a : Automaton) (n : ℕ) → n ≡ a.count → n ≤ length a.moves → moves_of a ≡ take n a.moves
used a n e h = ap (part past_move a.moves 0) (sym e) ∙ part_take past_move a.moves 0 n (omega arith)

pub in_slice : (l : List Transition) (n i : ℕ) → i < length (take n l) → get_or (take n l) i past_move ≡ get_or l i past_move
in_slice l n i h = get_or-take n l i past_move (omega (arith, length-take n l))

pub to_end : (l : List Transition) (i : ℕ) → take (length l - i) (drop i l) ≡ drop i l
to_end l i = ap (λ (n : ℕ). take n (drop i l)) (sym (length-drop i l)) ∙ take-length (drop i l)

module _ (l : List Transition) (s i : ℕ) where
  abbrev t : Transition
  t = get_or l i past_move

  pub ways_here : i < length l → t.from ≡ s → ways_from (drop i l) s i ≡ i ∷ ways_from (drop (i + 1) l) s (i + 1)
  unfolding ways_from
  ways_here h e =
      ap (λ (ts : List Transition). ways_from ts s i) (drop_more l i past_move h) ∙
      ap (λ (b : Bool). added b i (ways_from (drop (i + 1) l) s (i + 1))) (eq-eqb t.from s e)

  pub ways_past : i < length l → (t.from ≡ s → ⊥) → ways_from (drop i l) s i ≡ ways_from (drop (i + 1) l) s (i + 1)
  unfolding ways_from
  ways_past h e =
      ap (λ (ts : List Transition). ways_from ts s i) (drop_more l i past_move h) ∙
      ap (λ (b : Bool). added b i (ways_from (drop (i + 1) l) s (i + 1))) (ne_eqb t.from s e)

  pub ways_none : length l ≤ i → ways_from (drop i l) s i ≡ []
  unfolding ways_from
  ways_none h = ap (λ (ts : List Transition). ways_from ts s i) (drop_all i l h)

  module _ (e o : ℕ) where
    abbrev later : Option ℕ
    later = chosen_from (drop (i + 1) l) s e o (i + 1)

    step : i < length l → chosen_from (drop i l) s e o i ≡ cond (eqb t.from s && carries t.input e o) (Some i) later
    unfolding chosen_from
    step h = ap (λ (ts : List Transition). chosen_from ts s e o i) (drop_more l i past_move h)

    pub chosen_here : i < length l → t.from ≡ s → carries t.input e o ≡ true → chosen_from (drop i l) s e o i ≡ Some i
    chosen_here h f c =
        step h ∙ ap (λ (b : Bool). cond (b && carries t.input e o) (Some i) later) (eq-eqb t.from s f) ∙ ap (λ (b : Bool). cond b (Some i) later) c

    pub chosen_other : i < length l → (t.from ≡ s → ⊥) → chosen_from (drop i l) s e o i ≡ later
    chosen_other h f = step h ∙ ap (λ (b : Bool). cond (b && carries t.input e o) (Some i) later) (ne_eqb t.from s f)

    pub chosen_past : i < length l → t.from ≡ s → carries t.input e o ≡ false → chosen_from (drop i l) s e o i ≡ later
    chosen_past h f c =
        step h ∙ ap (λ (b : Bool). cond (b && carries t.input e o) (Some i) later) (eq-eqb t.from s f) ∙ ap (λ (b : Bool). cond b (Some i) later) c

    pub chosen_none : length l ≤ i → chosen_from (drop i l) s e o i ≡ None
    unfolding chosen_from
    chosen_none h = ap (λ (ts : List Transition). chosen_from ts s e o i) (drop_all i l h)

-- ---- a scan of the transitions from i on, of n, whatever n is

pub rest_all : (l : List Transition) (n : ℕ) → part past_move l 0 n ≡ rest l 0 n
rest_all l n = let z : n ≡ n - 0 = omega arith in ap (part past_move l 0) z

pub rest_more : (l : List Transition) (i n : ℕ) → i < n → rest l i n ≡ get_or l i past_move ∷ rest l (i + 1) n
rest_more l i n h = let z : n - i ≡ suc (n - (i + 1)) = omega arith in ap (part past_move l i) z

pub rest_none : (l : List Transition) (i n : ℕ) → (i < n → ⊥) → rest l i n ≡ []
rest_none l i n h = let z : n - i ≡ 0 = omega (arith, h) in ap (part past_move l i) z

module _ (l : List Transition) (s i n : ℕ) where
  pub ways_here_of_rest : i < n → (get_or l i past_move).from ≡ s → ways_from (rest l i n) s i ≡ i ∷ ways_from (rest l (i + 1) n) s (i + 1)
  unfolding ways_from
  ways_here_of_rest h e =
      ap (λ (ts : List Transition). ways_from ts s i) (rest_more l i n h) ∙
      ap (λ (b : Bool). added b i (ways_from (rest l (i + 1) n) s (i + 1))) (eq-eqb (get_or l i past_move).from s e)

  pub ways_past_of_rest : i < n → ((get_or l i past_move).from ≡ s → ⊥) → ways_from (rest l i n) s i ≡ ways_from (rest l (i + 1) n) s (i + 1)
  unfolding ways_from
  ways_past_of_rest h e =
      ap (λ (ts : List Transition). ways_from ts s i) (rest_more l i n h) ∙
      ap (λ (b : Bool). added b i (ways_from (rest l (i + 1) n) s (i + 1))) (ne_eqb (get_or l i past_move).from s e)

  pub ways_none_of_rest : (i < n → ⊥) → ways_from (rest l i n) s i ≡ []
  unfolding ways_from
  ways_none_of_rest h = ap (λ (ts : List Transition). ways_from ts s i) (rest_none l i n h)

  module _ (e o : ℕ) where
    pub chosen_here_of_rest : i < n → (get_or l i past_move).from ≡ s → carries (get_or l i past_move).input e o ≡ true → chosen_from (rest l i n) s e o i ≡ Some i
    unfolding chosen_from
    chosen_here_of_rest h f c =
        ap (λ (ts : List Transition). chosen_from ts s e o i) (rest_more l i n h) ∙
        ap (λ (b : Bool). cond (b && carries (get_or l i past_move).input e o) (Some i) (chosen_from (rest l (i + 1) n) s e o (i + 1))) (eq-eqb (get_or l i past_move).from s f) ∙
        ap (λ (b : Bool). cond b (Some i) (chosen_from (rest l (i + 1) n) s e o (i + 1))) c

    pub chosen_other_of_rest : i < n → ((get_or l i past_move).from ≡ s → ⊥) → chosen_from (rest l i n) s e o i ≡ chosen_from (rest l (i + 1) n) s e o (i + 1)
    unfolding chosen_from
    chosen_other_of_rest h f =
        ap (λ (ts : List Transition). chosen_from ts s e o i) (rest_more l i n h) ∙
        ap (λ (b : Bool). cond (b && carries (get_or l i past_move).input e o) (Some i) (chosen_from (rest l (i + 1) n) s e o (i + 1))) (ne_eqb (get_or l i past_move).from s f)

    pub chosen_past_of_rest : i < n → (get_or l i past_move).from ≡ s → carries (get_or l i past_move).input e o ≡ false → chosen_from (rest l i n) s e o i ≡ chosen_from (rest l (i + 1) n) s e o (i + 1)
    unfolding chosen_from
    chosen_past_of_rest h f c =
        ap (λ (ts : List Transition). chosen_from ts s e o i) (rest_more l i n h) ∙
        ap (λ (b : Bool). cond (b && carries (get_or l i past_move).input e o) (Some i) (chosen_from (rest l (i + 1) n) s e o (i + 1))) (eq-eqb (get_or l i past_move).from s f) ∙
        ap (λ (b : Bool). cond b (Some i) (chosen_from (rest l (i + 1) n) s e o (i + 1))) c

    pub chosen_none_of_rest : (i < n → ⊥) → chosen_from (rest l i n) s e o i ≡ None
    unfolding chosen_from
    chosen_none_of_rest h = ap (λ (ts : List Transition). chosen_from ts s e o i) (rest_none l i n h)
