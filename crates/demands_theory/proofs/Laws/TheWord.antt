-- The word of a log is one, and every word that the log takes is a beginning of it, which it extends.
use Rattle.std.specs.Prelude.{◌≡◌, refl, List, [], ◌∷◌, ◌⊎◌, ℕ, Some}
use Rattle.std.proofs.Common.{sym, ap₂, ◌∙◌, subst, inl, inr}
use Rattle.plan.specs.Plan.{resource_of}
use Rattle.plan.specs.declared.Plan.{Plan}
use Rattle.automaton.specs.Next.{chosen_of}
use Rattle.automaton.specs.Rules.{Leaves}
use Rattle.automaton.specs.declared.Next.{Next}
use Rattle.automaton.proofs.Laws.Following.{next_leaves, chosen_leaves}
use Rattle.automaton.proofs.Laws.Cases.{goes_same, waits_same, move_same, goes_waits, ended_goes, ended_waits}
use Rattle.times_combined.specs.Word.{times}
use Rattle.times_combined.specs.Paths.{word_of, Follows, Lawful}
use Rattle.times_combined.proofs.Laws.Counts.{one_instance}
use Rattle.times_combined.proofs.Laws.Plans.{good_path}
use Rattle.run.specs.declared.Call.{Call}
use Rattle.run.specs.declared.Reply.{Reply}
use Rattle.demands_log.specs.Log.{Id, Log, Always, Reports, Reported, Tells, Told}
use Rattle.demands_theory.proofs.Laws.Way.{Extends}
use Rattle.demands_theory.specs.Nodes.{whose}
use Rattle.demands_theory.specs.TheWord.{state_after, next_after, Oldest, Takes, none, goes, hears, Stuck, ended, waits, TheWord}
use Rattle.demands_theory.proofs.Laws.OfPlan.{world_of}
use Rattle.demands_theory.proofs.Laws.World.{extends}
use Rattle.demands_theory.proofs.Laws.Growth.{extends_self, extends_on, Tail, here, later, tail_next, tail_empty}
use Rattle.demands_theory.proofs.Laws.Nodes.{whose_same}

-- ---- a log in which no node is reported twice tells one outcome of each

tells_reports : (c : Call) (r : Reply) (log : Log) (x : Id) (o : ℕ) → Tells c r log x o → Reports c r log x
tells_reports (Call.Ask t) r log x o q = q
tells_reports (Call.Completion t p n) r log x o q = absurd q
tells_reports (Call.Outcome t p n k) r log x o q = (q.0, q.2)

tells_same : (c : Call) (r : Reply) (log : Log) (x : Id) (o p : ℕ) → Tells c r log x o → Tells c r log x p → o ≡ p
tells_same (Call.Ask t) r log x o p q s = absurd q
tells_same (Call.Completion t m n) r log x o p q s = absurd q
tells_same (Call.Outcome t m n k) r log x o p q s = sym q.1 ∙ s.1

told_reported : (log : Log) (x : Id) (o : ℕ) → Told log x o → Reported log x
told_reported [] x o x3 = elim x3 [ ]
told_reported (y ∷ log) x o (inl p) = inl (tells_reports y.call y.reply log x o p)
told_reported (y ∷ log) x o (inr p) = inr (told_reported log x o p)

pub told_once : (log : Log) → Always (λ y older. (x : Id) → Reports y.call y.reply older x → Reported older x → ⊥) log → (x : Id) (o p : ℕ) → Told log x o → Told log x p → o ≡ p
told_once [] h x o p x5 _ = elim x5 [ ]
told_once (y ∷ log) h x o p (inl a) (inl b) = tells_same y.call y.reply log x o p a b
told_once (y ∷ log) h x o p (inl a) (inr b) = absurd (h.0 x (tells_reports y.call y.reply log x o a) (told_reported log x p b))
told_once (y ∷ log) h x o p (inr a) (inl b) = absurd (h.0 x (tells_reports y.call y.reply log x p b) (told_reported log x o a))
told_once (y ∷ log) h x o p (inr a) (inr b) = told_once log h.1 x o p a b

-- ---- one transition more

-- transition t is taken after `is`
pub data Step (p : Plan) (log : Log) (is : List ℕ) (t : ℕ) : Type 0 where
  silent : next_after p is ≡ Next.Goes t → Step p log is t
  heard : (e o : ℕ) (x : Id) → next_after p is ≡ Next.Waits e → Oldest p is e x → Told log x o → chosen_of p.automaton (state_after p is) e o ≡ Some t → Step p log is t

abbrev Last : Plan → Log → List ℕ → Type 0
Last p log [] = Unit {0}
Last p log (t ∷ is) = Takes p log is × Step p log is t

pub last : (p : Plan) (log : Log) (is : List ℕ) → Takes p log is → Last p log is
last p log is none = tt
last p log is (goes h e) = (h, silent e)
last p log is (hears e o x h n old told c) = (h, heard e o x n old told c)

-- ---- the transitions taken are a path

step_leaves : (p : Plan) (log : Log) (is : List ℕ) (t : ℕ) → Step p log is t → Leaves p.automaton (state_after p is) t
step_leaves p log is t (silent e) = next_leaves p.automaton (state_after p is) t e
step_leaves p log is t (heard e o x n old told c) = (chosen_leaves p.automaton (state_after p is) e o t c).0

pub takes_follows : (p : Plan) (log : Log) (is : List ℕ) → Takes p log is → Follows p p.automaton.initial is (state_after p is)
takes_follows p log [] h = refl
takes_follows p log (t ∷ is) h =
    let l = last p log (t ∷ is) h in
    let f = step_leaves p log is t l.1 in
    (subst (Follows p p.automaton.initial is) (sym f.from) (takes_follows p log is l.0), (f.low, refl))

-- ---- it is determined

module _ (p : Plan) (lawful : Lawful p) (log : Log) (unique : (x : Id) (o q : ℕ) → Told log x o → Told log x q → o ≡ q) where
  oldest_same : (is : List ℕ) → Takes p log is → (e : ℕ) (x y : Id) → Oldest p is e x → Oldest p is e y → x ≡ y
  oldest_same is h e x y a b =
      whose_same x y
      (one_instance p.resources (resource_of p) (word_of p is) (good_path p lawful p.automaton.initial is (state_after p is) (takes_follows p log is h)) e (times e (word_of p is)) (whose x) (whose y) a b)

  -- the outcomes told of the oldest instance
  heard_same : (is : List ℕ) → Takes p log is → (e f o q : ℕ) (x y : Id) → e ≡ f → Oldest p is e x → Oldest p is f y → Told log x o → Told log y q → o ≡ q
  heard_same is h e f o q x y same a b told other =
      unique x o q told (subst (λ (z : Id). Told log z q) (sym (oldest_same is h e x y a (subst (λ (z : ℕ). Oldest p is z y) (sym same) b))) other)

  pub step_same : (is : List ℕ) → Takes p log is → (t u : ℕ) → Step p log is t → Step p log is u → t ≡ u
  step_same is h t u (silent a) (silent b) = goes_same (sym a ∙ b)
  step_same is h t u (silent a) (heard e o x n old told c) = goes_waits (sym a ∙ n)
  step_same is h t u (heard e o x n old told c) (silent b) = goes_waits (sym b ∙ n)
  step_same is h t u (heard e o x n old told c) (heard f q y m young other d) =
      let w : e ≡ f = waits_same (sym n ∙ m) in
      let z : o ≡ q = heard_same is h e f o q x y w old young told other in
      move_same (sym c ∙ ap₂ (λ (i j : ℕ). chosen_of p.automaton (state_after p is) i j) w z ∙ d)

  pub not_stuck : (is : List ℕ) (t : ℕ) → Step p log is t → Stuck p log is → ⊥
  not_stuck is t (silent a) (ended b) = ended_goes (sym b ∙ a)
  not_stuck is t (silent a) (waits e b no_one) = goes_waits (sym a ∙ b)
  not_stuck is t (heard e o x n old told c) (ended b) = ended_waits (sym b ∙ n)
  not_stuck is t (heard e o x n old told c) (waits f b no_one) = no_one x o (subst (λ (z : ℕ). Oldest p is z x) (waits_same (sym n ∙ b)) old) told

  -- ---- beginnings

  pub tail_takes : (is us : List ℕ) → Tail is us → Takes p log us → Takes p log is
  tail_takes is us here h = h
  tail_takes is us (later {us = vs} {t} b) h = tail_takes is vs b (last p log (t ∷ vs) h).0

  -- what the log takes is a beginning of its word
  pub on_the_way : (is us : List ℕ) → Takes p log is → TheWord p log us → Tail is us
  on_the_way [] us h w = tail_empty us
  on_the_way (t ∷ is) us h w = go (tail_next is us (on_the_way is us (last p log (t ∷ is) h).0 w))
    where
      step : Step p log is t
      step = (last p log (t ∷ is) h).1

      go : (is ≡ us) ⊎ ((u : ℕ) × Tail (u ∷ is) us) → Tail (t ∷ is) us
      go (inl e) = absurd (not_stuck is t step (subst (Stuck p log) (sym e) w.whole))
      go (inr n) =
          let l = last p log (n.0 ∷ is) (tail_takes (n.0 ∷ is) us n.1 w.taken) in
          subst (λ (u : ℕ). Tail (u ∷ is) us) (step_same is l.0 n.0 t l.1 step) n.1

  tail_stuck : (is us : List ℕ) → Tail is us → Takes p log us → Stuck p log is → is ≡ us
  tail_stuck is us b h s = go (tail_next is us b)
    where
      go : (is ≡ us) ⊎ ((u : ℕ) × Tail (u ∷ is) us) → is ≡ us
      go (inl e) = e
      go (inr n) = absurd (not_stuck is n.0 (last p log (n.0 ∷ is) (tail_takes (n.0 ∷ is) us n.1 h)).1 s)

  -- there is one word of the log
  pub one_word : (is us : List ℕ) → Takes p log is → Stuck p log is → TheWord p log us → is ≡ us
  one_word is us h s w = tail_stuck is us (on_the_way is us h w) w.taken s

  -- ---- and it extends its beginnings

  pub tail_extends : (available : ℕ → ℕ) (is us : List ℕ) → Tail is us → Takes p log us → Extends (world_of p available) is us
  tail_extends available is us here h = extends_self (world_of p available) is
  tail_extends available is us (later {us = vs} {t} b) h =
      extends_on (world_of p available) is vs (t ∷ vs) (tail_extends available is vs b (last p log (t ∷ vs) h).0)
      (extends p lawful available t vs (state_after p (t ∷ vs)) (takes_follows p log (t ∷ vs) h))
