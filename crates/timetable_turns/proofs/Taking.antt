-- One turn, case by case: what the code puts is the turn of the definition.
use mathlib.Core.Path.{◌≡◌, refl, sym, ap, ◌∙◌, subst}
use mathlib.Core.Bool.{Bool, true, false, cond}
use mathlib.Core.List.{List}
use Prim.Native.Nat.{ℕ}
use Rattle.basis.proofs.Laws.Bools.{clash}
use Rattle.wire.specs.Puts.{Puts}
use Rattle.plan.specs.Plan.{nodes_of}
use Rattle.plan.specs.declared.Node.{Node}
use Rattle.plan.specs.declared.Activity.{Activity}
use Rattle.plan.specs.declared.Transition.{Transition}
use Rattle.times.specs.Engine.{advance_of}
use Rattle.times.specs.declared.Progress.{Progress}
use Rattle.times.specs.declared.Advanced.{Advanced}
use Rattle.run_path.specs.Path.{activity_number, entries_from}
use Rattle.timetable_lines.specs.Lines.{rows, refused}
use Rattle.timetable_steps.specs.declared.Step.{Step}
use Rattle.timetable_turns.specs.declared.Drafted.{Drafted}
use Rattle.timetable_turns.specs.Inner.Turn.{OneTurn, closes}
use Rattle.timetable_turns.specs.Inner.Stepped.{taking, closing, stepped, closed_at}
use Rattle.timetable_turns.specs.Inner.Answers.{Drafts}

-- whether a step takes a transition
abbrev takes_one : Step → Bool
takes_one Step.Ends = false
takes_one (Step.Waits e) = false
takes_one Step.Lacks = false
takes_one (Step.Takes m heard) = true

stepped_closes : (resources : ℕ) (nodes : List Node) (g : Progress) (read : ℕ) (y : Step) → takes_one y ≡ false → closes g (closing resources g read y) ≡ stepped resources nodes g read y
unfolding stepped
stepped_closes resources nodes g read Step.Ends n = refl
stepped_closes resources nodes g read (Step.Waits e) n = refl
stepped_closes resources nodes g read Step.Lacks n = refl
stepped_closes resources nodes g read (Step.Takes m heard) n = clash n

module _ (before : List ℕ) (at : ℕ) (after : List ℕ) where
  pub turns_closed : (g : Progress) (text : List ℕ) (next : ℕ) → Puts before at text after next → Drafts before at (closes g text) after (closed_at next g)
  turns_closed g text next p = record { text = p; closed = refl; heard = refl; progress = refl }

  pub turns_as : (x y : OneTurn) (r : Drafted) → x ≡ y → Drafts before at x after r → Drafts before at y after r
  turns_as x y r e h = subst (λ (z : OneTurn). Drafts before at z after r) e h

  module _ (resources : ℕ) (a : Activity) (g : Progress) (m : Transition) (heard : Bool) (v : Advanced) (e : v ≡ advance_of resources (nodes_of a) m.input m.to g) where
    goes : OneTurn
    goes = record {
      text = rows (entries_from g.position (activity_number m.output) v.schedule 0 (nodes_of a));
      closed = false;
      heard = heard;
      progress = v.progress;
    }

    taking_by : (b : Bool) → v.beyond ≡ b → cond b (closes g (refused 44 g.position)) goes ≡ taking resources (nodes_of a) g m heard
    unfolding taking goes
    taking_by b d =
        ap (λ (x : Bool). cond x (closes g (refused 44 g.position)) goes) (sym d)
        ∙ ap (λ (x : Advanced). cond x.beyond (closes g (refused 44 g.position)) (record { text = rows (entries_from g.position (activity_number m.output) x.schedule 0 (nodes_of a)); closed = false; heard = heard; progress = x.progress })) e

    pub turns_stops : (next : ℕ) → v.beyond ≡ true → Puts before at (refused 44 g.position) after next → Drafts before at (taking resources (nodes_of a) g m heard) after (closed_at next g)
    turns_stops next d q = turns_as _ _ _ (taking_by true d) (turns_closed g (refused 44 g.position) next q)

    pub turns_goes : (next n : ℕ) → v.beyond ≡ false → n ≡ activity_number m.output → Puts before at (rows (entries_from g.position n v.schedule 0 (nodes_of a))) after next → Drafts before at (taking resources (nodes_of a) g m heard) after (record { next = next; closed = false; heard = heard; progress = v.progress })
    unfolding goes
    turns_goes next n d en q =
        turns_as goes _ _ (taking_by false d)
        (record {
          text = subst (λ (k : ℕ). Puts before at (rows (entries_from g.position k v.schedule 0 (nodes_of a))) after next) en q;
          closed = refl;
          heard = refl;
          progress = refl;
        })

  -- ---- the turn, once it is known what it does

  pub turns_shut : (g : Progress) (text : List ℕ) (next : ℕ) (r : Drafted) → r ≡ closed_at next g → Puts before at text after next → Drafts before at (closes g text) after r
  turns_shut g text next r e q = subst (λ (d : Drafted). Drafts before at (closes g text) after d) (sym e) (turns_closed g text next q)

  module _ (resources : ℕ) (g : Progress) (read : ℕ) (r : Drafted) (x y : Step) (k : x ≡ y) where
    pub closes_by : Drafts before at (closes g (closing resources g read y)) after r → Drafts before at (closes g (closing resources g read x)) after r
    closes_by h = turns_as _ _ r (ap (λ (z : Step). closes g (closing resources g read z)) (sym k)) h

    pub turns_closing : (nodes : List Node) → takes_one y ≡ false → Drafts before at (closes g (closing resources g read x)) after r → Drafts before at (stepped resources nodes g read x) after r
    turns_closing nodes n h = turns_as _ _ r (ap (λ (z : Step). closes g (closing resources g read z)) k ∙ stepped_closes resources nodes g read y n ∙ ap (stepped resources nodes g read) (sym k)) h

  pub turns_taking : (resources : ℕ) (nodes : List Node) (g : Progress) (read : ℕ) (r : Drafted) (x : Step) (m : Transition) (heard : Bool) → x ≡ Step.Takes m heard → Drafts before at (taking resources nodes g m heard) after r → Drafts before at (stepped resources nodes g read x) after r
  unfolding stepped
  turns_taking resources nodes g read r x m heard k h = turns_as _ _ r (ap (stepped resources nodes g read) (sym k)) h
