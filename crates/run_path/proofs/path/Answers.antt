use mathlib.Core.Path.{◌≡◌, refl, sym, ap, ◌∙◌, subst}
use mathlib.Core.Bool.{false}
use mathlib.Core.List.{List, [], ◌∷◌}
use mathlib.Core.Logic.{⊎_elim}
use Prim.Native.Nat.{ℕ, ◌+◌, ◌-◌, ◌*◌}
use native.Mathlib.Omega.{arith}
use lib.ListN.{length, get_or, set, replicate}
use types.Run.{OneOf}
use denote.Enum.Declared.{tag_of}
use Rattle.automaton.specs.contracts.Next as next-type
use Rattle.automaton.specs.declared.Next.{Next}
use Rattle.plan.specs.Plan.{past_node, size_of, move}
use Rattle.plan.specs.declared.Plan.{Plan}
use Rattle.plan.specs.declared.Node.{Node}
use Rattle.run_window.specs.declared.Entry.{Entry}
use Rattle.activity.specs.Inner.Copied.{filled}
use Rattle.activity.proofs.Laws.Copied.{filled_more}
use Rattle.run_path.specs.Path.{Path, taken_by, path_from}
use Rattle.run_path.specs.Pathed.{pathed}
use Rattle.run_path.specs.declared.Pathed.{Pathed}
use Rattle.run_path.specs.Inner.Path.{stored, emitted_count}
use Rattle.run_path.proofs.Laws.Stepping.{advanced_is, Walking, walking_starts, walking_ended, walking_waits, walking_over, named, walking_stops, walking_on}
use Rattle.run_path.proofs.Laws.Storing.{emitted_as, step_taken, entries_are, Storing, storing_kept, storing_passed, storing_ends, stored_beyond, taken_past, taken_whole}
use borrow.Enum.Refused.{opened}
use Rattle.run_path.proofs.path.Goals.{then-is_kept, else-is_kept}
use Rattle.run_path.proofs.path.Goals as goal

-- a state that takes no transition ends the path
rests : (p : Plan) (q : Path) (left : ℕ) (f : Pathed) (n : Next) → Walking p q left n f → OneOf (0 ∷ (2 ∷ [])) (tag_of next-type.the_type n) → f ≡ pathed q
rests p q left f Next.Ended w k = walking_ended p q left f w refl
rests p q left f (Next.Waits e) w k = walking_waits p q left f w refl
rests p q left f (Next.Goes t) w k = absurd (⊎_elim (λ e. omega arith) (λ e. omega arith) k)

one_less : (p : Plan) (q : Path) (n : ℕ) {next : Next} {f : Pathed} → Walking p q (64 - n - 1) next f → Walking p q (64 - (n + 1)) next f
one_less p q n {next} {f} w = let z : 64 - n - 1 ≡ 64 - (n + 1) = omega arith in subst (λ (k : ℕ). Walking p q k next f) z w

pub loop-init : goal.loop-init
loop-init c =
    let p = c.args.plan in
    let e = ap {B = Pathed} (λ (x : Entry). record { beyond = false; entries = replicate 512 x; count = 0; progress = c.args.progress }) c.vacant.ensures in (
      subst (λ (f : Pathed). Walking p (path_from p 64 c.args.next f.progress) 64 c.args.next f) (sym e) (walking_starts p c.args.next c.args.progress c.requires.leads c.requires.progress_in),
      ap (λ (f : Pathed). length f.entries) e,
    )

pub returns-in_default : goal.returns-in_default
returns-in_default c =
    let l = c.loop in
    rests _ _ (64 - l.counter) l.found l.next l.invariant.0 (opened c.in_default.in_default-own.keys2)

pub loop-n-preserved : goal.loop-n-preserved
loop-n-preserved c =
    let l = c.loop-n in
    let p = c.args.plan in
    let i = c.from-in-loop-n in
    let a = c.activity_number-a.result in (
      l.invariant.0,
      l.invariant.1,
      ap (λ (x : List Node). set x l.n (get_or p.nodes (64 * i.result + l.n) past_node)) l.invariant.2
          ∙ ap (λ (k : ℕ). set (filled p a l.n) l.n (get_or p.nodes (64 * k + l.n) past_node)) i.ensures
          ∙ filled_more p a l.n (omega arith),
    )

pub advance-advanced-requires : goal.advance-advanced-requires
advance-advanced-requires c =
    let p = c.args.plan in
    let l = c.loop in
    let o = (move p.automaton c.from.result).output in
    let n = c.activity_number-a in
    let k = c.emitted_count-count in
    let z : c.loop-n.n ≡ k.result = omega arith in
    let activity = emitted_as p o n.result k.result c.loop-n.nodes n.ensures (k.ensures ∙ ap (λ (x : ℕ). emitted_count o (size_of p x)) c.from-in-loop.ensures) (c.loop-n.invariant.2 ∙ ap (filled p n.result) z) in
    let is-named = named _ _ (64 - l.counter) l.found _ l.invariant.0 c.in-Goes.is (omega arith) c.requires.in_limits in
    step_taken p _ l.found.progress c.from.result c.from.ensures _ activity c.requires.in_limits is-named l.invariant.0.limits

pub returns-then-advanced : goal.returns-then-advanced
returns-then-advanced c =
    let p = c.args.plan in
    let l = c.loop in
    let o = (move p.automaton c.from.result).output in
    let n = c.activity_number-a in
    let k = c.emitted_count-count in
    let z : c.loop-n.n ≡ k.result = omega arith in
    let activity = emitted_as p o n.result k.result c.loop-n.nodes n.ensures (k.ensures ∙ ap (λ (x : ℕ). emitted_count o (size_of p x)) c.from-in-loop.ensures) (c.loop-n.invariant.2 ∙ ap (filled p n.result) z) in
    let is-taken : c.advance-advanced.result ≡ taken_by p c.in-Goes.t l.found.progress = advanced_is p _ l.found.progress c.from.result _ c.advance-advanced.result c.from.ensures activity c.advance-advanced.ensures in
    walking_stops p _ (64 - l.counter) l.found _ l.invariant.0 c.in-Goes.is (omega arith) c.requires.in_limits _ (taken_past p _ l.found c.advance-advanced.result is-taken c.if-advanced.true) refl

pub loop-n-2-preserved : goal.loop-n-2-preserved
loop-n-2-preserved c =
    let l = c.loop-n-2 in
    let k = c.counted in
    let i = c.is_kept.ensures in
    let h = c.loop.found in
    let number = c.activity_number-a.result in
    let times = c.advance-advanced.result.schedule in
    let nodes = c.loop-n.nodes in
    let size = c.emitted_count-count.result in
    elim c.if-is_kept.branch [
      | then-is_kept w ↦
          subst (λ (r : Pathed). Storing h.progress.position number times nodes size h r (l.n + 1)) (sym w.found-is)
          (storing_kept h.progress.position number times nodes size h l.found l.n l.invariant (omega arith) k.result k.ensures w.entry_of.result w.entry_of.ensures (sym i ∙ w.if-is_kept.true))
      | else-is_kept w ↦
          subst (λ (r : Pathed). Storing h.progress.position number times nodes size h r (l.n + 1)) (sym w.found-is)
          (storing_passed h.progress.position number times nodes size h l.found l.n l.invariant (omega arith) k.result k.ensures (sym i ∙ w.if-is_kept.false))
    ]

pub loop-preserved : goal.loop-preserved
loop-preserved c =
    let p = c.args.plan in
    let l = c.loop in
    let o = (move p.automaton c.from.result).output in
    let n = c.activity_number-a in
    let k = c.emitted_count-count in
    let z : c.loop-n.n ≡ k.result = omega arith in
    let activity = emitted_as p o n.result k.result c.loop-n.nodes n.ensures (k.ensures ∙ ap (λ (x : ℕ). emitted_count o (size_of p x)) c.from-in-loop.ensures) (c.loop-n.invariant.2 ∙ ap (filled p n.result) z) in
    let is-taken : c.advance-advanced.result ≡ taken_by p c.in-Goes.t l.found.progress = advanced_is p _ l.found.progress c.from.result _ c.advance-advanced.result c.from.ensures activity c.advance-advanced.ensures in
    let m = c.loop-n-2 in
    let es = entries_are p c.in-Goes.t l.found.progress c.from.result c.from.ensures _ activity c.advance-advanced.result is-taken n.result n.ensures in
    let w = storing_ends l.found.progress.position n.result c.advance-advanced.result.schedule c.loop-n.nodes c.emitted_count-count.result l.found m.found m.n m.invariant (omega arith) _ refl ∙ ap (stored l.found) es in (
      one_less p _ l.counter
          (walking_on p _ (64 - l.counter) l.found c.in-Goes.t l.invariant.0 c.in-Goes.is (omega arith) c.requires.in_limits _ _ (taken_whole p c.in-Goes.t l.found c.advance-advanced.result is-taken c.if-advanced.false l.invariant.0.going m.found w) (stored_beyond l.found m.found _ w ∙ l.invariant.0.going) c.next_of-next.ensures),
      m.invariant.places,
    )

pub returns : goal.returns
returns c =
    let l = c.loop in
    walking_over c.args.plan _ (64 - l.counter) l.found l.invariant.0 (omega arith)
