use mathlib.Core.List.{List}
use mathlib.Core.Path.{◌≡◌, refl, sym, ap, ◌∙◌}
use Prim.Native.Nat.{ℕ, ◌+◌, ◌*◌, ◌-◌}
use native.Mathlib.Omega.{arith}
use lib.ListN.{get_or, set}
use Rattle.times.specs.declared.Instance.{Instance}
use Rattle.times.specs.declared.Progress.{Progress}
use Rattle.times.specs.Inner.Times.{with_pending}
use Rattle.times.proofs.Laws.Loops.{shifted_on, shifted_end}
use Rattle.times.proofs.Laws.Taken.{processed_nothing, processed_oldest, processed_none}
use Rattle.times.specs.Queues.{no_instance, pending_of, shifted_of}
use Rattle.times.proofs.queues.processed.Goals as goal

pub returns-in_default : goal.returns-in_default
returns-in_default c = processed_nothing _ _ c.in_default.is

pub returns-then-n-eq0 : goal.returns-then-n-eq0
returns-then-n-eq0 c = processed_none _ _ _ _ _ c.in-Outcome.is c.from-i.ensures (omega arith)

pub loop-j-init : goal.loop-j-init
loop-j-init c =
    let i = c.from-i.result in
    let e : 8 * i + 7 - 8 * i ≡ 7 = omega arith in
    (omega arith, refl, rw e)

pub loop-j-preserved : goal.loop-j-preserved
loop-j-preserved c =
    let l = c.loop-j in
    let i = c.from-i.result in (
      omega arith,
      ap (λ (g : Progress). with_pending g (set l.h.pending l.j (get_or l.h.pending (l.j + 1) no_instance))) l.invariant.1,
      l.invariant.2 ∙ shifted_on l.h.pending l.j (8 * i + 7) (omega arith),
    )

pub returns : goal.returns
returns c =
    let l = c.loop-j in
    let g = c.args.g in
    let i = c.from-i.result in
    let e : l.j ≡ 8 * i + 7 = omega arith in
    let q : shifted_of (8 * i) 7 g.pending ≡ set l.h.pending (8 * i + 7) no_instance =
    l.invariant.2 ∙ shifted_end l.h.pending l.j (8 * i + 7) (omega arith) ∙ ap (λ (k : ℕ). set l.h.pending k no_instance) e in
    ap (λ (f : Progress). with_pending f (set l.h.pending (8 * i + 7) no_instance)) l.invariant.1
    ∙ sym (ap (λ (p : List Instance). record { available = g.available; latest = g.latest; lengths = set g.lengths i (pending_of g i - 1); pending = p; position = g.position; state = g.state }) q)
    ∙ processed_oldest _ _ _ _ _ c.in-Outcome.is c.from-i.ensures (omega (arith, c.if-n-eq0.false))
