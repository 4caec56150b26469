-- The plan, and as many availabilities as the count says, go to the opening.
use mathlib.Core.Path.{◌≡◌, sym, ◌∙◌, ap, ap₂}
use mathlib.Core.List.{List}
use native.Mathlib.Omega.{arith}
use Prim.Native.Nat.{ℕ, ◌+◌, ◌-◌}
use lib.ListN.{length, take, drop}
use lib.Seq.{length-take-le}
use Rattle.run.specs.Opening.{open_of}
use borrow.Author.Rules.{rules}
use Rattle.drive.proofs.open.Goals as goal

pub slice_bounds-open-end-2 : goal.slice_bounds-open-end-2
slice_bounds-open-end-2 c = let l : length c.availabilities-times.result ≡ 255 = search rules in sym (length-take-le _ _ (omega arith))

pub returns : goal.returns
returns c = let a = c.args in let e : a.head.length + 2 - 2 ≡ a.head.length = omega arith in c.«open».ensures ∙ ap₂ (λ (p ts : List ℕ). open_of p a.head.psi a.head.slack ts) (ap (λ (k : ℕ). take k (drop 2 a.input.now)) e) (ap (λ (k : ℕ). take k c.availabilities-times.result) c.from-n.ensures ∙ c.availabilities-times.ensures)
