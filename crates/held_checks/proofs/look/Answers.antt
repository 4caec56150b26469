-- `look` goes by ranks only where a start ties.
use mathlib.Core.Path.{◌≡◌, refl, subst}
use mathlib.Core.Bool.{Bool, true, false}
use mathlib.Core.List.{List, map}
use Prim.Native.Nat.{ℕ}
use native.Mathlib.Omega.{arith}
use Rattle.plan.specs.declared.Node.{Node}
use Rattle.run_window.specs.declared.Entry.{Entry}
use Rattle.run_window.specs.declared.Scan.{Scan}
use Rattle.run_window.specs.declared.Seen.{Seen}
use Rattle.run_window.specs.declared.Sought.{Sought}
use Rattle.run_window.specs.Inner.Search.{seen_of}
use Rattle.run_checks.specs.declared.Moment.{Moment}
use Rattle.held.specs.Held.{entry_of, node_of}
use Rattle.held_checks.specs.Inner.Checks.{ScannedIn}
use Rattle.held_checks.proofs.look.Goals as goal

module _ (m : Moment) (sought : Sought) (w : List Entry) where
  untied : (limits : Bool) (seen : Seen) (nodes : List Node) → ScannedIn limits m sought w (Scan.Untied seen) → limits ≡ true → seen ≡ seen_of nodes m.psi m.slack m.t sought w
  untied true seen nodes s q = s nodes
  untied false seen nodes s q = absurd (let z : ◌≡◌ {A = ℕ} 0 1 = cc in omega arith)

  -- a start ties only where something was looked for
  tied : (limits : Bool) → ScannedIn limits m sought w Scan.Tied → limits ≡ true
  tied true s = refl
  tied false s = absurd (let z : ◌≡◌ {A = ℕ} 0 1 = cc in omega arith)

pub returns-in-Untied : goal.returns-in-Untied
returns-in-Untied c q =
    let a = c.args in
    untied a.m a.sought (map entry_of a.rest.window) a.limits _ (map node_of a.plan.nodes)
    (subst (ScannedIn a.limits a.m a.sought (map entry_of a.rest.window)) c.in-Untied.is c.scan-scanned.ensures) q

pub look_by_rank-requires : goal.look_by_rank-requires
look_by_rank-requires c =
    let a = c.args in
    let p = c.requires (tied a.m a.sought (map entry_of a.rest.window) a.limits (subst (ScannedIn a.limits a.m a.sought (map entry_of a.rest.window)) c.in-Tied.is c.scan-scanned.ensures)) in
    (p.0.0, p.0.1, p.1, p.0.2, p.0.3)

pub returns-in-Tied : goal.returns-in-Tied
returns-in-Tied c q = c.look_by_rank.ensures
