-- The checks with the nodes looked at last say what the checks of a run say.
use Rattle.std.specs.Prelude.{◌≡◌, Bool, ◌&&◌, List, ℕ, ◌≤◌, ◌<◌, leb, length, get_or, Option, Some, None, Result, Ok, Err}
use Rattle.std.proofs.Math.Path.{refl, ap}
use Rattle.std.proofs.Common.{sym, ◌∙◌, subst}
use Rattle.std.proofs.Math.Bool.{true, false}
use native.Mathlib.Omega.{arith}
use Rattle.basis.proofs.Laws.Tells.{told_true, tells_leb, tells_and}
use Rattle.time.specs.Time.{horizon}
use Rattle.time.specs.declared.Clock.{Clock}
use Rattle.plan.specs.declared.Kind.{Kind}
use Rattle.plan.specs.declared.Node.{Node}
use Rattle.plan_limits.specs.Limits.{within, automaton_in_limits}
use Rattle.plan_limits.proofs.Laws.Tells.{tells_within}
use Rattle.run_window.specs.declared.Entry.{Entry}
use Rattle.run_window.specs.declared.Found.{Found}
use Rattle.run_window.specs.declared.Seen.{Seen}
use Rattle.run_window.specs.declared.Sought.{Sought}
use Rattle.run_window.specs.Window.{vacant, node_place, found_at}
use Rattle.run_window.specs.Inner.Search.{SoughtInTime, first_of, seen_of}
use Rattle.run_limits.specs.Progress.{progress_in_limits}
use Rattle.run_limits.specs.Window.{entry_in_limits, window_in_limits}
use Rattle.run_limits.proofs.Laws.Places.{tells_window}
use Rattle.run_checks.specs.declared.Refusal.{Refusal}
use Rattle.run_checks.specs.declared.Objection.{Objection}
use Rattle.run_checks.specs.Limits.{halt_in_limits, slack_in_limits}
use Rattle.run_checks.specs.Order.{Timed, timely_by, called_by}
use Rattle.run_checks.proofs.Laws.Checks.{passed}
use Rattle.run.specs.declared.Run.{Run}
use Rattle.run.specs.declared.Call.{Call}
use Rattle.run.specs.Limits.{run_in_limits}
use Rattle.run.specs.Calls.{moment_of}
use Rattle.run.specs.Inner.Checks.{check_of}
use Rattle.run.specs.Inner.Effects.{sought_by, found_by, place_of, outcomes_for, kind_found, checked_of, effect_by, effect_of}
use Rattle.run.proofs.Laws.Checking.{tells_self, node_below, window_timed}
use Rattle.run.proofs.Laws.Acting.{found_holds}
use Rattle.held_checks.specs.Inner.Limits.{counted_in_limits, numbers_in_limits, nodes_good}
use Rattle.held_checks.specs.Inner.Checks.{all_but_nodes, check_seen, check_nodes_last, effect_read}
use Rattle.held_checks.proofs.Laws.Limits.{both_parts}

-- ---- the limits

nodes_last : (a n p s g w h : Bool) → (a && n) && (p && (s && (g && (w && h)))) ≡ (a && (g && (w && (p && (s && h))))) && n
nodes_last false n p s g w h = refl
nodes_last true false p s false w h = refl
nodes_last true false p s true false h = refl
nodes_last true false false s true true h = refl
nodes_last true false true false true true h = refl
nodes_last true false true true true true false = refl
nodes_last true false true true true true true = refl
nodes_last true true false s false w h = refl
nodes_last true true false s true false h = refl
nodes_last true true false s true true h = refl
nodes_last true true true false false w h = refl
nodes_last true true true false true false h = refl
nodes_last true true true false true true h = refl
nodes_last true true true true false w h = refl
nodes_last true true true true true false h = refl
nodes_last true true true true true true false = refl
nodes_last true true true true true true true = refl

pub limits_apart : (run : Run) → run_in_limits run ≡ all_but_nodes run && nodes_good run.plan
unfolding run_in_limits all_but_nodes
limits_apart run =
    ap (λ (b : Bool). b && (leb run.psi.0 horizon && (slack_in_limits run.slack && (progress_in_limits run.plan run.progress && (window_in_limits run.plan.activities run.plan.sizes run.window && halt_in_limits run.halt))))) (both_parts run.plan)
    ∙ nodes_last (numbers_in_limits run.plan) (nodes_good run.plan) (leb run.psi.0 horizon) (slack_in_limits run.slack) (progress_in_limits run.plan run.progress) (window_in_limits run.plan.activities run.plan.sizes run.window) (halt_in_limits run.halt)

-- ---- what is known of a run that is within the limits but for its nodes

module _ (run : Run) (good : all_but_nodes run ≡ true) where
  parts : (numbers_in_limits run.plan ≡ true) × ((progress_in_limits run.plan run.progress ≡ true) × (((i : ℕ) → i < length run.window → entry_in_limits run.plan.activities run.plan.sizes (get_or run.window i vacant) ≡ true) × ((run.psi.0 ≤ horizon) × (((1 ≤ run.slack) × (run.slack ≤ 1_000_000)) × (halt_in_limits run.halt ≡ true)))))
  unfolding all_but_nodes
  parts =
      told_true
      (tells_and (tells_self (numbers_in_limits run.plan))
      (tells_and (tells_self (progress_in_limits run.plan run.progress))
      (tells_and (tells_window run.plan.activities run.plan.sizes run.window)
      (tells_and (tells_leb run.psi.0 horizon)
      (tells_and (tells_and (tells_leb 1 run.slack) (tells_leb run.slack 1_000_000)) (tells_self (halt_in_limits run.halt)))))))
      good

  counts : (run.plan.resources ≤ 16) × ((run.plan.peripherals ≤ 64) × ((run.plan.events ≤ 16) × ((run.plan.activities ≤ 32) × (counted_in_limits run.plan ≡ true))))
  unfolding numbers_in_limits
  counts =
      told_true
      (tells_and (tells_leb run.plan.resources 16)
      (tells_and (tells_leb run.plan.peripherals 64)
      (tells_and (tells_leb run.plan.events 16)
      (tells_and (tells_leb run.plan.activities 32) (tells_self (counted_in_limits run.plan))))))
      parts.0

  few : run.plan.activities ≤ 32
  few = counts.1.1.1.0

  small : (a : ℕ) → a < run.plan.activities → get_or run.plan.sizes a 0 ≤ 64
  unfolding counted_in_limits
  small a l =
      let p = run.plan in
      let h =
      ((told_true
      (tells_and (tells_self (within 0 p.resources p.peripherals p.belongs))
      (tells_and (tells_self (within 1 9 p.events p.outcomes))
      (tells_and (tells_within 1 65 p.activities p.sizes) (tells_self (automaton_in_limits p.activities p.events p.outcomes p.automaton)))))
      counts.1.1.1.1).1.1.0 a l).1 in
      omega arith

  pub all_timed : (t : Clock) → Timed (moment_of run t) run.window
  all_timed t = window_timed run.plan.activities run.plan.sizes few small (moment_of run t) run.window parts.1.1.1.0 parts.1.1.1.1.0.1 parts.1.1.0

  pub all_sought : (c : Call) → SoughtInTime (sought_by run.psi c)
  all_sought (Call.Ask t) = parts.1.1.1.0
  all_sought (Call.Completion t p n) = tt
  all_sought (Call.Outcome t p n o) = tt

  held_below : (i : ℕ) (e : Entry) (nodes : List Node) (s : Sought) → first_of nodes s run.window ≡ found_at i e → node_place e < 2048
  held_below i e nodes s q =
      let f = found_holds nodes s run.window i e q in
      node_below run.plan.activities run.plan.sizes few small e f.0.held (subst (λ (x : Entry). entry_in_limits run.plan.activities run.plan.sizes x ≡ true) f.0.entry (parts.1.1.0 i f.1))

-- ---- what the checks say

-- by what was found
pub seen_checked : (run : Run) (t : Clock) (sought : Sought) (limits : Bool) (seen : Seen) → limits ≡ all_but_nodes run
    → (limits ≡ true → seen ≡ seen_of run.plan.nodes run.psi run.slack t sought run.window)
    → check_seen limits run.halt (moment_of run t) seen ≡ check_nodes_last run t sought
unfolding timely_by
seen_checked run t sought false seen q s = rw (sym q)
seen_checked run t sought true seen q s = rw (sym q, s refl)

module _ (run : Run) (t : Clock) (sought : Sought) where
  pub found_below : (check : Result (Option Found) Objection) → check ≡ check_nodes_last run t sought → place_of (found_by check) < 2048
  found_below (Err o) q = omega arith
  found_below (Ok None) q = omega arith
  found_below (Ok (Some x)) q =
      let h = passed (all_but_nodes run) run.halt (moment_of run t) run.plan.nodes run.window (first_of run.plan.nodes sought run.window) (Some x) (sym q) in
      held_below run h.limits x.place x.entry run.plan.nodes sought (sym h.found)

  -- a run whose nodes are within the limits, and one whose nodes are not
  nodes_in : nodes_good run.plan ≡ true → check_nodes_last run t sought ≡ check_of run t sought
  unfolding check_of
  nodes_in g = ap (λ (b : Bool). called_by b run.halt (moment_of run t) run.plan.nodes run.window Err (Ok (first_of run.plan.nodes sought run.window))) (sym (limits_apart run ∙ ap (λ (b : Bool). all_but_nodes run && b) g ∙ and-true (all_but_nodes run)))
    where
      and-true : (b : Bool) → b && true ≡ b
      and-true true = refl
      and-true false = refl

  nodes_out : nodes_good run.plan ≡ false → Err (Objection.Refuses Refusal.OutOfLimits) ≡ check_of run t sought
  unfolding check_of
  nodes_out g = ap (λ (b : Bool). called_by b run.halt (moment_of run t) run.plan.nodes run.window Err (Ok (first_of run.plan.nodes sought run.window))) (sym (limits_apart run ∙ ap (λ (b : Bool). all_but_nodes run && b) g ∙ and-not (all_but_nodes run)))
    where
      and-not : (b : Bool) → b && false ≡ false
      and-not true = refl
      and-not false = refl

-- what a call does
pub effect_read_lem : (run : Run) (t : Clock) (c : Call) (sought : Sought) (check : Result (Option Found) Objection) (good : Bool) (kind : Kind) → check ≡ check_nodes_last run t sought → good ≡ nodes_good run.plan → kind ≡ kind_found run check
    → effect_read c check good kind run.plan.outcomes ≡ effect_of c (checked_of run t sought)
effect_read_lem run t c sought check true kind q g k =
    ap (λ (x : Kind). effect_by c check x (outcomes_for run.plan.outcomes x)) k
    ∙ ap (λ (x : Result (Option Found) Objection). effect_by c x (kind_found run x) (outcomes_for run.plan.outcomes (kind_found run x))) (q ∙ nodes_in run t sought (sym g))
effect_read_lem run t c sought check false kind q g k = ap (λ (x : Result (Option Found) Objection). effect_by c x (kind_found run x) (outcomes_for run.plan.outcomes (kind_found run x))) (nodes_out run t sought (sym g))
