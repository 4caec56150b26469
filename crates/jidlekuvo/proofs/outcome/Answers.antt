-- `outcome` loads where the outcome does, and otherwise carries out what it does.
use Rattle.std.specs.Prelude.{None}
use mathlib.Core.Path.{◌≡◌, refl, sym, ◌∙◌, ap, subst}
use mathlib.Core.List.{map}
use lib.ListN.{length, length-map}
use Rattle.times.specs.declared.Progress.{Progress}
use Rattle.run_checks.specs.declared.Moment.{Moment}
use Rattle.run_loading.specs.Inner.Loading.{Loads}
use Rattle.run.specs.declared.Call.{Call}
use Rattle.run.specs.declared.Effect.{Effect}
use Rattle.run.specs.Calls.{call_of, reading_of}
use Rattle.run.specs.Inner.Effects.{acted, run_at}
use Rattle.held.specs.Held.{plan_of, progress_of, entry_of, run_of}
use Rattle.jidlekuvo.specs.Host.{clock}
use Rattle.jidlekuvo.specs.Inner.Steps.{stepped_of}
use Rattle.jidlekuvo.proofs.Stepping.{learns_accepts, changes}
use Rattle.jidlekuvo.proofs.Carrying.{tag_settles, answered, named, carries, carried_out}
use borrow.Enum.Refused.{opened}
use Rattle.jidlekuvo.proofs.outcome.Goals as goal

pub carried-requires : goal.carried-requires
unfolding run_of
carried-requires c =
    let windowed : length c.args.h.rest.window ≡ 512 = c.well_formed.0.1.1.0.1.1.1.1.1.0.1.0.1 in
    let long : length (run_of c.args.h).window ≡ 512 = length-map c.args.h.rest.window entry_of ∙ windowed in
    let called : Call = let a = c.args in Call.Outcome (clock a.t) a.position a.node a.o in
    carries c.args.h (called) c.outcome_effect-effect.result c.outcome_effect-effect.ensures (long) (tag_settles c.outcome_effect-effect.result (opened c.in_default.in_default-own.keys2))

pub returns-in_default : goal.returns-in_default
unfolding call_of run_of
returns-in_default c =
    let windowed : length c.args.h.rest.window ≡ 512 = c.well_formed.0.1.1.0.1.1.1.1.1.0.1.0.1 in
    let long : length (run_of c.args.h).window ≡ 512 = length-map c.args.h.rest.window entry_of ∙ windowed in
    let called : Call = let a = c.args in Call.Outcome (clock a.t) a.position a.node a.o in
    c.carried.ensures ∙ carried_out c.args.h (called) c.outcome_effect-effect.result c.outcome_effect-effect.ensures (long) (tag_settles c.outcome_effect-effect.result (opened c.in_default.in_default-own.keys2))

pub learns-requires : goal.learns-requires
unfolding run_of
learns-requires c =
    let windowed : length c.args.h.rest.window ≡ 512 = c.well_formed.0.1.1.0.1.1.1.1.1.0.1.0.1 in
    let long : length (run_of c.args.h).window ≡ 512 = length-map c.args.h.rest.window entry_of ∙ windowed in
    let called : Call = let a = c.args in Call.Outcome (clock a.t) a.position a.node a.o in
    let k = named c.args.h (called) c.outcome_effect-effect.result c.outcome_effect-effect.ensures (long) _ c.in-Learns.is in
    (subst (Loads (plan_of c.args.h.plan)) (sym c.from-progress.ensures) k.3, k.0, k.1, k.2)

pub returns : goal.returns
unfolding run_of call_of
returns c =
    let windowed : length c.args.h.rest.window ≡ 512 = c.well_formed.0.1.1.0.1.1.1.1.1.0.1.0.1 in
    let long : length (run_of c.args.h).window ≡ 512 = length-map c.args.h.rest.window entry_of ∙ windowed in
    let called : Call = let a = c.args in Call.Outcome (clock a.t) a.position a.node a.o in
    let h = c.args.h in
    let l = Effect.Learns c.in-Learns.i c.in-Learns.x c.in-Learns.e c.in-Learns.told in
    let k = named h (called) c.outcome_effect-effect.result c.outcome_effect-effect.ensures (long) l c.in-Learns.is in
    c.learns.ensures
    ∙ ap (λ (g : Progress). stepped_of (acted (run_at (plan_of h.plan) g (map entry_of h.rest.window) c.moment_of-m.result None) c.moment_of-m.result.t l)) c.from-progress.ensures
    ∙ ap (λ (m : Moment). stepped_of (acted (run_at (plan_of h.plan) (progress_of h.rest.progress) (map entry_of h.rest.window) m None) m.t l)) c.moment_of-m.ensures
    ∙ changes h (called) (run_of h) refl (acted (run_of h) (reading_of (called)) l) (answered h (called) c.outcome_effect-effect.result c.outcome_effect-effect.ensures l c.in-Learns.is) k.4 (learns_accepts (run_of h) (reading_of (called)) c.in-Learns.i c.in-Learns.x c.in-Learns.e c.in-Learns.told)
