-- `call` does to the run what its effect says.
use mathlib.Core.Path.{sym, ◌∙◌}
use native.Mathlib.Omega.{arith}
use Rattle.basis.proofs.Laws.Lists.{unmapped}
use Rattle.run_outcomes.specs.Told.{told_of}
use Rattle.run.proofs.Laws.Acting.{call_acted, call_named, rests_acted, stores_acted}
use Rattle.run.proofs.Laws.Loaded.{learnt_parts}
use Rattle.run.proofs.Run.call.Goals as goal

pub returns-in-Stays : goal.returns-in-Stays
returns-in-Stays c = call_acted _ c.args.c _ _ c.reading_of-t.ensures c.effect_at-effect.ensures _ c.in-Stays.is

pub returns-in-Stops : goal.returns-in-Stops
returns-in-Stops c = c.stops.ensures ∙ call_acted _ c.args.c _ _ c.reading_of-t.ensures c.effect_at-effect.ensures _ c.in-Stops.is

pub at_rest-reply-requires : goal.at_rest-reply-requires
at_rest-reply-requires c = (call_named _ c.args.c _ _ c.reading_of-t.ensures c.effect_at-effect.ensures (search unmapped) _ c.in-Rests.is).0

pub returns-in-Rests : goal.returns-in-Rests
returns-in-Rests c =
    let known = call_named _ c.args.c _ _ c.reading_of-t.ensures c.effect_at-effect.ensures (search unmapped) _ c.in-Rests.is in
    rests_acted c.args.self c.reading_of-t.result c.at_rest-reply.result known.1 c.at_rest-reply.ensures
    ∙ call_acted _ c.args.c _ _ c.reading_of-t.ensures c.effect_at-effect.ensures _ c.in-Rests.is

pub offset_bounds-self-i : goal.offset_bounds-self-i
offset_bounds-self-i c =
    let below = (call_named _ c.args.c _ _ c.reading_of-t.ensures c.effect_at-effect.ensures (search unmapped) _ c.in-Stores.is).0 in
    omega arith

pub bounds-self-i : goal.bounds-self-i
bounds-self-i c =
    let below = (call_named _ c.args.c _ _ c.reading_of-t.ensures c.effect_at-effect.ensures (search unmapped) _ c.in-Stores.is).0 in
    omega arith

pub returns-in-Stores : goal.returns-in-Stores
returns-in-Stores c =
    let known = call_named _ c.args.c _ _ c.reading_of-t.ensures c.effect_at-effect.ensures (search unmapped) _ c.in-Stores.is in
    stores_acted c.args.self c.reading_of-t.result c.in-Stores.i c.in-Stores.e c.in-Stores.reply known.2
    ∙ call_acted _ c.args.c _ _ c.reading_of-t.ensures c.effect_at-effect.ensures _ c.in-Stores.is

pub load_after-loading-requires : goal.load_after-loading-requires
load_after-loading-requires c =
    let known = call_named _ c.args.c _ _ c.reading_of-t.ensures c.effect_at-effect.ensures (search unmapped) _ c.in-Learns.is in
    (known.3, known.0, known.1, known.2)

pub returns-in_default : goal.returns-in_default
returns-in_default c =
    let known = call_named _ c.args.c _ _ c.reading_of-t.ensures c.effect_at-effect.ensures (search (unmapped, c.well_formed)) _ c.in-Learns.is in
    let told = told_of c.args.self.progress c.in-Learns.e c.in-Learns.x c.in-Learns.o in
    let l = c.load_after-loading in
    learnt_parts c.args.self known.4 c.reading_of-t.result c.in-Learns.i told l.result l.ensures _ (sym c.in_default.is ∙ c.halt_after.ensures)
    ∙ call_acted _ c.args.c _ _ c.reading_of-t.ensures c.effect_at-effect.ensures _ c.in-Learns.is

pub returns-in-Learns : goal.returns-in-Learns
returns-in-Learns c =
    let known = call_named _ c.args.c _ _ c.reading_of-t.ensures c.effect_at-effect.ensures (search (unmapped, c.well_formed)) _ c.in-Learns.is in
    let told = told_of c.args.self.progress c.in-Learns.e c.in-Learns.x c.in-Learns.o in
    let l = c.load_after-loading in
    c.stops-in-Learns.ensures
    ∙ learnt_parts c.args.self known.4 c.reading_of-t.result c.in-Learns.i told l.result l.ensures _ (sym c.in-Some.is ∙ c.halt_after.ensures)
    ∙ call_acted _ c.args.c _ _ c.reading_of-t.ensures c.effect_at-effect.ensures _ c.in-Learns.is
