-- `turn` meets its contract: the text of a turn is short, and an open table stays open. Assumes nothing.
use mathlib.Core.Path.{sym, subst, ◌∙◌}
use native.Mathlib.Omega.{arith}
use Rattle.timetable_turns.specs.Inner.Turn.{Open}
use Rattle.timetable_turns.proofs.Laws.InLimits.{turn_open}
use Rattle.timetable_turns.proofs.Laws.Short.{turn_short}
use Rattle.timetable_text.proofs.Laws.Lent.{lends_front, front_there}
use Rattle.timetable_turns.proofs.turns.turn.Goals as goal

pub turn_by-drafted-requires : goal.turn_by-drafted-requires
turn_by-drafted-requires c = record { within = c.requires; room = omega arith }

pub lend-put-requires : goal.lend-put-requires
lend-put-requires c = let u = turn_short c.args.plan c.args.progress c.requires c.args.read c.args.heard in front_there _ _ _ _ (omega arith) c.turn_by-drafted.ensures.text

pub returns : goal.returns
returns c =
    let a = c.args in
    let h = c.turn_by-drafted.ensures in
    let u = turn_short a.plan a.progress c.requires a.read a.heard in
    record {
      text = lends_front _ _ _ _ (omega arith) h.text _ _ _ _ c.lend-put.ensures;
      closed = h.closed;
      heard = h.heard;
      progress = h.progress;
      stays = λ e. subst (Open a.plan) (sym h.progress) (turn_open a.plan a.progress c.requires a.read a.heard (sym h.closed ∙ e));
    }
