-- `window_after` changes one place of the window.
use mathlib.Core.Path.{sym, ◌∙◌, ap}
use mathlib.Core.List.{List, map}
use lib.ListN.{set}
use Rattle.held.specs.declared.HeldEntry.{HeldEntry}
use Rattle.held.specs.Held.{entry_of, held_entry}
use Rattle.jidlekuvo.specs.Inner.Steps.{window_by}
use Rattle.jidlekuvo.proofs.Stepping.{written_at}
use Rattle.jidlekuvo.proofs.steps.window_after.Goals as goal

pub returns-in-Stores : goal.returns-in-Stores
returns-in-Stores c =
    let x = c.in-Stores in
    let w = map entry_of c.args.rest.window in
    ap (λ (h : HeldEntry). set c.fresh-window.result x.i h) c.from.ensures
    ∙ ap (λ (f : List HeldEntry). set f x.i (held_entry x.e)) c.fresh-window.ensures
    ∙ written_at (w) x.i x.e
    ∙ sym (ap (λ effect. map held_entry (window_by (w) effect)) x.is)
