-- `lend` meets its contract: the text whole, or nothing. Assumes nothing.
use mathlib.Core.Path.{sym, ◌∙◌}
use Prim.Native.Nat.{◌+◌}
use lib.ListN.{length}
use borrow.Author.Tests.{leb-true, leb-false}
use Rattle.timetable_text.proofs.Laws.Lent.{lends_copied, lends_nothing}
use borrow.Author.Rules.{rules}
use Rattle.timetable_text.proofs.lent.lend.Goals as goal

pub copy-requires : goal.copy-requires
copy-requires c =
    let a = c.args in
    let h = leb-true (a.at + a.n) (length a.out.now) (sym c.fits.ensures ∙ c.if-fits.true) in
    search rules

pub returns-then-fits : goal.returns-then-fits
returns-then-fits c = let a = c.args in lends_copied a.out.now a.at a.text.now a.n c.requires (leb-true (a.at + a.n) (length a.out.now) (sym c.fits.ensures ∙ c.if-fits.true)) _ _ c.copy.ensures

pub returns : goal.returns
returns c = let a = c.args in lends_nothing a.out.now a.at a.text.now a.n c.requires (leb-false (a.at + a.n) (length a.out.now) (sym c.fits.ensures ∙ c.if-fits.false))
