-- `nodes::look` meets its contract: each word is what the function that made it says, for every activity with these labels. Assumes nothing.
use mathlib.Core.Path.{sym, ap, ◌∙◌}
use lib.ListN.{length}
use Rattle.activity.specs.declared.nodes.Label.{Label}
use Rattle.activity.specs.Inner.Sight.{label_of, held_of}
use Rattle.activity.proofs.Seeing.{own_marks, label_marks, after_marks}
use Rattle.activity.proofs.nodes.look.Goals as goal

pub returns : goal.returns
returns c belongs a long closed named own held =
    let l = c.args in
    let mark = label_marks a (length l.labels.now) long l.labels.now in
    let kind = ap label_of (sym own) in
    let resource = held ∙ ap (held_of belongs) (sym own) in
    record {
      own = own_marks _ l.n c.with.ensures;
      before = λ m. closed m l.n;
      after = after_marks a (length l.before.now) (long ∙ sym c.requires.1) l.before.now _ l.n closed c.after.ensures;
      same = mark _ _ _ named (c.from.ensures ∙ kind) c.like.ensures;
      claims = mark _ _ _ named (ap Label.Claim resource) c.like-2.ensures;
      releases = mark _ _ _ named (ap Label.Release resource) c.like-3.ensures;
    }
