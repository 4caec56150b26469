-- `nodes::Sight::fault` meets its contract: a node on a cycle, or what the function of its kind says. Assumes nothing.
use mathlib.Core.Path.{refl, subst}
use Rattle.basis.proofs.Laws.Tells.{told_true, told_false}
use Rattle.activity.specs.Rules.{Is}
use Rattle.activity.proofs.Numbering.{on_cycle}
use Rattle.activity.proofs.Seeing.{seen_cycle}
use Rattle.activity.proofs.nodes.Sight.fault.Goals as goal

pub returns-then-meet : goal.returns-then-meet
returns-then-meet c belongs a n i h = on_cycle belongs a n ((seen_cycle belongs a n c.args.self h).0 (told_true c.meet.ensures c.if-meet.true))

pub returns-in-Action : goal.returns-in-Action
returns-in-Action c belongs a n i h =
    c.action.ensures c.in-Action.field-0 c.in-Action.field-1 belongs a n (subst (Is a n) c.in-Action.is i) h
    (λ b. told_false c.meet.ensures c.if-meet.false ((seen_cycle belongs a n c.args.self h).1 b))

pub returns-in-Claim : goal.returns-in-Claim
returns-in-Claim c belongs a n i h =
    c.end.ensures.claim c.in-Claim.field-0 refl c.released.ensures belongs a n (subst (Is a n) c.in-Claim.is i) h
    (λ b. told_false c.meet.ensures c.if-meet.false ((seen_cycle belongs a n c.args.self h).1 b))

pub returns-in-Release : goal.returns-in-Release
returns-in-Release c belongs a n i h =
    c.end-in-Release.ensures.release c.in-Release.field-0 refl c.claimed.ensures belongs a n (subst (Is a n) c.in-Release.is i) h
    (λ b. told_false c.meet.ensures c.if-meet.false ((seen_cycle belongs a n c.args.self h).1 b))

pub returns-in-Event : goal.returns-in-Event
returns-in-Event c belongs a n i h =
    c.event.ensures c.in-Event.field-0 belongs a n (subst (Is a n) c.in-Event.is i) h
    (λ b. told_false c.meet.ensures c.if-meet.false ((seen_cycle belongs a n c.args.self h).1 b))
