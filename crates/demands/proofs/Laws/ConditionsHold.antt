-- `replies`: each reply of a call occurs in its condition and in no other; and the same of each number and each answer.
use Rattle.std.proofs.Common.{subst}
use Rattle.run.specs.declared.Reply.{Reply}
use Rattle.run_checks.specs.declared.Stop.{Stop}
use Rattle.demands.specs.Conditions.{Condition, StatementReplies, StatementRefusals, StatementLate, StatementOverdue, StatementFull, StatementBeyond, StatementStart, StatementDone, StatementWait, StatementTaken}
use Rattle.demands.proofs.Laws.ConditionsMet.{met}
use Rattle.demands.proofs.Laws.ConditionsGive.{gives}

pub replies : StatementReplies
replies run c r = (λ q. subst (λ (x : Reply). Condition run c x) q (met run c).condition, gives run c r)

pub refusals : StatementRefusals
refusals run c f = replies run c (Reply.Refused f)

pub late : StatementLate
late run c p n = replies run c (Reply.Stopped (Stop.Late p n))

pub overdue : StatementOverdue
overdue run c p n = replies run c (Reply.Stopped (Stop.Overdue p n))

pub full : StatementFull
full run c = replies run c (Reply.Stopped Stop.Full)

pub beyond : StatementBeyond
beyond run c = replies run c (Reply.Stopped Stop.Beyond)

pub start : StatementStart
start run c p a n = replies run c (Reply.Start p a n)

pub done : StatementDone
done run c = replies run c Reply.Done

pub wait : StatementWait
wait run c = replies run c Reply.Wait

pub taken : StatementTaken
taken run c = replies run c Reply.Taken
