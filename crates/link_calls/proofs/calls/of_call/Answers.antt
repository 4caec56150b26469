-- The message of each call.
use Rattle.link_calls.proofs.calls.of_call.Goals as goal

pub returns-in-Ask : goal.returns-in-Ask
returns-in-Ask c = rw c.in-Ask.is c.call_message.ensures

pub returns-in-Completion : goal.returns-in-Completion
returns-in-Completion c = rw c.in-Completion.is c.call_message-in-Completion.ensures

pub returns-in-Outcome : goal.returns-in-Outcome
returns-in-Outcome c = rw c.in-Outcome.is c.call_message-in-Outcome.ensures
