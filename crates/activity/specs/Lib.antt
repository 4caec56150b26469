-- What an activity must satisfy, and the fault that an activity has.

-- The rules as document 01 states them, the fault as a computation, and what a finding says of an activity.
pub mod Rules
pub mod Tests
pub mod Number
pub mod Judged
-- The computation is right: for one activity and for a plan; and two activities of plan T.
pub mod Activities
-- Tests that tell whether a statement holds, and bits.
pub mod Inner
