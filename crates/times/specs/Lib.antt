-- Specified times: the schedule of one activity, the queues of pending instances, one transition, and the limits of
-- what is stored between transitions.
pub mod Times
pub mod Queues
pub mod Engine
pub mod Limits
pub mod Inner
