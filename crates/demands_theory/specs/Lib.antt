-- Demand 3: the claim, the eight ways of a call that it rests on, and the words of a plan that it speaks of.
pub mod Nodes
pub mod TheWord
pub mod Loading
pub mod Demand
