-- The automaton: its rules, the verdict on it, and what a state does next.
pub mod Tests
pub mod Rules
pub mod Next
pub mod Number
pub mod Inner
