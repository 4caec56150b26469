-- Loading: one path and further paths, over the plan, where the behaviour stands, and the window.
pub mod Loading
pub mod Inner
