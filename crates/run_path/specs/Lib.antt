-- One path: the nodes that it brings to the window, and where it ends.
pub mod Path
pub mod Pathed
pub mod Inner
