-- What the activities of a plan emit, as a table.
pub mod Inner
