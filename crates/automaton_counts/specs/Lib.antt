-- What the activities emit, as a table, and the contracts of numbers 24 to 26.
pub mod Inner
