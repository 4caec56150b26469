-- What a turn of the table does, and the tables in which it is looked up.
pub mod Inner
