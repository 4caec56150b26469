-- What is read and handed on between two turns of the program.
pub mod Inner
