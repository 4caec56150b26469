-- The parts of a made-up run, read from bytes at fixed offsets.
pub mod Layout
pub mod Values
pub mod Parts
