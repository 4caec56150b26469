-- The lines that the program timetable prints, and how long they are.
pub mod Lines
pub mod Inner
