-- The lines of the program timetable, as text for an input.
pub mod Timetable
-- of a whole input
pub mod Inner
