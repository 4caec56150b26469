-- The program timetable between two turns.
pub mod Inner
