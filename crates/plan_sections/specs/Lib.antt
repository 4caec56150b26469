-- A limit that every answer of a section keeps, and the parts of the section of activities.
pub mod Inner
