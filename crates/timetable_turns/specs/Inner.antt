-- What inner contracts cite. No statement rests on it.
pub mod Answers
pub mod Stepped
pub mod Turn
pub mod Whole
