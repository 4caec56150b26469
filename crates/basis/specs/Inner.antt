-- What inner contracts and laws say a test means. No statement rests on it.
pub mod Tells
