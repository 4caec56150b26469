-- Words and numbers as bytes of text, and how long a number is.
pub mod Text
-- the text in a lent buffer
pub mod Lent
