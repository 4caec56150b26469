-- What is proved of the definitions.
pub mod Parts
pub mod Known
pub mod Lengths
pub mod Printed
pub mod Written
pub mod Permits
pub mod Reading
pub mod RoundTrip
