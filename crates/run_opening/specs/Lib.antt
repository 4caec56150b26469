-- What an opening gives beside the plan and Ψ, and the checks of it: 31, 33.
pub mod Given
pub mod Short
