pub mod Owners
pub mod Moves
pub mod Steps
pub mod Letters
