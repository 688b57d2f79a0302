pub mod Changes
pub mod InTurn
pub mod Includes
