pub mod Rounds
pub mod Traces
pub mod Cancels
