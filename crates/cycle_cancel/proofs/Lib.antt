pub mod RoundSteps
pub mod TurnedRound
pub mod Cycles
pub mod LevelTable
pub mod Tracing
pub mod Cancelling
pub mod Certify
pub mod Kept
