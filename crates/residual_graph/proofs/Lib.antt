pub mod NextRows
pub mod Building
pub mod Kept
pub mod PushSteps
pub mod Walks
pub mod Labels
pub mod Built
mod Filling
