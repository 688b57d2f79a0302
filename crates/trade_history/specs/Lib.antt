pub mod Moments
pub mod Executes
pub mod Search
pub mod Book
pub mod Laws
pub mod Folds
pub mod Examples
