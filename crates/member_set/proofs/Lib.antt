pub mod Words
pub mod Sizes
pub mod Parts
mod Cleared
