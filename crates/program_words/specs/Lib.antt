pub mod Parting
pub mod Words
