pub mod Market
pub mod Untouched
pub mod Check
pub mod Verdict
pub mod Solve
pub mod Summary
pub mod Laws
