pub mod Chains
pub mod Labels
pub mod Parts
pub mod Own
pub mod Places
pub mod Merged
pub mod Settled
