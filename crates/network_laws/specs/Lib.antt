pub mod Networks
pub mod Limits
pub mod Laws
pub mod Faults
pub mod LimitFaults
pub mod Clash
pub mod Solutions
pub mod Solved
