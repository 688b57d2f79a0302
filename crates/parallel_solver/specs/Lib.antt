pub mod Places
pub mod Cuts
pub mod Pieces
pub mod Jobs
pub mod Made
