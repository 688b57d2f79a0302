pub mod Sessions
pub mod Final
pub mod Places
pub mod Answered
