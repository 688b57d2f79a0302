pub mod Places
pub mod Plays
pub mod Tokens
