pub mod Places
pub mod Trades
pub mod Settings
pub mod Rolls
pub mod Laws
