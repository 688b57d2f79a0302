pub mod Settings
pub mod Market
pub mod OpenPairs
pub mod Laws
