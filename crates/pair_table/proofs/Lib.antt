pub mod PairNetworks
pub mod PairRows
pub mod TableFacts
pub mod Listed
pub mod Cleared
