pub mod PairSums
pub mod Buyers
