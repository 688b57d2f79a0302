pub mod Histories
pub mod Laws
pub mod Bases
pub mod Examples
