pub mod Lists
pub mod Link
pub mod Laws
pub mod Sent
pub mod Following
pub mod Ending
pub mod Log
