pub mod Name
pub mod Number
pub mod Signed
pub mod Day
