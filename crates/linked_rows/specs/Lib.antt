pub mod Links
pub mod Rows
pub mod Pool
pub mod Taking
