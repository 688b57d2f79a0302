pub mod Loops
pub mod Found
pub mod Moved
pub mod Sums
pub mod Nets
pub mod Written
pub mod Fitting
pub mod SettingLaws
