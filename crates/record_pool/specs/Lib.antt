pub mod Pages
pub mod Marks
pub mod Appended
pub mod Parts
pub mod Opened
pub mod Pool
pub mod Laws
