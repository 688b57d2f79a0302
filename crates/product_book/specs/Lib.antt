pub mod Book
pub mod Freezes
pub mod Networks
pub mod Execution
pub mod Kept
pub mod OpenLists
pub mod Links
pub mod Walks
