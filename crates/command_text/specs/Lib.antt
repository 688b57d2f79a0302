pub mod ReadOf
pub mod Reading
