pub mod NameFacts
pub mod GrossFacts
