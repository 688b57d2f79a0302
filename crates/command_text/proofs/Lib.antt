pub mod WordFacts
pub mod HeadFacts
