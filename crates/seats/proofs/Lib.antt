pub mod PlaceFacts
pub mod VisitFacts
pub mod FinalFacts
pub mod SeatedFacts
pub mod AnsweredFacts
