pub mod PlaceFacts
pub mod BaseFacts
pub mod BodyFacts
pub mod EntryFacts
pub mod FindFacts
mod LoopFacts
