pub mod PageFacts
pub mod PlaceFacts
pub mod PartFacts
pub mod AheadFacts
pub mod SpelledFacts
pub mod Sends
