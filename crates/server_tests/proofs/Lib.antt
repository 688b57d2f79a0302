pub mod ByeFacts
pub mod PremiseFacts
