pub mod CsvFacts
pub mod FieldFacts
pub mod DraftFacts
pub mod RosterFacts
pub mod TradeFieldFacts
pub mod TradeFacts
pub mod GivenFacts
pub mod TableFacts
pub mod PileFacts
pub mod NameFacts
pub mod PlainFacts
pub mod PlainTradeFacts
pub mod PlainReadFacts
pub mod FoundFacts
pub mod PieceFacts
mod GeneratedFacts
