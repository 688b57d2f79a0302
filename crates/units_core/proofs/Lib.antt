pub mod NameFacts
pub mod NumberFacts
pub mod DayFacts
pub mod DayOrder
pub mod NameTests
pub mod AmountFacts
