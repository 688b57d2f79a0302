pub mod PairsByRows
pub mod Totals
pub mod CursorFacts
