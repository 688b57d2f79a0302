pub mod ListFacts
pub mod PlanFacts
pub mod PlannedFacts
