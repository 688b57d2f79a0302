pub mod LinkFacts
pub mod RunFacts
pub mod HeldFacts
pub mod FollowFacts
pub mod LeftFacts
pub mod TurnFacts
pub mod EndFacts
