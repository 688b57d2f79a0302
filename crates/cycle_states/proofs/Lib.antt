pub mod MachineFacts
pub mod LoopFacts
pub mod CycleFacts
pub mod KeptFacts
mod TakenFacts
mod FrozenFacts
pub mod SettledFacts
pub mod Thawing
pub mod CommitFacts
pub mod PlanSizes
pub mod DeskFacts
pub mod BaseFacts
pub mod EffectFacts
pub mod RecordFacts
pub mod RefusalFacts
pub mod PartyFacts
pub mod VoteRooms
pub mod BallotFacts
pub mod DecisionFacts
pub mod Sends
pub mod OfferFacts
pub mod PlaceFacts
pub mod NearFacts
pub mod ToldFacts
pub mod HeldPairs
pub mod UndoFacts
