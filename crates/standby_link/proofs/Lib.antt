pub mod WireFacts
pub mod LastFacts
pub mod AskFacts
pub mod FollowedFacts
pub mod AnswerFacts
pub mod TextFacts
pub mod ForkFacts
pub mod CrashFacts
