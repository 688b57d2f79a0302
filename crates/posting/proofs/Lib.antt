pub mod Places
pub mod ProblemFacts
pub mod CertifiedFacts
pub mod RenewalFacts
pub mod Settled
pub mod FrozenStays
pub mod VoteFacts
