pub mod Votes
pub mod Parties
pub mod Planning
pub mod FreePlans
pub mod Renewals
pub mod Laws
