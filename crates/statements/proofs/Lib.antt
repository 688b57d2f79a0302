pub mod DetailFacts
