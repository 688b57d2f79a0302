pub mod PartingFacts
