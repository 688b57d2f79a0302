pub mod Placed
pub mod Pieced
pub mod Rights
pub mod MadeFacts
