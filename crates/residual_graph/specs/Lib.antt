pub mod Residual
pub mod Arcs
pub mod Paths
pub mod Labels
pub mod NextRow
pub mod Built
