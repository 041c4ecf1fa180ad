pub mod Count
pub mod Edges
pub mod Improve
pub mod Sets
pub mod Tight
pub mod Traced
