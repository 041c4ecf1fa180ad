pub mod Chains
pub mod Grouped
pub mod Levels
