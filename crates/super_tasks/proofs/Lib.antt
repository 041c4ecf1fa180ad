pub mod Blocks
pub mod Division
pub mod Equality
pub mod Evenness
pub mod Grouping
pub mod Searching
pub mod Sharing
pub mod Weighing
