pub mod Broken
pub mod Finds
pub mod Pairs
pub mod Segments
pub mod Twins
