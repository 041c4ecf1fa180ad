pub mod Ascending
pub mod Counts
pub mod Graph
pub mod Members
pub mod Parts
pub mod PlainGraph
pub mod Sorting
pub mod Starts
mod Orderly
