pub mod Above
pub mod Backward
pub mod Grouping
pub mod Longest
pub mod Rising
pub mod RowsAt
pub mod Searching
