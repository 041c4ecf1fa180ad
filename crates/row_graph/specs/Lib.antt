pub mod Buckets
pub mod Cut
pub mod Distinct
pub mod Predecessors
pub mod Rising
pub mod Rows
pub mod Turned
