pub mod Told
pub mod Replayed
pub mod TwoRows
