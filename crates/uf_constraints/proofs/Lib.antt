pub mod Equal
pub mod Indexes
pub mod Listed
pub mod Parts
pub mod Plainly
pub mod Walked
pub mod Wide
