pub mod Left
pub mod Rows
pub mod Reading
pub mod Putting
pub mod Looking
pub mod Tasks
pub mod Where
