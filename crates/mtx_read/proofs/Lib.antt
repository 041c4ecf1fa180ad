pub mod Rows
pub mod Clamps
pub mod Whole
pub mod Places
