pub mod Attached
pub mod Crossing
pub mod Depends
pub mod Numbered
pub mod Searched
pub mod Survivors
pub mod Written
