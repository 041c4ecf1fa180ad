pub mod Hows
pub mod Caught
pub mod Follows
