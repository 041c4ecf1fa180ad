pub mod Closes
pub mod Grow
pub mod Orders
pub mod Passing
pub mod Takes
