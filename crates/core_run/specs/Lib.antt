pub mod Seats
pub mod Plain
pub mod Cores
pub mod Links
pub mod Orders
pub mod Answers
