pub mod Faults
pub mod Files
pub mod Shelf
pub mod Tape
pub mod Written
