pub mod Few
pub mod Lengths
