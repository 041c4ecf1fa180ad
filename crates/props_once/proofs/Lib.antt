pub mod Kept
pub mod Derived
pub mod Due
