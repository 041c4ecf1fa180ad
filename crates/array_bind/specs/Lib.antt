pub mod Matrix
pub mod Shape
pub mod Lists
pub mod Lengths
