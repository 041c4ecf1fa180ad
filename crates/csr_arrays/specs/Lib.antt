pub mod Arrays
pub mod Axes
pub mod Rows
