pub mod Each
pub mod Natural
pub mod Applied
pub mod Rows
pub mod Nests
pub mod OneRow
pub mod Order
