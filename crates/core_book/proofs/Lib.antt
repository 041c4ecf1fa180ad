pub mod Going
pub mod Following
pub mod Nested
pub mod Longer
