pub mod Atoms
pub mod Bounding
pub mod Emits
pub mod Exactly
pub mod Named
pub mod Prefix
