pub mod Forms
pub mod Reach
pub mod Words
