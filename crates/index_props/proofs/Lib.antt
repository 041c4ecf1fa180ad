pub mod Pushed
pub mod Steps
