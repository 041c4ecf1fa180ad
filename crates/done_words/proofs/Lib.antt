pub mod Small
pub mod Fitting
pub mod Listed
pub mod Touched
pub mod Kept
pub mod Seen
pub mod Closing
