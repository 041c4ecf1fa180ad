pub mod Plainly
